-- What a session does, one piece after the other.
use Rattle.std.proofs.Common.{◌≡◌, ℕ, false, List, [], ◌∷◌, ◌++◌, map, flat_map}
use Rattle.std.proofs.Common.{refl, sym, ◌∙◌, ap, ap₂, subst}
use Rattle.std.proofs.Common.{append-nil, append_assoc}
use Rattle.std.specs.List.{AllByRecursion}
use Rattle.std.proofs.lemmas.List.{map-append}
use Rattle.std.proofs.lemmas.Grind.{flat_map-append}
use Rattle.kom_types.specs.declared.acts.Act.{Act}
use Rattle.kom_types.specs.declared.acts.Record.{Record}
use Rattle.kom_types.specs.declared.items.Item.{Item}
use Rattle.kom_types.specs.declared.answers.NotMade.{NotMade}
use Rattle.kom_links.specs.Answers.{Answer, fault_in}
use Rattle.kom_sweep.specs.Told.{Told, Exchange, NoCall, told_of, acts_of, told_last, acts_last, AreNumbered}
use Rattle.kom_sweep.specs.Told.{next_reference}
use Rattle.kom_sweep.specs.Replies.{is_short}
use Rattle.kom_sweep.specs.Acting.{Seen, HasActed, Goes, Stops, IsOwn}
use Rattle.kom_sweep.proofs.Lists.{all_on}
use Rattle.kom_sweep.proofs.Times.{timed_on, timed_same}

pub acted_on : {session : ℕ} {acts acts' : List Act} {given given' : List (List Item)} {faults faults' : List NotMade}
    (x y z : Seen) → HasActed session acts given faults x y → HasActed session acts' given' faults' y z →
    HasActed session (acts ++ acts') (given ++ given') (faults ++ faults') x z
acted_on {session} {given = given} {given' = given'} x y z one two = record {
  added = one.added ++ two.added;
  answers = one.answers ++ two.answers;
  mine = two.mine ∙ ap (λ (mine : List Record). mine ++ two.added) one.mine
      ∙ append_assoc x.desk.mine one.added two.added;
  acts = map-append (λ (made : Record). made.entry.act) one.added two.added ∙ ap₂ (λ a b. a ++ b) one.acts two.acts;
  own = all_on (IsOwn x.desk.pass session) one.added two.added one.own
      (subst (λ (pass : ℕ). AllByRecursion (IsOwn pass session) two.added) one.pass two.own);
  given = (
    two.given.0 ∙ ap (λ (lists : List (List Item)). lists ++ given') one.given.0
        ∙ append_assoc (x.desk.gave_to session) given given',
    λ number other. two.given.1 number other ∙ one.given.1 number other,
  );
  tells = two.tells ∙ ap (λ (answers : List Answer). answers ++ two.answers) one.tells
      ∙ append_assoc x.desk.answers one.answers two.answers;
  faults = flat_map-append (λ (one : Answer). fault_in one.1) one.answers two.answers
      ∙ ap₂ (λ a b. a ++ b) one.faults two.faults;
  timed = timed_on x.gave y.gave z.gave one.added two.added one.timed two.timed;
  pass = two.pass ∙ one.pass;
}

pub acted_same : (session : ℕ) (x : Seen) → HasActed session [] [] [] x x
acted_same session x = record {
  added = [];
  answers = [];
  mine = sym (append-nil x.desk.mine);
  acts = refl;
  own = tt;
  given = (sym (append-nil (x.desk.gave_to session)), λ number other. refl);
  tells = sym (append-nil x.desk.answers);
  faults = refl;
  timed = timed_same x.gave;
  pass = refl;
}

numbered_on : (from mid to : ℕ) (one two : List Exchange) → AreNumbered from one mid → AreNumbered mid two to →
    AreNumbered from (one ++ two) to
numbered_on from mid to [] two a b = subst (λ (from : ℕ). AreNumbered from two to) a b
numbered_on from mid to (e ∷ one) two a b = (a.0, numbered_on (next_reference from) mid to one two a.1 b)

pub goes_on : {session : ℕ} {calls calls' : List Told} (x y z : Seen) → Goes session x y calls →
    Goes session y z calls' → Goes session x z (calls ++ calls')
goes_on {session} {calls} {calls'} x y z one two = record {
  exchanges = one.exchanges ++ two.exchanges;
  acted =
      subst (λ (acts : List Act). HasActed session acts
      (map (λ (e : Exchange). e.items) (one.exchanges ++ two.exchanges))
      [] x z) (sym (flat_map-append (acts_of session) one.exchanges two.exchanges))
      (subst (λ (given : List (List Item)). HasActed session (flat_map (acts_of session) one.exchanges
      ++ flat_map (acts_of session) two.exchanges) given [] x z)
      (sym (map-append (λ (e : Exchange). e.items) one.exchanges two.exchanges))
      (acted_on x y z one.acted two.acted));
  told = map-append told_of one.exchanges two.exchanges ∙ ap₂ (λ a b. a ++ b) one.told two.told;
  numbered = numbered_on x.next y.next z.next one.exchanges two.exchanges one.numbered two.numbered;
  sound = all_on (λ (one : Told). is_short one.reply ≡ false) calls calls' one.sound two.sound;
}

pub goes_none : (session : ℕ) (x : Seen) → Goes session x x []
goes_none session x = record {
  exchanges = [];
  acted = acted_same session x;
  told = refl;
  numbered = refl;
  sound = tt;
}

pub stops_on : {session : ℕ} {calls calls' : List Told} {faults : List NotMade} (x y z : Seen) →
    Goes session x y calls → Stops session y z calls' faults → Stops session x z (calls ++ calls') faults
stops_on {session} {calls} {calls'} {faults} x y z one two = record {
  exchanges = one.exchanges ++ two.exchanges;
  last = two.last;
  next = two.next;
  acted =
      subst (λ (acts : List Act). HasActed session acts
      (map (λ (e : Exchange). e.items) (one.exchanges ++ two.exchanges))
      faults x z)
      (sym (append_assoc (flat_map (acts_of session) one.exchanges) (flat_map (acts_of session) two.exchanges)
      (acts_last session two.last))
      ∙ ap (λ (acts : List Act). acts ++ acts_last session two.last)
      (sym (flat_map-append (acts_of session) one.exchanges two.exchanges)))
      (subst (λ (given : List (List Item)). HasActed session (flat_map (acts_of session) one.exchanges
      ++ (flat_map (acts_of session) two.exchanges ++ acts_last session two.last)) given faults x z)
      (sym (map-append (λ (e : Exchange). e.items) one.exchanges two.exchanges))
      (acted_on x y z one.acted two.acted));
  told = ap (λ (told : List Told). told ++ told_last two.last) (map-append told_of one.exchanges two.exchanges)
      ∙ append_assoc (map told_of one.exchanges) (map told_of two.exchanges) (told_last two.last)
      ∙ ap₂ (λ a b. a ++ b) one.told two.told;
  numbered = numbered_on x.next y.next two.next one.exchanges two.exchanges one.numbered two.numbered;
  last_numbered = two.last_numbered;
  left = two.left;
}

-- without a fault it stops where it is
pub stops_at : {session : ℕ} {calls : List Told} (x y : Seen) → Goes session x y calls → Stops session x y calls []
stops_at {session} {calls} x y one = record {
  exchanges = one.exchanges;
  last = NoCall;
  next = y.next;
  acted =
      subst (λ (acts : List Act). HasActed session acts (map (λ (e : Exchange). e.items) one.exchanges) [] x y)
      (sym (append-nil (flat_map (acts_of session) one.exchanges))) one.acted;
  told = append-nil (map told_of one.exchanges) ∙ one.told;
  numbered = one.numbered;
  last_numbered = tt;
  left = refl;
}

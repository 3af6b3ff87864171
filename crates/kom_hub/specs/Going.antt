-- What the turns of a seat leave, one after the other.
use Rattle.std.proofs.Common.{◌≡◌, ◌≢◌, ℕ, ◌==◌, ◌||◌, Bool, true, false, inl, inr, List, [], ◌∷◌}
use Rattle.std.proofs.Common.{◌++◌, refl, sym, ◌∙◌, ap, append-nil, append_assoc}
use Rattle.std.specs.List.{AllByRecursion}
use Rattle.std.proofs.lemmas.Bool.{cases_eq}
use Rattle.std.proofs.lemmas.List.Folds.{list_any-append}
use Rattle.kom_types.specs.declared.acts.Record.{Record}
use Rattle.kom_hub.specs.declared.place.Place.{Place}
use Rattle.kom_links.specs.Records.{has_session}
use Rattle.kom_links.specs.DeskCalls.{DeskView}
use Rattle.kom_hub.specs.Seats.{seat_records, IsOfSeat, Leaves}

pub all_append : {X : Type 0} (P : X → Type 0) (xs ys : List X) → AllByRecursion P xs
    → AllByRecursion P ys → AllByRecursion P (xs ++ ys)
all_append P [] ys one two = two
all_append P (x ∷ xs) ys one two = (one.0, all_append P xs ys one.1 two)

absent_prefix : (session : ℕ) (a b : List Record) → has_session session (a ++ b) ≡ false
    → has_session session a ≡ false
absent_prefix session a b none =
    left (has_session session a) (has_session session b)
    (sym (list_any-append (λ (made : Record). made.session == session) a b) ∙ none)
  where
    left : (x y : Bool) → (x || y) ≡ false → x ≡ false
    left true y e = e
    left false y e = refl

of_later : (mid new : ℕ) → (mid ≢ 0 → new ≡ mid) → (records : List Record)
    → AllByRecursion (IsOfSeat mid) records → AllByRecursion (IsOfSeat new) records
of_later mid new stays [] all = tt
of_later mid new stays (made ∷ records) all =
    (one all.0, of_later mid new stays records all.1)
  where
    one : IsOfSeat mid made → IsOfSeat new made
    one (inl own) =
        let same : new ≡ mid = stays own.0 in
        inl (λ zero. own.0 (sym same ∙ zero), own.1 ∙ sym same, own.2)
    one (inr flush) = inr flush

-- a number that is not the last session is not the one before
not_before : (mid new number : ℕ) → (mid ≢ 0 → new ≡ mid) → number ≢ 0 → number ≢ new
    → number ≢ mid
not_before mid new number stays some other e = elim (cases_eq mid 0) [
  | inl zero ↦ some (e ∙ zero)
  | inr there ↦ other (e ∙ sym (stays there))
]

pub leaves_further : (a b c : Place) (x y z : DeskView) → Leaves a x b y → Leaves b y c z
    → Leaves a x c z
leaves_further a b c x y z one two = record {
  more = one.more ++ two.more;
  mine = two.mine ∙ ap (λ records. records ++ two.more) one.mine
      ∙ append_assoc x.mine one.more two.more;
  shows = two.shows ∙ ap (λ records. records ++ two.more) one.shows
      ∙ append_assoc (seat_records a.session x.mine) one.more two.more;
  own = all_append (IsOfSeat c.session) one.more two.more
      (of_later b.session c.session two.stays one.more one.own) two.own;
  stays = λ some. let same : b.session ≡ a.session = one.stays some in
      two.stays (λ zero. some (sym same ∙ zero)) ∙ same;
  fresh = λ none some. elim (cases_eq b.session 0) [
    | inl zero ↦
        let later : has_session c.session y.mine ≡ false = two.fresh zero some in
        absent_prefix c.session x.mine one.more
        (ap (has_session c.session) (sym one.mine) ∙ later)
    | inr there ↦
        let same : c.session ≡ b.session = two.stays there in
        ap (λ k. has_session k x.mine) same ∙ one.fresh none there
  ];
  has = λ before some. two.has (one.has before) some;
  given = λ number some other. two.given number some other
      ∙ one.given number some (not_before b.session c.session number two.stays some other);
  pass = two.pass ∙ one.pass;
  lock = λ free. one.lock (two.lock free);
  hears = record {
    more = one.hears.more ++ two.hears.more;
    grown = two.hears.grown ∙ ap (λ answers. answers ++ two.hears.more) one.hears.grown
        ∙ append_assoc x.answers one.hears.more two.hears.more;
    heard = λ heard. two.hears.heard (one.hears.heard heard);
  };
}

pub leaves_itself : (place : Place) (view : DeskView) → Leaves place view place view
leaves_itself place view = record {
  more = [];
  mine = sym (append-nil view.mine);
  shows = sym (append-nil (seat_records place.session view.mine));
  own = tt;
  stays = λ some. refl;
  fresh = λ none some. absurd (some none);
  has = λ before some. before some;
  given = λ number some other. refl;
  pass = refl;
  lock = λ free. free;
  hears = record {
    more = [];
    grown = sym (append-nil view.answers);
    heard = λ heard. heard;
  };
}

-- A desk rests again after a turn of its pass, and after an answer was logged.
use Rattle.std.proofs.Common.{◌≡◌, ℕ, Bool, true, false, List, [], ◌∷◌, ◌++◌, map, sym, ap, subst, ◌∙◌}
use Rattle.std.specs.Prelude.{Result}
use Rattle.std.specs.List.{AllByRecursion}
use Rattle.kom_types.specs.declared.acts.Act.{Act}
use Rattle.kom_types.specs.declared.acts.Entry.{Entry}
use Rattle.kom_types.specs.declared.acts.Record.{Record}
use Rattle.kom_types.specs.declared.items.Item.{Item}
use Rattle.kom_types.specs.declared.answers.NotMade.{NotMade}
use Rattle.kom_links.specs.Answers.{Answer}
use Rattle.kom_links.specs.DeskCalls.{IsLookedAt}
use Rattle.kom_links.proofs.Gates.{all_pushed}
use Rattle.kom_model.specs.State.{State}
use Rattle.kom_model.specs.Legal.{HasUser, IsLegal, AreByOwners}
use Rattle.kom_state_lock.specs.declared.views.Turn.TheVariants.{Resting}
use Rattle.kom_state_lock.specs.Passes.{HallModel, PassModel, IsPassOf, HoldsNoTurn}
use Rattle.hall_desk.specs.Acts.{IsOpening}
use Rattle.hall_desk.specs.Passes.{waits_in, pass_view, of_pass, Knows}
use Rattle.hall_desk.specs.Desks.{IsKnownAnswer, Kept, kept_in, Stands, Rests, GoesOn, desk_view}
use Rattle.hall_desk.specs.Turns.{IsOfOpen, Ends, entry_of, HadTurn, AnswersStopped, Looks}
use Rattle.hall_desk.proofs.Starting.{starts}
use Rattle.hall_desk.proofs.Growing.{Grows, tells_keeps, looks_keeps, ended_grows}
use Rattle.hall_desk.proofs.Causes.{all_known_on}
use Rattle.hall_desk.proofs.DeskViews.{goes_by, looked_at}

module _ {B E : Type 0} (made : E → Record) (server : B → State) (hall : HallModel B) (pass : PassModel B E)
    (answers : List Answer) where
  -- ---- what contracts see

  module _ (kept : Kept) (view : kept_in made server hall pass answers ≡ kept) where
    -- the entry that is handed in
    pub open_inside : (moment : ℕ) (what : Act) (entry : Entry) → entry ≡ entry_of kept moment what →
        IsOfOpen kept.pass.mine what → IsOfOpen (pass_view made pass).mine entry.act
    open_inside moment what entry is open' =
        subst (λ (entry : Entry). IsOfOpen (pass_view made pass).mine entry.act) (sym is)
        (subst (λ (kept : Kept). IsOfOpen kept.pass.mine what) (sym view) open')

    pub user_inside : (moment : ℕ) (what : Act) (entry : Entry) → entry ≡ entry_of kept moment what → HasUser what →
        HasUser entry.act
    user_inside moment what entry is user = subst (λ (entry : Entry). HasUser entry.act) (sym is) user

    pub own_inside : (moment : ℕ) (what : Act) (entry : Entry) → entry ≡ entry_of kept moment what →
        entry.pass ≡ pass.number
    own_inside moment what entry is =
        ap (λ (entry : Entry). entry.pass) is ∙ ap (λ (kept : Kept). kept.pass.number) (sym view)

    pub stands_outside : Rests made server hall pass answers → Stands kept
    stands_outside rests = subst (λ (kept : Kept). Stands kept) view rests.stands

    pub turn_outside : (new : PassModel B E) (moment : ℕ) (what : Act) (entry : Entry) (items : List Item)
        (result : Result Record NotMade) → entry ≡ entry_of kept moment what → Rests made server hall pass answers →
        Ends (server hall.opening) (pass_view made pass) (pass_view made new) entry items result →
        HadTurn kept moment what items result (kept_in made server hall new answers)
    turn_outside new moment what entry items result is rests ends = record {
      stood = stands_outside rests;
      ends = subst (λ (entry : Entry). Ends kept.start kept.pass (pass_view made new) entry items result) is
          (subst (λ (kept : Kept). Ends kept.start kept.pass (pass_view made new) entry items result) view ends);
      table = ap (λ (kept : Kept). kept.table) view;
      start = ap (λ (kept : Kept). kept.start) view;
    }

    pub tells_outside : (new : PassModel B E) (result : Result Bool NotMade) →
        AnswersStopped (server hall.opening) (pass_view made pass) (pass_view made new) result →
        AnswersStopped kept.start kept.pass (pass_view made new) result
    tells_outside new result tells =
        subst (λ (kept : Kept). AnswersStopped kept.start kept.pass (pass_view made new) result) view tells

    -- the server was looked at
    looks_outside : (new : PassModel B E) →
        Looks (server hall.opening) (pass_view made pass) (pass_view made new) →
        Looks kept.start kept.pass (pass_view made new)
    looks_outside new looks =
        subst (λ (kept : Kept). Looks kept.start kept.pass (pass_view made new)) view looks

    pub looked_outside : (new : PassModel B E) → Rests made server hall pass answers →
        Looks (server hall.opening) (pass_view made pass) (pass_view made new) →
        IsLookedAt (desk_view kept) (desk_view (kept_in made server hall new answers))
    looked_outside new rests looks =
        looked_at kept (kept_in made server hall new answers) (stands_outside rests)
        (ap (λ (kept : Kept). kept.start) view) (ap (λ (kept : Kept). kept.answers) view) (looks_outside new looks)

    pub on_outside : (new : PassModel B E) → Rests made server hall pass answers →
        Looks (server hall.opening) (pass_view made pass) (pass_view made new) →
        GoesOn kept (kept_in made server hall new answers)
    on_outside new rests looks =
        goes_by kept (kept_in made server hall new answers) (ap (λ (kept : Kept). kept.table) view)
        (ap (λ (kept : Kept). kept.start) view)
        (looks_keeps kept.start kept.pass (pass_view made new) (stands_outside rests).knows
        (looks_outside new looks)).on

    -- an answer is logged
    pub log_outside : (logged : List Answer) (one : Answer) → logged ≡ answers ++ one ∷ [] →
        kept_in made server hall pass logged ≡ record kept { answers = kept.answers ++ one ∷ [] }
    log_outside logged one is =
        ap (λ (answers : List Answer). kept_in made server hall pass answers) is
        ∙ ap (λ (kept : Kept). record kept { answers = kept.answers ++ one ∷ [] }) view

    pub rests_logged : (logged : List Answer) (one : Answer) → logged ≡ answers ++ one ∷ [] →
        IsKnownAnswer kept.start kept.pass one → Rests made server hall pass answers →
        Rests made server hall pass logged
    rests_logged logged one is known rests = record {
      of_hall = rests.of_hall;
      free = rests.free;
      stands = record {
        opening = rests.stands.opening;
        knows = rests.stands.knows;
        known = subst (λ (answers : List Answer).
            AllByRecursion (IsKnownAnswer (server hall.opening) (pass_view made pass)) answers) (sym is)
            (all_pushed (IsKnownAnswer (server hall.opening) (pass_view made pass)) answers one rests.stands.known
            (subst (λ (kept : Kept). IsKnownAnswer kept.start kept.pass one) (sym view) known));
      };
    }

  -- ---- after a turn

  rests_grown : (new : PassModel B E) → Rests made server hall pass answers → IsPassOf hall new →
      HoldsNoTurn new.turn → Knows (server hall.opening) (pass_view made new) →
      Grows (server hall.opening) (pass_view made pass) (pass_view made new) → Rests made server hall new answers
  rests_grown new rests of_hall free knows on = record {
    of_hall = of_hall;
    free = free;
    stands = record {
      opening = rests.stands.opening;
      knows = knows;
      known = all_known_on (server hall.opening) (starts (server hall.opening) rests.stands.opening)
          (pass_view made pass) (pass_view made new) on answers rests.stands.known;
    };
  }

  pub rests_ended : (new : PassModel B E) (entry : Entry) (items : List Item) (result : Result Record NotMade) →
      entry.pass ≡ pass.number → Rests made server hall pass answers → IsPassOf hall new → HoldsNoTurn new.turn →
      Knows (server hall.opening) (pass_view made new) →
      Ends (server hall.opening) (pass_view made pass) (pass_view made new) entry items result →
      Rests made server hall new answers
  rests_ended new entry items result own rests of_hall free knows ends =
      rests_grown new rests of_hall free knows
      (ended_grows (server hall.opening) (pass_view made pass) (pass_view made new) entry items result
      rests.stands.knows own ends)

  pub rests_asked : (new : PassModel B E) (result : Result Bool NotMade) → Rests made server hall pass answers →
      IsPassOf hall new → HoldsNoTurn new.turn → Knows (server hall.opening) (pass_view made new) →
      AnswersStopped (server hall.opening) (pass_view made pass) (pass_view made new) result →
      Rests made server hall new answers
  rests_asked new result rests of_hall free knows tells =
      rests_grown new rests of_hall free knows
      (tells_keeps (server hall.opening) (pass_view made pass) (pass_view made new) result rests.stands.knows tells).on

  pub rests_looked : (new : PassModel B E) → Rests made server hall pass answers → IsPassOf hall new →
      HoldsNoTurn new.turn → Knows (server hall.opening) (pass_view made new) →
      Looks (server hall.opening) (pass_view made pass) (pass_view made new) → Rests made server hall new answers
  rests_looked new rests of_hall free knows looks =
      rests_grown new rests of_hall free knows
      (looks_keeps (server hall.opening) (pass_view made pass) (pass_view made new) rests.stands.knows looks).on

  -- a desk of a pass that has seen nothing
  pub rests_new : IsPassOf hall pass → pass.turn ≡ Resting → pass.seen ≡ [] → pass.mine ≡ [] →
      IsOpening (server hall.opening) → answers ≡ [] → Rests made server hall pass answers
  rests_new of_hall resting unseen unused opening none =
      let seen : map made pass.seen ≡ [] = ap (map made) unseen in
      let mine : map made pass.mine ≡ [] = ap (map made) unused in
      record {
        of_hall = of_hall;
        free = subst (λ turn. HoldsNoTurn turn) (sym resting) tt;
        stands = record {
          opening = opening;
          knows = record {
            legal = subst (λ (seen : List Record). IsLegal (server hall.opening) seen) (sym seen) tt;
            owned = subst (λ (seen : List Record). AreByOwners (server hall.opening) seen) (sym seen) tt;
            mine = mine ∙ ap (of_pass pass.number) (sym seen);
            refused = λ waits.
                let rests : waits_in pass.turn ≡ false = ap waits_in resting in
                let wrong : false ≡ true = sym rests ∙ waits in cc;
          };
          known = subst (λ (answers : List Answer).
              AllByRecursion (IsKnownAnswer (server hall.opening) (pass_view made pass)) answers) (sym none) tt;
        };
      }

-- An effect that fits has lengths that can be told.
use Rattle.std.proofs.Common.{◌≡◌, ◌<◌, ◌+◌, ◌^◌, ℕ, Bool, true, ◌&&◌, List, [], ◌∷◌, length, arith, lit<}
use Rattle.std.proofs.lemmas.Bool.{and_parts, leb-true, ltb-true}
use Rattle.std.specs.List.{AllByRecursion}
use Rattle.kom_types.specs.declared.effects.Effect.{Effect}
use Rattle.kom_types.specs.declared.effects.Effect.TheVariants as effect
use Rattle.kom_types.specs.declared.memberships.ReadRange.{ReadRange}
use Rattle.read_ranges.specs.Changed.{rise_after}
use Rattle.kom_model.specs.Db.{Db}
use Rattle.kom_model.specs.Effects.{fits}
use Rattle.effect_codec.specs.Coding.{IsShortEnough}
use Rattle.effect_codec.specs.Fields.{IsRange}

-- ranges that rise are fewer than their numbers
rising_few : (end : ℕ) (ranges : List ReadRange) → rise_after end ranges ≡ true → AllByRecursion IsRange ranges
    → end < 2 ^ 32 → end + length ranges < 2 ^ 32
rising_few end [] rises numbers below = omega (arith, below)
rising_few end (one ∷ others) rises numbers below =
    let both = and_parts _ _ rises in
    let here = and_parts _ _ both.0 in
    omega (
      arith,
      ltb-true end one.first here.0,
      leb-true one.first one.last here.1,
      rising_few one.last others both.1 numbers.1 numbers.0.1,
    )

-- the last of two tests, and the one before it
last_of : (a b : Bool) → a && b ≡ true → b ≡ true
last_of a b both = (and_parts a b both).1

first_of_both : (a b : Bool) → a && b ≡ true → a ≡ true
first_of_both a b both = (and_parts a b both).0

-- the lengths of an effect that fits can be told
pub short_of_fits : (what : Effect) (db : Db) → fits what db ≡ true → IsShortEnough what
unfolding fits
short_of_fits (effect.ConfAdded number name kind at creator supervisor) db fit =
    (tt, (leb-true _ _ (first_of_both _ _ (last_of _ _ (first_of_both _ _ fit))), (tt, (tt, (tt, (tt, tt))))))
short_of_fits (effect.ConfGone number) db fit = (tt, tt)
short_of_fits (effect.ConfNamed number name) db fit = (tt, (leb-true _ _ (first_of_both _ _ (last_of _ _ fit)), tt))
short_of_fits (effect.ConfField number what) db fit = (tt, (tt, tt))
short_of_fits (effect.PersonAdded number privileges flags last_login) db fit = (tt, (tt, (tt, (tt, tt))))
short_of_fits (effect.PersonGone number) db fit = (tt, tt)
short_of_fits (effect.PersonField number what) db fit = (tt, (tt, tt))
short_of_fits (effect.Password number hash) db fit = (tt, (tt, tt))
short_of_fits (effect.LoggedIn number at user) db fit = (tt, (tt, (leb-true _ _ (last_of _ _ fit), tt)))
short_of_fits (effect.Counted number counter by) db fit = (tt, (tt, tt))
short_of_fits (effect.TextAdded number author at body) db fit = (tt, (tt, (tt, (leb-true _ _ (last_of _ _ fit), tt))))
short_of_fits (effect.TextGone number) db fit = (tt, tt)
short_of_fits (effect.RecipientAdded given) db fit = (tt, (tt, (tt, (tt, (tt, (tt, tt))))))
short_of_fits (effect.RecipientGone text conference) db fit = (tt, (tt, tt))
short_of_fits (effect.LinkAdded link) db fit = (tt, (tt, (tt, (tt, (tt, tt)))))
short_of_fits (effect.LinkGone child parent footnote) db fit = (tt, (tt, (tt, tt)))
short_of_fits (effect.MemberSet person conference position priority added_by added_at kind) db fit =
    (tt, (tt, (tt, (tt, (tt, (tt, (tt, tt)))))))
short_of_fits (effect.MemberGone person conference) db fit = (tt, (tt, tt))
short_of_fits (effect.ReadSet person conference at ranges) db fit =
    (tt, (tt, (tt, (λ numbers. omega (arith, rising_few 0 ranges (last_of _ _ fit) numbers (lit< tt)), tt))))
short_of_fits (effect.MarkSet person text kind) db fit = (tt, (tt, (tt, tt)))
short_of_fits (effect.MarkGone person text) db fit = (tt, (tt, tt))
short_of_fits (effect.AuxAdded on_text object item) db fit =
    (tt, (tt, (tt, (tt, (tt, (tt, (tt, (tt, (leb-true _ _ (last_of _ _ fit), tt)))))))))
short_of_fits (effect.AuxGone on_text object number) db fit = (tt, (tt, (tt, tt)))
short_of_fits (effect.Created person local text) db fit = (tt, (tt, (tt, tt)))

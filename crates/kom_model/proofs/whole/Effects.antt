-- Effects that fit leave whole rows.
use Rattle.std.proofs.Common.{◌≡◌, ◌≤◌, Bool, true, false, List, [], ◌∷◌, refl, arith}
use Rattle.std.proofs.lemmas.Bool.{cond_both}
use Rattle.kom_types.specs.declared.effects.Effect.{Effect}
use Rattle.kom_types.specs.declared.effects.Effect.TheVariants as effect
use Rattle.kom_model.specs.Db.{Db, empty_db}
use Rattle.kom_model.specs.Effects.{fits, after_effect, apply, apply_all, most_links}
use Rattle.kom_model.specs.Whole.{IsWhole}
use Rattle.kom_model.proofs.whole.OnConferences.{conf_added-whole, conf_gone-whole, conf_named-whole, conf_field-whole}
use Rattle.kom_model.proofs.whole.OnMembers.{member_set-whole, member_gone-whole, read_set-whole}
use Rattle.kom_model.proofs.whole.OnPersons.{person_added-whole, person_gone-whole, person_field-whole, password-whole}
use Rattle.kom_model.proofs.whole.OnPersons.{logged_in-whole, counted-whole, created-whole}
use Rattle.kom_model.proofs.whole.OnTexts.{text_added-whole, text_gone-whole, recipient_added-whole}
use Rattle.kom_model.proofs.whole.OnTexts.{recipient_gone-whole}
use Rattle.kom_model.proofs.whole.OnTexts.{link_added-whole, link_gone-whole, mark_set-whole, mark_gone-whole}
use Rattle.kom_model.proofs.whole.OnTexts.{aux_added-whole, aux_gone-whole}

pub made-whole : (what : Effect) (db : Db) → fits what db ≡ true → IsWhole db → IsWhole (after_effect what db)
made-whole (effect.ConfAdded number name kind at creator supervisor) db fit whole =
    conf_added-whole db whole number name kind at creator supervisor fit
made-whole (effect.ConfGone number) db fit whole = conf_gone-whole db whole number fit
made-whole (effect.ConfNamed number name) db fit whole = conf_named-whole db whole number name fit
made-whole (effect.ConfField number what) db fit whole = conf_field-whole db whole number what fit
made-whole (effect.PersonAdded number privileges flags last_login) db fit whole =
    person_added-whole db whole number privileges flags last_login fit
made-whole (effect.PersonGone number) db fit whole = person_gone-whole db whole number fit
made-whole (effect.PersonField number what) db fit whole = person_field-whole db whole number what
made-whole (effect.Password number hash) db fit whole = password-whole db whole number hash
made-whole (effect.LoggedIn number at user) db fit whole = logged_in-whole db whole number at user
made-whole (effect.Counted number counter by) db fit whole = counted-whole db whole number counter by
made-whole (effect.TextAdded number author at body) db fit whole = text_added-whole db whole number author at body fit
made-whole (effect.TextGone number) db fit whole = text_gone-whole db whole number fit
made-whole (effect.RecipientAdded given) db fit whole = recipient_added-whole db whole given fit
made-whole (effect.RecipientGone text conference) db fit whole = recipient_gone-whole db whole text conference
made-whole (effect.LinkAdded given) db fit whole = link_added-whole db whole given fit
made-whole (effect.LinkGone child parent footnote) db fit whole = link_gone-whole db whole child parent footnote
made-whole (effect.MemberSet person conference position priority added_by added_at kind) db fit whole =
    member_set-whole db whole person conference position priority added_by added_at kind fit
made-whole (effect.MemberGone person conference) db fit whole = member_gone-whole db whole person conference fit
made-whole (effect.ReadSet person conference at ranges) db fit whole =
    read_set-whole db whole person conference at ranges fit
made-whole (effect.MarkSet person text kind) db fit whole = mark_set-whole db whole person text kind fit
made-whole (effect.MarkGone person text) db fit whole = mark_gone-whole db whole person text
made-whole (effect.AuxAdded on_text object item) db fit whole = aux_added-whole db whole on_text object item fit
made-whole (effect.AuxGone on_text object number) db fit whole = aux_gone-whole db whole on_text object number
made-whole (effect.Created person local text) db fit whole = created-whole db whole person local text fit

-- an effect that does not fit changes nothing
pub apply-whole : (what : Effect) (db : Db) → IsWhole db → IsWhole (apply what db)
apply-whole what db whole = cond_both (fits what db) (after_effect what db) db IsWhole
    (λ fit. made-whole what db fit whole) (λ fit. whole)

pub effects-whole : (effects : List Effect) (db : Db) → IsWhole db → IsWhole (apply_all effects db)
effects-whole [] db whole = whole
effects-whole (what ∷ effects) db whole = effects-whole effects (apply what db) (apply-whole what db whole)

pub empty-whole : IsWhole empty_db
empty-whole = record {
  conferences = record {
    rising = tt;
    positive = tt;
    drawn = tt;
    begun = omega arith;
    limited = omega arith;
    short = tt;
    apart = tt;
  };
  persons = record { rising = tt; housed = tt };
  texts = record {
    rising = tt;
    drawn = tt;
    limited = omega arith;
    short = tt;
    numbered = tt;
    created_once = λ person local some. omega arith;
  };
  memberships = record {
    person_there = tt;
    conference_there = tt;
    once = λ person conference. omega arith;
    limited = λ person. omega arith;
    kept = refl;
    ranges = tt;
  };
  recipients = record {
    text_there = tt;
    drawn = tt;
    tagged = tt;
    once = λ text conference. omega arith;
    local_once = λ conference local. omega arith;
    limited = λ text. omega arith;
  };
  links = record {
    child_there = tt;
    parent_there = tt;
    once = λ child parent footnote. omega arith;
    limited_from = λ text footnote. none-many footnote;
    limited_into = λ text footnote. none-many footnote;
  };
  marks = record {
    person_there = tt;
    text_there = tt;
    once = λ person text. omega arith;
    limited = λ person. omega arith;
  };
  items = record {
    drawn = tt;
    known = tt;
    short = tt;
    once = λ on_text object number. omega arith;
    limited = λ on_text object. omega arith;
  };
} where
  none-many : (footnote : Bool) → 0 ≤ most_links footnote
  none-many true = omega arith
  none-many false = omega arith

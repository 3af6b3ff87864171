-- Effects of which nothing is left, where what they change is hidden.
use Rattle.std.specs.Prelude.{◌≡◌, Bool, true, false, ◌&&◌, List, IsTrue}
use Rattle.std.specs.List.{list_all}
use Rattle.kom_types.specs.declared.effects.ConfField.{ConfField}
use Rattle.kom_types.specs.declared.effects.ConfField.TheVariants as field
use Rattle.kom_types.specs.declared.effects.Counter.{Counter}
use Rattle.kom_types.specs.declared.effects.Counter.TheVariants as counter
use Rattle.kom_types.specs.declared.effects.Effect.{Effect}
use Rattle.kom_types.specs.declared.effects.Effect.TheVariants as effect
use Rattle.kom_model.specs.Db.{Db}
use Rattle.kom_model.specs.Effects.{after_effect, apply_all}
use Rattle.kom_laws.specs.masking.Masks.{Mask, masked_db}
use Rattle.kom_laws.specs.Erasing.{erased_db, mask_of}
use Rattle.kom_laws.specs.Groups.{Group}
use Rattle.noninterference.specs.steps.Steps.{IsReadyFor}

-- the fields of a conference, and the counters of a person, that are hidden with it
abbrev pub is_hidden_field : ConfField → Bool
is_hidden_field (field.Presentation text) = true
is_hidden_field (field.Motd text) = true
is_hidden_field (field.Supervisor conference) = false
is_hidden_field (field.PermittedSubmitters conference) = false
is_hidden_field (field.SuperConference conference) = false
is_hidden_field (field.Kind kind) = false
is_hidden_field (field.Nice days) = false
is_hidden_field (field.KeepCommented days) = false
is_hidden_field (field.Expire days) = false
is_hidden_field (field.LastWritten at) = true

abbrev pub is_hidden_counter : Counter → Bool
is_hidden_counter counter.TimePresent = false
is_hidden_counter counter.CreatedLines = false
is_hidden_counter counter.CreatedBytes = false
is_hidden_counter counter.ReadTexts = true
is_hidden_counter counter.TextFetches = true
is_hidden_counter counter.CreatedPersons = false
is_hidden_counter counter.CreatedConferences = false

-- all that an effect changes is hidden by a mask
abbrev pub is_masked : Mask → Effect → Bool
is_masked mask (effect.ConfField number what) = mask.conference number && is_hidden_field what
is_masked mask (effect.Counted person counter by) =
    mask.person person && is_hidden_counter counter
is_masked mask (effect.RecipientAdded given) =
    mask.text given.text && mask.conference given.conference
is_masked mask (effect.RecipientGone text conference) =
    mask.text text && mask.conference conference
is_masked mask (effect.LinkAdded link) = mask.text link.child && mask.text link.parent
is_masked mask (effect.LinkGone child parent footnote) = mask.text child && mask.text parent
is_masked mask (effect.ReadSet person conference at ranges) = mask.conference conference
is_masked mask (effect.AuxAdded true text item) = mask.text text
is_masked mask (effect.AuxAdded false conference item) = mask.conference conference
is_masked mask (effect.AuxGone true text number) = mask.text text
is_masked mask (effect.AuxGone false conference number) = mask.conference conference
is_masked mask other = false

-- Local respect of the stored rows: an effect that a mask hides leaves the rows the same but for
-- what the mask takes; and effects of what is hidden from a group, which fit and are no Opening to
-- it, leave them the same but for what is hidden from it.
pub record HiddenVanish : Type 0 where
  pub effect : (mask : Mask) (db : Db) (what : Effect) → IsTrue (is_masked mask what)
      → masked_db mask (after_effect what db) ≡ masked_db mask db
  pub effects : (group : Group) (db : Db) (effects : List Effect)
      → IsReadyFor group effects db → IsTrue (list_all (is_masked (mask_of group db)) effects)
      → erased_db group (apply_all effects db) ≡ erased_db group db

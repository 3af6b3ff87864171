-- The calls about aux-items. (Protocol A, "Auxiliary Information".)
use Rattle.std.specs.Prelude.{ℕ, ◌+◌, Bool, true, false, nat_le, List, [], ◌∷◌, ◌++◌}
use Rattle.std.specs.Prelude.{length, map, if◌then◌else◌}
use Rattle.kom_types.specs.declared.limits.TheConstants.{LAST_DRAWN}
use Rattle.kom_types.specs.declared.errors.TheConstants as error
use Rattle.kom_types.specs.AuxItems.{aux_kinds, items_from}
use Rattle.kom_types.specs.declared.aux_items.Adder.{Adder}
use Rattle.kom_types.specs.declared.aux_items.AuxChange.{AuxChange}
use Rattle.kom_types.specs.declared.aux_items.AuxRow.{AuxRow}
use Rattle.kom_types.specs.declared.aux_items.Object.{Object}
use Rattle.kom_types.specs.declared.aux_items.Object.TheVariants as object
use Rattle.kom_types.specs.declared.decisions.Decision.{Decision}
use Rattle.kom_types.specs.declared.effects.Effect.{Effect}
use Rattle.kom_types.specs.declared.effects.Effect.TheVariants as effect
use Rattle.kom_types.specs.declared.replies.Reply.TheVariants as reply
use Rattle.kom_model.specs.Db.{Db, items_of, next_item_of}
use Rattle.kom_model.specs.Effects.{has_letterbox}
use Rattle.kom_model.specs.Shown.{text_adder, conference_adder}
use Rattle.kom_model.specs.calls.Call.{Asked, Definition, answer, done_with, without_guard}
use Rattle.kom_model.specs.calls.Guards.{Guard, with_guards, first_refusal, unless, caller}
use Rattle.kom_model.specs.calls.Guards.{login_guard, conference_guard, text_guard, items_guard}
use Rattle.kom_model.specs.calls.Guards.{with_items}

-- the tags that the server knows
abbrev pub known_tags : List ℕ
known_tags = map (λ known. known.tag) aux_kinds

-- call 96, query-predefined-aux-items
abbrev pub query_predefined_aux_items : Definition
query_predefined_aux_items = without_guard (answer (reply.Numbers known_tags))

-- what a conference is to aux-items
abbrev pub object_of : Db → ℕ → Object
object_of db conference =
    if has_letterbox db conference then object.Letterbox else object.Conference

-- items are added to an object
abbrev pub items_added : Bool → ℕ → List AuxRow → List Effect
items_added on_text number items = map (λ item. effect.AuxAdded on_text number item) items

-- a number is left for each item that is added
abbrev pub numbers_guard : Db → Bool → AuxChange → Guard
numbers_guard db on_text change =
    unless (nat_le (next_item_of db on_text change.object + length change.add) (LAST_DRAWN + 1))
    error.TEMPORARY_FAILURE 0

-- the effects of a change: items go, and others are added with the next numbers
abbrev pub item_effects : Asked → Bool → Adder → AuxChange → List Effect
item_effects asked on_text adder change =
    map (λ number. effect.AuxGone on_text change.object number) change.delete
    ++ items_added on_text change.object (items_from
    (next_item_of asked.db on_text change.object) adder.person asked.moment change.add)

-- what a change of the items of an object comes to
abbrev pub change_items : Asked → Bool → Object → Adder → AuxChange → Decision
change_items asked on_text on adder change = with_items
    (first_refusal
    (items_guard on adder (items_of asked.db on_text change.object) change.delete change.add
    ∷ numbers_guard asked.db on_text change ∷ []))
    (done_with (item_effects asked on_text adder change) [])

-- call 92, modify-text-info
abbrev pub modify_text_info : Asked → AuxChange → Definition
modify_text_info asked change = with_guards
    (login_guard (caller asked) ∷ text_guard asked.db (caller asked) change.object ∷ [])
    (change_items asked true object.Text (text_adder asked.db (caller asked) change.object) change)

-- call 93, modify-conf-info
abbrev pub modify_conf_info : Asked → AuxChange → Definition
modify_conf_info asked change = with_guards
    (login_guard (caller asked) ∷ conference_guard asked.db (caller asked) change.object ∷ [])
    (change_items asked false (object_of asked.db change.object)
    (conference_adder asked.db (caller asked) change.object) change)

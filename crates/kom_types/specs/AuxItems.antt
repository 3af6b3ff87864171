-- Aux-items: which may be deleted and added, how they are numbered, and which a comment inherits.
-- Who may add which is this server's choice. (Protocol A, "Auxiliary Information" and "Predefined
-- Aux-Items".)
use Rattle.std.specs.Prelude.{ℕ, ◌+◌, ◌-◌, Bool, true, false, ◌==◌, ◌||◌, ◌&&◌, not}
use Rattle.std.specs.Prelude.{nat_lt, List, [], ◌∷◌, ◌++◌, length, Option, Some, None}
use Rattle.std.specs.Prelude.{if◌then◌else◌}
use Rattle.std.specs.List.{find, filter, list_any}
use Rattle.std.specs.Option.{option_or}
use Rattle.kom_types.specs.declared.limits.TheConstants.{LONGEST_CONTENT, MOST_AUX_ITEMS}
use Rattle.kom_types.specs.declared.aux_tags.TheConstants as aux
use Rattle.kom_types.specs.declared.errors.TheConstants as error
use Rattle.kom_types.specs.Bits.{is_on}
use Rattle.kom_types.specs.declared.aux_items.Adder.{Adder}
use Rattle.kom_types.specs.declared.aux_items.AuxInput.{AuxInput}
use Rattle.kom_types.specs.declared.aux_items.AuxRow.{AuxRow}
use Rattle.kom_types.specs.declared.aux_items.Object.{Object}
use Rattle.kom_types.specs.declared.aux_items.Object.TheVariants as object

-- Who may add an item: who owns the object; whoever reads it; or, of a text, whoever reads it, and
-- else who owns the object.
pub data Adding : Type 0 where
  Owner : Adding
  Reader : Adding
  ReaderOfText : Adding

-- how many items of a tag an object may have
pub data Count : Type 0 where
  One : Count
  OnePerCreator : Count
  Any : Count

-- a predefined aux-item: its tag, on what it may stand, who may add it, and how many there may be
pub record AuxKind : Type 0 where
  pub tag : ℕ
  pub stands_on : Object → Bool
  pub adding : Adding
  pub count : Count

abbrev pub kind : ℕ → (Object → Bool) → Adding → Count → AuxKind
kind tag stands_on adding count =
    record { tag = tag; stands_on = stands_on; adding = adding; count = count }

abbrev pub on_texts : Object → Bool
on_texts object.Text = true
on_texts object.Conference = false
on_texts object.Letterbox = false

abbrev pub on_conferences : Object → Bool
on_conferences object.Text = false
on_conferences object.Conference = true
on_conferences object.Letterbox = true

abbrev pub on_letterboxes : Object → Bool
on_letterboxes object.Text = false
on_letterboxes object.Conference = false
on_letterboxes object.Letterbox = true

abbrev pub on_all : Object → Bool
on_all any = true

-- the aux-items that this server knows
abbrev pub aux_kinds : List AuxKind
aux_kinds =
    kind aux.CONTENT_TYPE on_texts Owner One
    ∷ kind aux.FAST_REPLY on_texts Reader Any
    ∷ kind aux.CROSS_REFERENCE on_all ReaderOfText Any
    ∷ kind aux.NO_COMMENTS on_texts Owner One
    ∷ kind aux.PERSONAL_COMMENT on_texts Owner One
    ∷ kind aux.REQUEST_CONFIRMATION on_texts Owner One
    ∷ kind aux.READ_CONFIRM on_texts Reader OnePerCreator
    ∷ kind aux.REDIRECT on_letterboxes Owner One
    ∷ kind aux.ALTERNATE_NAME on_conferences Owner Any
    ∷ kind aux.E_MAIL_ADDRESS on_conferences Owner Any
    ∷ kind aux.FAQ_TEXT on_conferences Owner Any
    ∷ kind aux.CREATING_SOFTWARE on_texts Owner One
    ∷ []

-- what the server knows of a tag
abbrev pub kind_of : ℕ → Option AuxKind
kind_of tag = find (λ known. known.tag == tag) aux_kinds

-- the flag deleted or one that is reserved is on: no client may set them
abbrev pub has_wrong_flags : ℕ → Bool
has_wrong_flags flags = is_on 135 flags

abbrev pub is_secret : ℕ → Bool
is_secret flags = is_on 32 flags

abbrev pub is_inherited : ℕ → Bool
is_inherited flags = is_on 64 flags

-- beside these items there may be one more of a tag by a creator
abbrev pub leaves_room : Count → List AuxRow → ℕ → ℕ → Bool
leaves_room One items tag creator = not (list_any (λ item. item.tag == tag) items)
leaves_room OnePerCreator items tag creator =
    not (list_any (λ item. item.tag == tag && item.creator == creator) items)
leaves_room Any items tag creator = true

-- the same, and not too many of all tags
abbrev pub may_stand : AuxKind → List AuxRow → ℕ → Bool
may_stand known items creator =
    nat_lt (length items) MOST_AUX_ITEMS && leaves_room known.count items known.tag creator

-- an item of these contents may stand on an object beside these items
abbrev pub fits : Object → List AuxRow → ℕ → AuxKind → AuxInput → Bool
fits on items creator known given =
    known.stands_on on && not (nat_lt LONGEST_CONTENT (length given.content))
    && not (has_wrong_flags given.flags) && may_stand known items creator

abbrev pub may_add : Adding → Object → Bool → Bool
may_add Owner on owns = owns
may_add Reader on owns = true
may_add ReaderOfText on owns = owns || on_texts on

-- an item with its number, its creator and its moment
abbrev pub item_of : ℕ → ℕ → ℕ → AuxInput → AuxRow
item_of number creator moment given = record {
  number = number;
  tag = given.tag;
  creator = creator;
  at = moment;
  flags = given.flags;
  limit = given.inherit_limit;
  content = given.content;
}

-- the items that are added, numbered from this number on
abbrev pub items_from : ℕ → ℕ → ℕ → List AuxInput → List AuxRow
items_from number creator moment [] = []
items_from number creator moment (given ∷ more) =
    item_of number creator moment given ∷ items_from (number + 1) creator moment more

-- a refusal: its code, and the place in its list of the entry that is refused, from 0 on
pub record AuxRefusal : Type 0 where
  pub code : ℕ
  pub index : ℕ

-- the code with which one more item is refused, or none
abbrev pub code_added : Object → Adder → List AuxRow → AuxInput → Option ℕ
code_added on adder items given = elim (kind_of given.tag) [
  | None ↦ Some error.ILLEGAL_AUX_ITEM
  | Some known ↦
      if not (fits on items adder.person known given) then Some error.ILLEGAL_AUX_ITEM
      else if may_add known.adding on adder.owns then None
      else Some error.AUX_ITEM_PERMISSION
]

-- the first entry that is refused of those that are to be added, beside these items, or none; the
-- number and the moment of those before it decide nothing
abbrev pub refused_added : Object → Adder → List AuxRow → ℕ → List AuxInput → Option AuxRefusal
refused_added on adder items index [] = None
refused_added on adder items index (given ∷ more) = elim (code_added on adder items given) [
  | Some code ↦ Some (record { code = code; index = index })
  | None ↦ refused_added on adder (items ++ item_of 0 adder.person 0 given ∷ []) (index + 1) more
]

-- an item is shown to who owns the object, and else unless another made it and it is secret
abbrev pub is_shown : Adder → AuxRow → Bool
is_shown adder item = not (is_secret item.flags) || item.creator == adder.person || adder.owns

-- read-confirm and creating-software stay for good
abbrev pub stays : ℕ → Bool
stays tag = tag == aux.READ_CONFIRM || tag == aux.CREATING_SOFTWARE

abbrev pub is_among : List ℕ → ℕ → Bool
is_among numbers number = list_any (λ one. one == number) numbers

-- the code with which the deletion of a number is refused, after these deletions, or none
abbrev pub code_deleted : Adder → List AuxRow → List ℕ → ℕ → Option ℕ
code_deleted adder items earlier number =
    elim (find (λ item. item.number == number && is_shown adder item) items) [
      | None ↦ Some error.ILLEGAL_AUX_ITEM
      | Some item ↦
          if is_among earlier number then Some error.ILLEGAL_AUX_ITEM
          else if stays item.tag || not (item.creator == adder.person || adder.owns)
          then Some error.AUX_ITEM_PERMISSION
          else None
    ]

-- the first entry that is refused of those that are to be deleted, or none
abbrev pub refused_deleted : Adder → List AuxRow → List ℕ → ℕ → List ℕ → Option AuxRefusal
refused_deleted adder items earlier index [] = None
refused_deleted adder items earlier index (number ∷ more) =
    elim (code_deleted adder items earlier number) [
      | Some code ↦ Some (record { code = code; index = index })
      | None ↦ refused_deleted adder items (earlier ++ number ∷ []) (index + 1) more
    ]

-- the items that are left after some were deleted
abbrev pub left_after : List ℕ → List AuxRow → List AuxRow
left_after deleted items = filter (λ item. not (is_among deleted item.number)) items

-- The guard of every change of aux-items: deletions come first, and then what is added beside those
-- that are left.
unfoldable pub refused_change : Object → Adder → List AuxRow → List ℕ → List AuxInput
    → Option AuxRefusal
refused_change on adder items deleted added =
    option_or (refused_deleted adder items [] 0 deleted)
    (refused_added on adder (left_after deleted items) 0 added)

-- an item of a text that its comments inherit: the limit counts how often, and 0 is no limit
abbrev pub passes_on : AuxRow → Bool
passes_on item = is_inherited item.flags && not (item.limit == 1)

-- with one item inherited, unless its tag may stand no more or there are too many
abbrev pub with_inherited : List AuxRow → AuxRow → List AuxRow
with_inherited items item = elim (kind_of item.tag) [
  | None ↦ items
  | Some known ↦
      if passes_on item && may_stand known items item.creator then
      items ++ record item { number = length items + 1; limit = item.limit - 1 } ∷ []
      else items
]

-- The items of a new text, beside those that it was given, with those that it inherits from one
-- text that it comments.
unfoldable pub inherit : List AuxRow → List AuxRow → List AuxRow
inherit items [] = items
inherit items (item ∷ parent) = inherit (with_inherited items item) parent

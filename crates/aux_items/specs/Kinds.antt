-- What the table of the known tags says, in the words of the definitions.
use Rattle.std.specs.Prelude.{Bool}
use Rattle.kom_types.specs.AuxItems as Items
use Rattle.kom_types.specs.declared.aux_items.Object.{Object}
use Rattle.aux_items.specs.declared.kinds.Adding.{Adding}
use Rattle.aux_items.specs.declared.kinds.Adding.TheVariants as adding
use Rattle.aux_items.specs.declared.kinds.AuxKind.{AuxKind}
use Rattle.aux_items.specs.declared.kinds.Count.{Count}
use Rattle.aux_items.specs.declared.kinds.Count.TheVariants as count
use Rattle.aux_items.specs.declared.kinds.Places.{Places}
use Rattle.aux_items.specs.declared.kinds.Places.TheVariants as places

-- on what an item may stand, who may add it, and how many there may be
abbrev pub places_meant : Places → Object → Bool
places_meant places.Texts = Items.on_texts
places_meant places.Conferences = Items.on_conferences
places_meant places.Letterboxes = Items.on_letterboxes
places_meant places.All = Items.on_all

abbrev pub adding_meant : Adding → Items.Adding
adding_meant adding.Owner = Items.Owner
adding_meant adding.Reader = Items.Reader
adding_meant adding.ReaderOfText = Items.ReaderOfText

abbrev pub count_meant : Count → Items.Count
count_meant count.One = Items.One
count_meant count.OnePerCreator = Items.OnePerCreator
count_meant count.Any = Items.Any

abbrev pub kind_meant : AuxKind → Items.AuxKind
kind_meant known =
    Items.kind known.tag (places_meant known.places) (adding_meant known.adding)
    (count_meant known.count)

-- The parts of a snapshot of the stored rows.
use Rattle.kom_types.specs.declared.effects.Effect.{Effect}
use Rattle.kom_types.specs.declared.effects.Effect.TheVariants as effect
use Rattle.kom_types.specs.declared.parts.PartRef.{PartRef}
use Rattle.kom_types.specs.declared.parts.PartRef.TheVariants as borrowed
use Rattle.kom_types.specs.declared.raised.Raised.{Raised}

-- an effect, or a counter that is raised
pub data Part : Type 0 where
  Makes : Effect → Part
  Raises : Raised → Part

-- what a part is whose lists are borrowed
abbrev pub part_of : PartRef → Part
part_of (borrowed.Plain what) = Makes what.now
part_of (borrowed.ConferenceAdded number name kind at creator supervisor) =
    Makes (effect.ConfAdded number name.now kind at creator supervisor)
part_of (borrowed.LoggedIn number at user) = Makes (effect.LoggedIn number at user.now)
part_of (borrowed.TextAdded number author at body) =
    Makes (effect.TextAdded number author at body.now)
part_of (borrowed.ReadSet person conference at ranges) =
    Makes (effect.ReadSet person conference at ranges.now)
part_of (borrowed.ItemAdded on_text object item) =
    Makes (effect.AuxAdded on_text object item.now)
part_of (borrowed.Raised given) = Raises given

-- What an item of a new text may name.
use Rattle.std.specs.Prelude.{Bool}
use Rattle.kom_types.specs.declared.texts.MiscInput.{MiscInput}
use Rattle.kom_model.specs.calls.NewTexts.{names_recipient, names_comment, names_footnote}
use Rattle.text_calls.specs.declared.naming.Naming.{Naming}
use Rattle.text_calls.specs.declared.naming.Naming.TheVariants as naming

-- the item names something so
abbrev pub names : Naming → MiscInput → Bool
names naming.Recipient item = names_recipient item
names naming.Comment item = names_comment item
names naming.Footnote item = names_footnote item

-- What the texts that were named so far hand down.
use Rattle.std.proofs.Common.{ℕ, List, take, filter}
use Rattle.kom_types.specs.declared.aux_items.AuxRow.{AuxRow}
use Rattle.kom_types.specs.declared.texts.MiscInput.{MiscInput}
use Rattle.kom_model.specs.Db.{Db}
use Rattle.kom_model.specs.calls.NewTexts.{inherited_from, names_comment}

abbrev pub handed_to : Db → List AuxRow → List MiscInput → ℕ → List AuxRow
handed_to db items named place = inherited_from db items (filter names_comment (take place named))

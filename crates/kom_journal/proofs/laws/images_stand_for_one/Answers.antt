use Rattle.kom_model.specs.Db.{empty_db}
use Rattle.kom_journal.specs.Files.{header}
use Rattle.kom_journal.specs.Images.{StandsFor, IsDamaged}
use Rattle.kom_journal.proofs.Damage.{stands_whole, damaged_once}
use Rattle.kom_journal.proofs.Unique.{stands_for_one}
use Rattle.kom_journal.proofs.laws.images_stand_for_one.Goals as goal

pub returns : goal.returns
unfolding StandsFor IsDamaged
returns c = record {
  rows = λ image. stands_for_one header empty_db image.file;
  undamaged = λ image db place. stands_whole header empty_db db image.file place;
  damaged_once = λ image place other. damaged_once header empty_db image.file place other;
}

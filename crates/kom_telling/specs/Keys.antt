-- By what rows are found when they are told.
use Rattle.std.specs.Prelude.{◌≡◌, map}
use Rattle.kom_types.specs.tables.Conferences.{number_of_conference}
use Rattle.kom_types.specs.tables.Persons.{number_of_person}
use Rattle.kom_types.specs.tables.Texts.{number_of_text}
use Rattle.kom_model.specs.Db.{Db}
use Rattle.kom_telling.specs.Sections.{all_joined}
use Rattle.kom_telling.specs.declared.keys.Keys.{Keys}

-- the keys are those of all rows
pub record AreKeys (db : Db) (keys : Keys) : Type 0 where
  pub conferences : keys.conferences.items ≡ map number_of_conference db.conferences
  pub persons : keys.persons.items ≡ map number_of_person db.persons
  pub texts : keys.texts.items ≡ map number_of_text db.texts
  pub memberships : keys.memberships.items ≡ all_joined db

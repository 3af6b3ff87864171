-- The stored rows of a new server. That it begins so is this server's choice.
use Rattle.std.specs.Prelude.{ℕ, List, [], ◌∷◌, codes}
use Rattle.kom_types.specs.declared.effects.Effect.{Effect}
use Rattle.kom_types.specs.declared.effects.Effect.TheVariants as effect
use Rattle.kom_types.specs.tables.Persons.{password_hash}
use Rattle.kom_model.specs.Db.{Db, empty_db}
use Rattle.kom_model.specs.Effects.{apply_all}

-- the number of the person that a new server has, and of its letterbox
abbrev pub administrator : ℕ
administrator = 5

-- a conference of the administrator's, of this type
abbrev pub initial_conference : ℕ → ℕ → List ℕ → ℕ → Effect
initial_conference moment number name kind =
    effect.ConfAdded number name kind moment administrator administrator

-- four conferences for all, and a person with every privilege, with a letterbox and this password
abbrev pub initial_effects : List ℕ → ℕ → List Effect
initial_effects password moment =
    initial_conference moment 1 (codes "Presentations of conferences") 8
    ∷ initial_conference moment 2 (codes "Presentations of persons") 8
    ∷ initial_conference moment 3 (codes "Messages of the day") 8
    ∷ initial_conference moment 4 (codes "News") 8
    ∷ initial_conference moment administrator (codes "Administrator") 152
    ∷ effect.PersonAdded administrator 64512 0 moment
    ∷ effect.Password administrator (password_hash administrator password)
    ∷ effect.MemberSet administrator administrator 0 255 administrator moment 0
    ∷ []

-- the rows of a new server
unfoldable pub initial : List ℕ → ℕ → Db
initial password moment = apply_all (initial_effects password moment) empty_db

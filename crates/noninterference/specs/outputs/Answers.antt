-- What a call of a group comes to is the same without what is hidden from the group.
use Rattle.std.specs.Prelude.{◌≡◌, None}
use Rattle.kom_types.specs.declared.calls.Call.{Call}
use Rattle.kom_model.specs.Decide.{decision_of, definition_of, is_firm}
use Rattle.kom_model.specs.Effects.{IsProtected}
use Rattle.kom_model.specs.calls.Call.{Asked, Definition}
use Rattle.kom_model.specs.calls.Guards.{caller}
use Rattle.kom_laws.specs.Groups.{Group, IsOfGroup}
use Rattle.kom_laws.specs.Erasing.{erased_db}

-- the same is asked without what is hidden from a group
abbrev pub erased_asked : Group → Asked → Asked
erased_asked group asked = record asked { db = erased_db group asked.db }

-- the same early guard refuses, and where none does the calls come to the same
pub record ComesToSame (one other : Definition) : Type 0 where
  pub early : one.early ≡ other.early
  pub rest : other.early ≡ None → one.rest ≡ other.rest

-- Output consistency: the calls of a session in which nobody, or a person of the group, is logged
-- in, and which is not strong, come to the same over all stored rows in which each secret
-- conference is read-protected, and over these without what is hidden from the group. So they are
-- decided the same, and are firm in both or in neither.
pub record AnswersStandErased : Type 0 where
  pub defined : (group : Group) (asked : Asked) (call : Call) → IsProtected asked.db
      → IsOfGroup group (caller asked)
      → ComesToSame (definition_of (erased_asked group asked) call) (definition_of asked call)
  pub decided : (group : Group) (asked : Asked) (call : Call) → IsProtected asked.db
      → IsOfGroup group (caller asked)
      → decision_of (erased_asked group asked) call ≡ decision_of asked call
  pub firm : (group : Group) (asked : Asked) (call : Call) → IsProtected asked.db
      → IsOfGroup group (caller asked)
      → is_firm (erased_asked group asked) call ≡ is_firm asked call

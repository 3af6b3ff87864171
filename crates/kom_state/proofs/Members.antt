-- How many memberships a person has, by their places as in the order of joining.
use Rattle.std.proofs.Common.{◌≡◌, ℕ, ◌+◌, Bool, true, false, cond, eqb, ltb, List, [], ◌∷◌, length, filter, suc, refl}
use Rattle.std.proofs.Common.{ap, ◌∙◌, arith}
use Rattle.std.specs.List.{fold}
use Rattle.kom_types.specs.declared.memberships.MembershipRow.{MembershipRow}
use Rattle.kom_types.specs.tables.Memberships.{by_position, count_of}
use Rattle.kom_model.specs.Db.{Db, memberships_of}

length-by_position : (row : MembershipRow) (rows : List MembershipRow) →
    length (by_position row rows) ≡ suc (length rows)
length-by_position row [] = refl
length-by_position row (first ∷ rows) = by (ltb row.position first.position) (length-by_position row rows)
  where
    by : (below : Bool) → length (by_position row rows) ≡ suc (length rows) →
        length (cond below (row ∷ first ∷ rows) (first ∷ by_position row rows)) ≡ suc (suc (length rows))
    by true rest = refl
    by false rest = ap suc rest

length-placed : (sorted rows : List MembershipRow) →
    length (fold (λ sorted row. by_position row sorted) sorted rows) ≡ length sorted + length rows
length-placed sorted [] = omega arith
length-placed sorted (row ∷ rows) =
    omega (arith, length-placed (by_position row sorted) rows, length-by_position row sorted)

pub length-memberships_of : (db : Db) (person : ℕ) → length (memberships_of db person) ≡ count_of person db.memberships
unfolding memberships_of
length-memberships_of db person =
    length-placed [] (filter (λ (row : MembershipRow). eqb row.person person) db.memberships)
    ∙ omega arith

-- Which memberships are secret after a membership is new, is set again, or is taken out.
use Rattle.std.proofs.Common.{◌≡◌, ℕ, nat_eq, Bool, false, List, insert, Some, sym, subst}
use Rattle.std.specs.Set.{remove_key}
use Rattle.kom_types.specs.declared.memberships.MembershipRow.{MembershipRow}
use Rattle.kom_types.specs.tables.Memberships.{is_secret_membership}
use Rattle.read_ranges.specs.Numbers.{ReadSet}
use Rattle.memberships.specs.declared.kept.Kept.{Kept}
use Rattle.memberships.specs.Entries.{Entry, kept_of, place_of, rows_of, kept_at}
use Rattle.memberships.specs.Keeping.{IsTable}
use Rattle.memberships.proofs.Finding.{found, not_found}
use Rattle.memberships.proofs.JoinedRows.{with_joined}
use Rattle.memberships.proofs.Joining.{Joins}
use Rattle.memberships.proofs.Leaving.{Leaves}
use Rattle.memberships.proofs.LeftRows.{without_left}
use Rattle.memberships.proofs.RenewedRows.{with_renewed}
use Rattle.memberships.proofs.Renewing.{Renews}
use Rattle.memberships.proofs.Secrets.{Changes, changes_new, changes_again, changes_left}
use Rattle.memberships.proofs.Turns.{Sets}
use Rattle.memberships.proofs.Viewing.{orderly}

module _ (es fs : List Entry) (next : ℕ) (conferences persons lists : ℕ → List ℕ)
    (table : IsTable es next conferences persons) where
  pub changes_joined : (given : MembershipRow) (read : ReadSet) (is : Bool) → is ≡ is_secret_membership given.kind →
      Joins es fs next given.person given.conference (kept_of given next given.last_time_read read) →
      Sets conferences lists given.person (insert (conferences given.person) given.position given.conference) →
      Changes (rows_of conferences es) (rows_of lists fs) given.person given.conference false is
  changes_joined given read is says joins puts =
      subst (Changes (rows_of conferences es) (rows_of lists fs) given.person given.conference false) (sym says)
      (changes_new given (rows_of conferences es) (rows_of lists fs)
      (with_joined es fs next conferences persons lists given read table joins puts)
      (not_found es next conferences persons table given.person given.conference joins.absent))

  pub changes_renewed : (given : MembershipRow) (old : Kept) (was is : Bool) → was ≡ is_secret_membership old.kind →
      is ≡ is_secret_membership given.kind →
      Renews es fs given.person given.conference old (kept_of given old.turn old.last_time_read old.read) →
      Sets conferences lists given.person
      (insert (remove_key (nat_eq given.conference) (conferences given.person)) given.position given.conference) →
      Changes (rows_of conferences es) (rows_of lists fs) given.person given.conference was is
  changes_renewed given old was is before after renews moves =
      subst (λ b. Changes (rows_of conferences es) (rows_of lists fs) given.person given.conference b is) (sym before)
      (subst
      (Changes (rows_of conferences es) (rows_of lists fs) given.person given.conference
      (is_secret_membership old.kind)) (sym after)
      (changes_again given (place_of given.conference (conferences given.person)) old (rows_of conferences es)
      (rows_of lists fs) (with_renewed es fs next conferences persons lists given old table renews moves)
      (orderly es next conferences persons table).once
      (found es next conferences persons table given.person given.conference old renews.there)))

  pub changes_removed : (person conference : ℕ) (old : Kept) (was : Bool) → was ≡ is_secret_membership old.kind →
      kept_at (person, conference) es ≡ Some old →
      Leaves es fs person conference →
      Sets conferences lists person (remove_key (nat_eq conference) (conferences person)) →
      Changes (rows_of conferences es) (rows_of lists fs) person conference was false
  changes_removed person conference old was says there leaves takes =
      subst (λ b. Changes (rows_of conferences es) (rows_of lists fs) person conference b false) (sym says)
      (changes_left person conference (place_of conference (conferences person)) old (rows_of conferences es)
      (rows_of lists fs)
      (without_left es fs next conferences persons lists person conference old table there leaves takes)
      (orderly es next conferences persons table).once
      (found es next conferences persons table person conference old there))

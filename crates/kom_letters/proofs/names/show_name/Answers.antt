use Rattle.std.proofs.Common.{ℕ, ◌≤◌, List, All, IsTrue, map, sum_by, sym, subst}
use Rattle.kom_letters.specs.Kinds.{is_plain, shown_letter, columns_of}
use Rattle.kom_letters.specs.Charsets.{letters_of}
use Rattle.kom_letters.proofs.Fronts.{name_plain, short_width}
use Rattle.kom_letters.proofs.names.show_name.Goals as goal

pub returns-clause-kinds : goal.returns-clause-kinds
returns-clause-kinds c =
    subst (λ (cs : List ℕ). All (λ letter. IsTrue (is_plain letter)) cs) (sym c.in_ok-text.ensures)
    (name_plain c.args.room (letters_of c.args.charset c.args.bytes.now))

pub returns-clause-width : goal.returns-clause-width
returns-clause-width c =
    subst (λ (cs : List ℕ). sum_by columns_of cs ≤ c.args.room) (sym c.in_ok-text.ensures)
    (short_width c.args.room (map shown_letter (letters_of c.args.charset c.args.bytes.now)))

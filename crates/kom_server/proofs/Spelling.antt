-- What the words of a command say of the store that they name.
use Rattle.std.proofs.Common.{◌≡◌, ◌↔◌, ◌<◌, ℕ, Bool, true, List, [], ◌∷◌, length, get_or, Some, ap, ◌∙◌, arith}
use Rattle.std.proofs.lemmas.Option.{get_or_from_slice_get}
use Rattle.std.specs.List.{slice_get}
use Rattle.kom_commands.specs.declared.words.Command.{Command}
use Rattle.kom_commands.specs.declared.words.Command.TheVariants as command
use Rattle.kom_commands.specs.Words.{IsSpelled, names_store}
use Rattle.kom_commands.proofs.Spelling.{same_command}
use Rattle.kom_server.specs.Statuses.{Says}

pub second : (words : List (List ℕ)) (a store : List ℕ) (rest : List (List ℕ)) → words ≡ a ∷ store ∷ rest →
    get_or words 1 [] ≡ store
second words a store rest is = ap (λ (l : List (List ℕ)). get_or l 1 []) is

pub third : (words : List (List ℕ)) (a b password : List ℕ) (rest : List (List ℕ)) →
    words ≡ a ∷ b ∷ password ∷ rest → get_or words 2 [] ≡ password
third words a b password rest is = ap (λ (l : List (List ℕ)). get_or l 2 []) is

pub fourth : (words : List (List ℕ)) (a b c password : List ℕ) (rest : List (List ℕ)) →
    words ≡ a ∷ b ∷ c ∷ password ∷ rest → get_or words 3 [] ≡ password
fourth words a b c password rest is = ap (λ (l : List (List ℕ)). get_or l 3 []) is

pub word_at : (words : List (List ℕ)) (place : ℕ) (word : List ℕ) → slice_get words place ≡ Some word →
    get_or words place [] ≡ word
word_at words place word is = get_or_from_slice_get words place word [] is

long : (words : List (List ℕ)) (all : List (List ℕ)) → words ≡ all → length words ≡ length all
long words all is = ap (λ (l : List (List ℕ)). length l) is

-- a command that names a store has two words at least
pub two_words : (words : List (List ℕ)) (said : Command) → IsSpelled words said → names_store said ≡ true →
    1 < length words
two_words words command.Once spelled names = cc
two_words words command.OnceOver spelled names = omega (arith, long words _ spelled.1)
two_words words (command.Serve at) spelled names = omega (arith, long words _ spelled.3)
two_words words command.Init spelled names = omega (arith, long words _ spelled.2)
two_words words command.Check spelled names = omega (arith, long words _ spelled.1)
two_words words (command.Load count) spelled names = cc
two_words words (command.Sweep person) spelled names = omega (arith, long words _ spelled.2.1)

pub three_words : (words : List (List ℕ)) → IsSpelled words command.Init → 2 < length words
three_words words spelled = omega (arith, long words _ spelled.2)

pub four_words : (words : List (List ℕ)) (person : ℕ) → IsSpelled words (command.Sweep person) → 3 < length words
four_words words person spelled = omega (arith, long words _ spelled.2.1)

-- what words say that are this command
pub says_so : (words : List (List ℕ)) (said : Command) (kind : Command → Bool) → IsSpelled words said →
    (Says words kind ↔ (kind said ≡ true))
says_so words said kind spelled = (
  λ other. ap kind (same_command words said other.0 spelled other.1) ∙ other.2,
  λ is. (said, spelled, is),
)

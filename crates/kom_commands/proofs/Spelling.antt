-- Words spell one command at most.
use Rattle.std.proofs.Common.{◌≡◌, ℕ, ◌≤◌, ◌<◌, Bool, true, false, ◌&&◌, if◌then◌else◌, List, [], ◌∷◌, length, Some}
use Rattle.std.proofs.Common.{None, refl, sym, ap, ◌∙◌, arith}
use Rattle.std.proofs.lemmas.Bool.{leb-true}
use Rattle.std.specs.List.{slice_index}
use Rattle.std.specs.Prelude.{codes, nat_le}
use Rattle.kom_types.specs.Token.{number_of}
use Rattle.kom_commands.specs.declared.numbers.AtPort.{AtPort}
use Rattle.kom_commands.specs.declared.numbers.Way.{Way}
use Rattle.kom_commands.specs.declared.numbers.Way.TheVariants as way
use Rattle.kom_commands.specs.declared.words.Command.{Command}
use Rattle.kom_commands.specs.declared.words.Command.TheVariants as command
use Rattle.kom_commands.specs.Loads.{SaysLoad}
use Rattle.kom_commands.specs.Sweeps.{SweepsBy}
use Rattle.kom_commands.specs.Numbers.{is_number, number_in, word_of, SaysServe}
use Rattle.kom_commands.specs.Words.{IsSpelled}

-- lists of two lengths are different ones
apart : (words one other : List (List ℕ)) → words ≡ one → words ≡ other → (length one ≡ length other → ⊥) → ⊥
apart words one other is is' long = long (ap (λ (l : List (List ℕ)). length l) (sym is ∙ is'))

pub heads : (words : List (List ℕ)) (a b : List ℕ) (s t : List (List ℕ)) → words ≡ a ∷ s → words ≡ b ∷ t → a ≡ b
heads words a b s t one other = cc

seconds : (words : List (List ℕ)) (a b c d : List ℕ) (s t : List (List ℕ)) → words ≡ a ∷ b ∷ s → words ≡ c ∷ d ∷ t →
    b ≡ d
seconds words a b c d s t one other = cc

-- words of two first letters are different ones
letters : (a b : List ℕ) → a ≡ b → (slice_index a 0 ≡ slice_index b 0 → ⊥) → ⊥
letters a b is other = other (ap (λ (word : List ℕ). slice_index word 0) is)

-- and so are those of two second letters
second_letters : (a b : List ℕ) → a ≡ b → (slice_index a 1 ≡ slice_index b 1 → ⊥) → ⊥
second_letters a b is other = other (ap (λ (word : List ℕ). slice_index word 1) is)

pub once_is : (words : List (List ℕ)) (said : Command) → IsSpelled words said → words ≡ codes "once" ∷ [] →
    said ≡ command.Once
once_is words command.Once spelled is = refl
once_is words command.OnceOver spelled is = absurd (apart words _ _ is spelled.1 (λ long. omega (arith, long)))
once_is words (command.Serve at) spelled is = absurd (apart words _ _ is spelled.3 (λ long. omega (arith, long)))
once_is words command.Init spelled is = absurd (apart words _ _ is spelled.2 (λ long. omega (arith, long)))
once_is words command.Check spelled is = absurd (apart words _ _ is spelled.1 (λ long. omega (arith, long)))
once_is words (command.Load count) spelled is = absurd (apart words _ _ is spelled.1 (λ long. omega (arith, long)))
once_is words (command.Sweep person) spelled is =
    absurd (apart words _ _ is spelled.2.1 (λ long. omega (arith, long)))

pub once_over_is : (words : List (List ℕ)) (said : Command) (store : List ℕ) → IsSpelled words said →
    words ≡ codes "once" ∷ store ∷ [] → said ≡ command.OnceOver
once_over_is words command.Once store spelled is = absurd (apart words _ _ is spelled (λ long. omega (arith, long)))
once_over_is words command.OnceOver store spelled is = refl
once_over_is words (command.Serve at) store spelled is =
    absurd (apart words _ _ is spelled.3 (λ long. omega (arith, long)))
once_over_is words command.Init store spelled is = absurd (apart words _ _ is spelled.2 (λ long. omega (arith, long)))
once_over_is words command.Check store spelled is =
    absurd (letters (codes "once") (codes "check") (heads words _ _ _ _ is spelled.1) (λ same. omega (arith, same)))
once_over_is words (command.Load count) store spelled is =
    absurd (letters (codes "once") (codes "load") (heads words _ _ _ _ is spelled.1) (λ same. omega (arith, same)))
once_over_is words (command.Sweep person) store spelled is =
    absurd (apart words _ _ is spelled.2.1 (λ long. omega (arith, long)))

pub check_is : (words : List (List ℕ)) (said : Command) (store : List ℕ) → IsSpelled words said →
    words ≡ codes "check" ∷ store ∷ [] → said ≡ command.Check
check_is words command.Once store spelled is = absurd (apart words _ _ is spelled (λ long. omega (arith, long)))
check_is words command.OnceOver store spelled is =
    absurd (letters (codes "check") (codes "once") (heads words _ _ _ _ is spelled.1) (λ same. omega (arith, same)))
check_is words (command.Serve at) store spelled is =
    absurd (apart words _ _ is spelled.3 (λ long. omega (arith, long)))
check_is words command.Init store spelled is = absurd (apart words _ _ is spelled.2 (λ long. omega (arith, long)))
check_is words command.Check store spelled is = refl
check_is words (command.Load count) store spelled is =
    absurd (letters (codes "check") (codes "load") (heads words _ _ _ _ is spelled.1) (λ same. omega (arith, same)))
check_is words (command.Sweep person) store spelled is =
    absurd (apart words _ _ is spelled.2.1 (λ long. omega (arith, long)))

pub init_is : (words : List (List ℕ)) (said : Command) (store password : List ℕ) → IsSpelled words said →
    words ≡ codes "init" ∷ store ∷ password ∷ [] → said ≡ command.Init
init_is words command.Once store password spelled is =
    absurd (apart words _ _ is spelled (λ long. omega (arith, long)))
init_is words command.OnceOver store password spelled is =
    absurd (apart words _ _ is spelled.1 (λ long. omega (arith, long)))
init_is words (command.Serve at) store password spelled is =
    absurd (apart words _ _ is spelled.3 (λ long. omega (arith, long)))
init_is words command.Init store password spelled is = refl
init_is words command.Check store password spelled is =
    absurd (apart words _ _ is spelled.1 (λ long. omega (arith, long)))
init_is words (command.Load count) store password spelled is =
    absurd (apart words _ _ is spelled.1 (λ long. omega (arith, long)))
init_is words (command.Sweep person) store password spelled is =
    absurd (apart words _ _ is spelled.2.1 (λ long. omega (arith, long)))

same_count : (number : List ℕ) (count other : ℕ) → number_in 0 100000 number ≡ Some count →
    number_in 0 100000 number ≡ Some other → count ≡ other
same_count number count other is is' = cc

pub load_is : (words : List (List ℕ)) (said : Command) (count : ℕ) → IsSpelled words said → SaysLoad words count →
    said ≡ command.Load count
load_is words command.Once count spelled says =
    absurd (apart words _ _ says.1 spelled (λ long. omega (arith, long)))
load_is words command.OnceOver count spelled says =
    absurd (letters (codes "load") (codes "once") (heads words _ _ _ _ says.1 spelled.1) (λ same. omega (arith, same)))
load_is words (command.Serve at) count spelled says =
    absurd (apart words _ _ says.1 spelled.3 (λ long. omega (arith, long)))
load_is words command.Init count spelled says =
    absurd (apart words _ _ says.1 spelled.2 (λ long. omega (arith, long)))
load_is words command.Check count spelled says =
    absurd (letters (codes "load") (codes "check") (heads words _ _ _ _ says.1 spelled.1) (λ same. omega (arith, same)))
load_is words (command.Load other) count spelled says =
    let word : spelled.0 ≡ says.0 = seconds words _ _ _ _ _ _ spelled.1 says.1 in
    ap (λ (n : ℕ). command.Load n)
    (same_count says.0 other count (ap (λ (w : List ℕ). number_in 0 100000 w) (sym word) ∙ spelled.2) says.2)
load_is words (command.Sweep person) count spelled says =
    absurd (apart words _ _ says.1 spelled.2.1 (λ long. omega (arith, long)))

thirds : (words : List (List ℕ)) (a b c d e f : List ℕ) (s t : List (List ℕ)) → words ≡ a ∷ b ∷ c ∷ s →
    words ≡ d ∷ e ∷ f ∷ t → c ≡ f
thirds words a b c d e f s t one other = cc

fourths : (words : List (List ℕ)) (a b c d e f g h : List ℕ) → words ≡ a ∷ b ∷ c ∷ d ∷ [] →
    words ≡ e ∷ f ∷ g ∷ h ∷ [] → d ≡ h
fourths words a b c d e f g h one other = cc

same_number : (least greatest : ℕ) (word other : List ℕ) (n m : ℕ) → word ≡ other →
    number_in least greatest word ≡ Some n → number_in least greatest other ≡ Some m → n ≡ m
same_number least greatest word other n m same is is' = cc

same_way : (one other : Way) → word_of one ≡ word_of other → one ≡ other
same_way way.OneAtATime way.OneAtATime is = refl
same_way way.OneAtATime way.ManyAtATime is =
    absurd (letters (codes "serve") (codes "hub") is (λ same. omega (arith, same)))
same_way way.ManyAtATime way.OneAtATime is =
    absurd (letters (codes "hub") (codes "serve") is (λ same. omega (arith, same)))
same_way way.ManyAtATime way.ManyAtATime is = refl

same_place : (one other : AtPort) → one.port ≡ other.port → one.workers ≡ other.workers → one.way ≡ other.way →
    one ≡ other
same_place one other port workers way =
    let place : ℕ → ℕ → Way → AtPort = λ port workers way. record { port = port; workers = workers; way = way } in
    ap (λ (port : ℕ). place port one.workers one.way) port
    ∙ ap (λ (workers : ℕ). place other.port workers one.way) workers
    ∙ ap (λ (way : Way). place other.port other.workers way) way

-- a store that is swept is not served
no_sweep : (words : List (List ℕ)) (at : AtPort) (store port workers other number password : List ℕ) →
    words ≡ word_of at.way ∷ store ∷ port ∷ workers ∷ [] → words ≡ codes "sweep" ∷ other ∷ number ∷ password ∷ [] → ⊥
no_sweep words at store port workers other number password is says =
    other_word at.way (heads words (word_of at.way) (codes "sweep") _ _ is says)
  where
    other_word : (way : Way) → word_of way ≡ codes "sweep" → ⊥
    other_word way.OneAtATime same = second_letters (codes "serve") (codes "sweep") same (λ e. omega (arith, e))
    other_word way.ManyAtATime same = letters (codes "hub") (codes "sweep") same (λ e. omega (arith, e))

pub serve_is : (words : List (List ℕ)) (said : Command) (at : AtPort) (store port workers : List ℕ) →
    IsSpelled words said → words ≡ word_of at.way ∷ store ∷ port ∷ workers ∷ [] →
    number_in 1 65535 port ≡ Some at.port → number_in 1 64 workers ≡ Some at.workers → said ≡ command.Serve at
serve_is words command.Once at store port workers spelled is at_port by =
    absurd (apart words _ _ is spelled (λ long. omega (arith, long)))
serve_is words command.OnceOver at store port workers spelled is at_port by =
    absurd (apart words _ _ is spelled.1 (λ long. omega (arith, long)))
serve_is words (command.Serve other) at store port workers spelled is at_port by =
    ap (λ (place : AtPort). command.Serve place) (same_place other at
    (same_number 1 65535 spelled.1 port other.port at.port
    (thirds words _ _ spelled.1 _ _ port _ _ spelled.3 is) spelled.5 at_port)
    (same_number 1 64 spelled.2 workers other.workers at.workers
    (fourths words _ _ _ spelled.2 _ _ _ workers spelled.3 is) spelled.6 by)
    (same_way other.way at.way (heads words _ _ _ _ spelled.3 is)))
serve_is words command.Init at store port workers spelled is at_port by =
    absurd (apart words _ _ is spelled.2 (λ long. omega (arith, long)))
serve_is words command.Check at store port workers spelled is at_port by =
    absurd (apart words _ _ is spelled.1 (λ long. omega (arith, long)))
serve_is words (command.Load count) at store port workers spelled is at_port by =
    absurd (apart words _ _ is spelled.1 (λ long. omega (arith, long)))
serve_is words (command.Sweep person) at store port workers spelled is at_port by =
    absurd (no_sweep words at store port workers spelled.0 spelled.2.0 spelled.1 is spelled.2.1)

pub sweep_is : (words : List (List ℕ)) (said : Command) (store : List ℕ) (person : ℕ) (password : List ℕ) →
    IsSpelled words said → SweepsBy words store person password → said ≡ command.Sweep person
sweep_is words command.Once store person password spelled says =
    absurd (apart words _ _ says.1 spelled (λ long. omega (arith, long)))
sweep_is words command.OnceOver store person password spelled says =
    absurd (apart words _ _ says.1 spelled.1 (λ long. omega (arith, long)))
sweep_is words (command.Serve at) store person password spelled says =
    absurd (no_sweep words at spelled.0 spelled.1 spelled.2 store says.0 password spelled.3 says.1)
sweep_is words command.Init store person password spelled says =
    absurd (apart words _ _ says.1 spelled.2 (λ long. omega (arith, long)))
sweep_is words command.Check store person password spelled says =
    absurd (apart words _ _ says.1 spelled.1 (λ long. omega (arith, long)))
sweep_is words (command.Load count) store person password spelled says =
    absurd (apart words _ _ says.1 spelled.1 (λ long. omega (arith, long)))
sweep_is words (command.Sweep other) store person password spelled says =
    ap (λ (n : ℕ). command.Sweep n)
    (same_number 0 999999 spelled.2.0 says.0 other person
    (thirds words _ _ spelled.2.0 _ _ says.0 _ _ spelled.2.1 says.1) spelled.2.3 says.3)

-- the words are one command
pub same_command : (words : List (List ℕ)) (one other : Command) → IsSpelled words one → IsSpelled words other →
    one ≡ other
same_command words one command.Once spelled is = once_is words one spelled is
same_command words one command.OnceOver spelled is = once_over_is words one is.0 spelled is.1
same_command words one (command.Serve at) spelled is =
    serve_is words one at is.0 is.1 is.2 spelled is.3 is.5 is.6
same_command words one command.Init spelled is = init_is words one is.0 is.1 spelled is.2
same_command words one command.Check spelled is = check_is words one is.0 spelled is.1
same_command words one (command.Load count) spelled is = load_is words one count spelled is
same_command words one (command.Sweep person) spelled is = sweep_is words one is.0 person is.1 spelled is.2

picked : (a b c : Bool) (n m : ℕ) → (if a && b && c then Some n else None) ≡ Some m →
    (b ≡ true) × (c ≡ true) × (n ≡ m)
picked true true true n m is = (refl, refl, cc)
picked true true false n m is = cc
picked true false c n m is = cc
picked false b c n m is = cc

within : (least greatest : ℕ) (word : List ℕ) (number : ℕ) → number_in least greatest word ≡ Some number →
    (least ≤ number) × (number ≤ greatest)
within least greatest word number is =
    let all = picked (is_number word) (nat_le least (number_of word)) (nat_le (number_of word) greatest)
    (number_of word) number is in (
      omega (arith, leb-true least (number_of word) all.0, all.2),
      omega (arith, leb-true (number_of word) greatest all.1, all.2),
    )

-- how many calls a server is loaded with at most
pub few_calls : (words : List (List ℕ)) (count : ℕ) → SaysLoad words count → count ≤ 100000
few_calls words count says = (within 0 100000 says.0 count says.2).1

-- by how many workers a port is served
pub some_workers : (words : List (List ℕ)) (at : AtPort) → SaysServe words at →
    (0 < at.workers) × (at.workers ≤ 64)
some_workers words at says =
    let both = within 1 64 says.2 at.workers says.6 in (omega (arith, both.0), both.1)

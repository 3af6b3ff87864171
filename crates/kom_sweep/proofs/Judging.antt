-- What is judged by what is kept is what was told.
use Rattle.std.proofs.Common.{◌≡◌, ℕ, ◌==◌, ◌<◌, ◌^◌, ◌&&◌, ◌||◌, not, nat_lt, nat_eq, Bool, true, false, is_some, List}
use Rattle.std.proofs.Common.{[], ◌∷◌, ◌++◌, Option, Some, None, option_map, refl, sym, ap, ap₂, ◌∙◌, arith}
use Rattle.std.proofs.Common.{if◌then◌else◌}
use Rattle.std.specs.Prelude.{filter_map}
use Rattle.std.specs.List.{list_all, list_any}
use Rattle.std.proofs.lemmas.List.Folds.{list_all-append}
use Rattle.indexmap.specs.IndexMap.{get}
use Rattle.kom_types.specs.declared.replies.Reply.{Reply}
use Rattle.kom_types.specs.declared.texts.TextStat.{TextStat}
use Rattle.kom_sweep.specs.declared.ages.Ages.{Ages}
use Rattle.kom_sweep.specs.declared.names.Names.{Names}
use Rattle.kom_sweep.specs.declared.rule.Days.{Days}
use Rattle.kom_sweep.specs.Replies.{stat_in}
use Rattle.kom_sweep.specs.Due.{Step, Walk, Room, is_older, are_older, is_told, age, lets_go, conference_lets_go}
use Rattle.kom_sweep.specs.Due.{days_in, is_whole, is_held, recipient_in, all_let_go, without_recipients}
use Rattle.kom_sweep.specs.Due.{is_due_by}
use Rattle.kom_sweep.specs.Ages.{TellsOf, with_age, least, is_above, lets_go_by}
use Rattle.kom_sweep.specs.Names.{Knows, lets_go_at, all_let_go_at, is_due_at}

-- ---- ages

and-true : (b : Bool) → b ≡ (b && true)
and-true true = refl
and-true false = refl

and-false : (b : Bool) → false ≡ (b && false)
and-false true = refl
and-false false = refl

least-lt : (days age youngest : ℕ) → nat_lt days (if nat_lt age youngest then age else youngest)
    ≡ (nat_lt days youngest && (nat_lt days age && true))
least-lt days age youngest = grind arith

above-least : (days age : ℕ) (o : Option ℕ) →
    is_above days (Some (least age o)) ≡ (is_above days o && (nat_lt days age && true))
above-least days age None = and-true (nat_lt days age)
above-least days age (Some youngest) = least-lt days age youngest

all-more : {X : Type 0} (test : X → Bool) (xs : List X) (x : X) →
    list_all test (xs ++ x ∷ []) ≡ (list_all test xs && (test x && true))
all-more test xs x = list_all-append test xs (x ∷ [])

-- of nothing
pub tells-none : (moment : ℕ) → TellsOf moment [] (record { are_told = true; youngest = None })
tells-none moment = record { all = refl; older = λ days. refl }

is-older-told : (moment days child : ℕ) (reply : Option Reply) (stat : TextStat) → stat_in reply ≡ Some stat →
    nat_lt days (age moment stat) ≡ is_older moment days (child, reply)
is-older-told moment days child reply stat e = rw (e, is_older) refl

is-older-untold : (moment days child : ℕ) (reply : Option Reply) → stat_in reply ≡ None →
    true ≡ is_older moment days (child, reply)
is-older-untold moment days child reply e = rw (e, is_older) refl

-- with one more
pub tells-more : (moment : ℕ) (before : List (ℕ × Option Reply)) (ages : Ages) (child : ℕ) (reply : Option Reply) →
    TellsOf moment before ages →
    TellsOf moment (before ++ (child, reply) ∷ []) (with_age ages
    (option_map (λ stat. age moment stat) (stat_in reply)))
tells-more moment before ages child reply tells = by (stat_in reply) refl
  where
    by : (o : Option TextStat) → stat_in reply ≡ o →
        TellsOf moment (before ++ (child, reply) ∷ []) (with_age ages (option_map (λ stat. age moment stat) o))
    by None e = record {
      all = and-false (list_all is_told before)
          ∙ ap (λ (b : Bool). list_all is_told before && (b && true)) (sym (ap is_some e))
          ∙ sym (all-more is_told before (child, reply));
      older = λ days. tells.older days ∙ and-true (are_older moment days before)
          ∙ ap (λ (b : Bool). are_older moment days before && (b && true)) (is-older-untold moment days child reply e)
          ∙ sym (all-more (is_older moment days) before (child, reply));
    }
    by (Some stat) e = record {
      all = tells.all ∙ and-true (list_all is_told before)
          ∙ ap (λ (b : Bool). list_all is_told before && (b && true)) (sym (ap is_some e))
          ∙ sym (all-more is_told before (child, reply));
      older = λ days. above-least days (age moment stat) ages.youngest
          ∙ ap (λ (b : Bool). b && (nat_lt days (age moment stat) && true)) (tells.older days)
          ∙ ap (λ (b : Bool). are_older moment days before && (b && true))
          (is-older-told moment days child reply stat e)
          ∙ sym (all-more (is_older moment days) before (child, reply));
    }

-- ---- days

pub lets_go-same : (moment years : ℕ) (children : List (ℕ × Option Reply)) (ages : Ages) (days : Days) →
    TellsOf moment children ages → lets_go_by years ages days ≡ lets_go moment years children days
lets_go-same moment years children ages days tells =
    ap (λ (b : Bool). (nat_lt 0 days.expire && nat_lt days.expire years) || (nat_lt days.nice years && b))
    (tells.older days.keep_commented)

conference-same : (rooms : List (Step Room)) (all : Bool) (kept : Names) (moment years : ℕ)
    (children : List (ℕ × Option Reply)) (ages : Ages) → Knows rooms all kept → TellsOf moment children ages →
    (conference : ℕ) → lets_go_at kept years ages conference ≡ conference_lets_go rooms moment years children conference
conference-same rooms all kept moment years children ages knows tells conference =
    by (get nat_eq kept.days conference) (days_in rooms conference) (knows.days conference)
  where
    by : (o p : Option Days) → o ≡ p →
        elim o as (λ _. Bool) [ None ↦ false | Some days ↦ lets_go_by years ages days ]
        ≡ elim p as (λ _. Bool) [ None ↦ false | Some days ↦ lets_go moment years children days ]
    by None None e = refl
    by None (Some days) e = cc
    by (Some days) None e = cc
    by (Some days) (Some other) e =
        ap (λ (days : Days). lets_go_by years ages days) (cc e) ∙ lets_go-same moment years children ages other tells

list_all-same : {X : Type 0} (p q : X → Bool) (xs : List X) → ((x : X) → p x ≡ q x) → list_all p xs ≡ list_all q xs
list_all-same p q [] same = refl
list_all-same p q (x ∷ xs) same = ap₂ (λ a b. a && b) (same x) (list_all-same p q xs same)

all_let_go-same : (rooms : List (Step Room)) (all : Bool) (kept : Names) (moment : ℕ) (stat : TextStat)
    (children : List (ℕ × Option Reply)) (ages : Ages) → Knows rooms all kept → TellsOf moment children ages →
    all_let_go_at kept stat.misc_infos (age moment stat) ages ≡ all_let_go rooms moment stat children
all_let_go-same rooms all kept moment stat children ages knows tells =
    by (list_any (λ info. is_some (recipient_in info)) stat.misc_infos)
    (list_all-same (lets_go_at kept (age moment stat) ages) (conference_lets_go rooms moment (age moment stat) children)
    (filter_map recipient_in stat.misc_infos)
    (conference-same rooms all kept moment (age moment stat) children ages knows tells))
    (lets_go-same moment (age moment stat) children ages without_recipients tells)
  where
    by : (b : Bool) {x y z w : Bool} → x ≡ y → z ≡ w → (if b then x else z) ≡ (if b then y else w)
    by true p q = p
    by false p q = q

-- ---- texts

pub judged : (rooms : Walk Room) (kept : Names) (moment text : ℕ) (stat : TextStat)
    (children : List (ℕ × Option Reply)) (ages : Ages) → text < 2 ^ 32 → Knows rooms.steps (is_whole rooms) kept →
    TellsOf moment children ages → is_due_at kept moment text stat ages
    ≡ is_due_by moment rooms text (Some stat) children
judged rooms kept moment text stat children ages small knows tells =
    ap₂ (λ a b. a && ((stat.marks == 0) && (not (is_held stat.aux_items) && b))) knows.whole
    (ap₂ (λ a b. a && b) tells.all
    (ap₂ (λ a b. not a && b) (knows.named text small)
    (all_let_go-same rooms.steps (is_whole rooms) kept moment stat children ages knows tells)))

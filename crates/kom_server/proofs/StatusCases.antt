-- What a status says of the cases that were met.
use Rattle.std.proofs.Common.{◌≡◌, ◌≢◌, ◌⊎◌, ◌↔◌, inl, inr, ℕ, Bool, true, false, ◌||◌, if◌then◌else◌, refl, arith}
use Rattle.std.proofs.lemmas.Bool.{false≢true, true≢false}
use Rattle.kom_commands.specs.Statuses.{IsStatus}

-- the status where the store failed, there is none, a gate failed, a sweep was refused, it was given up, the sink
-- failed, or memory ran out
abbrev pub st : Bool → Bool → Bool → Bool → Bool → Bool → Bool → ℕ
st a u g r b s m =
    if a then 3 else if u then 4 else if g then 5 else if r then 8 else if b then 10 else if s then 7 else if m then 6
    else 0

pub is_status : (a u g r b s m : Bool) → IsStatus (st a u g r b s m)
is_status true u g r b s m = inr (inl refl)
is_status false true g r b s m = inr (inr (inl refl))
is_status false false true r b s m = inr (inr (inr (inl refl)))
is_status false false false true b s m = inr (inr (inr (inr (inr (inr (inl refl))))))
is_status false false false false true s m = inr (inr (inr (inr (inr (inr (inr refl))))))
is_status false false false false false true m = inr (inr (inr (inr (inr (inl refl)))))
is_status false false false false false false true = inr (inr (inr (inr (inl refl))))
is_status false false false false false false false = inl refl

pub never_two : (a u g r b s m : Bool) → st a u g r b s m ≡ 2 → ⊥
never_two true u g r b s m is = omega (arith, is)
never_two false true g r b s m is = omega (arith, is)
never_two false false true r b s m is = omega (arith, is)
never_two false false false true b s m is = omega (arith, is)
never_two false false false false true s m is = omega (arith, is)
never_two false false false false false true m is = omega (arith, is)
never_two false false false false false false true is = omega (arith, is)
never_two false false false false false false false is = omega (arith, is)

pub three : (a u g r b s m : Bool) → ((st a u g r b s m ≡ 3) ↔ (a ≡ true))
three true u g r b s m = (λ is. refl, λ is. refl)
three false true g r b s m = (λ is. absurd (omega (arith, is)), λ is. absurd (false≢true is))
three false false true r b s m = (λ is. absurd (omega (arith, is)), λ is. absurd (false≢true is))
three false false false true b s m = (λ is. absurd (omega (arith, is)), λ is. absurd (false≢true is))
three false false false false true s m = (λ is. absurd (omega (arith, is)), λ is. absurd (false≢true is))
three false false false false false true m = (λ is. absurd (omega (arith, is)), λ is. absurd (false≢true is))
three false false false false false false true = (λ is. absurd (omega (arith, is)), λ is. absurd (false≢true is))
three false false false false false false false = (λ is. absurd (omega (arith, is)), λ is. absurd (false≢true is))

pub four : (a u g r b s m : Bool) → st a u g r b s m ≡ 4 → u ≡ true
four true u g r b s m is = absurd (omega (arith, is))
four false true g r b s m is = refl
four false false true r b s m is = absurd (omega (arith, is))
four false false false true b s m is = absurd (omega (arith, is))
four false false false false true s m is = absurd (omega (arith, is))
four false false false false false true m is = absurd (omega (arith, is))
four false false false false false false true is = absurd (omega (arith, is))
four false false false false false false false is = absurd (omega (arith, is))

pub five : (a u g r b s m : Bool) →
    ((st a u g r b s m ≡ 5) ↔ ((st a u g r b s m ≢ 3) × (st a u g r b s m ≢ 4) × (g ≡ true)))
five true u g r b s m = (λ is. absurd (omega (arith, is)), λ all. absurd (all.0 refl))
five false true g r b s m = (λ is. absurd (omega (arith, is)), λ all. absurd (all.1 refl))
five false false true r b s m = (λ is. (λ no. omega (arith, no), λ no. omega (arith, no), refl), λ all. refl)
five false false false true b s m = (λ is. absurd (omega (arith, is)), λ all. absurd (false≢true all.2))
five false false false false true s m = (λ is. absurd (omega (arith, is)), λ all. absurd (false≢true all.2))
five false false false false false true m = (λ is. absurd (omega (arith, is)), λ all. absurd (false≢true all.2))
five false false false false false false true = (λ is. absurd (omega (arith, is)), λ all. absurd (false≢true all.2))
five false false false false false false false = (λ is. absurd (omega (arith, is)), λ all. absurd (false≢true all.2))

-- where the sink does not fail if a gate did, or a sweep was refused or given up
pub seven : (a u g r b s m : Bool) → (s ≡ true → (g ≡ false) × (r ≡ false) × (b ≡ false)) →
    ((st a u g r b s m ≡ 7) ↔ ((st a u g r b s m ≢ 3) × (st a u g r b s m ≢ 4) × (s ≡ true)))
seven true u g r b s m apart = (λ is. absurd (omega (arith, is)), λ all. absurd (all.0 refl))
seven false true g r b s m apart = (λ is. absurd (omega (arith, is)), λ all. absurd (all.1 refl))
seven false false true r b s m apart =
    (λ is. absurd (omega (arith, is)), λ all. absurd (true≢false (apart all.2).0))
seven false false false true b s m apart =
    (λ is. absurd (omega (arith, is)), λ all. absurd (true≢false (apart all.2).1))
seven false false false false true s m apart =
    (λ is. absurd (omega (arith, is)), λ all. absurd (true≢false (apart all.2).2))
seven false false false false false true m apart =
    (λ is. (λ no. omega (arith, no), λ no. omega (arith, no), refl), λ all. refl)
seven false false false false false false true apart =
    (λ is. absurd (omega (arith, is)), λ all. absurd (false≢true all.2))
seven false false false false false false false apart =
    (λ is. absurd (omega (arith, is)), λ all. absurd (false≢true all.2))

pub six : (a u g r b s m : Bool) → st a u g r b s m ≡ 6 → m ≡ true
six true u g r b s m is = absurd (omega (arith, is))
six false true g r b s m is = absurd (omega (arith, is))
six false false true r b s m is = absurd (omega (arith, is))
six false false false true b s m is = absurd (omega (arith, is))
six false false false false true s m is = absurd (omega (arith, is))
six false false false false false true m is = absurd (omega (arith, is))
six false false false false false false true is = refl
six false false false false false false false is = absurd (omega (arith, is))

pub eight : (a u g r b s m : Bool) → st a u g r b s m ≡ 8 → r ≡ true
eight true u g r b s m is = absurd (omega (arith, is))
eight false true g r b s m is = absurd (omega (arith, is))
eight false false true r b s m is = absurd (omega (arith, is))
eight false false false true b s m is = refl
eight false false false false true s m is = absurd (omega (arith, is))
eight false false false false false true m is = absurd (omega (arith, is))
eight false false false false false false true is = absurd (omega (arith, is))
eight false false false false false false false is = absurd (omega (arith, is))

pub ten : (a u g r b s m : Bool) → st a u g r b s m ≡ 10 → b ≡ true
ten true u g r b s m is = absurd (omega (arith, is))
ten false true g r b s m is = absurd (omega (arith, is))
ten false false true r b s m is = absurd (omega (arith, is))
ten false false false true b s m is = absurd (omega (arith, is))
ten false false false false true s m is = refl
ten false false false false false true m is = absurd (omega (arith, is))
ten false false false false false false true is = absurd (omega (arith, is))
ten false false false false false false false is = absurd (omega (arith, is))

-- at 0 and 7 nothing went wrong, where the sink fails only if nothing did
pub nothing_wrong : (a u g r b s m : Bool) → ((a || u || g || m || r || b) ≡ true → s ≡ false) →
    (st a u g r b s m ≡ 0) ⊎ (st a u g r b s m ≡ 7) → (a || u || g || m || r || b) ≡ true → ⊥
nothing_wrong true u g r b s m silent (inl is) wrong = omega (arith, is)
nothing_wrong true u g r b s m silent (inr is) wrong = omega (arith, is)
nothing_wrong false true g r b s m silent (inl is) wrong = omega (arith, is)
nothing_wrong false true g r b s m silent (inr is) wrong = omega (arith, is)
nothing_wrong false false true r b s m silent (inl is) wrong = omega (arith, is)
nothing_wrong false false true r b s m silent (inr is) wrong = omega (arith, is)
nothing_wrong false false false true b s m silent (inl is) wrong = omega (arith, is)
nothing_wrong false false false true b s m silent (inr is) wrong = omega (arith, is)
nothing_wrong false false false false true s m silent (inl is) wrong = omega (arith, is)
nothing_wrong false false false false true s m silent (inr is) wrong = omega (arith, is)
nothing_wrong false false false false false true m silent is wrong = true≢false (silent wrong)
nothing_wrong false false false false false false true silent (inl is) wrong = omega (arith, is)
nothing_wrong false false false false false false true silent (inr is) wrong = omega (arith, is)
nothing_wrong false false false false false false false silent is wrong = false≢true wrong

-- at all others something did
pub something_wrong : (a u g r b s m : Bool) → st a u g r b s m ≢ 0 → st a u g r b s m ≢ 7 →
    (a || u || g || m || r || b) ≡ true
something_wrong true u g r b s m not_zero not_seven = refl
something_wrong false true g r b s m not_zero not_seven = refl
something_wrong false false true r b s m not_zero not_seven = refl
something_wrong false false false true b s true not_zero not_seven = refl
something_wrong false false false true b s false not_zero not_seven = refl
something_wrong false false false false true s true not_zero not_seven = refl
something_wrong false false false false true s false not_zero not_seven = refl
something_wrong false false false false false true m not_zero not_seven = absurd (not_seven refl)
something_wrong false false false false false false true not_zero not_seven = refl
something_wrong false false false false false false false not_zero not_seven = absurd (not_zero refl)

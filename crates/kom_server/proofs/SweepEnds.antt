-- What the end of a sweep says of the exit status.
use Rattle.std.proofs.Common.{◌≡◌, ◌≢◌, ◌⊎◌, inl, inr, ℕ, Bool, true, false, ◌||◌, refl, ◌∙◌}
use Rattle.std.proofs.lemmas.Bool.{false≢true, true≢false}
use Rattle.kom_commands.specs.declared.cases.Cases.{Cases}
use Rattle.kom_commands.specs.Reports.{HasText, sweep_lines}
use Rattle.kom_commands.specs.Statuses.{status_of}
use Rattle.kom_links.specs.Doors.{SinkView}
use Rattle.kom_sweep.specs.declared.ends.SweepEnd.{SweepEnd}
use Rattle.kom_sweep.specs.declared.ends.SweepEnd.TheVariants as end
use Rattle.store_check.specs.Stores.{IsWrong}
use Rattle.kom_server.specs.Sweeps.{IsMetBy, IsEndAt}
use Rattle.kom_server.proofs.StatusCases.{st}

eight_so : (a u g r b s m : Bool) → u ≡ false → g ≡ false → r ≡ true → st a u g r b s m ≢ 3 → st a u g r b s m ≡ 8
eight_so true u g r b s m fit opened refused kept = absurd (kept refl)
eight_so false true g r b s m fit opened refused kept = absurd (true≢false fit)
eight_so false false true r b s m fit opened refused kept = absurd (true≢false opened)
eight_so false false false true b s m fit opened refused kept = refl
eight_so false false false false b s m fit opened refused kept = absurd (false≢true refused)

ten_so : (a u g r b s m : Bool) → u ≡ false → g ≡ false → (r ≡ false) × (b ≡ true) → st a u g r b s m ≢ 3 →
    st a u g r b s m ≡ 10
ten_so true u g r b s m fit opened gone kept = absurd (kept refl)
ten_so false true g r b s m fit opened gone kept = absurd (true≢false fit)
ten_so false false true r b s m fit opened gone kept = absurd (true≢false opened)
ten_so false false false true b s m fit opened gone kept = absurd (true≢false gone.0)
ten_so false false false false true s m fit opened gone kept = refl
ten_so false false false false false s m fit opened gone kept = absurd (false≢true gone.1)

six_so : (a u g r b s m : Bool) → u ≡ false → g ≡ false → (r ≡ false) × (b ≡ false) → m ≡ true →
    ((a || u || g || m || r || b) ≡ true → s ≡ false) → st a u g r b s m ≢ 3 → st a u g r b s m ≡ 6
six_so true u g r b s m fit opened unswept out silent kept = absurd (kept refl)
six_so false true g r b s m fit opened unswept out silent kept = absurd (true≢false fit)
six_so false false true r b s m fit opened unswept out silent kept = absurd (true≢false opened)
six_so false false false true b s m fit opened unswept out silent kept = absurd (true≢false unswept.0)
six_so false false false false true s m fit opened unswept out silent kept = absurd (true≢false unswept.1)
six_so false false false false false true true fit opened unswept out silent kept =
    absurd (true≢false (silent refl))
six_so false false false false false true false fit opened unswept out silent kept = absurd (false≢true out)
six_so false false false false false false true fit opened unswept out silent kept = refl
six_so false false false false false false false fit opened unswept out silent kept = absurd (false≢true out)

done_so : (H : Type 0) (a u g r b s m : Bool) → u ≡ false → g ≡ false → (r ≡ false) × (b ≡ false) →
    ((a || u || g || m || r || b) ≡ true) ⊎ H → ((a || u || g || m || r || b) ≡ true → s ≡ false) →
    st a u g r b s m ≢ 3 →
    (st a u g r b s m ≡ 6) ⊎ (((st a u g r b s m ≡ 0) ⊎ (st a u g r b s m ≡ 7)) × H)
done_so H true u g r b s m fit opened unswept put silent kept = absurd (kept refl)
done_so H false true g r b s m fit opened unswept put silent kept = absurd (true≢false fit)
done_so H false false true r b s m fit opened unswept put silent kept = absurd (true≢false opened)
done_so H false false false true b s m fit opened unswept put silent kept = absurd (true≢false unswept.0)
done_so H false false false false true s m fit opened unswept put silent kept = absurd (true≢false unswept.1)
done_so H false false false false false true m fit opened unswept (inl wrong) silent kept =
    absurd (true≢false (silent wrong))
done_so H false false false false false true m fit opened unswept (inr put) silent kept = inr (inr refl, put)
done_so H false false false false false false true fit opened unswept put silent kept = inl refl
done_so H false false false false false false false fit opened unswept (inl wrong) silent kept =
    absurd (false≢true wrong)
done_so H false false false false false false false fit opened unswept (inr put) silent kept = inr (inl refl, put)

-- the same of the status that is that of the cases
told : (H : Type 0) (status other : ℕ) → status ≡ other → (other ≡ 6) ⊎ (((other ≡ 0) ⊎ (other ≡ 7)) × H) →
    (status ≡ 6) ⊎ (((status ≡ 0) ⊎ (status ≡ 7)) × H)
told H status other is (inl six) = inl (is ∙ six)
told H status other is (inr (inl zero, put)) = inr (inl (is ∙ zero), put)
told H status other is (inr (inr seven, put)) = inr (inr (is ∙ seven), put)

-- the status where a sweep came to these cases, and the store did not fail
pub end_at : (ending : SweepEnd) (cases : Cases) (s : Bool) (status : ℕ) (sink : SinkView) →
    status ≡ status_of cases s → cases.is_unfit ≡ false → cases.gate_failed ≡ false → (IsWrong cases → s ≡ false) →
    IsMetBy ending cases sink → status ≢ 3 → IsEndAt ending status sink
end_at (end.Done swept kept) cases s status sink is fit opened silent met held =
    told (HasText (sweep_lines swept kept) sink) status _ is
    (done_so (HasText (sweep_lines swept kept) sink) cases.store_failed cases.is_unfit cases.gate_failed
    cases.is_refused cases.is_given_up s cases.no_memory fit opened met.0 met.1 silent (λ three. held (is ∙ three)))
end_at (end.Refused code number) cases s status sink is fit opened silent met held =
    is ∙ eight_so cases.store_failed cases.is_unfit cases.gate_failed cases.is_refused cases.is_given_up s
    cases.no_memory fit opened met (λ three. held (is ∙ three))
end_at (end.Gone why) cases s status sink is fit opened silent met held =
    is ∙ ten_so cases.store_failed cases.is_unfit cases.gate_failed cases.is_refused cases.is_given_up s
    cases.no_memory fit opened met (λ three. held (is ∙ three))
end_at (end.Full number) cases s status sink is fit opened silent met held =
    is ∙ ten_so cases.store_failed cases.is_unfit cases.gate_failed cases.is_refused cases.is_given_up s
    cases.no_memory fit opened met (λ three. held (is ∙ three))
end_at end.Memory cases s status sink is fit opened silent met held =
    is ∙ six_so cases.store_failed cases.is_unfit cases.gate_failed cases.is_refused cases.is_given_up s
    cases.no_memory fit opened met.0 met.1 silent (λ three. held (is ∙ three))

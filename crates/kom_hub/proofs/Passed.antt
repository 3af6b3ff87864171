-- What some flushes more are to a link that was served.
use Rattle.std.proofs.Common.{◌≡◌, ℕ, inl, inr, Bool, false, List, [], ◌∷◌, ◌++◌, length, refl, sym}
use Rattle.std.proofs.Common.{◌∙◌, ap, ne_eqb, append-nil}
use Rattle.std.specs.List.{AllByRecursion}
use Rattle.std.proofs.lemmas.Bool.{cases_eq}
use Rattle.kom_types.specs.declared.acts.Record.{Record}
use Rattle.kom_types.specs.declared.items.Item.{Item}
use Rattle.kom_links.specs.declared.served.SessionEnd.{SessionEnd}
use Rattle.kom_links.specs.Talk.{Step, steps_of, drains_in, IsDrained, IsTalk}
use Rattle.kom_hub.specs.Seats.{IsFlush}
use Rattle.kom_hub.proofs.Steps.{steps-append}
use Rattle.kom_hub.proofs.Within.{AreFlushes, IsApart, apart_steps, drained_around, records_of-within, flush_is}
use Rattle.kom_hub.proofs.Within.{talk_around}

are_apart : (session : ℕ) (flushes : List Record) → AllByRecursion IsFlush flushes
    → AllByRecursion (IsApart session) flushes
are_apart session [] all = tt
are_apart session (made ∷ flushes) all = (one, are_apart session flushes all.1)
  where
    one : IsApart session made
    one = elim (cases_eq session 0) [
      | inl zero ↦ inr (zero, flush_is made.entry.act all.0.0)
      | inr some ↦ inl (ne_eqb made.session session (λ e. some (sym e ∙ all.0.1)))
    ]

are_flushes : (session : ℕ) (flushes : List Record) → AllByRecursion IsFlush flushes
    → AreFlushes (steps_of session flushes [])
are_flushes session flushes all = apart_steps session flushes (are_apart session flushes all)

-- the steps of a session with them, where each of its drains gave something
pub steps_pass : (session : ℕ) (records flushes : List Record) (given : List (List Item))
    → drains_in (steps_of session records given) ≡ length given
    → steps_of session (records ++ flushes) given
    ≡ steps_of session records given ++ steps_of session flushes []
steps_pass session records flushes given drains =
    ap (steps_of session (records ++ flushes)) (sym (append-nil given))
    ∙ steps-append session records flushes given [] drains

pub drained_pass : (session : ℕ) (flushes : List Record) (steps : List Step) → AllByRecursion IsFlush flushes
    → IsDrained steps → IsDrained (steps ++ steps_of session flushes [])
drained_pass session flushes steps all drained =
    drained_around [] steps (steps_of session flushes []) refl (are_flushes session flushes all) drained

pub talk_passes : (host input output : List ℕ) (ended : Bool) (records flushes : List Record) (session : ℕ)
    (given : List (List Item)) (end : SessionEnd) (full full' : Bool) → AllByRecursion IsFlush flushes
    → (full' ≡ false → full ≡ false) → IsTalk host input output ended records session given end full
    → IsTalk host input output ended (records ++ flushes) session given end full'
talk_passes host input output ended records flushes session given end full full' all free talk =
    let whole : IsTalk host input output ended (records ++ flushes) session given end full =
    talk_around host input output ended (records ++ flushes) records session given end full []
    (steps_of session flushes []) refl (are_flushes session flushes all)
    (steps_pass session records flushes given talk.drains)
    (records_of-within session [] records flushes tt (are_apart session flushes all)) talk in
    record {
      begins = whole.begins;
      silent = whole.silent;
      drains = whole.drains;
      calls = whole.calls;
      breaks = whole.breaks;
      written = whole.written;
      at_end = whole.at_end;
      closed = λ home. whole.closed (free home);
      spaced = whole.spaced;
    }

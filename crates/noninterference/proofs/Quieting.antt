-- A record is quiet where all that is to hold of it is computed.
use Rattle.std.proofs.Common.{◌≡◌, ℕ, Bool, true, false, not, ◌||◌, ◌==◌, List, [], ◌∷◌, Some, refl, sym}
use Rattle.std.proofs.Common.{cond, subst, eqb-true, true≢false, inl, inr, ◌∙◌}
use Rattle.std.specs.Prelude.{is_some, IsTrue}
use Rattle.std.specs.List.{find, list_all}
use Rattle.std.proofs.lemmas.Bool.{and_parts}
use Rattle.kom_types.specs.declared.acts.Record.{Record}
use Rattle.kom_types.specs.declared.conferences.ConferenceRow.{ConferenceRow}
use Rattle.kom_types.specs.declared.texts.TextRow.{TextRow}
use Rattle.kom_model.specs.After.{MayFollow, after}
use Rattle.kom_model.specs.Db.{Db, conference_of, text_of}
use Rattle.kom_model.specs.Kinds.{is_among}
use Rattle.kom_model.specs.State.{State}
use Rattle.kom_laws.specs.Groups.{Group, is_unseen, is_unread}
use Rattle.noninterference.specs.respect.Hidden.{is_hidden}
use Rattle.noninterference.specs.respect.Quiet.{AreWeak, IsQuiet, AreQuietly, ChangesSame, logs_in_own, caller_of}
use Rattle.noninterference.specs.steps.Steps.{HasNoOpening}

-- what is hidden before is hidden after, of each row
abbrev pub stays : (ℕ → Bool) → (ℕ → Bool) → {X : Type 0} → (X → ℕ) → List X → Bool
stays before after number rows = list_all (λ row. not (before (number row)) || after (number row)) rows

stays-hidden : (before after : ℕ → Bool) {X : Type 0} (number : X → ℕ) (rows : List X) (n : ℕ) →
    stays before after number rows ≡ true → is_some (find (λ row. number row == n) rows) ≡ true → before n ≡ true →
    after n ≡ true
stays-hidden before after number [] n all there hidden = absurd (true≢false (sym there))
stays-hidden before after number (row ∷ rows) n all there hidden =
    let parts = and_parts (not (before (number row)) || after (number row)) (stays before after number rows) all in
    here (number row == n) (eqb-true (number row) n) parts.0
    (λ there. stays-hidden before after number rows n parts.1 there hidden) there where
      then : (b c : Bool) → b ≡ true → (not b || c) ≡ true → c ≡ true
      then true c is may = may
      then false c is may = absurd (true≢false (sym is))

      here : (is : Bool) → (is ≡ true → number row ≡ n) → (not (before (number row)) || after (number row)) ≡ true →
          (is_some (find (λ row. number row == n) rows) ≡ true → after n ≡ true) →
          is_some (cond is (Some row) (find (λ row. number row == n) rows)) ≡ true → after n ≡ true
      here true same may rest there = then (before n) (after n) hidden
          (subst (λ n. (not (before n) || after n) ≡ true) (same refl) may)
      here false same may rest there = rest there

pub closed-by : (group : Group) (before after : Db) →
    stays (is_unseen group before) (is_unseen group after) (λ (row : ConferenceRow). row.number) before.conferences
    ≡ true →
    stays (is_unread group before) (is_unread group after) (λ (row : TextRow). row.number) before.texts ≡ true →
    HasNoOpening group before after
unfolding conference_of text_of
closed-by group before after unseen unread = record {
  conference = λ number stood stands hidden. stays-hidden (is_unseen group before) (is_unseen group after)
      (λ (row : ConferenceRow). row.number) before.conferences number unseen stood hidden;
  text = λ number stood stands hidden. stays-hidden (is_unread group before) (is_unread group after)
      (λ (row : TextRow). row.number) before.texts number unread stood hidden;
}

pub quiet-by : (group : Group) (state : State) (made : Record) → MayFollow state made → made.short ≡ false →
    stays (is_unseen group state.db) (is_unseen group (after state made).db) (λ (row : ConferenceRow). row.number)
    state.db.conferences ≡ true →
    stays (is_unread group state.db) (is_unread group (after state made).db) (λ (row : TextRow). row.number)
    state.db.texts ≡ true → AreWeak group (after state made) → IsTrue (logs_in_own group state made.entry) →
    IsQuiet group state made
quiet-by group state made follows long unseen unread weak own = record {
  follows = follows;
  long = long;
  closed = closed-by group state.db (after state made).db unseen unread;
  weak = weak;
  own = own;
}

-- two records of one entry that is not hidden, and if it is of another session is no call or changes the same
pub own-quietly : (group : Group) (one other : State) (made : Record) → IsQuiet group one made →
    IsQuiet group other made → is_hidden group one made.entry ≡ false →
    (IsTrue (not (is_among group.sessions (caller_of made.entry.act))) → ChangesSame one other made.entry) →
    AreQuietly group one other made made
own-quietly group one other made quiet quiet' shown changes = record {
  first = quiet;
  second = quiet';
  hidden = inl refl;
  texts = λ given given' hidden is is'. absurd (true≢false (sym hidden.0 ∙ shown));
  outside = λ equal apart. inr (changes apart);
}

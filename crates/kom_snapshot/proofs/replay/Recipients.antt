-- The recipients of a snapshot come again, and their conferences draw their local numbers.
use Rattle.std.proofs.Common.{◌≡◌, ℕ, ◌+◌, ◌<◌, ◌≤◌, true, ◌==◌, List, [], ◌∷◌, ◌++◌, length}
use Rattle.std.proofs.Common.{Option, Some, None, refl, sym, ◌∙◌, ap, subst, arith, append_assoc, inl, inr, eqb-true}
use Rattle.std.specs.Prelude.{map, nat_le, is_none, is_some}
use Rattle.std.specs.List.{AllByRecursion, filter}
use Rattle.std.proofs.lemmas.Bool.{and_from, cases_Bool, le-leb, lt-ltb, eq-eqb}
use Rattle.std.proofs.lemmas.List.{append-nil}
use Rattle.row_table.specs.Tables.{row_of, IsByNumber}
use Rattle.kom_types.specs.declared.limits.TheConstants.{LAST_DRAWN, MOST_RECIPIENTS}
use Rattle.kom_types.specs.declared.conferences.ConferenceRow.{ConferenceRow}
use Rattle.kom_types.specs.declared.effects.Effect.{Effect}
use Rattle.kom_types.specs.declared.effects.Effect.TheVariants as effect
use Rattle.kom_types.specs.declared.texts.Recipient.{Recipient}
use Rattle.kom_types.specs.declared.texts.TextRow.{TextRow}
use Rattle.kom_types.specs.tables.Conferences.{number_of_conference, with_local_drawn}
use Rattle.kom_types.specs.tables.Texts.{number_of_text, is_recipient}
use Rattle.kom_model.specs.Db.{Db, conference_of, text_of, recipient_of, recipients_of, next_local_of}
use Rattle.kom_model.specs.Effects.{fits, after_effect, is_recipient_tag}
use Rattle.kom_model.specs.Whole.{AreRecipients, has_text, has_drawn_local}
use Rattle.kom_model.proofs.whole.Counts.{all-along}
use Rattle.kom_snapshot.specs.Listed.{RiseByKind, in_one_conference, IsListedConference}
use Rattle.kom_snapshot.proofs.Rising.{all-found}
use Rattle.kom_snapshot.proofs.replay.Conferences.{conf_as}
use Rattle.kom_snapshot.proofs.replay.Drawing.{set_at, drawn-row, row-counting, drawn-counting, drawn-within}
use Rattle.kom_snapshot.proofs.replay.Replaying.{Replays, replays-none, replays-one, replays-append}
use Rattle.kom_snapshot.proofs.replay.Tables.{all-at, none-before, room-before, own-rows}

-- a conference with this next local number
abbrev with_local : (ℕ → ℕ) → ℕ → ConferenceRow → ConferenceRow
with_local items next row = record row { next_local = next; next_item = items row.number }

-- counters that no row passes, and the rows that effects make with them
pub record Drawn (table : List ConferenceRow) (effects : List Effect) (old : Db) (new : (ℕ → ℕ) → Db) : Type 0 where
  pub counters : ℕ → ℕ
  pub within : AllByRecursion (λ row. counters row.number ≤ row.next_local) table
  pub replays : Replays effects old (new counters)

module _ (all : List Recipient) (texts : List TextRow) (table : List ConferenceRow)
    (whole : AreRecipients all texts table) (rising : IsByNumber number_of_conference table)
    (bounded : AllByRecursion IsListedConference table) (items : ℕ → ℕ) (db : Db)
    (written : (text : ℕ) → has_text texts text ≡ true → is_some (row_of number_of_text text db.texts) ≡ true) where
  abbrev state : (ℕ → ℕ) → List Recipient → Db
  state locals front = record db { conferences = map (conf_as locals items) table; recipients = front }

  module _ (locals : ℕ → ℕ) (front : List Recipient) (row : Recipient) (rest : List Recipient)
      (same : front ++ row ∷ rest ≡ all) where
    at : (P : Recipient → Type 0) → AllByRecursion P all → P row
    at P holds = all-at P front row rest (subst (AllByRecursion P) (sym same) holds)

    home : (conference : ConferenceRow) × ((row_of number_of_conference row.conference table ≡ Some conference)
        × (row.local < conference.next_local))
    home = drawn-row (λ conference. conference.next_local) (row_of number_of_conference row.conference table) row.local
        (at (λ row. has_drawn_local table row.conference row.local ≡ true) whole.drawn)

    found : row_of number_of_conference row.conference (map (conf_as locals items) table)
        ≡ Some (with_local items (locals row.conference) home.0)
    found = row-counting number_of_conference (with_local items) (λ n one. refl) locals row.conference table home.0
        home.1.0

    fit : locals row.conference ≤ row.local →
        fits (effect.RecipientAdded row) (state locals front) ≡ true
    unfolding fits text_of conference_of recipient_of recipients_of next_local_of
    fit least =
        let last = (all-found IsListedConference _ table home.0 bounded home.1.0).next_local.1 in
        and_from _ _ (and_from _ _ (and_from _ _ (and_from _ _ (and_from _ _
        (written row.text (at (λ row. has_text texts row.text ≡ true) whole.text_there))
        (ap is_some found))
        (ap is_none (none-before (is_recipient row.text row.conference) front row rest
        (subst (λ l. length (filter (is_recipient row.text row.conference) l) ≤ 1) (sym same)
        (whole.once row.text row.conference))
        (and_from _ _ (eq-eqb row.text row.text refl) (eq-eqb row.conference row.conference refl)))))
        (at (λ row. is_recipient_tag row.tag ≡ true) whole.tagged))
        (and_from _ _
        (subst (λ (found : Option ConferenceRow).
        nat_le (elim found [ None ↦ 1 | Some row ↦ row.next_local ]) row.local ≡ true) (sym found)
        (le-leb (locals row.conference) row.local least))
        (le-leb row.local LAST_DRAWN (omega (arith, last, home.1.1)))))
        (lt-ltb (length (filter (λ one. one.text == row.text) front)) MOST_RECIPIENTS
        (room-before (λ one. one.text == row.text) MOST_RECIPIENTS front row rest
        (subst (λ l. length (filter (λ one. one.text == row.text) l) ≤ MOST_RECIPIENTS) (sym same)
        (whole.limited row.text)) (eq-eqb row.text row.text refl)))

    makes : after_effect (effect.RecipientAdded row) (state locals front)
        ≡ state (set_at row.conference (row.local + 1) locals) (front ++ row ∷ [])
    unfolding after_effect
    makes = ap (λ conferences. record db { conferences = conferences; recipients = front ++ row ∷ [] })
        (drawn-counting number_of_conference (with_local items) (λ n one. refl) row.conference (row.local + 1)
        (with_local_drawn row.local) (λ n one. refl) locals table)

    within : AllByRecursion (λ conference. locals conference.number ≤ conference.next_local) table →
        AllByRecursion (λ conference.
        set_at row.conference (row.local + 1) locals conference.number ≤ conference.next_local) table
    within less = drawn-within number_of_conference (λ conference. conference.next_local) row.conference
        (row.local + 1) locals table (own-rows number_of_conference [] table table refl rising)
        (λ conference is.
        let drawn = home.1.1 in
        let one : Some conference ≡ Some home.0 = sym is ∙ home.1.0 in
        let equal : conference ≡ home.0 = cc in
        let next = ap (λ (one : ConferenceRow). one.next_local) equal in
        omega (arith, next, drawn)) less

  -- the others' numbers are drawn later
  later : (locals : ℕ → ℕ) (row : Recipient) (rest : List Recipient) →
      AllByRecursion (λ one. in_one_conference row one ≡ true → row.local < one.local) rest →
      AllByRecursion (λ one. locals one.conference ≤ one.local) rest →
      AllByRecursion (λ one. set_at row.conference (row.local + 1) locals one.conference ≤ one.local) rest
  later locals row rest above least = all-along
      (λ one. in_one_conference row one ≡ true → row.local < one.local) (λ one. locals one.conference ≤ one.local)
      (λ one. set_at row.conference (row.local + 1) locals one.conference ≤ one.local) each rest above least
    where
      each : (one : Recipient) → (in_one_conference row one ≡ true → row.local < one.local) →
          locals one.conference ≤ one.local → set_at row.conference (row.local + 1) locals one.conference ≤ one.local
      each one more less = elim (cases_Bool (one.conference == row.conference)) [
        | inl here ↦
            let drawn = more (eq-eqb row.conference one.conference
            (sym (eqb-true one.conference row.conference here))) in
            rw here (omega (arith, drawn))
        | inr there ↦ rw there less
      ]

  pub recipients-again : (locals : ℕ → ℕ) (front rest : List Recipient) → front ++ rest ≡ all →
      RiseByKind in_one_conference (λ row. row.local) rest →
      AllByRecursion (λ one. locals one.conference ≤ one.local) rest →
      AllByRecursion (λ conference. locals conference.number ≤ conference.next_local) table →
      Drawn table (map effect.RecipientAdded rest) (state locals front) (λ locals. state locals all)
  recipients-again locals front [] same rise least less = record {
    counters = locals;
    within = less;
    replays = subst (λ rows. Replays [] (state locals front) (state locals rows)) (sym (append-nil front) ∙ same)
        (replays-none (state locals front));
  }
  recipients-again locals front (row ∷ rest) same rise least less =
      let drawn = set_at row.conference (row.local + 1) locals in
      let others = recipients-again drawn (front ++ row ∷ []) rest (append_assoc front (row ∷ []) rest ∙ same) rise.1
      (later locals row rest rise.0 least.1) (within locals front row rest same less) in
      record {
        counters = others.counters;
        within = others.within;
        replays = replays-append (effect.RecipientAdded row ∷ []) (map effect.RecipientAdded rest)
            (state locals front) (state drawn (front ++ row ∷ [])) (state others.counters all)
            (replays-one (effect.RecipientAdded row) (state locals front) (state drawn (front ++ row ∷ []))
            (fit locals front row rest same least.0) (makes locals front row rest same)) others.replays;
      }

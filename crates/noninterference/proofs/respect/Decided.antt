-- What a hidden call comes to is of hidden things alone.
use Rattle.std.proofs.Common.{◌≡◌, ℕ, ◌-◌, Bool, true, false, not, ◌==◌, ◌||◌, ◌&&◌, List, [], ◌∷◌, ◌++◌, Some}
use Rattle.std.proofs.Common.{None, Option, refl, sym, ap, ◌∙◌, true≢false, subst, inl, inr, nat_lt}
use Rattle.std.specs.Prelude.{map, is_some, reverse}
use Rattle.std.specs.List.{list_all}
use Rattle.std.proofs.lemmas.Bool.{and_from, and_parts, cond_both, or_cases}
use Rattle.std.proofs.lemmas.List.Folds.{list_all-append}
use Rattle.kom_types.specs.AuxItems.{items_from}
use Rattle.kom_types.specs.declared.aux_items.Adder.{Adder}
use Rattle.kom_types.specs.declared.aux_items.AuxChange.{AuxChange}
use Rattle.kom_types.specs.declared.aux_items.AuxRow.{AuxRow}
use Rattle.kom_types.specs.declared.aux_items.Object.TheVariants as object
use Rattle.kom_types.specs.declared.calls.Call.{Call}
use Rattle.kom_types.specs.declared.calls.Call.TheVariants as call
use Rattle.kom_types.specs.declared.conferences.ConferenceRow.{ConferenceRow}
use Rattle.kom_types.specs.declared.decisions.Decision.{Decision}
use Rattle.kom_types.specs.declared.effects.ConfField.{ConfField}
use Rattle.kom_types.specs.declared.effects.ConfField.TheVariants as field
use Rattle.kom_types.specs.declared.effects.Counter.TheVariants as counter
use Rattle.kom_types.specs.declared.effects.Effect.{Effect}
use Rattle.kom_types.specs.declared.effects.Effect.TheVariants as effect
use Rattle.kom_types.specs.declared.memberships.ReadRange.{ReadRange}
use Rattle.kom_types.specs.declared.replies.Reply.TheVariants as reply
use Rattle.kom_types.specs.declared.seats.Seat.{Seat}
use Rattle.kom_types.specs.declared.texts.NewText.{NewText}
use Rattle.kom_types.specs.declared.texts.TextRow.{TextRow}
use Rattle.kom_types.specs.calls.Numbers.{number_of_call}
use Rattle.read_ranges.specs.Changed.{size_of, all_marked, mark_unread, up_to}
use Rattle.kom_model.specs.declared.call_errors.Refused.{Refused}
use Rattle.kom_model.specs.declared.viewers.Viewer.{Viewer}
use Rattle.kom_model.specs.Db.{conference_of, conferences_of, recipient_of, texts_of, next_item_of}
use Rattle.kom_model.specs.Decide.{definition_of, decision_of, was_refused}
use Rattle.kom_model.specs.Kinds.{is_among}
use Rattle.kom_model.specs.Messages.{new_presentation, new_motd, sub_recipient}
use Rattle.kom_model.specs.Shown.{text_adder, conference_adder}
use Rattle.kom_model.specs.ToWhom.{sent_by, is_refused}
use Rattle.kom_model.specs.Whole.{IsWhole}
use Rattle.kom_model.specs.calls.AuxItems.{items_added, item_effects}
use Rattle.kom_model.specs.calls.Call.{Asked, answer, done_with, refuse}
use Rattle.kom_model.specs.calls.Conferences as Conferences
use Rattle.kom_model.specs.calls.Guards.{Guard, caller, seat_at, new_items_guard, with_items}
use Rattle.kom_model.specs.calls.Memberships.{reads_now, had_read}
use Rattle.kom_model.specs.calls.Sessions.{counts, static_of}
use Rattle.kom_model.specs.calls.Texts as Texts
use Rattle.kom_model.proofs.Deciding.{decision-meets}
use Rattle.kom_laws.specs.masking.Masks.{Mask}
use Rattle.kom_laws.specs.Erasing.{mask_of}
use Rattle.kom_laws.specs.Groups.{Group, IsInGroup, is_unseen, is_unread}
use Rattle.kom_laws.proofs.Told.{in-of}
use Rattle.kom_model.specs.declared.kinds.TheConstants.{ASKING_NUMBERS, HIDING_NUMBERS}
use Rattle.noninterference.specs.respect.Hidden.{is_of_hidden, text_of_call}
use Rattle.noninterference.specs.respect.Vanishing.{is_hidden_field, is_masked}
use Rattle.noninterference.proofs.respect.Untold.{AreUntold, row-untold, unseen-fails, unseen-untaken, unread-ungot}

-- a call changes what is hidden from a group alone, and no session, and tells nobody of the group anything
pub record Vanishes (group : Group) (asked : Asked) (call : Call) (decision : Decision) : Type 0 where
  pub masked : list_all (is_masked (mask_of group asked.db)) decision.effects ≡ true
  pub still : decision.changes ≡ []
  pub untold : (viewer : Viewer) → IsInGroup group viewer → is_refused decision.reply ≡ false →
      AreUntold viewer (sent_by asked decision call)

-- effects of one kind are masked
all-masked : {X : Type 0} (mask : Mask) (make : X → Effect) (rows : List X) →
    ((row : X) → is_masked mask (make row) ≡ true) → list_all (is_masked mask) (map make rows) ≡ true
all-masked mask make [] masked = refl
all-masked mask make (row ∷ rows) masked =
    and_from (is_masked mask (make row)) _ (masked row) (all-masked mask make rows masked)

-- the effects of a change of aux-items
items-masked : (mask : Mask) (on_text : Bool) (object : ℕ) (gone : List ℕ) (come : List AuxRow) →
    ((number : ℕ) → is_masked mask (effect.AuxGone on_text object number) ≡ true) →
    ((item : AuxRow) → is_masked mask (effect.AuxAdded on_text object item) ≡ true) →
    list_all (is_masked mask) (map (λ number. effect.AuxGone on_text object number) gone
    ++ items_added on_text object come) ≡ true
items-masked mask on_text object gone come gones comes =
    list_all-append (is_masked mask) (map (λ number. effect.AuxGone on_text object number) gone) _
    ∙ and_from _ _ (all-masked mask (λ number. effect.AuxGone on_text object number) gone gones)
    (all-masked mask (λ item. effect.AuxAdded on_text object item) come comes)

module _ (group : Group) (asked : Asked) (outside : not (is_among group.persons (caller asked).person) ≡ true) where
  abbrev mask : Mask
  mask = mask_of group asked.db

  refused-vanishes : (call : Call) (why : Refused) → Vanishes group asked call (refuse why)
  refused-vanishes call why = record {
    masked = refl;
    still = refl;
    untold = λ viewer in_group accepted. absurd (true≢false accepted);
  }

  -- a call that changes nothing and sends nothing
  plain-vanishes : (call : Call) (decision : Decision) → decision.effects ≡ [] → decision.changes ≡ [] →
      sent_by asked decision call ≡ [] → Vanishes group asked call decision
  plain-vanishes call decision none still unsent = record {
    masked = ap (list_all (is_masked mask)) none;
    still = still;
    untold = λ viewer in_group accepted. subst (AreUntold viewer) (sym unsent) tt;
  }

  -- one that sends nothing
  unsent-vanishes : (call : Call) (decision : Decision) → list_all (is_masked mask) decision.effects ≡ true →
      decision.changes ≡ [] → sent_by asked decision call ≡ [] → Vanishes group asked call decision
  unsent-vanishes call decision masked still unsent = record {
    masked = masked;
    still = still;
    untold = λ viewer in_group accepted. subst (AreUntold viewer) (sym unsent) tt;
  }

  one-masked : (what : Effect) → is_masked mask what ≡ true → list_all (is_masked mask) (what ∷ []) ≡ true
  one-masked what masked = and_from (is_masked mask what) true masked refl

  -- ---- queries
  text-answered : (start : ℕ) (call : Call) (found : Option TextRow) →
      ((decision : Decision) → sent_by asked decision call ≡ []) →
      Vanishes group asked call (Texts.nearest_text asked start found).rest
  text-answered start call None unsent =
      let decision : Decision = (Texts.nearest_text asked start None).rest in
      plain-vanishes call decision refl refl (unsent decision)
  text-answered start call (Some row) unsent =
      let decision : Decision = (Texts.nearest_text asked start (Some row)).rest in
      plain-vanishes call decision refl refl (unsent decision)

  conference-answered : (start : ℕ) (call : Call) (found : Option ConferenceRow) →
      ((decision : Decision) → sent_by asked decision call ≡ []) →
      Vanishes group asked call (Conferences.nearest asked start found).rest
  conference-answered start call None unsent =
      let decision : Decision = (Conferences.nearest asked start None).rest in
      plain-vanishes call decision refl refl (unsent decision)
  conference-answered start call (Some row) unsent =
      let decision : Decision = (Conferences.nearest asked start (Some row)).rest in
      plain-vanishes call decision refl refl (unsent decision)

  session-answered : (number : ℕ) (found : Option Seat) →
      Vanishes group asked (call.GetStaticSessionInfo number) (elim found [
        | None ↦ done_with [] []
        | Some seat ↦ answer (reply.StaticSession (static_of seat))
      ])
  session-answered number None = plain-vanishes (call.GetStaticSessionInfo number) _ refl refl refl
  session-answered number (Some seat) = plain-vanishes (call.GetStaticSessionInfo number) _ refl refl refl

  query-vanishes : (call : Call) → (was_refused call || is_among ASKING_NUMBERS (number_of_call call)) ≡ true →
      Vanishes group asked call (definition_of asked call).rest
  query-vanishes call.GetMarks is = plain-vanishes call.GetMarks _ refl refl refl
  query-vanishes (call.GetText text start end) is = unsent-vanishes (call.GetText text start end) _
      (one-masked (effect.Counted (caller asked).person counter.TextFetches 1) (and_from _ true outside refl)) refl refl
  query-vanishes call.GetTime is = plain-vanishes call.GetTime _ refl refl refl
  query-vanishes (call.GetPersonStat person) is = plain-vanishes (call.GetPersonStat person) _ refl refl refl
  query-vanishes (call.GetUnreadConfs person) is = plain-vanishes (call.GetUnreadConfs person) _ refl refl refl
  query-vanishes call.WhoAmI is = plain-vanishes call.WhoAmI _ refl refl refl
  query-vanishes (call.FindNextTextNo start) is = text-answered start (call.FindNextTextNo start)
      (Texts.first_read asked (λ row. nat_lt start row.number) (texts_of asked.db)) (λ decision. refl)
  query-vanishes (call.FindPreviousTextNo start) is = text-answered start (call.FindPreviousTextNo start)
      (Texts.first_read asked (λ row. nat_lt row.number start) (reverse (texts_of asked.db))) (λ decision. refl)
  query-vanishes (call.GetClientName session) is = plain-vanishes (call.GetClientName session) _ refl refl refl
  query-vanishes (call.GetClientVersion session) is = plain-vanishes (call.GetClientVersion session) _ refl refl refl
  query-vanishes call.GetVersionInfo is = plain-vanishes call.GetVersionInfo _ refl refl refl
  query-vanishes (call.LookupZName pattern persons conferences) is =
      plain-vanishes (call.LookupZName pattern persons conferences) _ refl refl refl
  query-vanishes (call.GetUconfStat conference) is = plain-vanishes (call.GetUconfStat conference) _ refl refl refl
  query-vanishes call.QueryAsync is = plain-vanishes call.QueryAsync _ refl refl refl
  query-vanishes (call.WhoIsOnDynamic visible invisible most) is =
      plain-vanishes (call.WhoIsOnDynamic visible invisible most) _ refl refl refl
  query-vanishes (call.GetStaticSessionInfo session) is =
      session-answered session (seat_at asked.seats session)
  query-vanishes call.GetCollateTable is = plain-vanishes call.GetCollateTable _ refl refl refl
  query-vanishes (call.GetTextStat text) is = plain-vanishes (call.GetTextStat text) _ refl refl refl
  query-vanishes (call.GetConfStat conference) is = plain-vanishes (call.GetConfStat conference) _ refl refl refl
  query-vanishes call.GetInfo is = plain-vanishes call.GetInfo _ refl refl refl
  query-vanishes call.QueryPredefinedAuxItems is = plain-vanishes call.QueryPredefinedAuxItems _ refl refl refl
  query-vanishes (call.GetMembers conference first count) is =
      plain-vanishes (call.GetMembers conference first count) _ refl refl refl
  query-vanishes (call.LocalToGlobal conference first count) is =
      plain-vanishes (call.LocalToGlobal conference first count) _ refl refl refl
  query-vanishes (call.MapCreatedTexts person first count) is =
      plain-vanishes (call.MapCreatedTexts person first count) _ refl refl refl
  query-vanishes (call.QueryReadTexts person conference want_ranges most) is =
      plain-vanishes (call.QueryReadTexts person conference want_ranges most) _ refl refl refl
  query-vanishes (call.GetMembership person first count want_ranges most) is =
      plain-vanishes (call.GetMembership person first count want_ranges most) _ refl refl refl
  query-vanishes call.FirstUnusedConfNo is = plain-vanishes call.FirstUnusedConfNo _ refl refl refl
  query-vanishes call.FirstUnusedTextNo is = plain-vanishes call.FirstUnusedTextNo _ refl refl refl
  query-vanishes (call.FindNextConfNo number) is = conference-answered number (call.FindNextConfNo number)
      (Conferences.first_seen asked (λ row. nat_lt number row.number) (conferences_of asked.db)) (λ decision. refl)
  query-vanishes (call.FindPreviousConfNo number) is = conference-answered number (call.FindPreviousConfNo number)
      (Conferences.first_seen asked (λ row. nat_lt row.number number) (reverse (conferences_of asked.db)))
      (λ decision. refl)
  query-vanishes (call.LocalToGlobalReverse conference ceiling count) is =
      plain-vanishes (call.LocalToGlobalReverse conference ceiling count) _ refl refl refl
  query-vanishes (call.Refused code status) is = plain-vanishes (call.Refused code status) _ refl refl refl
  query-vanishes other is = absurd (true≢false (sym is))

  -- ---- changes of what is hidden
  module _ (whole : IsWhole asked.db) where
    -- what is set of a conference, and what was read of it
    field-masked : (conference : ℕ) (what : ConfField) → is_unseen group asked.db conference ≡ true →
        is_hidden_field what ≡ true → list_all (is_masked mask) (effect.ConfField conference what ∷ []) ≡ true
    field-masked conference what unseen hidden = one-masked (effect.ConfField conference what)
        (and_from (is_unseen group asked.db conference) (is_hidden_field what) unseen hidden)

    read-masked : (conference : ℕ) (ranges : List ReadRange) → is_unseen group asked.db conference ≡ true →
        list_all (is_masked mask) (reads_now asked conference ranges ∷ []) ≡ true
    read-masked conference ranges unseen = one-masked (reads_now asked conference ranges) unseen

    counts-masked : (by : ℕ) →
        list_all (is_masked mask) (counts (caller asked).person counter.ReadTexts by) ≡ true
    counts-masked by = cond_both (by == 0) [] (effect.Counted (caller asked).person counter.ReadTexts by ∷ [])
        (λ effects. list_all (is_masked mask) effects ≡ true) (λ none. refl)
        (λ some. one-masked (effect.Counted (caller asked).person counter.ReadTexts by)
        (and_from _ true outside refl))

    -- the aux-items of a hidden text, or of a hidden conference, are changed
    abbrev Hides : Call → Decision → Type 0
    Hides call decision = (is_refused decision.reply || is_of_hidden group asked.db call) ≡ true →
        (is_some (text_of_call call) && not (is_refused decision.reply)) ≡ false → Vanishes group asked call decision

    text-changed : (change : AuxChange) (adder : Adder) (guard : Guard) → Hides (call.ModifyTextInfo change)
        (with_items guard (done_with (item_effects asked true adder change) []))
    text-changed change adder (Some why) hidden textless = refused-vanishes (call.ModifyTextInfo change) why
    text-changed change adder None hidden textless = record {
      masked = items-masked mask true change.object change.delete (items_from
          (next_item_of asked.db true change.object) adder.person asked.moment change.add)
          (λ number. hidden) (λ item. hidden);
      still = refl;
      untold = λ viewer in_group accepted. (
        rw (unread-ungot group asked.db viewer change.object in_group hidden) refl,
        tt,
      );
    }

    conference-changed : (change : AuxChange) (adder : Adder) (guard : Guard) →
        Hides (call.ModifyConfInfo change) (with_items guard (done_with (item_effects asked false adder change) []))
    conference-changed change adder (Some why) hidden textless = refused-vanishes (call.ModifyConfInfo change) why
    conference-changed change adder None hidden textless = unsent-vanishes (call.ModifyConfInfo change) _
        (items-masked mask false change.object change.delete (items_from
        (next_item_of asked.db false change.object) adder.person asked.moment change.add)
        (λ number. hidden) (λ item. hidden)) refl refl

    text-refused : (given : NewText) (guard : Guard) (made : Decision) → is_refused made.reply ≡ false →
        Hides (call.CreateText given) (with_items guard made)
    text-refused given (Some why) made accepted hidden textless = refused-vanishes (call.CreateText given) why
    text-refused given None made accepted hidden textless =
        absurd (true≢false (sym (ap not accepted) ∙ textless))

    change-vanishes : (call : Call) → is_among HIDING_NUMBERS (number_of_call call) ≡ true →
        Hides call (definition_of asked call).rest
    change-vanishes (call.SetPresentation conference text) is hidden textless = record {
      masked = field-masked conference (field.Presentation text) hidden refl;
      still = refl;
      untold = λ viewer in_group accepted. row-untold viewer
          (λ row. new_presentation asked.db conference row.presentation text) (conference_of asked.db conference)
          (λ row. rw (unseen-fails group asked.db viewer conference (in-of group viewer in_group) hidden) refl);
    }
    change-vanishes (call.SetEtcMotd conference text) is hidden textless = record {
      masked = field-masked conference (field.Motd text) hidden refl;
      still = refl;
      untold = λ viewer in_group accepted. row-untold viewer
          (λ row. new_motd asked.db conference row.motd text) (conference_of asked.db conference)
          (λ row. rw (unseen-fails group asked.db viewer conference (in-of group viewer in_group) hidden) refl);
    }
    change-vanishes (call.MarkAsRead conference locals) is hidden textless =
        let ranges : List ReadRange = all_marked locals (had_read asked conference) in
        let more : ℕ = size_of ranges - size_of (had_read asked conference) in
        unsent-vanishes (call.MarkAsRead conference locals) _
        (and_from (is_unseen group asked.db conference) _ hidden (counts-masked more)) refl refl
    change-vanishes (call.AddRecipient text conference tag) is hidden textless =
        let unseen : is_unseen group asked.db conference ≡ true = (and_parts _ _ hidden).1 in record {
          masked = and_from (is_unread group asked.db text && is_unseen group asked.db conference) _ hidden
              (field-masked conference (field.LastWritten asked.moment) unseen refl);
          still = refl;
          untold = λ viewer in_group accepted. (
            rw (unseen-untaken group asked.db viewer conference whole in_group unseen) refl,
            tt,
          );
        }
    change-vanishes (call.SubRecipient text conference) is hidden textless =
        let unseen : is_unseen group asked.db conference ≡ true = (and_parts _ _ hidden).1 in record {
          masked = one-masked (effect.RecipientGone text conference) hidden;
          still = refl;
          untold = λ viewer in_group accepted. row-untold viewer
              (λ row. sub_recipient asked.db text conference row.tag) (recipient_of asked.db text conference)
              (λ row. rw (unseen-untaken group asked.db viewer conference whole in_group unseen) refl);
        }
    change-vanishes (call.SetLastRead conference local) is hidden textless =
        unsent-vanishes (call.SetLastRead conference local) _ (read-masked conference (up_to local) hidden) refl refl
    change-vanishes (call.CreateText given) is hidden textless = text-refused given
        (new_items_guard object.Text (caller asked).person given.aux_items) _ refl hidden textless
    change-vanishes (call.ModifyTextInfo change) is hidden textless = text-changed change
        (text_adder asked.db (caller asked) change.object) _ hidden textless
    change-vanishes (call.ModifyConfInfo change) is hidden textless = conference-changed change
        (conference_adder asked.db (caller asked) change.object) _ hidden textless
    change-vanishes (call.MarkAsUnread conference local) is hidden textless =
        unsent-vanishes (call.MarkAsUnread conference local) _
        (read-masked conference (mark_unread local (had_read asked conference)) hidden) refl refl
    change-vanishes (call.SetReadRanges conference ranges) is hidden textless =
        unsent-vanishes (call.SetReadRanges conference ranges) _ (read-masked conference ranges hidden) refl refl
    change-vanishes other is hidden textless = absurd (true≢false (sym is))

    -- ---- so do all calls that are hidden and make no text
    pub hidden-decided : (call : Call) → (was_refused call || is_among ASKING_NUMBERS (number_of_call call)
        || is_among HIDING_NUMBERS (number_of_call call)
        && (is_refused (decision_of asked call).reply || is_of_hidden group asked.db call)) ≡ true →
        (is_some (text_of_call call) && not (is_refused (decision_of asked call).reply)) ≡ false →
        Vanishes group asked call (decision_of asked call)
    hidden-decided call hidden textless =
        elim (or_cases (was_refused call || is_among ASKING_NUMBERS (number_of_call call)) _ hidden) [
          | inl query ↦ decision-meets (Vanishes group asked call) (refused-vanishes call) asked call
              (λ early. query-vanishes call query)
          | inr change ↦
              let parts = and_parts (is_among HIDING_NUMBERS (number_of_call call)) _ change in
              decision-meets (Hides call) (λ why hidden textless. refused-vanishes call why) asked call
              (λ early. change-vanishes call parts.0) parts.1 textless
        ]

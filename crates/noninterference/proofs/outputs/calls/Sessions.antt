-- The calls about sessions come to the same over two sets of stored rows that are alike to the caller.
use Rattle.std.proofs.Common.{◌≡◌, ℕ, Bool, false, not, ◌==◌, ◌||◌, ◌&&◌, List, refl, ap, ◌∙◌}
use Rattle.std.specs.List.{filter}
use Rattle.kom_types.specs.declared.errors.TheConstants as error
use Rattle.kom_types.specs.declared.replies.Reply.TheVariants as reply
use Rattle.kom_types.specs.declared.seats.Seat.{Seat}
use Rattle.kom_types.specs.declared.sessions.DynamicSession.{DynamicSession}
use Rattle.kom_model.specs.declared.viewers.Viewer.{Viewer}
use Rattle.kom_model.specs.Db.{Db}
use Rattle.kom_model.specs.Messages.{send_message, is_member_with}
use Rattle.kom_model.specs.Rights.{supervises}
use Rattle.kom_model.specs.Sending.{delivery_to, delivered_to}
use Rattle.kom_model.specs.calls.Call.{Asked, answer, seat_of}
use Rattle.kom_model.specs.calls.Guards.{caller, seat_at, unless}
use Rattle.kom_model.specs.calls.Sessions.{logout, enable, login, send_message_to, disconnect, who_is_on_dynamic}
use Rattle.kom_model.specs.calls.Sessions.{dynamic_of, is_asked_for, session_meant, may_disconnect}
use Rattle.kom_laws.specs.Erasing.{erased_db, mask_of}
use Rattle.kom_laws.specs.Groups.{Group}
use Rattle.kom_laws.proofs.Rights.{sees-masked}
use Rattle.kom_laws.proofs.masking.Rows.{told}
use Rattle.noninterference.specs.outputs.Answers.{ComesToSame, erased_asked}
use Rattle.noninterference.proofs.outputs.Alike.{IsAlikeTo, over, caller-same, person-same, password-same}
use Rattle.noninterference.proofs.outputs.Alike.{viewer-same}
use Rattle.noninterference.proofs.outputs.Masked.{public-masked}
use Rattle.noninterference.proofs.outputs.Passing.{itself, passing, ended, by-guard}
use Rattle.noninterference.proofs.outputs.Rows.{told-tells, map-tells, filter_map-tells}

module _ (asked : Asked) (one : Db) (alike : IsAlikeTo (caller asked) one asked.db) where
  abbrev part : Asked
  part = over one asked

  same : caller part ≡ caller asked
  same = caller-same asked one alike

  pub logout-same : ComesToSame (logout part) (logout asked)
  logout-same = rw same (itself _)

  pub enable-same : (level : ℕ) → ComesToSame (enable part level) (enable asked level)
  enable-same level = rw same (itself _)

  pub login-same : (person : ℕ) (password : List ℕ) (invisible : Bool) →
      ComesToSame (login part person password invisible) (login asked person password invisible)
  login-same person password invisible = simp (same, by-guard)
      (passing (person-same (caller asked) one asked.db alike person) (λ there.
      passing (password-same (caller asked) one asked.db alike person password) (λ agreed. itself _)))

  -- a message comes to the same sessions
  delivered-same : (recipient : ℕ) (text : List ℕ) (seat : Seat) →
      delivery_to one (send_message one recipient (caller asked).person text) seat
      ≡ delivery_to asked.db (send_message asked.db recipient (caller asked).person text) seat
  delivered-same recipient text seat = rw (alike.public.kind seat.person recipient, is_member_with) refl

  sent-same : (recipient : ℕ) (text : List ℕ) →
      delivered_to one asked.seats (send_message one recipient (caller asked).person text)
      ≡ delivered_to asked.db asked.seats (send_message asked.db recipient (caller asked).person text)
  sent-same recipient text = filter_map-tells
      (delivery_to one (send_message one recipient (caller asked).person text))
      (delivery_to asked.db (send_message asked.db recipient (caller asked).person text))
      (delivered-same recipient text) asked.seats

  pub send_message-same : (recipient : ℕ) (text : List ℕ) →
      ComesToSame (send_message_to part recipient text) (send_message_to asked recipient text)
  send_message-same recipient text =
      rw same (rw (alike.rights.sees recipient) (rw (sent-same recipient text) (itself _)))

  supervised-same : (session : ℕ) →
      told false (λ (seat : Seat). not (seat.person == 0) && supervises one (caller asked).person seat.person)
      (seat_at asked.seats session)
      ≡ told false (λ (seat : Seat). not (seat.person == 0) && supervises asked.db (caller asked).person seat.person)
      (seat_at asked.seats session)
  supervised-same session = told-tells false _ _
      (λ (seat : Seat). ap (λ b. not (seat.person == 0) && b)
      (alike.rights.supervises (caller asked).person seat.person))
      (seat_at asked.seats session)

  may_disconnect-same : (session : ℕ) → may_disconnect part session ≡ may_disconnect asked session
  may_disconnect-same session =
      ap (λ (viewer : Viewer). session == asked.session || viewer.strong || told false
      (λ (seat : Seat). not (seat.person == 0) && supervises one viewer.person seat.person)
      (seat_at asked.seats session)) same
      ∙ ap (λ b. session == asked.session || (caller asked).strong || b) (supervised-same session)

  pub disconnect-same : (number : ℕ) → ComesToSame (disconnect part number) (disconnect asked number)
  disconnect-same number = simp by-guard (passing refl (λ there.
      passing (ap (λ may. unless may error.PERMISSION_DENIED (session_meant asked number))
      (may_disconnect-same (session_meant asked number))) (λ may. ended refl)))

  dynamic-same : (seat : Seat) → dynamic_of part seat ≡ dynamic_of asked seat
  dynamic-same seat = rw same (rw (alike.rights.sees seat.working) refl)

  pub who_is_on-same : (visible invisible : Bool) (most : ℕ) →
      ComesToSame (who_is_on_dynamic part visible invisible most) (who_is_on_dynamic asked visible invisible most)
  who_is_on-same visible invisible most = ended
      (ap (λ (sessions : List DynamicSession). answer (reply.DynamicSessions sessions))
      (map-tells (dynamic_of part) (dynamic_of asked) dynamic-same
      (filter (is_asked_for asked.moment visible invisible most) asked.seats)))

-- the calls that hang on nothing that is ever hidden come to the same without it, whoever makes them
module _ (group : Group) (asked : Asked) where
  abbrev without : Asked
  without = erased_asked group asked

  pub caller-erased : caller without ≡ caller asked
  caller-erased = viewer-same (erased_db group asked.db) asked.db (public-masked (mask_of group asked.db) asked.db)
      (seat_of asked)

  delivered-erased : (recipient : ℕ) (text : List ℕ) (seat : Seat) →
      delivery_to without.db (send_message without.db recipient (caller asked).person text) seat
      ≡ delivery_to asked.db (send_message asked.db recipient (caller asked).person text) seat
  delivered-erased recipient text seat =
      rw ((public-masked (mask_of group asked.db) asked.db).kind seat.person recipient, is_member_with) refl

  sent-erased : (recipient : ℕ) (text : List ℕ) →
      delivered_to without.db asked.seats (send_message without.db recipient (caller asked).person text)
      ≡ delivered_to asked.db asked.seats (send_message asked.db recipient (caller asked).person text)
  sent-erased recipient text = filter_map-tells
      (delivery_to without.db (send_message without.db recipient (caller asked).person text))
      (delivery_to asked.db (send_message asked.db recipient (caller asked).person text))
      (delivered-erased recipient text) asked.seats

  pub message-erased : (recipient : ℕ) (text : List ℕ) →
      send_message_to without recipient text ≡ send_message_to asked recipient text
  message-erased recipient text = rw caller-erased
      (rw (sees-masked (mask_of group asked.db) asked.db (caller asked) recipient)
      (rw (sent-erased recipient text) refl))

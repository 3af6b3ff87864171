-- All calls of a session, one part after the other.
use Rattle.std.proofs.Common.{◌≡◌, ◌≢◌, ℕ, ◌-◌, true, false, is_some, inl, inr, List, [], ◌∷◌, ◌++◌}
use Rattle.std.proofs.Common.{map, length, Option, Some, None, refl, sym, ap, subst, ◌∙◌, append-nil}
use Rattle.std.proofs.Common.{eq-eqb, flat_map}
use Rattle.kom_types.specs.declared.calls.Call.{Call}
use Rattle.kom_types.specs.declared.calls.Call.TheVariants as call
use Rattle.kom_types.specs.declared.errors.TheConstants.{OUT_OF_MEMORY}
use Rattle.kom_types.specs.declared.replies.Reply.{Reply}
use Rattle.kom_types.specs.declared.replies.Reply.TheVariants as reply
use Rattle.kom_types.specs.declared.answers.NotMade.{NotMade}
use Rattle.kom_sweep.specs.declared.ends.SweepEnd.TheVariants as end
use Rattle.kom_sweep.specs.Told.{Told, tell, only_asks, IsAbout}
use Rattle.kom_sweep.specs.Replies.{refusal_in, is_short, has_code}
use Rattle.kom_sweep.specs.Acting.{Seen, Goes, Stops}
use Rattle.kom_sweep.specs.Due.{Walk, Room, Look}
use Rattle.kom_sweep.specs.Walks.{told_at_room, told_rooms, told_texts, told_deletions, IsRoomWalk, IsTextWalk, due_in}
use Rattle.kom_sweep.specs.Sweeps.{told_entry, IsRefusal, Findings, IsFound, told_findings, swept_in, IsSwept}
use Rattle.kom_sweep.specs.Sweeps.{HasAsked, IsBrokenOff, LogsIn, Works}
use Rattle.kom_sweep.proofs.Going.{goes_on, stops_on}
use Rattle.kom_sweep.proofs.Walking.{none_on, none_rooms, breaks_on}

-- ---- the login

pub refusal_reply : (answer : Option Reply) (code status : ℕ) → refusal_in answer ≡ Some (code, status) →
    answer ≡ Some (reply.Refused code status)
refusal_reply (Some (reply.Refused told with_status)) code status e =
    let pair : (told, with_status) ≡ (code, status) = cc e in
    ap (λ (p : ℕ × ℕ). Some (reply.Refused p.0 p.1)) pair
refusal_reply _ code status e = cc

not_short : (answer : Option Reply) (code status : ℕ) → refusal_in answer ≡ Some (code, status) →
    is_short answer ≡ false → code ≢ OUT_OF_MEMORY
not_short answer code status e long same =
    let short : is_short answer ≡ true = ap (has_code OUT_OF_MEMORY) e ∙ eq-eqb code OUT_OF_MEMORY same in
    cc

pub logs_in_not : (person : ℕ) (password : List ℕ) (answer : Option Reply) (code status : ℕ) →
    refusal_in answer ≡ Some (code, status) → is_short answer ≡ false →
    IsRefusal person password (tell (call.Login person password false) answer ∷ []) code status
logs_in_not person password answer code status e long = (
  not_short answer code status e long,
  inl (ap (λ answer. tell (call.Login person password false) answer ∷ []) (refusal_reply answer code status e)),
)

pub logs_in : (person : ℕ) (password : List ℕ) (login rights stable : Option Reply) (refusal : Option (ℕ × ℕ)) →
    refusal_in login ≡ None → is_short stable ≡ false → refusal ≡ refusal_in stable →
    LogsIn person password (told_entry person password (record { login = login; rights = rights; stable = stable }))
    refusal
logs_in person password login rights stable None e long is =
    (record { login = login; rights = rights; stable = stable }, refl, ap is_some e, ap is_some (sym is))
logs_in person password login rights stable (Some (code, status)) e long is = (
  not_short stable code status (sym is) long,
  inr (
    record { login = login; rights = rights; stable = stable },
    refl,
    ap is_some e,
    refusal_reply stable code status (sym is),
  ),
)

-- ---- what is found

-- it is broken off while texts are deleted
pub broken_deleting : (moment person : ℕ) (password : List ℕ) (found : Findings) (gone : List (ℕ × Option Reply))
    (rest : List ℕ) → IsFound found → map (λ one. one.0) gone ++ rest ≡ due_in moment found.rooms found.texts.steps →
    IsBrokenOff moment person password (told_findings person password found ++ told_deletions gone)
broken_deleting moment person password found gone rest is_found are = inr (record {
  found = found;
  is_found = is_found;
  gone = gone;
  rest = rest;
  after = [];
  are = sym (append-nil (told_findings person password found ++ told_deletions gone));
  are_due = are;
  logout = inl refl;
})

-- or once all are
pub broken_after : (moment person : ℕ) (password : List ℕ) (found : Findings) (gone : List (ℕ × Option Reply))
    (after : List Told) → IsFound found → map (λ one. one.0) gone ≡ due_in moment found.rooms found.texts.steps →
    IsAbout call.Logout after →
    IsBrokenOff moment person password (told_findings person password found ++ told_deletions gone ++ after)
broken_after moment person password found gone after is_found are about = inr (record {
  found = found;
  is_found = is_found;
  gone = gone;
  rest = [];
  after = after;
  are = refl;
  are_due = append-nil (map (λ (one : ℕ × Option Reply). one.0) gone) ∙ are;
  logout = about;
})

-- ---- the whole

-- what was told and found before the deletions
abbrev pub FindsDue : ℕ → ℕ → ℕ → List ℕ → Seen → Seen → ℕ → List ℕ → Type 0
FindsDue session moment person password x y count texts_due = (found : Findings) × IsFound found
    × Goes session x y (told_findings person password found) × (count ≡ length found.texts.steps)
    × (texts_due ≡ due_in moment found.rooms found.texts.steps)

pub finds : (session moment person : ℕ) (password : List ℕ) (calls : List Told) (rooms : Walk Room) (texts : Walk Look)
    (count : ℕ) (texts_due : List ℕ) (x m n y : Seen) → Goes session x m calls → LogsIn person password calls None →
    IsRoomWalk rooms → Goes session m n (told_rooms rooms) → IsTextWalk texts → Goes session n y (told_texts texts) →
    count ≡ length texts.steps → texts_due ≡ due_in moment rooms texts.steps →
    FindsDue session moment person password x y count texts_due
finds session moment person password calls rooms texts count texts_due x m n y goes (entry, is, login, stable) is_rooms
    goes_rooms is_texts goes_texts counted are = (
      record { entry = entry; rooms = rooms; texts = texts },
      record { login = login; stable = stable; rooms = is_rooms; texts = is_texts },
      goes_on x n y (goes_on x m n (subst (λ (calls : List Told). Goes session x m calls) is goes) goes_rooms)
          goes_texts,
      counted,
      are,
    )

pub work_done : (session moment person : ℕ) (password : List ℕ) (count swept kept next : ℕ) (texts_due : List ℕ)
    (gone : List (ℕ × Option Reply)) (logout : Option Reply) (x m n y : Seen) →
    FindsDue session moment person password x m count texts_due → map (λ one. one.0) gone ≡ texts_due →
    swept ≡ swept_in gone → Goes session m n (told_deletions gone) → Goes session n y (tell call.Logout logout ∷ []) →
    kept ≡ count - swept →
    ((calls : List Told) × Goes session x y calls × IsSwept moment person password calls swept kept)
work_done session moment person password count swept kept next texts_due gone logout x m n y
    (found, is_found, goes, counted, are) names swept_is goes_gone goes_out kept_is =
    let all = goes_on x n y (goes_on x m n goes goes_gone) goes_out in (
      told_findings person password found ++ told_deletions gone ++ tell call.Logout logout ∷ [],
      all,
      record {
        found = found;
        is_found = is_found;
        gone = gone;
        logout = logout;
        are = refl;
        are_due = names ∙ are;
        swept = swept_is;
        kept = kept_is ∙ ap (λ count. count - swept) counted;
        sound = all.sound;
      },
    )

-- ---- what breaks off

-- before anything is deleted
pub broken_first : {faults : List NotMade} (moment person session : ℕ) (password : List ℕ) (x y : Seen) →
    ((more : List Told) × HasAsked person password more × Stops session x y more faults) →
    ((all : List Told) × IsBrokenOff moment person password all × Stops session x y all faults)
broken_first moment person session password x y (more, asked, stops) = (more, inl asked, stops)

-- while texts are deleted
pub broken_then : {faults : List NotMade} (session moment person : ℕ) (password : List ℕ) (count : ℕ)
    (texts_due : List ℕ) (x m y : Seen) → FindsDue session moment person password x m count texts_due →
    ((gone : List (ℕ × Option Reply)) × (rest : List ℕ) × (map (λ one. one.0) gone ++ rest ≡ texts_due)
    × Stops session m y (told_deletions gone) faults) →
    ((all : List Told) × IsBrokenOff moment person password all × Stops session x y all faults)
broken_then session moment person password count texts_due x m y (found, is_found, goes, counted, are)
    (gone, rest, names, stops) = (
      told_findings person password found ++ told_deletions gone,
      broken_deleting moment person password found gone rest is_found (names ∙ are),
      stops_on x m y goes stops,
    )

-- when all are
pub broken_last : {faults : List NotMade} (session moment person : ℕ) (password : List ℕ) (count : ℕ)
    (texts_due : List ℕ)
    (gone : List (ℕ × Option Reply)) (x m n y : Seen) → FindsDue session moment person password x m count texts_due →
    map (λ one. one.0) gone ≡ texts_due → Goes session m n (told_deletions gone) →
    ((calls : List Told) × IsAbout call.Logout calls × Stops session n y calls faults) →
    ((all : List Told) × IsBrokenOff moment person password all × Stops session x y all faults)
broken_last session moment person password count texts_due gone x m n y (found, is_found, goes, counted, are) names
    goes_gone (after, about, stops) = (
      told_findings person password found ++ told_deletions gone ++ after,
      broken_after moment person password found gone after is_found (names ∙ are) about,
      stops_on x n y (goes_on x m n goes goes_gone) stops,
    )

-- ---- the parts of a login

pub log_not : (session person : ℕ) (password : List ℕ) (made : Call) (answer : Option Reply) (refusal : ℕ × ℕ)
    (x y : Seen) → made ≡ call.Login person password false → Goes session x y (tell made answer ∷ []) →
    refusal_in answer ≡ Some refusal →
    ((calls : List Told) × Goes session x y calls × LogsIn person password calls (Some refusal))
log_not session person password made answer (code, status) x y is goes e = (
  tell made answer ∷ [],
  goes,
  subst (λ (made : Call). IsRefusal person password (tell made answer ∷ []) code status) (sym is)
      (logs_in_not person password answer code status e goes.sound.0),
)

pub log_all : (session person : ℕ) (password : List ℕ) (made : Call) (login rights stable : Option Reply)
    (refusal : Option (ℕ × ℕ)) (x m n y : Seen) → made ≡ call.Login person password false →
    Goes session x m (tell made login ∷ []) → refusal_in login ≡ None →
    Goes session m n (tell (call.Enable 255) rights ∷ []) → Goes session n y (tell call.SyncKom stable ∷ []) →
    refusal ≡ refusal_in stable →
    ((calls : List Told) × Goes session x y calls × LogsIn person password calls refusal)
log_all session person password made login rights stable refusal x m n y is goes e then_goes goes_last same = (
  told_entry person password (record { login = login; rights = rights; stable = stable }),
  goes_on x n y
      (goes_on x m n (subst (λ (made : Call). Goes session x m (tell made login ∷ [])) is goes) then_goes) goes_last,
  logs_in person password login rights stable refusal e goes_last.sound.0 same,
)

-- it breaks off after the first call
pub log_breaks : {faults : List NotMade} (session person : ℕ) (password : List ℕ) (made : Call) (login : Option Reply)
    (x m y : Seen) → made ≡ call.Login person password false → Goes session x m (tell made login ∷ []) →
    ((calls : List Told) × (only_asks calls ≡ true) × Stops session m y calls faults) →
    ((calls : List Told) × HasAsked person password calls × Stops session x y calls faults)
log_breaks session person password made login x m y is goes (more, asks_more, stops) = (
  tell made login ∷ more,
  inr (login, more, ap (λ made. tell made login ∷ more) is, asks_more),
  stops_on x m y goes stops,
)

-- or in it
pub log_cut : {faults : List NotMade} (session person : ℕ) (password : List ℕ) (made : Call) (x y : Seen) →
    made ≡ call.Login person password false →
    ((calls : List Told) × IsAbout made calls × Stops session x y calls faults) →
    ((calls : List Told) × HasAsked person password calls × Stops session x y calls faults)
log_cut session person password made x y is (calls, inl none, stops) = (calls, inl none, stops)
log_cut session person password made x y is (calls, inr (answer, are), stops) =
    (calls, inr (answer, [], are ∙ ap (λ made. tell made answer ∷ []) is, refl), stops)

-- ---- what work returns

pub works_refused : (session moment person : ℕ) (password : List ℕ) (code status next : ℕ) (x y : Seen) →
    ((calls : List Told) × Goes session x y calls × LogsIn person password calls (Some (code, status))) →
    ((calls : List Told) × Goes session x y calls × Works moment person password calls (end.Refused code status))
works_refused session moment person password code status next x y (calls, goes, refusal) = (calls, goes, refusal)

login_asked : (person : ℕ) (password : List ℕ) (calls more : List Told) → LogsIn person password calls None →
    only_asks more ≡ true → HasAsked person password (calls ++ more)
login_asked person password calls more (entry, is, login, stable) asks_more = inr (
  entry.login,
  tell (call.Enable 255) entry.rights ∷ tell call.SyncKom entry.stable ∷ more,
  ap (λ calls. calls ++ more) is,
  asks_more,
)

-- after the login, and after the conferences
pub broken_names : {faults : List NotMade} (session moment person : ℕ) (password : List ℕ) (x m y : Seen) →
    ((calls : List Told) × Goes session x m calls × LogsIn person password calls None) →
    ((more : List Told) × (only_asks more ≡ true) × Stops session m y more faults) →
    ((all : List Told) × IsBrokenOff moment person password all × Stops session x y all faults)
broken_names session moment person password x m y (calls, goes, login) (more, asks_more, stops) =
    (calls ++ more, inl (login_asked person password calls more login asks_more), stops_on x m y goes stops)

pub broken_texts : {faults : List NotMade} (session moment person : ℕ) (password : List ℕ) (x m n y : Seen) →
    ((calls : List Told) × Goes session x m calls × LogsIn person password calls None) → (rooms : Walk Room) →
    Goes session m n (told_rooms rooms) →
    ((more : List Told) × (only_asks more ≡ true) × Stops session n y more faults) →
    ((all : List Told) × IsBrokenOff moment person password all × Stops session x y all faults)
broken_texts session moment person password x m n y calls rooms goes_rooms more =
    broken_names session moment person password x m y calls
    (breaks_on m n y goes_rooms
    (none_on (flat_map told_at_room rooms.steps) (tell (call.FindNextConfNo rooms.at) rooms.last ∷ [])
    (none_rooms rooms.steps) refl) more)

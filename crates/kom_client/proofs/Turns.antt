-- What key lines come to, one after the other.
use Rattle.std.proofs.Common.{◌≡◌, ℕ, ◌+◌, ◌<◌, ◌≤◌, ◌==◌, inl, inr, Bool, true, false, List, [], ◌∷◌, ◌++◌}
use Rattle.std.proofs.Common.{length}
use Rattle.std.proofs.Common.{Option, Some, None, Result, Ok, Err, refl, sym, ap, subst, ◌∙◌, append_assoc}
use Rattle.std.proofs.Common.{take, drop, get_or}
use Rattle.std.proofs.lemmas.Bool.{le-ltb}
use Rattle.std.proofs.lemmas.List.{take_more, take_all, take-append-drop}
use Rattle.std.specs.Prelude.{codes, OnOk}
use Rattle.kom_links.specs.Outside.{LinkView}
use Rattle.kom_types.specs.Stream.{Line, Fault}
use Rattle.kom_client.specs.Keys.{Request, forms, request_of, request_by, request_line, lines_after}
use Rattle.kom_client.specs.Keys.{longest_key_line}
use Rattle.kom_client.specs.Client.{Course, Turn, answers, await, before, ends, turn_after}
use Rattle.kom_client.specs.declared.talk_end.TalkEnd.{TalkEnd}
use Rattle.kom_client.specs.declared.talk_end.TalkEnd.TheVariants as end
use Rattle.kom_client.specs.Talking.{Rest, World, Typing, Passes, Stops, Does, Types, Holds, Puts, Sends, say}
use Rattle.kom_client.specs.Talking.{await_reply, ask_then}
use Rattle.kom_client.proofs.Steps.{passes_none, passes_same, passes_trans, passes_stops, passes_at, stops_at}
use Rattle.kom_client.proofs.Steps.{memory_stops}
use Rattle.kom_client.proofs.Steps.{sent_passes, unsent_stops}

-- ---- one key line

abbrev answers_by : Turn → List (List ℕ) → List Line → Option Fault → Option Request → Course
answers_by turn texts lines fault None = before [] (codes "?\n") (answers turn texts lines fault)
answers_by turn texts lines fault (Some request) =
    let awaited = await turn.reference lines fault in
    before (request_line turn.reference turn.person request) awaited.shown (elim awaited.end [
      | None ↦ answers (turn_after request turn) texts awaited.left fault
      | Some ending ↦ ends ending
    ])

pub asked_same : (turn turn' : Turn) (text : List ℕ) (request : Request) → request_of text ≡ Some request
    → turn' ≡ turn_after request turn → (texts : List (List ℕ)) (lines : List Line) (fault : Option Fault)
    → answers turn (text ∷ texts) lines fault ≡ ask_then turn request (answers turn' texts) lines fault
asked_same turn turn' text request e e' texts lines fault =
    ap (answers_by turn texts lines fault) e
    ∙ ap (λ (after : Turn). ask_then turn request (answers after texts) lines fault) (sym e')

pub unasked_same : (turn : Turn) (text : List ℕ) → request_of text ≡ None
    → (texts : List (List ℕ)) (lines : List Line) (fault : Option Fault)
    → answers turn (text ∷ texts) lines fault ≡ say [] (codes "?\n") (answers turn texts) lines fault
unasked_same turn text e texts lines fault = ap (answers_by turn texts lines fault) e

-- a key line asked for something, or for nothing
pub line_asks : (done : Result (Unit {0}) TalkEnd) (turn turn' : Turn) (text : List ℕ) (request : Request)
    (old new : World)
    → Some request ≡ request_of text → OnOk done (turn' ≡ turn_after request turn) →
    Does done (ask_then turn request) (λ (next : Rest). next) old new →
    Does done (λ (more : List (List ℕ)). answers turn (text ∷ more))
    (λ (more : List (List ℕ)). answers turn' more) old new
line_asks (Ok done) turn turn' text request old new e e' p =
    passes_trans (passes_same old (asked_same turn turn' text request (sym e) e'))
    (passes_at (λ (more : List (List ℕ)). answers turn' more) p)
line_asks (Err ending) turn turn' text request old new e e' p =
    passes_stops (passes_same old (asked_same turn (turn_after request turn) text request (sym e) refl))
    (stops_at (λ (more : List (List ℕ)). answers (turn_after request turn) more) p)

pub line_asks_not : (done : Result (Unit {0}) TalkEnd) (turn : Turn) (text : List ℕ) (old new : World)
    → None ≡ request_of text → Does done (say [] (codes "?\n")) (λ (next : Rest). next) old new →
    Does done (λ (more : List (List ℕ)). answers turn (text ∷ more))
    (λ (more : List (List ℕ)). answers turn more) old new
line_asks_not (Ok done) turn text old new e p =
    passes_trans (passes_same old (unasked_same turn text (sym e)))
    (passes_at (λ (more : List (List ℕ)). answers turn more) p)
line_asks_not (Err ending) turn text old new e p =
    passes_stops (passes_same old (unasked_same turn text (sym e)))
    (stops_at (λ (more : List (List ℕ)). answers turn more) p)

-- ---- a request

-- the request was not sent whole
pub request_unsent : {new : LinkView} (turn : Turn) (request : Request) (ending : TalkEnd) (bytes : List ℕ) (at : World)
    → bytes ≡ request_line turn.reference turn.person request → Sends (Err ending) at.link bytes new
    → Stops (ask_then turn request) ending at (record at { link = new })
request_unsent {new} turn request ending bytes at e (is, rose, part, (more, whole), puts) =
    subst (λ (ending : TalkEnd). Stops (ask_then turn request) ending at (record at { link = new })) (sym is)
    (stops_at (await_reply turn.reference) (unsent_stops more at (whole ∙ e) rose puts))

-- it was
pub request_sent : {new : LinkView} (turn : Turn) (request : Request) (bytes : List ℕ) (at : World)
    → bytes ≡ request_line turn.reference turn.person request → Puts at.link bytes new
    → Passes (ask_then turn request) (await_reply turn.reference) at (record at { link = new })
request_sent {new} turn request bytes at e p =
    passes_at (await_reply turn.reference)
    (sent_passes at refl
    (subst (λ (bytes : List ℕ). Puts at.link bytes new) e p))

-- ---- a line that has begun

too_long : (text : List ℕ) → longest_key_line ≤ length text → request_of text ≡ None
too_long text long =
    ap (λ (b : Bool). elim b as (λ _. Option Request) [ true ↦ request_by forms text | false ↦ None ])
    (le-ltb (length text) longest_key_line long)

held_same : (held text : List ℕ) → Holds held text → request_of held ≡ request_of text
held_same held text (inl e) = ap request_of e
held_same held text (inr (one, other)) = too_long held one ∙ sym (too_long text other)

pub held_answers : (held text : List ℕ) → Holds held text → (turn : Turn) (texts : List (List ℕ)) (lines : List Line)
    (fault : Option Fault) → answers turn (text ∷ texts) lines fault ≡ answers turn (held ∷ texts) lines fault
held_answers held text h turn texts lines fault =
    ap (answers_by turn texts lines fault) (sym (held_same held text h))

-- ---- one byte

abbrev lines_by : List ℕ → ℕ → List ℕ → Bool → List (List ℕ)
lines_by text byte bytes true = text ∷ lines_after [] bytes
lines_by text byte bytes false = lines_after (text ++ byte ∷ []) bytes

pub feed_lines : (text : List ℕ) (byte : ℕ) (bytes : List ℕ) → (byte == 10) ≡ true
    → lines_after text (byte ∷ bytes) ≡ text ∷ lines_after [] bytes
feed_lines text byte bytes e = ap (lines_by text byte bytes) e

pub more_lines : (text : List ℕ) (byte : ℕ) (bytes : List ℕ) → (byte == 10) ≡ false
    → lines_after text (byte ∷ bytes) ≡ lines_after (text ++ byte ∷ []) bytes
more_lines text byte bytes e = ap (lines_by text byte bytes) e

-- ---- what is typed, byte by byte

pub typed_none : (at : Typing) (text : List ℕ) → Holds at.held text
    → (text' : List ℕ) × Holds at.held text'
    × Passes (λ (more : List ℕ). answers at.turn (lines_after text ([] ++ more)))
    (λ (more : List ℕ). answers at.turn (lines_after text' more)) at.world at.world
typed_none at text h = (text, h, passes_none (λ (more : List ℕ). answers at.turn (lines_after text more)) at.world)

-- the same however the bytes are put together
joined : (turn : Turn) (text xs ys : List ℕ) (at : World)
    → Passes (λ (more : List ℕ). answers turn (lines_after text ((xs ++ ys) ++ more)))
    (λ (more : List ℕ). answers turn (lines_after text (xs ++ (ys ++ more)))) at at
joined turn text xs ys at =
    passes_same at
    (λ more left fault.
    ap (λ (bytes : List ℕ). answers turn (lines_after text bytes) left fault) (append_assoc xs ys more))

pub typed_on : (a b c : Typing) (xs ys : List ℕ) → Types (Ok tt) xs a b
    → Types (Ok tt) ys b c → Types (Ok tt) (xs ++ ys) a c
typed_on a b c xs ys p q = λ text h.
    let one = p text h in
    let two = q one.0 one.1 in (
      two.0,
      two.1,
      passes_trans (joined a.turn text xs ys a.world)
          (passes_trans (passes_at (λ (more : List ℕ). ys ++ more) one.2) two.2),
    )

pub typed_stops : (a b c : Typing) {ending : TalkEnd} (xs ys : List ℕ)
    → Types (Ok tt) xs a b → Types (Err ending) ys b c → Types (Err ending) (xs ++ ys) a c
typed_stops a b c {ending} xs ys p q = λ text h.
    let one = p text h in
    passes_stops (joined a.turn text xs ys a.world)
    (passes_stops (passes_at (λ (more : List ℕ). ys ++ more) one.2) (q one.0 one.1))

-- the line ends
ended_line : (at : Typing) (text : List ℕ) (byte : ℕ) → (byte == 10) ≡ true → Holds at.held text
    → Passes (λ (more : List ℕ). answers at.turn (lines_after text ((byte ∷ []) ++ more)))
    (λ (more : List ℕ). answers at.turn (at.held ∷ lines_after [] more)) at.world at.world
ended_line at text byte e h =
    passes_same at.world
    (λ more left fault.
    ap (λ (texts : List (List ℕ)). answers at.turn texts left fault) (feed_lines text byte more e)
    ∙ held_answers at.held text h at.turn (lines_after [] more) left fault)

pub key_ends : (old new : Typing) (byte : ℕ) → (byte == 10) ≡ true → new.held ≡ [] →
    Passes (λ (more : List (List ℕ)). answers old.turn (old.held ∷ more))
    (λ (more : List (List ℕ)). answers new.turn more) old.world new.world
    → Types (Ok tt) (byte ∷ []) old new
key_ends old new byte e none p = λ text h. (
  [],
  inl none,
  passes_trans (ended_line old text byte e h) (passes_at (λ (more : List ℕ). lines_after [] more) p),
)

pub key_stops : {ending : TalkEnd} (old new : Typing) (byte : ℕ) → (byte == 10) ≡ true →
    Stops (λ (more : List (List ℕ)). answers old.turn (old.held ∷ more)) ending old.world new.world
    → Types (Err ending) (byte ∷ []) old new
key_stops old new byte e p = λ text h.
    passes_stops (ended_line old text byte e h) (stops_at (λ (more : List ℕ). lines_after [] more) p)

-- the line goes on
pub key_goes_on : (turn : Turn) (held held' : List ℕ) (at : World) (byte : ℕ) →
    (byte == 10) ≡ false → ((text : List ℕ) → Holds held text → Holds held' (text ++ byte ∷ []))
    → Types (Ok tt) (byte ∷ []) (record { turn = turn; held = held; world = at })
    (record { turn = turn; held = held'; world = at })
key_goes_on turn held held' at byte e holds = λ text h. (
  text ++ byte ∷ [],
  holds text h,
  passes_same at
      (λ more left fault.
      ap (λ (texts : List (List ℕ)). answers turn texts left fault) (more_lines text byte more e)),
)

pub key_memory : (old new : Typing) (bytes : List ℕ) → new.world ≡ old.world
    → Types (Err end.Memory) bytes old new
key_memory old new bytes same = λ text h.
    subst (λ (at : World). Stops (λ (more : List ℕ). answers old.turn (lines_after text (bytes ++ more))) end.Memory
    old.world at)
    (sym same) (memory_stops (λ (more : List ℕ). answers old.turn (lines_after text (bytes ++ more))) old.world)

-- ---- a piece of what is typed

-- a byte more
pub piece_more : (a b c : Typing) (piece : List ℕ) (index : ℕ) → index < length piece
    → Types (Ok tt) (take index piece) a b → Types (Ok tt) (get_or piece index 0 ∷ []) b c
    → Types (Ok tt) (take (index + 1) piece) a c
piece_more a b c piece index within p q =
    subst (λ (bytes : List ℕ). Types (Ok tt) bytes a c) (sym (take_more piece index 0 within))
    (typed_on a b c (take index piece) (get_or piece index 0 ∷ []) p q)

-- the talk is over before the piece's end
pub piece_stops : (a b c : Typing) (ending : TalkEnd) (piece : List ℕ) (index : ℕ) → index < length piece
    → Types (Ok tt) (take index piece) a b → Types (Err ending) (get_or piece index 0 ∷ []) b c
    → Types (Err ending) piece a c
piece_stops a b c ending piece index within p q = λ text h.
    let part : List ℕ = take index piece ++ get_or piece index 0 ∷ [] in
    let rest : List ℕ = drop (index + 1) piece in
    let whole : part ++ rest ≡ piece =
    ap (λ (part : List ℕ). part ++ rest) (sym (take_more piece index 0 within)) ∙ take-append-drop (index + 1) piece in
    passes_stops
    (passes_same a.world
    (λ (more : List ℕ) left fault.
    ap (λ (bytes : List ℕ). answers a.turn (lines_after text (bytes ++ more)) left fault) (sym whole)
    ∙ ap (λ (bytes : List ℕ). answers a.turn (lines_after text bytes) left fault) (append_assoc part rest more)))
    (stops_at (λ (more : List ℕ). rest ++ more)
    (typed_stops a b c (take index piece) (get_or piece index 0 ∷ []) p q text h))

pub piece_whole : (a b : Typing) (piece : List ℕ) (index : ℕ) → length piece ≤ index
    → Types (Ok tt) (take index piece) a b → Types (Ok tt) piece a b
piece_whole a b piece index past p =
    subst (λ (bytes : List ℕ). Types (Ok tt) bytes a b) (take_all index piece past) p

-- What a stop leaves of a write after a closed gate, of the gate itself, and of a cut.
use Rattle.std.proofs.Common.{◌≡◌, ◌<◌, ◌≤◌, ◌+◌, ℕ, List, [], ◌∷◌, ◌++◌, length, get_or, take, drop, Result, Ok, Err}
use Rattle.std.proofs.Common.{OnOk, sym, ◌∙◌, ap, subst, arith, append_assoc, length-append, take-append-drop}
use Rattle.std.proofs.lemmas.List.{drop_more, length-take, length-take-le, take_at, drop_at, take_all, drop_all}
use Rattle.std.proofs.lemmas.List.{append-nil, take-append-le, take-take}
use Rattle.kom_disk.specs.Disk.{overwritten, IsTorn, IsShortened, ComesBy, Only}
use Rattle.batch_log.specs.Gates.{IsStable, IsShut, IsGated}

-- a file at rest is one longer than its gate's place
pub rest_long : (place : ℕ) (bytes : List ℕ) → bytes ≡ take place bytes ++ 0 ∷ [] → length bytes ≡ place + 1
rest_long place bytes closed =
    omega (arith, ap length closed, length-append (take place bytes) (0 ∷ []), length-take place bytes)

-- what begins with a file at rest has its closed gate
pub begins_shut : (place : ℕ) (bytes image : List ℕ) → bytes ≡ take place bytes ++ 0 ∷ []
    → take (place + 1) image ≡ take (place + 1) bytes → IsShut (take place bytes) 0 image
begins_shut place bytes image closed same =
    let whole : take (place + 1) bytes ≡ bytes =
    take_all (place + 1) bytes (omega (arith, rest_long place bytes closed)) in (
      drop (place + 1) image,
      sym (take-append-drop (place + 1) image)
          ∙ ap (λ (l : List ℕ). l ++ drop (place + 1) image) (same ∙ whole ∙ closed)
          ∙ append_assoc (take place bytes) (0 ∷ []) (drop (place + 1) image),
    )

-- a torn write of the gate leaves what stands before it and after it
pub torn_gate : (place : ℕ) (bytes image : List ℕ) → place < length bytes → IsTorn place 1 bytes image
    → IsGated (take place bytes) (drop (place + 1) bytes) 0 image
torn_gate place bytes image within torn = (
  get_or image place 0,
  sym (take-append-drop place image) ∙ ap (λ (l : List ℕ). l ++ drop place image) torn.prefix
      ∙ ap (λ (l : List ℕ). take place bytes ++ l)
      (drop_more image place 0 (omega (arith, within, torn.no_shorter))
      ∙ ap (λ (l : List ℕ). get_or image place 0 ∷ l) torn.suffix),
)

-- any file has some gate at a place within it
pub has_gate : (place : ℕ) (bytes : List ℕ) → place < length bytes
    → IsGated (take place bytes) (drop (place + 1) bytes) 0 bytes
has_gate place bytes within = (
  get_or bytes place 0,
  sym (take-append-drop place bytes) ∙ ap (λ (l : List ℕ). take place bytes ++ l) (drop_more bytes place 0 within),
)

-- what is left of a cut after a closed gate has that gate
pub cut_shut : (place : ℕ) (bytes image : List ℕ) → place < length bytes → IsShut (take place bytes) 0 bytes
    → IsShortened (place + 1) bytes image → IsShut (take place bytes) 0 image
cut_shut place bytes image within shut cut =
    let before = take place bytes in
    let n : place + 1 ≤ length image = omega (arith, cut.no_shorter, within) in
    let long : length (before ++ 0 ∷ []) ≡ place + 1 =
    omega (arith, length-append before (0 ∷ []), length-take-le place bytes (omega (arith, within))) in
    let parted : bytes ≡ before ++ 0 ∷ [] ++ shut.0 =
    shut.1 ∙ sym (append_assoc before (0 ∷ []) shut.0) in (
      drop (place + 1) image,
      sym (take-append-drop (place + 1) image)
          ∙ ap (λ (l : List ℕ). take (place + 1) l ++ drop (place + 1) image) (sym cut.prefix)
          ∙ ap (λ (l : List ℕ). l ++ drop (place + 1) image)
          (take-take (place + 1) (length image) bytes n ∙ ap (take (place + 1)) parted
          ∙ take_at (before ++ 0 ∷ []) shut.0 (place + 1) long)
          ∙ append_assoc before (0 ∷ []) (drop (place + 1) image),
    )

pub cut_rest : (place : ℕ) (bytes : List ℕ) → place < length bytes → IsShut (take place bytes) 0 bytes
    → take (place + 1) bytes ≡ take place bytes ++ 0 ∷ []
cut_rest place bytes within shut =
    let before = take place bytes in
    let long : length (before ++ 0 ∷ []) ≡ place + 1 =
    omega (arith, length-append before (0 ∷ []), length-take-le place bytes (omega (arith, within))) in
    ap (take (place + 1)) (shut.1 ∙ sym (append_assoc before (0 ∷ []) shut.0))
    ∙ take_at (before ++ 0 ∷ []) shut.0 (place + 1) long

-- what a stop leaves after a call to a stable file
module _ (bytes : List ℕ) (old new : List ℕ → Type 0) (stable : Only bytes old) where
  pub left_shut : (place n : ℕ) → bytes ≡ take place bytes ++ 0 ∷ [] → ComesBy (IsTorn (place + 1) n) old new
      → (image : List ℕ) → new image → IsShut (take place bytes) 0 image
  left_shut place n closed comes image left =
      let from = comes image left in
      let torn = subst (λ (was : List ℕ). IsTorn (place + 1) n was image) (stable from.0 from.1) from.2 in
      begins_shut place bytes image closed torn.prefix

  pub left_gated : (place n : ℕ) → place < length bytes → n ≡ 1 → ComesBy (IsTorn place n) old new
      → (image : List ℕ) → new image → IsGated (take place bytes) (drop (place + 1) bytes) 0 image
  left_gated place n within one comes image left =
      let from = comes image left in
      let torn = subst (λ (was : List ℕ). IsTorn place n was image) (stable from.0 from.1) from.2 in
      torn_gate place bytes image within (subst (λ (m : ℕ). IsTorn place m bytes image) one torn)

  pub left_cut : (place : ℕ) → place < length bytes → IsShut (take place bytes) 0 bytes
      → ComesBy (IsShortened (place + 1)) old new → (image : List ℕ) → new image → IsShut (take place bytes) 0 image
  left_cut place within shut comes image left =
      let from = comes image left in
      let cut = subst (λ (was : List ℕ). IsShortened (place + 1) was image) (stable from.0 from.1) from.2 in
      cut_shut place bytes image within shut cut

pub stable_as : {E : Type 0} (synced content : List ℕ) → synced ≡ content → (images : List ℕ → Type 0)
    (result : Result (Unit {0}) E) → OnOk result (Only synced images) → OnOk result (IsStable content synced images)
stable_as synced content is images (Err error) stable = tt
stable_as synced content is images (Ok done) stable = record { is = is; stable = stable }

-- what a write at the end, and one of the gate, make of the file
pub written_after : (place : ℕ) (bytes chunk : List ℕ) → bytes ≡ take place bytes ++ 0 ∷ []
    → overwritten bytes (place + 1) chunk ≡ bytes ++ chunk
written_after place bytes chunk closed =
    ap (λ (l : List ℕ). l ++ chunk ++ drop (place + 1 + length chunk) bytes)
    (take_all (place + 1) bytes (omega (arith, rest_long place bytes closed)))
    ∙ ap (λ (l : List ℕ). bytes ++ chunk ++ l)
    (drop_all (place + 1 + length chunk) bytes (omega (arith, rest_long place bytes closed)))
    ∙ append-nil (bytes ++ chunk)

pub written_gate : (place : ℕ) (bytes : List ℕ) (gate : ℕ)
    → overwritten bytes place (gate ∷ []) ≡ take place bytes ++ gate ∷ drop (place + 1) bytes
written_gate place bytes gate = append_assoc (take place bytes) (gate ∷ []) (drop (place + 1) bytes)

-- with a chunk after a file at rest
module _ (place : ℕ) (bytes chunk stands : List ℕ) (closed : bytes ≡ take place bytes ++ 0 ∷ [])
    (is : stands ≡ bytes ++ chunk) where
  long : length bytes ≡ place + 1
  long = rest_long place bytes closed

  pub still_before : take place stands ≡ take place bytes
  still_before = ap (take place) is ∙ take-append-le place bytes chunk (omega (arith, long))

  pub still_after : drop (place + 1) stands ≡ chunk
  still_after = ap (drop (place + 1)) is ∙ drop_at bytes chunk (place + 1) long

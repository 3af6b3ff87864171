-- An image that stands for rows is a store.
use Rattle.std.proofs.Common.{◌≡◌, ◌<◌, ◌+◌, ℕ, List, [], ◌∷◌, ◌++◌, length, map, inl, inr, sym, ap, ◌∙◌, arith}
use Rattle.std.proofs.lemmas.List.{get_or_append_left, length-append}
use Rattle.std.specs.List.{slice_index}
use Rattle.batch_log.specs.Batches.{batches, IsEnd}
use Rattle.kom_model.specs.Db.{Db, empty_db}
use Rattle.kom_journal.specs.Files.{IsStoreFrom, header, body_of}
use Rattle.kom_journal.specs.Images.{Image, StandsFor, IsForeign, IsCutShort, IsDamaged}
use Rattle.kom_journal.specs.Opening.{IsForeignAt, IsTooShort}
use Rattle.kom_journal.proofs.Damage.{stands_whole}
use Rattle.store_check.specs.Stores.{IsNoStore}

some_end : (end : List ℕ) → IsEnd end → 0 < length end
some_end [] ended = absurd ended
some_end (gate ∷ rest) ended = omega arith

not_foreign : (db : Db) (file : List ℕ) (place byte : ℕ) → IsStoreFrom header empty_db db file → IsForeignAt place byte file → ⊥
not_foreign db file place byte stands foreign =
    let rest : List ℕ = batches (map body_of stands.batches) ++ stands.file.end in
    foreign.other
    (sym (get_or_append_left header rest 0 place foreign.within)
    ∙ ap (λ (l : List ℕ). slice_index l place) (sym stands.file.whole) ∙ foreign.here)

not_short : (db : Db) (file : List ℕ) (len : ℕ) → IsStoreFrom header empty_db db file → IsTooShort len file → ⊥
not_short db file len stands short =
    let all : List ℕ = batches (map body_of stands.batches) in
    let end : List ℕ = stands.file.end in
    let long : length file ≡ length (header ++ all ++ end) = ap (λ (l : List ℕ). length l) stands.file.whole in
    let parts : length (header ++ all ++ end) ≡ 16 + length (all ++ end) = length-append header (all ++ end) in
    let more : length (all ++ end) ≡ length all + length end = length-append all end in
    let some : 0 < length end = some_end end stands.file.ended in
    omega (arith, short.long, short.short, long, parts, more, some)

pub is_store : (db : Db) (image : Image) → StandsFor db image → IsNoStore image → ⊥
unfolding StandsFor IsForeign IsCutShort IsDamaged
is_store db image stands (inl (place, byte, foreign)) = not_foreign db image.file place byte stands foreign
is_store db image stands (inr (inl (len, short))) = not_short db image.file len stands short
is_store db image stands (inr (inr (place, damaged))) = stands_whole header empty_db db image.file place stands damaged

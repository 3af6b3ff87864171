-- The rules of what is told of texts read exactly its spelling.
use Rattle.std.proofs.Common.{◌≡◌, ℕ, List, ◌++◌, refl, sym, ap, subst, ◌∙◌, arith}
use Rattle.kom_types.specs.declared.texts.Block.{Block}
use Rattle.kom_types.specs.declared.texts.Block.TheVariants as pairs
use Rattle.kom_types.specs.declared.texts.Mapping.{Mapping}
use Rattle.kom_types.specs.declared.texts.MiscInfo.{MiscInfo}
use Rattle.kom_types.specs.declared.texts.MiscInfo.TheVariants as misc
use Rattle.kom_types.specs.declared.texts.TextStat.{TextStat}
use Rattle.kom_types.specs.spellings.AuxItems as items
use Rattle.kom_types.specs.spellings.Texts as texts
use Rattle.kom_types.specs.spellings.Words as words
use Rattle.kom_types.specs.spellings.Words.{Words}
use Rattle.kom_types.specs.Token.{Token}
use Rattle.kom_types.specs.calls.Arguments.{Taken, Took}
use Rattle.kom_records.specs.Fits.{IsNumber, IsMiscInfo, IsTextStat, IsBlock, IsMapping, IsLocalText, AreFit}
use Rattle.kom_records.specs.Links.{misc_by}
use Rattle.kom_records.specs.Records.{misc_info, text_stat, block, block_by, dense, mapping, local_text}
use Rattle.kom_records.specs.Rules.{number, array, map_taken}
use Rattle.kom_records.specs.Words.{tokens_of_words}
use Rattle.kom_records.proofs.Choices.{choose}
use Rattle.kom_records.proofs.Spelled.{IsSpelled, on, onward, glue, split, took_same, made_is, branch, yes, not}
use Rattle.kom_records.proofs.Spelled.{departs_not}
use Rattle.kom_records.proofs.Values.{number_is, flag_is}
use Rattle.kom_records.proofs.Moments.{time_is}
use Rattle.kom_records.proofs.LongArrays.{array_is}
use Rattle.kom_records.proofs.SmallRecords.{local_text_is}
use Rattle.kom_records.proofs.LongRecords.{aux_items_is}

-- a link with this tag was read
abbrev Linked : ℕ → List Token → MiscInfo → List Token → Type 0
Linked tag mid of tail =
    IsMiscInfo of × (tokens_of_words (words.number tag) ++ mid ≡ tokens_of_words (texts.misc_info of) ++ tail)

module _ {X : Type 0} {reads : List Token → Taken X} {spells : X → Words} {Is : X → Type 0}
    (rule : IsSpelled reads spells Is) (make : X → MiscInfo) (one : ℕ)
    (fit : (value : X) → Is value → IsMiscInfo (make value))
    (spelled : (value : X) → texts.misc_info (make value) ≡ words.number one ++ spells value) where
  linked : (tag : ℕ) (mid tail : List Token) (of : MiscInfo) → tag ≡ one → map_taken make (reads mid) ≡ Took of tail →
      Linked tag mid of tail
  linked tag mid tail of is read =
      let found = made_is rule make mid tail of read in
      subst (λ (of : MiscInfo). Linked tag mid of tail) found.1.2 (
        fit found.0 found.1.0,
        ap (λ n. tokens_of_words (words.number n) ++ mid) is
            ∙ ap (λ t. tokens_of_words (words.number one) ++ t) found.1.1
            ∙ ap (λ (all : Words). tokens_of_words all ++ tail) (sym (spelled found.0)),
      )

linked_from : (tag : ℕ) (mid tail : List Token) (of : MiscInfo) → misc_by tag mid ≡ Took of tail →
    Linked tag mid of tail
linked_from tag mid tail of is =
    choose tag 0 _ _ _ is
    (linked number_is misc.Recipient 0 (λ _ fits. fits) (λ _. refl) tag mid tail of) (λ r0.
    choose tag 1 _ _ _ r0
    (linked number_is misc.CopyRecipient 1 (λ _ fits. fits) (λ _. refl) tag mid tail of) (λ r1.
    choose tag 2 _ _ _ r1
    (linked number_is misc.CommentTo 2 (λ _ fits. fits) (λ _. refl) tag mid tail of) (λ r2.
    choose tag 3 _ _ _ r2
    (linked number_is misc.CommentIn 3 (λ _ fits. fits) (λ _. refl) tag mid tail of) (λ r3.
    choose tag 4 _ _ _ r3
    (linked number_is misc.FootnoteTo 4 (λ _ fits. fits) (λ _. refl) tag mid tail of) (λ r4.
    choose tag 5 _ _ _ r4
    (linked number_is misc.FootnoteIn 5 (λ _ fits. fits) (λ _. refl) tag mid tail of) (λ r5.
    choose tag 6 _ _ _ r5
    (linked number_is misc.Local 6 (λ _ fits. fits) (λ _. refl) tag mid tail of) (λ r6.
    choose tag 7 _ _ _ r6
    (linked time_is misc.Received 7 (λ _ fits. fits) (λ _. refl) tag mid tail of) (λ r7.
    choose tag 8 _ _ _ r7
    (linked number_is misc.SentBy 8 (λ _ fits. fits) (λ _. refl) tag mid tail of) (λ r8.
    choose tag 9 _ _ _ r8
    (linked time_is misc.SentAt 9 (λ _ fits. fits) (λ _. refl) tag mid tail of) (λ r9.
    choose tag 15 _ _ _ r9
    (linked number_is misc.BlindRecipient 15 (λ _ fits. fits) (λ _. refl) tag mid tail of) (λ r10.
    absurd (departs_not r10))))))))))))

misc_info_from : (tokens tail : List Token) (of : MiscInfo) → misc_info tokens ≡ Took of tail →
    IsMiscInfo of × (tokens ≡ tokens_of_words (texts.misc_info of) ++ tail)
misc_info_from tokens tail of is =
    on number_is tokens misc_by of tail is (λ tag mid fits same rest.
    let found = linked_from tag mid tail of rest in
    (found.0, same ∙ found.1))

misc_info_back : (of : MiscInfo) (tail : List Token) → IsMiscInfo of →
    misc_info (tokens_of_words (texts.misc_info of) ++ tail) ≡ Took of tail
misc_info_back (misc.Recipient value) tail fits =
    onward number_is 0 _ misc_by _ (omega arith) (onward number_is value tail _ _ fits refl)
misc_info_back (misc.CopyRecipient value) tail fits =
    onward number_is 1 _ misc_by _ (omega arith) (onward number_is value tail _ _ fits refl)
misc_info_back (misc.CommentTo value) tail fits =
    onward number_is 2 _ misc_by _ (omega arith) (onward number_is value tail _ _ fits refl)
misc_info_back (misc.CommentIn value) tail fits =
    onward number_is 3 _ misc_by _ (omega arith) (onward number_is value tail _ _ fits refl)
misc_info_back (misc.FootnoteTo value) tail fits =
    onward number_is 4 _ misc_by _ (omega arith) (onward number_is value tail _ _ fits refl)
misc_info_back (misc.FootnoteIn value) tail fits =
    onward number_is 5 _ misc_by _ (omega arith) (onward number_is value tail _ _ fits refl)
misc_info_back (misc.Local value) tail fits =
    onward number_is 6 _ misc_by _ (omega arith) (onward number_is value tail _ _ fits refl)
misc_info_back (misc.Received value) tail fits =
    onward number_is 7 _ misc_by _ (omega arith) (onward time_is value tail _ _ fits refl)
misc_info_back (misc.SentBy value) tail fits =
    onward number_is 8 _ misc_by _ (omega arith) (onward number_is value tail _ _ fits refl)
misc_info_back (misc.SentAt value) tail fits =
    onward number_is 9 _ misc_by _ (omega arith) (onward time_is value tail _ _ fits refl)
misc_info_back (misc.BlindRecipient value) tail fits =
    onward number_is 15 _ misc_by _ (omega arith) (onward number_is value tail _ _ fits refl)

pub misc_info_is : IsSpelled misc_info texts.misc_info IsMiscInfo
misc_info_is = record { back = misc_info_back; forth = misc_info_from }

misc_infos_is : IsSpelled (array misc_info) (words.array texts.misc_info) (AreFit IsMiscInfo)
misc_infos_is = array_is misc_info texts.misc_info IsMiscInfo misc_info_is

text_stat_back : (of : TextStat) (tail : List Token) → IsTextStat of →
    text_stat (tokens_of_words (texts.text_stat of) ++ tail) ≡ Took of tail
text_stat_back of tail fits =
    let flat : Words =
    words.time of.created ++ words.number of.author ++ words.number of.lines ++ words.number of.chars ++
    words.number of.marks in
    let some : Words = words.array texts.misc_info of.misc_infos in
    let more0 : Words = items.aux_items of.aux_items in
    ap text_stat (ap (λ t. tokens_of_words flat ++ t) (split some more0 tail))
    ∙ onward time_is of.created _ _ _ fits.0 (
    onward number_is of.author _ _ _ fits.1.0 (
    onward number_is of.lines _ _ _ fits.1.1.0 (
    onward number_is of.chars _ _ _ fits.1.1.1.0 (
    onward number_is of.marks _ _ _ fits.1.1.1.1.0 (
    onward misc_infos_is of.misc_infos _ _ _ fits.1.1.1.1.1.0 (
    onward aux_items_is of.aux_items _ _ _ fits.1.1.1.1.1.1 (refl)))))))

text_stat_from : (tokens tail : List Token) (of : TextStat) → text_stat tokens ≡ Took of tail →
    IsTextStat of × (tokens ≡ tokens_of_words (texts.text_stat of) ++ tail)
text_stat_from tokens tail of is =
    on time_is tokens _ of tail is (λ v0 t0 f0 e0 r0.
    on number_is t0 _ of tail r0 (λ v1 t1 f1 e1 r1.
    on number_is t1 _ of tail r1 (λ v2 t2 f2 e2 r2.
    on number_is t2 _ of tail r2 (λ v3 t3 f3 e3 r3.
    on number_is t3 _ of tail r3 (λ v4 t4 f4 e4 r4.
    on misc_infos_is t4 _ of tail r4 (λ v5 t5 f5 e5 r5.
    on aux_items_is t5 _ of tail r5 (λ v6 t6 f6 e6 r6.
    let same = took_same _ of t6 tail r6 in
    let Told : TextStat → Type 0 = λ of. IsTextStat of × (tokens ≡ tokens_of_words (texts.text_stat of) ++ tail) in
    subst Told same.0 (
      (f0, (f1, (f2, (f3, (f4, (f5, f6)))))),
      glue (words.time v0) tokens t0 _ e0 (
          glue (words.number v1) t0 t1 _ e1 (
          glue (words.number v2) t1 t2 _ e2 (
          glue (words.number v3) t2 t3 _ e3 (
          glue (words.number v4) t3 t4 _ e4 (
          (glue (words.array texts.misc_info v5) t4 t5 _ e5 (
          glue (items.aux_items v6) t5 t6 _ e6 (
          same.1))
          ∙ sym (split (words.array texts.misc_info v5) (items.aux_items v6) tail))))))),
    ))))))))

pub text_stat_is : IsSpelled text_stat texts.text_stat IsTextStat
text_stat_is = record { back = text_stat_back; forth = text_stat_from }

numbers_is : IsSpelled (array number) (words.array words.number) (AreFit IsNumber)
numbers_is = array_is number words.number IsNumber number_is

local_texts_is : IsSpelled (array local_text) (words.array texts.local_text) (AreFit IsLocalText)
local_texts_is = array_is local_text texts.local_text IsLocalText local_text_is

block_back : (of : Block) (tail : List Token) → IsBlock of →
    block (tokens_of_words (texts.block_words of) ++ tail) ≡ Took of tail
block_back (pairs.Sparse locals) tail fits =
    onward number_is 0 _ block_by _ (omega arith) (onward local_texts_is locals tail _ _ fits refl)
block_back (pairs.Dense first those) tail fits =
    onward number_is 1 _ block_by _ (omega arith)
    (onward number_is first _ _ _ fits.0 (onward numbers_is those tail _ _ fits.1 refl))

abbrev Blocked : ℕ → List Token → Block → List Token → Type 0
Blocked which mid of tail =
    IsBlock of × (tokens_of_words (words.number which) ++ mid ≡ tokens_of_words (texts.block_words of) ++ tail)

sparse_from : (which : ℕ) (mid tail : List Token) (of : Block) → which ≡ 0 →
    map_taken pairs.Sparse (array local_text mid) ≡ Took of tail → Blocked which mid of tail
sparse_from which mid tail of same is =
    let found = made_is local_texts_is pairs.Sparse mid tail of is in
    subst (λ (of : Block). Blocked which mid of tail) found.1.2 (
      found.1.0,
      ap (λ n. tokens_of_words (words.number n) ++ mid) same
          ∙ ap (λ t. tokens_of_words (words.number 0) ++ t) found.1.1,
    )

dense_from : (which : ℕ) (mid tail : List Token) (of : Block) → which ≡ 1 → dense mid ≡ Took of tail →
    Blocked which mid of tail
dense_from which mid tail of same is =
    on number_is mid _ of tail is (λ first t0 f0 e0 r0.
    on numbers_is t0 _ of tail r0 (λ those t1 f1 e1 r1.
    let last = took_same (pairs.Dense first those) of t1 tail r1 in
    subst (λ (of : Block). Blocked which mid of tail) last.0 (
      (f0, f1),
      ap (λ n. tokens_of_words (words.number n) ++ mid) same
          ∙ ap (λ t. tokens_of_words (words.number 1) ++ t)
          (glue (words.number first) mid t0 _ e0 (glue (words.array words.number those) t0 t1 tail e1 last.1)),
    )))

blocked_from : (which : ℕ) (mid tail : List Token) (of : Block) → block_by which mid ≡ Took of tail →
    Blocked which mid of tail
blocked_from which mid tail of is =
    elim (branch which 0 _ _ _ is) [
      | yes same taken ↦ sparse_from which mid tail of same taken
      | not r0 ↦
          elim (branch which 1 _ _ _ r0) [
            | yes same taken ↦ dense_from which mid tail of same taken
            | not r1 ↦ absurd (departs_not r1)
          ]
    ]

block_from : (tokens tail : List Token) (of : Block) → block tokens ≡ Took of tail →
    IsBlock of × (tokens ≡ tokens_of_words (texts.block_words of) ++ tail)
block_from tokens tail of is =
    on number_is tokens block_by of tail is (λ which mid fits same rest.
    let found = blocked_from which mid tail of rest in
    (found.0, same ∙ found.1))

block_is : IsSpelled block texts.block_words IsBlock
block_is = record { back = block_back; forth = block_from }

mapping_back : (of : Mapping) (tail : List Token) → IsMapping of →
    mapping (tokens_of_words (texts.mapping of) ++ tail) ≡ Took of tail
mapping_back of tail fits =
    onward number_is of.begin _ _ _ fits.0 (
    onward number_is of.end _ _ _ fits.1.0 (
    onward flag_is of.later_texts_exist _ _ _ tt (
    onward block_is of.block _ _ _ fits.1.1 (refl))))

mapping_from : (tokens tail : List Token) (of : Mapping) → mapping tokens ≡ Took of tail →
    IsMapping of × (tokens ≡ tokens_of_words (texts.mapping of) ++ tail)
mapping_from tokens tail of is =
    on number_is tokens _ of tail is (λ v0 t0 f0 e0 r0.
    on number_is t0 _ of tail r0 (λ v1 t1 f1 e1 r1.
    on flag_is t1 _ of tail r1 (λ v2 t2 f2 e2 r2.
    on block_is t2 _ of tail r2 (λ v3 t3 f3 e3 r3.
    let same = took_same _ of t3 tail r3 in
    let Told : Mapping → Type 0 = λ of. IsMapping of × (tokens ≡ tokens_of_words (texts.mapping of) ++ tail) in
    subst Told same.0 (
      (f0, (f1, f3)),
      glue (words.number v0) tokens t0 _ e0 (
          glue (words.number v1) t0 t1 _ e1 (
          glue (words.flag v2) t1 t2 _ e2 (
          glue (texts.block_words v3) t2 t3 _ e3 (
          same.1)))),
    )))))

pub mapping_is : IsSpelled mapping texts.mapping IsMapping
mapping_is = record { back = mapping_back; forth = mapping_from }

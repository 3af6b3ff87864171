-- What is put at the end, one part after the other.
use Rattle.std.proofs.Common.{◌≡◌, ℕ, ◌+◌, ◌*◌, List, [], ◌∷◌, ◌++◌, length, sym, ap, ◌∙◌, append_assoc, append-nil}
use Rattle.std.proofs.Common.{◌%◌, ◌^◌, ◌<◌, arith}
use Rattle.std.proofs.Math.Nat.{mod-eq_of_lt}
use Rattle.std.specs.Int.{w32, w64, to_le_bytes}
use Rattle.kom_types.specs.declared.effects.Effect.{Effect}
use Rattle.kom_types.specs.declared.effects.Effect.TheVariants as effect
use Rattle.kom_types.specs.declared.memberships.ReadRange.{ReadRange}
use Rattle.effect_codec.specs.Fields.{coded_ranges}
use Rattle.effect_codec.specs.Coding.{coded_effect}
use Rattle.effect_codec.proofs.Again.{length-coded_ranges}

-- a part, and then the rest
put_first : (before between after part rest : List ℕ) → between ≡ before ++ part → after ≡ between ++ rest
    → after ≡ before ++ (part ++ rest)
put_first before between after part rest is ends =
    ends ∙ ap (λ (l : List ℕ). l ++ rest) is ∙ append_assoc before part rest

-- the same of what the part is made of
pub amount_put : (before after : List ℕ) (given is : ℕ) → given ≡ is → after ≡ before ++ to_le_bytes w64 given
    → after ≡ before ++ to_le_bytes w64 is
amount_put before after given is same put = put ∙ ap (λ (n : ℕ). before ++ to_le_bytes w64 n) same

pub text_put : (before after given is : List ℕ) → given ≡ is
    → after ≡ before ++ (to_le_bytes w32 (length given) ++ given)
    → after ≡ before ++ (to_le_bytes w32 (length is) ++ is)
text_put before after given is same put =
    put ∙ ap (λ (l : List ℕ). before ++ (to_le_bytes w32 (length l) ++ l)) same

pub setting_put : (before after : List ℕ) (part value is_part is_value : ℕ) → part ≡ is_part → value ≡ is_value
    → after ≡ before ++ part ∷ to_le_bytes w64 value → after ≡ before ++ is_part ∷ to_le_bytes w64 is_value
setting_put before after part value is_part is_value same_part same_value put =
    put ∙ ap (λ (n : ℕ). before ++ n ∷ to_le_bytes w64 value) same_part
    ∙ ap (λ (n : ℕ). before ++ is_part ∷ to_le_bytes w64 n) same_value

pub ranges_put : (before after : List ℕ) (given is : List ReadRange) → given ≡ is
    → after ≡ before ++ (to_le_bytes w32 (length given) ++ coded_ranges given)
    → after ≡ before ++ (to_le_bytes w32 (length is) ++ coded_ranges is)
ranges_put before after given is same put =
    put ∙ ap (λ (l : List ReadRange). before ++ (to_le_bytes w32 (length l) ++ coded_ranges l)) same

-- the last part
put_last : (before after part : List ℕ) → after ≡ before ++ part → after ≡ before ++ (part ++ [])
put_last before after part is = is ∙ ap (λ (l : List ℕ). before ++ l) (sym (append-nil part))

-- so many parts of an effect
pub puts_2 : (at_0 at_1 at_2 a b whole : List ℕ)
    → at_1 ≡ at_0 ++ a → at_2 ≡ at_1 ++ b
    → a ++ (b ++ []) ≡ whole → at_2 ≡ at_0 ++ whole
puts_2 at_0 at_1 at_2 a b whole put_a put_b is =
    put_first at_0 at_1 at_2 a (b ++ []) put_a
    (put_last at_1 at_2 b put_b)
    ∙ ap (λ (l : List ℕ). at_0 ++ l) is

pub puts_3 : (at_0 at_1 at_2 at_3 a b c whole : List ℕ)
    → at_1 ≡ at_0 ++ a → at_2 ≡ at_1 ++ b → at_3 ≡ at_2 ++ c
    → a ++ (b ++ (c ++ [])) ≡ whole → at_3 ≡ at_0 ++ whole
puts_3 at_0 at_1 at_2 at_3 a b c whole put_a put_b put_c is =
    put_first at_0 at_1 at_3 a (b ++ (c ++ [])) put_a
    (put_first at_1 at_2 at_3 b (c ++ []) put_b
    (put_last at_2 at_3 c put_c))
    ∙ ap (λ (l : List ℕ). at_0 ++ l) is

pub puts_4 : (at_0 at_1 at_2 at_3 at_4 a b c d whole : List ℕ)
    → at_1 ≡ at_0 ++ a → at_2 ≡ at_1 ++ b → at_3 ≡ at_2 ++ c → at_4 ≡ at_3 ++ d
    → a ++ (b ++ (c ++ (d ++ []))) ≡ whole → at_4 ≡ at_0 ++ whole
puts_4 at_0 at_1 at_2 at_3 at_4 a b c d whole put_a put_b put_c put_d is =
    put_first at_0 at_1 at_4 a (b ++ (c ++ (d ++ []))) put_a
    (put_first at_1 at_2 at_4 b (c ++ (d ++ [])) put_b
    (put_first at_2 at_3 at_4 c (d ++ []) put_c
    (put_last at_3 at_4 d put_d)))
    ∙ ap (λ (l : List ℕ). at_0 ++ l) is

pub puts_5 : (at_0 at_1 at_2 at_3 at_4 at_5 a b c d e whole : List ℕ)
    → at_1 ≡ at_0 ++ a → at_2 ≡ at_1 ++ b → at_3 ≡ at_2 ++ c → at_4 ≡ at_3 ++ d → at_5 ≡ at_4 ++ e
    → a ++ (b ++ (c ++ (d ++ (e ++ [])))) ≡ whole → at_5 ≡ at_0 ++ whole
puts_5 at_0 at_1 at_2 at_3 at_4 at_5 a b c d e whole put_a put_b put_c put_d put_e is =
    put_first at_0 at_1 at_5 a (b ++ (c ++ (d ++ (e ++ [])))) put_a
    (put_first at_1 at_2 at_5 b (c ++ (d ++ (e ++ []))) put_b
    (put_first at_2 at_3 at_5 c (d ++ (e ++ [])) put_c
    (put_first at_3 at_4 at_5 d (e ++ []) put_d
    (put_last at_4 at_5 e put_e))))
    ∙ ap (λ (l : List ℕ). at_0 ++ l) is

pub puts_7 : (at_0 at_1 at_2 at_3 at_4 at_5 at_6 at_7 a b c d e f g whole : List ℕ)
    → at_1 ≡ at_0 ++ a → at_2 ≡ at_1 ++ b → at_3 ≡ at_2 ++ c → at_4 ≡ at_3 ++ d → at_5 ≡ at_4 ++ e → at_6 ≡ at_5 ++ f →
    at_7 ≡ at_6 ++ g
    → a ++ (b ++ (c ++ (d ++ (e ++ (f ++ (g ++ [])))))) ≡ whole → at_7 ≡ at_0 ++ whole
puts_7 at_0 at_1 at_2 at_3 at_4 at_5 at_6 at_7 a b c d e f g whole put_a put_b put_c put_d put_e put_f put_g is =
    put_first at_0 at_1 at_7 a (b ++ (c ++ (d ++ (e ++ (f ++ (g ++ [])))))) put_a
    (put_first at_1 at_2 at_7 b (c ++ (d ++ (e ++ (f ++ (g ++ []))))) put_b
    (put_first at_2 at_3 at_7 c (d ++ (e ++ (f ++ (g ++ [])))) put_c
    (put_first at_3 at_4 at_7 d (e ++ (f ++ (g ++ []))) put_d
    (put_first at_4 at_5 at_7 e (f ++ (g ++ [])) put_e
    (put_first at_5 at_6 at_7 f (g ++ []) put_f
    (put_last at_6 at_7 g put_g))))))
    ∙ ap (λ (l : List ℕ). at_0 ++ l) is

-- an effect that was told apart
pub put_effect : (one same : Effect) (before after : List ℕ) → one ≡ same → after ≡ before ++ coded_effect same
    → after ≡ before ++ coded_effect one
put_effect one same before after is put = put ∙ ap (λ (e : Effect). before ++ coded_effect e) (sym is)

pub length-read_set : (one : Effect) (reader conference at : ℕ) (ranges : List ReadRange)
    → one ≡ effect.ReadSet reader conference at ranges → length (coded_effect one) ≡ 21 + 8 * length ranges
length-read_set one reader conference at ranges is =
    let parts : length (coded_ranges ranges ++ []) ≡ 8 * length ranges =
    ap length (append-nil (coded_ranges ranges)) ∙ length-coded_ranges ranges in
    omega (arith, parts, ap (λ (e : Effect). length (coded_effect e)) is)

-- what is put after the number of its parts
pub counted_put : (old with_number with_parts parts : List ℕ) (many size : ℕ) → many < 2 ^ 32
    → with_number ≡ old ++ to_le_bytes w32 (size % 2 ^ 32) → with_parts ≡ with_number ++ parts → size ≡ many
    → with_parts ≡ old ++ (to_le_bytes w32 many ++ parts)
counted_put old with_number with_parts parts many size few number_put parts_put is =
    let same : size % 2 ^ 32 ≡ many = ap (λ (n : ℕ). n % 2 ^ 32) is ∙ mod-eq_of_lt few in
    parts_put ∙ ap (λ (l : List ℕ). l ++ parts) (number_put ∙ ap (λ (n : ℕ). old ++ to_le_bytes w32 n) same)
    ∙ append_assoc old (to_le_bytes w32 many) parts

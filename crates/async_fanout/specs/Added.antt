-- The effects that add something to a text.
use Rattle.std.specs.Prelude.{ℕ, Bool, false, ◌==◌, ◌&&◌, List, Option, Some, None, option_map}
use Rattle.kom_types.specs.Bits.{alike}
use Rattle.kom_types.specs.declared.effects.Effect.{Effect}
use Rattle.kom_types.specs.tables.AuxItems.{is_item_of}
use Rattle.kom_types.specs.tables.Texts.{number_of_text}
use Rattle.kom_model.specs.Db.{Db}
use Rattle.kom_model.specs.Messages.{new_text}
use Rattle.kom_model.specs.Sending.{Sending}
use Rattle.kom_model.specs.Shown.{text_head_of}
use Rattle.kom_model.specs.ToWhom.{only_added, text_added, recipient_added, link_added, item_added}

-- what an effect adds passes a test
abbrev pub passes : {R : Type 0} → (Effect → Option R) → (R → Bool) → Effect → Bool
passes added test effect = elim (added effect) [ None ↦ false | Some row ↦ test row ]

-- the effect makes the text of a number
abbrev pub is_text : ℕ → Effect → Bool
is_text text effect = passes text_added (λ row. number_of_text row == text) effect

-- the effect adds a recipient of a text
abbrev pub is_recipient_of : ℕ → Effect → Bool
is_recipient_of text effect = passes recipient_added (λ row. row.text == text) effect

-- the effect adds a link from a text, or into it
abbrev pub is_from : ℕ → Bool → Effect → Bool
is_from text footnote effect =
    passes link_added (λ row. row.child == text && alike row.footnote footnote) effect

abbrev pub is_into : ℕ → Bool → Effect → Bool
is_into text footnote effect =
    passes link_added (λ row. row.parent == text && alike row.footnote footnote) effect

-- the effect adds an aux-item of a text, or of a conference
abbrev pub is_item : Bool → ℕ → Effect → Bool
is_item on_text object effect = passes item_added (is_item_of on_text object) effect

-- what is sent for the text that one of these effects makes
abbrev pub made_by : List Effect → Db → Effect → Option Sending
made_by effects db effect =
    option_map (λ row. new_text (only_added effects db) (text_head_of row)) (text_added effect)

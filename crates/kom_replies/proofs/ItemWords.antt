-- The words of an item, written and measured, are its line's.
use Rattle.std.proofs.Common.{◌≡◌, ℕ, Bool, true, List, [], ◌∷◌, ◌++◌, length, take, refl, ap, ◌∙◌, sym}
use Rattle.std.proofs.lemmas.List.{append-nil}
use Rattle.std.proofs.Math.Seq.{take-append_seam}
use Rattle.kom_types.specs.Printing.{print_of, line_of}
use Rattle.kom_types.specs.declared.items.Item.{Item}
use Rattle.kom_types.specs.declared.items.Item.TheVariants as item
use Rattle.kom_types.specs.declared.messages.Message.{Message}
use Rattle.kom_types.specs.declared.messages.Message.TheVariants as message
use Rattle.kom_types.specs.spellings.Messages.{words_of_message}
use Rattle.kom_types.specs.spellings.Replies.{words_of_reply}
use Rattle.kom_types.specs.declared.replies.Reply.{Reply}
use Rattle.kom_types.specs.declared.replies.Reply.TheVariants as reply
use Rattle.kom_types.specs.spellings.Words.{Words}
use Rattle.kom_framing.specs.Writing.{Written, put_word, end_line}
use Rattle.kom_replies.specs.Items.{with_item, words_of, Begins}
use Rattle.kom_replies.specs.Sinks.{with_words, Keeps}
use Rattle.kom_replies.specs.Lengths.{cap_at_u64, put_length}
use Rattle.kom_replies.proofs.WrittenWords.{line_written, line_measured}

-- an item's line is that of its words
pub print_is_line : (item : Item) → print_of item ≡ line_of (words_of item)
unfolding print_of
print_is_line item.Hello = refl
print_is_line (item.Reply reference body) = refl
print_is_line (item.Message message) = refl
print_is_line item.Fault = refl

-- some words, which are one at least
pub record HasWord (words : Words) : Type 0 where
  pub first : List ℕ
  pub rest : Words
  pub is : words ≡ first ∷ rest

pub reply_word : (reference : ℕ) (body : Reply) → HasWord (words_of_reply reference body)
reply_word reference (reply.Refused code status) = record { first = _; rest = _; is = refl }
reply_word reference other = record { first = _; rest = _; is = refl }

pub message_word : (message : Message) → HasWord (words_of_message message)
message_word (message.NewName of) = record { first = _; rest = _; is = refl }
message_word message.SyncDatabase = record { first = _; rest = _; is = refl }
message_word (message.LeaveConference conference) = record { first = _; rest = _; is = refl }
message_word (message.Login person session) = record { first = _; rest = _; is = refl }
message_word (message.SendMessage of) = record { first = _; rest = _; is = refl }
message_word (message.Logout person session) = record { first = _; rest = _; is = refl }
message_word (message.DeletedText which stat) = record { first = _; rest = _; is = refl }
message_word (message.NewText which stat) = record { first = _; rest = _; is = refl }
message_word (message.NewRecipient which conference kind) = record { first = _; rest = _; is = refl }
message_word (message.SubRecipient which conference kind) = record { first = _; rest = _; is = refl }
message_word (message.NewMembership person conference) = record { first = _; rest = _; is = refl }
message_word (message.NewUserArea person old_text new_text) = record { first = _; rest = _; is = refl }
message_word (message.NewPresentation conference old_text new_text) = record { first = _; rest = _; is = refl }
message_word (message.NewMotd conference old_text new_text) = record { first = _; rest = _; is = refl }
message_word (message.TextAuxChanged of) = record { first = _; rest = _; is = refl }

item_word : (item : Item) → HasWord (words_of item)
item_word item.Hello = record { first = _; rest = _; is = refl }
item_word (item.Reply reference body) = reply_word reference body
item_word (item.Message message) = message_word message
item_word item.Fault = record { first = _; rest = _; is = refl }

-- an item's words at a line's beginning, and the line's end, are its print
pub item_written : (item : Item) (written : Written) → written.joined ≡ true →
    end_line (with_words put_word (words_of item) written) ≡ with_item item written
item_written item written joined =
    let begun : written ≡ record { bytes = written.bytes; joined = true } =
    ap (λ (j : Bool). let line : Written = record { bytes = written.bytes; joined = j } in line) joined in
    ap (λ (line : Written). end_line (with_words put_word (words_of item) line)) begun
    ∙ line_written (words_of item) written.bytes
    ∙ ap (λ (more : List ℕ). let line : Written = record { bytes = written.bytes ++ more; joined = true } in line)
    (sym (print_is_line item))

-- the lengths of an item's words are its print's
pub item_measured : (item : Item) → with_words put_length (words_of item) 0 ≡ cap_at_u64 (length (print_of item))
item_measured item =
    let some = item_word item in
    let line : length (print_of item) ≡ length (line_of (some.first ∷ some.rest)) =
    ap length (print_is_line item) ∙ ap (λ (words : Words). length (line_of words)) some.is in
    ap (λ (words : Words). with_words put_length words 0) some.is ∙ line_measured some.first some.rest
    ∙ ap cap_at_u64 (sym line)

-- a writer that lost nothing since it began a line, cut back to where it stood, is what it was
pub cut_back_again : (old begun new : Written) (place : ℕ) (joined : Bool) →
    begun ≡ record old { joined = true } → Keeps Begins begun new → place ≡ length old.bytes → joined ≡ old.joined →
    record { bytes = take place new.bytes; joined = joined } ≡ old
cut_back_again old begun new place joined is keeps long same =
    let none : begun.bytes ≡ old.bytes ++ [] = ap (λ (line : Written). line.bytes) is ∙ sym (append-nil old.bytes) in
    let kept = keeps old.bytes (record { more = []; is = none }) in
    let cut : take place new.bytes ≡ old.bytes =
    ap (λ (n : ℕ). take n new.bytes) long ∙ ap (take (length old.bytes)) kept.is
    ∙ take-append_seam old.bytes kept.more in
    ap (λ (bytes : List ℕ). let line : Written = record { bytes = bytes; joined = joined } in line) cut
    ∙ ap (λ (j : Bool). let line : Written = record { bytes = old.bytes; joined = j } in line) same

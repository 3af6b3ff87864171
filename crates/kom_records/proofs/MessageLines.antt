-- A message is read exactly where a line spells it.
use Rattle.std.proofs.Common.{◌≡◌, ℕ, ◌==◌, true, false, List, [], ◌∷◌, ◌++◌, refl, sym, ap, subst, ◌∙◌}
use Rattle.std.proofs.Common.{arith, Result}
use Rattle.std.specs.Fmt.{decimal}
use Rattle.std.proofs.lemmas.List.{append-nil}
use Rattle.kom_types.specs.declared.messages.Message.{Message}
use Rattle.kom_types.specs.declared.messages.Message.TheVariants as message
use Rattle.kom_types.specs.declared.texts.TextStat.{TextStat}
use Rattle.kom_types.specs.spellings.AuxItems.{aux_items}
use Rattle.kom_types.specs.spellings.Messages.{words_of_message, message_words}
use Rattle.kom_types.specs.spellings.Texts as texts
use Rattle.kom_types.specs.spellings.Words as words
use Rattle.kom_types.specs.spellings.Words.{Words}
use Rattle.kom_types.specs.Token.{Token, Signed}
use Rattle.kom_types.specs.calls.Arguments.{Taken, Took, Departs, Malformed, then}
use Rattle.kom_records.specs.declared.fault.ReadFault.{ReadFault}
use Rattle.kom_records.specs.declared.tokens.Head.{Head}
use Rattle.kom_records.specs.Fits.{IsNumber, IsTextStat}
use Rattle.kom_records.specs.Messages.{IsMessage, IsMessageLine, message_line}
use Rattle.kom_records.specs.Arguments.{two_numbers, three_numbers, new_name, message_sent, with_stat, aux_changed}
use Rattle.kom_records.specs.ByNumber.{one_argument, two_arguments, three_arguments, arguments_of}
use Rattle.kom_records.specs.Replies.{nothing_after, ReadsOnly}
use Rattle.kom_records.specs.Rules.{head, number, map_taken}
use Rattle.kom_records.specs.Telling.{ReadsAs}
use Rattle.kom_records.specs.Words.{token_of_word, tokens_of_words}
use Rattle.kom_records.proofs.Choices.{choose}
use Rattle.kom_records.proofs.Spelled.{on, onward, glue, split, took_same, made_is, passed}
use Rattle.kom_records.proofs.Spelled.{branch, yes, not, departs_not}
use Rattle.kom_records.proofs.Values.{number_is, text_is}
use Rattle.kom_records.proofs.LongRecords.{aux_items_is}
use Rattle.kom_records.proofs.TextRecords.{text_stat_is}
use Rattle.kom_records.proofs.ReplyLines.{head_from, head_back, ended_from, reads_only}
use Rattle.kom_records.proofs.WordTokens.{word_message}

-- a message was read of this number and of so many arguments
record Heard (count which : ℕ) (of : Message) (tokens tail : List Token) : Type 0 where
  is : IsMessage of
  arguments : Words
  spelled : words_of_message of ≡ message_words count which arguments
  same : tokens ≡ tokens_of_words arguments ++ tail

module _ (make : ℕ → ℕ → Message) (count which : ℕ)
    (fit : (a b : ℕ) → IsNumber a → IsNumber b → IsMessage (make a b))
    (spelled : (a b : ℕ) → words_of_message (make a b)
    ≡ message_words count which (words.number a ++ words.number b)) where
  two_from : (n m : ℕ) (of : Message) (tokens tail : List Token) → n ≡ count → m ≡ which →
      two_numbers make tokens ≡ Took of tail → Heard n m of tokens tail
  two_from n m of tokens tail count_is which_is is =
      on number_is tokens _ of tail is (λ a t0 f0 e0 r0.
      on number_is t0 _ of tail r0 (λ b t1 f1 e1 r1.
      let same = took_same (make a b) of t1 tail r1 in
      subst (λ (of : Message). Heard n m of tokens tail) same.0
      (record {
        is = fit a b f0 f1;
        arguments = words.number a ++ words.number b;
        spelled = rw (count_is, which_is) (spelled a b);
        same = glue (words.number a) tokens t0 _ e0 (glue (words.number b) t0 t1 tail e1 same.1);
      })))

module _ (make : ℕ → ℕ → ℕ → Message) (count which : ℕ)
    (fit : (a b c : ℕ) → IsNumber a → IsNumber b → IsNumber c → IsMessage (make a b c))
    (spelled : (a b c : ℕ) → words_of_message (make a b c)
    ≡ message_words count which (words.number a ++ words.number b ++ words.number c)) where
  three_from : (n m : ℕ) (of : Message) (tokens tail : List Token) → n ≡ count → m ≡ which →
      three_numbers make tokens ≡ Took of tail → Heard n m of tokens tail
  three_from n m of tokens tail count_is which_is is =
      on number_is tokens _ of tail is (λ a t0 f0 e0 r0.
      on number_is t0 _ of tail r0 (λ b t1 f1 e1 r1.
      on number_is t1 _ of tail r1 (λ c t2 f2 e2 r2.
      let same = took_same (make a b c) of t2 tail r2 in
      subst (λ (of : Message). Heard n m of tokens tail) same.0
      (record {
        is = fit a b c f0 f1 f2;
        arguments = words.number a ++ words.number b ++ words.number c;
        spelled = rw (count_is, which_is) (spelled a b c);
        same = glue (words.number a) tokens t0 _ e0 (glue (words.number b) t0 t1 _ e1
            (glue (words.number c) t1 t2 tail e2 same.1));
      }))))

module _ (make : ℕ → TextStat → Message) (count which : ℕ)
    (fit : (a : ℕ) (b : TextStat) → IsNumber a → IsTextStat b → IsMessage (make a b))
    (spelled : (a : ℕ) (b : TextStat) → words_of_message (make a b)
    ≡ message_words count which (words.number a ++ texts.text_stat b)) where
  stat_from : (n m : ℕ) (of : Message) (tokens tail : List Token) → n ≡ count → m ≡ which →
      with_stat make tokens ≡ Took of tail → Heard n m of tokens tail
  stat_from n m of tokens tail count_is which_is is =
      on number_is tokens _ of tail is (λ a t0 f0 e0 r0.
      on text_stat_is t0 _ of tail r0 (λ b t1 f1 e1 r1.
      let same = took_same (make a b) of t1 tail r1 in
      subst (λ (of : Message). Heard n m of tokens tail) same.0
      (record {
        is = fit a b f0 f1;
        arguments = words.number a ++ texts.text_stat b;
        spelled = rw (count_is, which_is) (spelled a b);
        same = glue (words.number a) tokens t0 _ e0 (glue (texts.text_stat b) t0 t1 tail e1 same.1);
      })))

leave_from : (n m : ℕ) (of : Message) (tokens tail : List Token) → n ≡ 1 → m ≡ 8 →
    map_taken message.LeaveConference (number tokens) ≡ Took of tail → Heard n m of tokens tail
leave_from n m of tokens tail count_is which_is is =
    let found = made_is number_is message.LeaveConference tokens tail of is in
    subst (λ (of : Message). Heard n m of tokens tail) found.1.2
    (record {
      is = found.1.0;
      arguments = words.number found.0;
      spelled = rw (count_is, which_is) refl;
      same = found.1.1;
    })

name_from : (n m : ℕ) (of : Message) (tokens tail : List Token) → n ≡ 3 → m ≡ 5 →
    new_name tokens ≡ Took of tail → Heard n m of tokens tail
name_from n m of tokens tail count_is which_is is =
    on number_is tokens _ of tail is (λ a t0 f0 e0 r0.
    on text_is t0 _ of tail r0 (λ b t1 f1 e1 r1.
    on text_is t1 _ of tail r1 (λ c t2 f2 e2 r2.
    let same = took_same _ of t2 tail r2 in
    subst (λ (of : Message). Heard n m of tokens tail) same.0
    (record {
      is = (f0, (f1, f2));
      arguments = words.number a ++ words.text b ++ words.text c;
      spelled = rw (count_is, which_is) refl;
      same = glue (words.number a) tokens t0 _ e0 (glue (words.text b) t0 t1 _ e1
          (glue (words.text c) t1 t2 tail e2 same.1));
    }))))

sent_from : (n m : ℕ) (of : Message) (tokens tail : List Token) → n ≡ 3 → m ≡ 12 →
    message_sent tokens ≡ Took of tail → Heard n m of tokens tail
sent_from n m of tokens tail count_is which_is is =
    on number_is tokens _ of tail is (λ a t0 f0 e0 r0.
    on number_is t0 _ of tail r0 (λ b t1 f1 e1 r1.
    on text_is t1 _ of tail r1 (λ c t2 f2 e2 r2.
    let same = took_same _ of t2 tail r2 in
    subst (λ (of : Message). Heard n m of tokens tail) same.0
    (record {
      is = (f0, (f1, f2));
      arguments = words.number a ++ words.number b ++ words.text c;
      spelled = rw (count_is, which_is) refl;
      same = glue (words.number a) tokens t0 _ e0 (glue (words.number b) t0 t1 _ e1
          (glue (words.text c) t1 t2 tail e2 same.1));
    }))))

changed_from : (n m : ℕ) (of : Message) (tokens tail : List Token) → n ≡ 3 → m ≡ 22 →
    aux_changed tokens ≡ Took of tail → Heard n m of tokens tail
changed_from n m of tokens tail count_is which_is is =
    on number_is tokens _ of tail is (λ a t0 f0 e0 r0.
    on aux_items_is t0 _ of tail r0 (λ b t1 f1 e1 r1.
    on aux_items_is t1 _ of tail r1 (λ c t2 f2 e2 r2.
    let same = took_same _ of t2 tail r2 in
    subst (λ (of : Message). Heard n m of tokens tail) same.0
    (record {
      is = (f0, (f1, f2));
      arguments = words.number a ++ aux_items b ++ aux_items c;
      spelled = rw (count_is, which_is) refl;
      same = glue (words.number a) tokens t0 _ e0
          (glue (aux_items b) t0 t1 _ e1 (glue (aux_items c) t1 t2 tail e2 same.1)
          ∙ sym (split (aux_items b) (aux_items c) tail));
    }))))

one_argument_from : (count which : ℕ) (of : Message) (tokens tail : List Token) → count ≡ 1 →
    one_argument which tokens ≡ Took of tail → Heard count which of tokens tail
one_argument_from count which of tokens tail so_many is =
    choose which 8 _ _ _ is
    (leave_from count which of tokens tail so_many) (λ r0.
    absurd (departs_not r0))

two_arguments_from : (count which : ℕ) (of : Message) (tokens tail : List Token) → count ≡ 2 →
    two_arguments which tokens ≡ Took of tail → Heard count which of tokens tail
two_arguments_from count which of tokens tail so_many is =
    choose which 9 _ _ _ is
    (two_from message.Login 2 9 (λ _ _ f g. (f, g)) (λ _ _. refl) count which of tokens tail so_many) (λ r0.
    choose which 13 _ _ _ r0
    (two_from message.Logout 2 13 (λ _ _ f g. (f, g)) (λ _ _. refl) count which of tokens tail so_many) (λ r1.
    choose which 14 _ _ _ r1
    (stat_from message.DeletedText 2 14 (λ _ _ f g. (f, g)) (λ _ _. refl) count which of tokens tail so_many) (λ r2.
    choose which 15 _ _ _ r2
    (stat_from message.NewText 2 15 (λ _ _ f g. (f, g)) (λ _ _. refl) count which of tokens tail so_many) (λ r3.
    choose which 18 _ _ _ r3
    (two_from message.NewMembership 2 18 (λ _ _ f g. (f, g)) (λ _ _. refl) count which of tokens tail so_many) (λ r4.
    absurd (departs_not r4))))))

three_arguments_from : (count which : ℕ) (of : Message) (tokens tail : List Token) → count ≡ 3 →
    three_arguments which tokens ≡ Took of tail → Heard count which of tokens tail
three_arguments_from count which of tokens tail so_many is =
    choose which 5 _ _ _ is
    (name_from count which of tokens tail so_many) (λ r0.
    choose which 12 _ _ _ r0
    (sent_from count which of tokens tail so_many) (λ r1.
    choose which 16 _ _ _ r1
    (three_from message.NewRecipient 3 16 (λ _ _ _ f g h. (f, (g, h)))
    (λ _ _ _. refl) count which of tokens tail so_many) (λ r2.
    choose which 17 _ _ _ r2
    (three_from message.SubRecipient 3 17 (λ _ _ _ f g h. (f, (g, h)))
    (λ _ _ _. refl) count which of tokens tail so_many) (λ r3.
    choose which 22 _ _ _ r3
    (changed_from count which of tokens tail so_many) (λ r4.
    absurd (departs_not r4))))))

arguments_from : (count which : ℕ) (of : Message) (tokens tail : List Token) →
    arguments_of count which tokens ≡ Took of tail → Heard count which of tokens tail
arguments_from count which of tokens tail is =
    choose count 1 _ _ _ is (one_argument_from count which of tokens tail) (λ r0.
    choose count 2 _ _ _ r0 (two_arguments_from count which of tokens tail) (λ r1.
    choose count 3 _ _ _ r1 (three_arguments_from count which of tokens tail) (λ r2.
    absurd (departs_not r2))))

-- after the head
record IsTold (begun : Head) (read : Message) (tokens : List Token) : Type 0 where
  is : IsMessage read
  same : Signed begun.sign (decimal begun.number) ∷ tokens ≡ tokens_of_words (words_of_message read)

told_from : (begun : Head) (read : Message) (tokens tail : List Token) → IsNumber begun.number → begun.sign ≡ 58 →
    then (then (number tokens) (arguments_of begun.number)) nothing_after ≡ Took read tail → IsTold begun read tokens
told_from begun read tokens tail within sign_is is =
    let all = passed (then (number tokens) (arguments_of begun.number)) nothing_after read tail is in
    let last = ended_from all.value read all.mid tail all.rest in
    on number_is tokens (arguments_of begun.number) all.value all.mid all.first (λ which t0 f0 e0 r0.
    let heard = arguments_from begun.number which all.value t0 all.mid r0 in
    let arguments = heard.arguments in
    subst (λ (read : Message). IsTold begun read tokens) last.1
    (record {
      is = heard.is;
      same = ap (λ s. Signed s (decimal begun.number) ∷ tokens) sign_is
          ∙ ap (λ token. token ∷ tokens) (sym (word_message begun.number within))
          ∙ ap (λ t. token_of_word (58 ∷ decimal begun.number) ∷ t)
          (glue (words.number which) tokens t0 _ e0
          (heard.same ∙ ap (λ t. tokens_of_words arguments ++ t) last.0 ∙ append-nil (tokens_of_words arguments)))
          ∙ ap (λ (all : Words). tokens_of_words all) (sym heard.spelled);
    }))

message_from : (tokens tail : List Token) (read : Message) → message_line tokens ≡ Took read tail →
    IsMessageLine tokens read
message_from tokens tail read is =
    let one = passed (head tokens) _ read tail is in
    let told = head_from tokens one.mid one.value one.first in
    elim (branch one.value.sign 58 _ _ _ one.rest) [
      | yes same taken ↦
          let found = told_from one.value read one.mid tail told.0 same taken in
          (found.is, told.1 ∙ found.same)
      | not other ↦ absurd (departs_not other)
    ]

-- a message that is spelled
line_back : (count which : ℕ) (of : Message) (arguments : Words) → IsNumber count → IsNumber which →
    arguments_of count which (tokens_of_words arguments ++ []) ≡ Took of [] →
    message_line (tokens_of_words (message_words count which arguments)) ≡ Took of []
line_back count which of arguments count_is which_is is =
    let rest = tokens_of_words (words.number which) ++ tokens_of_words arguments in
    let inside : List Token → Taken Message = λ t. then (then (number t) (arguments_of count)) nothing_after in
    ap (λ token. message_line (token ∷ rest)) (word_message count count_is)
    ∙ ap (λ taken. then taken (λ begun t. elim (begun.sign == 58) [
      | true ↦ then (then (number t) (arguments_of begun.number)) nothing_after
      | false ↦ Departs Malformed
    ])) (head_back 58 count rest count_is)
    ∙ ap (λ taken. then taken nothing_after)
    (onward number_is which (tokens_of_words arguments) (arguments_of count) _ which_is
    (ap (arguments_of count which) (sym (append-nil (tokens_of_words arguments))) ∙ is))

message_back : (of : Message) → IsMessage of → message_line (tokens_of_words (words_of_message of)) ≡ Took of []
message_back (message.NewName of) fits =
    line_back 3 5 _ (words.number of.conference ++ words.text of.old_name ++ words.text of.new_name)
    (omega arith) (omega arith)
    (onward number_is of.conference _ _ _ fits.0 (onward text_is of.old_name _ _ _ fits.1.0
    (onward text_is of.new_name [] _ _ fits.1.1 refl)))
message_back message.SyncDatabase fits = absurd fits
message_back (message.LeaveConference conference) fits =
    line_back 1 8 _ (words.number conference) (omega arith) (omega arith)
    (onward number_is conference [] _ _ fits refl)
message_back (message.Login a b) fits =
    line_back 2 9 _ (words.number a ++ words.number b) (omega arith) (omega arith)
    (onward number_is a _ _ _ fits.0 (onward number_is b [] _ _ fits.1 refl))
message_back (message.Logout a b) fits =
    line_back 2 13 _ (words.number a ++ words.number b) (omega arith) (omega arith)
    (onward number_is a _ _ _ fits.0 (onward number_is b [] _ _ fits.1 refl))
message_back (message.NewMembership a b) fits =
    line_back 2 18 _ (words.number a ++ words.number b) (omega arith) (omega arith)
    (onward number_is a _ _ _ fits.0 (onward number_is b [] _ _ fits.1 refl))
message_back (message.SendMessage of) fits =
    line_back 3 12 _ (words.number of.recipient ++ words.number of.sender ++ words.text of.text) (omega arith)
    (omega arith)
    (onward number_is of.recipient _ _ _ fits.0 (onward number_is of.sender _ _ _ fits.1.0
    (onward text_is of.text [] _ _ fits.1.1 refl)))
message_back (message.DeletedText a b) fits =
    line_back 2 14 _ (words.number a ++ texts.text_stat b) (omega arith) (omega arith)
    (onward number_is a _ _ _ fits.0 (onward text_stat_is b [] _ _ fits.1 refl))
message_back (message.NewText a b) fits =
    line_back 2 15 _ (words.number a ++ texts.text_stat b) (omega arith) (omega arith)
    (onward number_is a _ _ _ fits.0 (onward text_stat_is b [] _ _ fits.1 refl))
message_back (message.NewRecipient a b c) fits =
    line_back 3 16 _ (words.number a ++ words.number b ++ words.number c) (omega arith) (omega arith)
    (onward number_is a _ _ _ fits.0 (onward number_is b _ _ _ fits.1.0 (onward number_is c [] _ _ fits.1.1 refl)))
message_back (message.SubRecipient a b c) fits =
    line_back 3 17 _ (words.number a ++ words.number b ++ words.number c) (omega arith) (omega arith)
    (onward number_is a _ _ _ fits.0 (onward number_is b _ _ _ fits.1.0 (onward number_is c [] _ _ fits.1.1 refl)))
message_back (message.NewUserArea a b c) fits = absurd fits
message_back (message.NewPresentation a b c) fits = absurd fits
message_back (message.NewMotd a b c) fits = absurd fits
message_back (message.TextAuxChanged of) fits =
    let all : Words = words.number of.text ++ aux_items of.deleted ++ aux_items of.added in
    line_back 3 22 _ all (omega arith) (omega arith)
    (ap (λ t. aux_changed (tokens_of_words (words.number of.text) ++ t)) (split (aux_items of.deleted)
    (aux_items of.added) [])
    ∙ onward number_is of.text _ _ _ fits.0 (onward aux_items_is of.deleted _ _ _ fits.1.0
    (onward aux_items_is of.added [] _ _ fits.1.1 refl)))

pub message_only : (tokens rest : List Token) (result : Result Message ReadFault) →
    ReadsAs true (message_line tokens) result rest → ReadsOnly (IsMessageLine tokens) result
message_only tokens rest result told =
    reads_only (message_line tokens) (IsMessageLine tokens) result rest
    (λ read tail is. message_from tokens tail read is)
    (λ read is. ap message_line is.1 ∙ message_back read is.0) told

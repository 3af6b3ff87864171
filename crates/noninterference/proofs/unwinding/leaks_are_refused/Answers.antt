-- Each is computed.
use Rattle.std.proofs.Common.{◌≡◌, ℕ, ◌∷◌, length, Option, refl, ap, arith}
use Rattle.read_ranges.specs.Numbers.{numbers_from}
use Rattle.kom_types.specs.declared.decisions.Decision.{Decision}
use Rattle.kom_types.specs.declared.replies.Reply.{Reply}
use Rattle.kom_types.specs.declared.replies.Reply.TheVariants as reply
use Rattle.kom_model.specs.declared.call_errors.Refused.{Refused}
use Rattle.kom_model.specs.Db.{items_of, next_item_of, conference_of, person_of, membership_of, memberships_of}
use Rattle.kom_model.specs.Db.{conferences_of, next_conference_of, conference_head_of, membership_kind_of, text_of}
use Rattle.kom_model.specs.Db.{text_author_of, next_text_of, next_local_of, first_local_of, locals_of, read_of}
use Rattle.kom_model.specs.Db.{recipient_of, recipients_of, mark_of, marks_of}
use Rattle.kom_model.specs.Effects.{fits, after_effect}
use Rattle.kom_model.specs.Rights.{supervises, sees, reads_conference, reads}
use Rattle.kom_laws.proofs.masking.Rows.{told}
use Rattle.noninterference.proofs.unwinding.leaks_are_refused.Goals as goal

-- a code with which a guard refuses; how many numbers are told, and the highest local number; and the first mark
abbrev code_of : Option Refused → ℕ
code_of early = told 0 (λ (refused : Refused). refused.code) early

abbrev told_number : Reply → ℕ
told_number (reply.Numbers numbers) = length numbers
told_number (reply.UConference told) = told.highest_local
told_number (reply.Marks (mark ∷ marks)) = mark.text
told_number other = 0

pub returns : goal.returns
unfolding numbers_from items_of next_item_of conference_of person_of membership_of memberships_of conferences_of
    next_conference_of
    conference_head_of membership_kind_of text_of text_author_of next_text_of next_local_of first_local_of locals_of
    read_of recipient_of recipients_of mark_of marks_of fits after_effect supervises sees reads_conference reads
returns c = record {
  protected = (refl, (refl, (refl, tt)));
  of_group = (refl, refl);
  body = λ same. let wrong : 14 ≡ 5 = ap code_of same.early in omega arith;
  conference = λ same. let wrong : 0 ≡ 1 = ap (λ (decision : Decision). told_number decision.reply) (same.rest refl) in
      omega arith;
  count = λ same. let wrong : 0 ≡ 2 = ap (λ (decision : Decision). told_number decision.reply) (same.rest refl) in
      omega arith;
  range = λ same. let wrong : 19 ≡ 14 = ap code_of same.early in omega arith;
  order = λ same. let wrong : 1 ≡ 2 = ap (λ (decision : Decision). told_number decision.reply) (same.rest refl) in
      omega arith;
}

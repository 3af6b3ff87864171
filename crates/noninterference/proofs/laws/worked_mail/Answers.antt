-- Each row is computed.
use Rattle.std.proofs.Common.{◌≡◌, true, false, Some, refl, sym, ap, ◌∙◌, inl, inr, true≢false}
use Rattle.std.specs.Fmt.{digits}
use Rattle.kom_types.specs.declared.texts.NewText.{NewText}
use Rattle.kom_types.specs.AuxItems.{refused_change, inherit}
use Rattle.kom_types.specs.Names.{is_name}
use Rattle.kom_types.specs.Printing.{print_of}
use Rattle.kom_model.specs.After.{after}
use Rattle.kom_model.specs.Db.{conference_of, person_of, membership_of, memberships_of, memberships_at}
use Rattle.kom_model.specs.Db.{members_of, conferences_of, next_conference_of, conference_head_of}
use Rattle.kom_model.specs.Db.{membership_kind_of, person_flags_of, read_of, text_of, text_author_of}
use Rattle.kom_model.specs.Db.{texts_of, next_text_of, next_local_of, next_created_of, recipient_of}
use Rattle.kom_model.specs.Db.{recipients_of, link_of, links_from, links_into, links_of, locals_of}
use Rattle.kom_model.specs.Db.{first_local_of, created_by, first_created_of, mark_of, marks_of}
use Rattle.kom_model.specs.Db.{marks_on, items_of, next_item_of}
use Rattle.kom_model.specs.Decide.{decision_of}
use Rattle.kom_model.specs.Effects.{fits, after_effect}
use Rattle.kom_model.specs.Rights.{supervises, sees, reads_conference, reads, may_submit}
use Rattle.kom_model.specs.Shown.{shows_membership}
use Rattle.kom_model.specs.State.{State}
use Rattle.kom_model.specs.ToWhom.{messages_of}
use Rattle.noninterference.specs.Mail.{yes, no, mail, letterbox, stat, flush, drain}
use Rattle.noninterference.specs.Worlds.{before, di}
use Rattle.noninterference.specs.respect.Quiet.{IsQuiet, recipients_seen}
use Rattle.noninterference.proofs.Quieting.{quiet-by, own-quietly}
use Rattle.noninterference.proofs.laws.worked_mail.Goals as goal

only : {one other : NewText} → Some one ≡ Some other → one ≡ other
only same = cc

abbrev after_mail : NewText → State
after_mail given = after before (mail given)

abbrev after_letterbox : NewText → State
after_letterbox given = after (after_mail given) letterbox

abbrev after_stat : NewText → State
after_stat given = after (after_letterbox given) stat

abbrev after_flush : NewText → State
after_flush given = after (after_stat given) flush

pub returns : goal.returns
unfolding digits refused_change inherit is_name print_of conference_of person_of membership_of memberships_of
    memberships_at members_of conferences_of next_conference_of conference_head_of membership_kind_of
    person_flags_of read_of text_of text_author_of texts_of next_text_of next_local_of next_created_of
    recipient_of recipients_of link_of links_from links_into links_of locals_of first_local_of created_by
    first_created_of mark_of marks_of marks_on items_of next_item_of decision_of fits after_effect supervises sees
    reads_conference reads may_submit shows_membership messages_of
returns c =
    let mailed : IsQuiet di before (mail yes) = quiet-by di before (mail yes)
    (record { possible = refl; user = tt; session = refl; short = tt }) refl refl refl (refl, (refl, (refl, tt)))
    refl in
    let mailed' : IsQuiet di before (mail no) = quiet-by di before (mail no)
    (record { possible = refl; user = tt; session = refl; short = tt }) refl refl refl (refl, (refl, (refl, tt)))
    refl in
    let asked : IsQuiet di (after_mail yes) letterbox = quiet-by di (after_mail yes) letterbox
    (record { possible = refl; user = tt; session = refl; short = tt }) refl refl refl (refl, (refl, (refl, tt)))
    refl in
    let asked' : IsQuiet di (after_mail no) letterbox = quiet-by di (after_mail no) letterbox
    (record { possible = refl; user = tt; session = refl; short = tt }) refl refl refl (refl, (refl, (refl, tt)))
    refl in
    let asked_again : IsQuiet di (after_letterbox yes) stat = quiet-by di (after_letterbox yes) stat
    (record { possible = refl; user = tt; session = refl; short = tt }) refl refl refl (refl, (refl, (refl, tt)))
    refl in
    let asked_again' : IsQuiet di (after_letterbox no) stat = quiet-by di (after_letterbox no) stat
    (record { possible = refl; user = tt; session = refl; short = tt }) refl refl refl (refl, (refl, (refl, tt)))
    refl in
    let flushed : IsQuiet di (after_stat yes) flush = quiet-by di (after_stat yes) flush
    (record { possible = refl; user = tt; session = refl; short = tt }) refl refl refl (refl, (refl, (refl, tt)))
    refl in
    let flushed' : IsQuiet di (after_stat no) flush = quiet-by di (after_stat no) flush
    (record { possible = refl; user = tt; session = refl; short = tt }) refl refl refl (refl, (refl, (refl, tt)))
    refl in
    let drained : IsQuiet di (after_flush yes) drain = quiet-by di (after_flush yes) drain
    (record { possible = refl; user = tt; session = refl; short = tt }) refl refl refl (refl, (refl, (refl, tt)))
    refl in
    let drained' : IsQuiet di (after_flush no) drain = quiet-by di (after_flush no) drain
    (record { possible = refl; user = tt; session = refl; short = tt }) refl refl refl (refl, (refl, (refl, tt)))
    refl in
    record {
      alike = (
        refl,
        inr (record { first = refl; second = refl; texts = refl }),
        (refl, inl refl, (refl, inl refl, (refl, inl refl, (refl, inl refl, tt)))),
      );
      quiet = (
        record {
          first = mailed;
          second = mailed';
          hidden = inr (refl, refl);
          texts = λ given given' hidden is is'. record {
            accepted = refl;
            author = λ made. refl;
            recipients = λ made. sym (ap (recipients_seen di before.db) (only is))
                ∙ ap (recipients_seen di before.db) (only is');
          };
          outside = λ equal apart. inl (refl, refl);
        },
        (
          own-quietly di (after_mail yes) (after_mail no) letterbox asked asked' refl
              (λ apart. absurd (true≢false (sym apart))),
          (
            own-quietly di (after_letterbox yes) (after_letterbox no) stat asked_again asked_again' refl
                (λ apart. absurd (true≢false (sym apart))),
            (
              own-quietly di (after_stat yes) (after_stat no) flush flushed flushed' refl
                  (λ apart. record { effects = refl; changes = refl }),
              (
                own-quietly di (after_flush yes) (after_flush no) drain drained drained' refl
                    (λ apart. record { effects = refl; changes = refl }),
                tt,
              ),
            ),
          ),
        ),
      );
      sent = refl;
      sent_in_the_other_world = refl;
      drained = refl;
      drained_in_the_other_world = refl;
      said = refl;
      said_in_the_other_world = refl;
      opened = λ quiet. let wrong : false ≡ true = quiet.first.closed.text 1 refl refl refl in cc;
      told = refl;
      told_in_the_other_world = refl;
    }

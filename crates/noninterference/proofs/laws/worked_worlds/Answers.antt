-- Each row is computed.
use Rattle.std.proofs.Common.{◌≡◌, true, false, refl, sym, inl, inr, true≢false}
use Rattle.std.specs.Fmt.{digits}
use Rattle.kom_types.specs.AuxItems.{refused_change, inherit}
use Rattle.kom_types.specs.Names.{is_name}
use Rattle.kom_types.specs.Printing.{print_of}
use Rattle.kom_model.specs.Db.{items_of, next_item_of, conference_of, person_of, membership_of, memberships_of}
use Rattle.kom_model.specs.Db.{conferences_of, next_conference_of, conference_head_of, membership_kind_of, text_of}
use Rattle.kom_model.specs.Db.{text_author_of, next_text_of, next_local_of, next_created_of, recipient_of}
use Rattle.kom_model.specs.Db.{recipients_of}
use Rattle.kom_model.specs.Decide.{decision_of}
use Rattle.kom_model.specs.Effects.{fits, after_effect}
use Rattle.kom_model.specs.Rights.{supervises, sees, reads_conference, reads, may_submit}
use Rattle.noninterference.proofs.laws.worked_worlds.Goals as goal

pub returns : goal.returns
unfolding digits refused_change inherit is_name print_of items_of next_item_of conference_of person_of membership_of
    memberships_of conferences_of next_conference_of conference_head_of membership_kind_of text_of text_author_of
    next_text_of next_local_of next_created_of recipient_of recipients_of decision_of fits after_effect supervises sees
    reads_conference reads may_submit
returns c = record {
  text_to_cy = refl;
  text_to_cy_in_the_other_world = refl;
  text_to_the_board = refl;
  text_to_all = refl;
  text_without_an_author = refl;
  query = refl;
  refused_by_the_reader = refl;
  motd_of_the_board = refl;
  motd_of_the_open_one = refl;
  refused_change = refl;
  name_of_the_board = refl;
  drain = refl;
  own_drain = refl;
  own_query = refl;
  alike = (refl, inr (record { first = refl; second = refl; texts = refl }), (refl, inl refl, tt));
  not_of_another_length = λ none. none;
  not_as_long = refl;
  not_against_another_act = refl;
  not_without_an_author = refl;
  not_of_the_group = refl;
  recipients = refl;
  opened_text = λ none. let wrong : false ≡ true = none.text 1 refl refl refl in cc;
  opened_conference = λ none. let wrong : false ≡ true = none.conference 10 refl refl refl in cc;
  made_strong = λ weak. let wrong : false ≡ true = weak.0 in cc;
  weak_sessions = (refl, (refl, (refl, tt)));
  same_worlds = record {
    of_group = (
      λ among. absurd (true≢false (sym among)),
      (λ among. absurd (true≢false (sym among)), (λ among. (refl, refl), tt)),
    );
    same = refl;
  };
}

-- Each row is computed.
use Rattle.std.proofs.Common.{refl}
use Rattle.kom_model.specs.Db.{items_of, next_item_of, conference_of, person_of, membership_of, memberships_of}
use Rattle.kom_model.specs.Db.{conferences_of, members_of, text_of, next_local_of, next_created_of, recipient_of}
use Rattle.kom_model.specs.Db.{recipients_of, link_of, links_from, links_into, locals_of, mark_of, marks_of, marks_on}
use Rattle.kom_model.specs.Effects.{fits, after_effect}
use Rattle.kom_model.specs.Initial.{initial}
use Rattle.kom_snapshot.specs.Snap.{snap}
use Rattle.kom_model.specs.Raising.{may_raise, raised_in}
use Rattle.kom_snapshot.proofs.laws.worked_snapshots.Goals as goal

pub returns : goal.returns
unfolding items_of next_item_of conference_of person_of membership_of memberships_of conferences_of members_of
    text_of next_local_of next_created_of recipient_of recipients_of link_of links_from links_into locals_of
    mark_of marks_of marks_on fits after_effect initial snap may_raise raised_in
returns c = record {
  history_fits = refl;
  history_makes = refl;
  listed = refl;
  stands = refl;
  of_nothing = refl;
  nothing_stands = refl;
  initial_effects = λ password moment. refl;
  initial_counters = λ password moment. refl;
  next_text_forgotten = refl;
  next_locals_forgotten = refl;
  sessions_forgotten = refl;
  does_not_fit = refl;
  raised_no_further = refl;
  lowered = refl;
  last_local = refl;
  past_the_last_local = refl;
  of_no_conference = refl;
  of_no_person = refl;
  of_no_text = refl;
  all_of_an_object = refl;
  conferences_of_an_object = refl;
  last_conference = refl;
  past_the_last_conference = refl;
  last_text = refl;
  past_the_last_text = refl;
  created_lowered = refl;
  last_created = refl;
  items_lowered = refl;
  conference_items_lowered = refl;
  sessions_lowered = refl;
  last_session = refl;
  past_the_last_session = refl;
}

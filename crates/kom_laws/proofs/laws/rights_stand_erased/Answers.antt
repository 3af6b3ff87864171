use Rattle.kom_laws.proofs.Rights.{rights-erased, hidden-erased, hidden-masked, unseen-masked}
use Rattle.kom_laws.proofs.Shown.{shown-erased}
use Rattle.kom_laws.proofs.Told.{told-erased}
use Rattle.kom_laws.proofs.Calls.{sent-erased}
use Rattle.kom_laws.proofs.Viewers.{viewer-masked}
use Rattle.kom_laws.proofs.laws.rights_stand_erased.Goals as goal

pub returns : goal.returns
returns c = record {
  rights = rights-erased;
  shown = λ group db viewer protected of_group. shown-erased group db viewer of_group;
  told = λ group db viewer protected in_group. told-erased group db viewer in_group;
  sent = λ group asked decision viewer protected whole in_group.
      sent-erased group asked viewer decision protected whole in_group;
  viewer = viewer-masked;
  hidden = hidden-erased;
  unseen = unseen-masked;
  masked = hidden-masked;
}

use Rattle.std.proofs.Common.{refl, subst}
use Rattle.kom_hub.specs.declared.news.News.{News}
use Rattle.kom_hub.specs.Crowds.{HearsNews}
use Rattle.kom_hub.proofs.guest.Guest.tell.Goals as goal

pub returns-then-self-number : goal.returns-then-self-number
returns-then-self-number g c = λ before after h. record {
  session = refl;
  served = λ was now. now;
  rest = λ was. was;
}

pub returns-in-Flushed : goal.returns-in-Flushed
returns-in-Flushed g c = λ before after h.
    let f : _ = subst (λ (news : News). HearsNews news before after) c.in-Flushed.is h in
    c.tell_flushed.ensures before after f.0 f.1

pub returns-in-Asked : goal.returns-in-Asked
returns-in-Asked g c = λ before after h.
    c.tell_stopped.ensures before after (subst (λ (news : News). HearsNews news before after) c.in-Asked.is h)

use Rattle.std.proofs.Common.{refl, sym, ap, ◌∙◌, subst}
use Rattle.kom_model.specs.Initial.{initial}
use Rattle.kom_book.specs.Books.{IsPlain}
use Rattle.kom_book.proofs.book.Book.fresh.Goals as goal

pub returns-clause-plain : goal.returns-clause-plain
returns-clause-plain g c =
    subst IsPlain (sym (c.in_ok-inner.ensures.ok ∙ c.new.ensures)) (record {
      opening = (
        initial c.args.password.now c.args.moment,
        ap (λ core. core.state) c.in_ok-core.ensures.value,
        c.in_ok-core.ensures.sound,
      );
      waits = tt;
      whole = tt;
      refused = refl;
    })

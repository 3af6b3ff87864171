use Rattle.std.proofs.Common.{◌≡◌, ◌<◌, ◌^◌, sym, ap, subst, ◌∙◌}
use Rattle.std.specs.Prelude.{Ok, Err}
use Rattle.kom_model.specs.Out.{taken_by}
use Rattle.kom_journal.specs.Images.{images_at, moment}
use Rattle.kom_book.specs.Books.{BookView, state_in}
use Rattle.kom_book.specs.Making.{BookComes, StopsCome}
use Rattle.kom_book.proofs.Booking.{made_comes, refused_comes}
use Rattle.kom_book.proofs.acting.BookActs.make.Goals as goal

pub make-requires-clause-room : goal.make-requires-clause-room
make-requires-clause-room g c =
    let same : c.args.self.now ≡ c.deref_mut.result.now = sym (c.deref_mut.ensures.value ∙ c.self.view_is) in
    subst (λ (book : BookView g.row.D.Denot). (state_in book).entries < 2 ^ 62) same c.requires.room

pub returns-clause-comes : goal.returns-clause-comes
returns-clause-comes g c =
    let new : BookView g.row.D.Denot = c.make.new.self in
    let same : c.deref_mut.result.now ≡ c.args.self.now = c.deref_mut.ensures.value ∙ c.self.view_is in
    made_comes (moment g.D.Disk.moment) (images_at g.D.Disk.images_at) g.D.Disk.tells g.D.Disk.faults
    c.in-Ok.made c.store-store.result c.args.self.now new c.args.entry.now c.requires.own
    (subst (λ (old : BookView g.row.D.Denot).
    BookComes g.D.Disk.faults old c.args.entry.now new (Ok c.in-Ok.made)) same c.in-Ok.ensures.comes)
    (λ told. subst (λ (old : BookView g.row.D.Denot).
    StopsCome (moment g.D.Disk.moment) (images_at g.D.Disk.images_at) old new (Ok c.in-Ok.made)) same
    (c.in-Ok.ensures.stops told))
    (c.store-store.ensures ∙ ap (λ (book : BookView g.row.D.Denot). book.journal) c.deref.ensures)

pub returns-clause-taken : goal.returns-clause-taken
returns-clause-taken g c =
    c.make.ensures.taken ∙ ap (λ (book : BookView g.row.D.Denot). taken_by (state_in book) c.args.entry.now.act)
    (c.deref_mut.ensures.value ∙ c.self.view_is)

pub returns-in-Err-clause-comes : goal.returns-in-Err-clause-comes
returns-in-Err-clause-comes g c =
    let new : BookView g.row.D.Denot = c.make.new.self in
    let same : c.deref_mut.result.now ≡ c.args.self.now = c.deref_mut.ensures.value ∙ c.self.view_is in
    refused_comes (moment g.D.Disk.moment) (images_at g.D.Disk.images_at) g.D.Disk.tells g.D.Disk.faults
    c.in-Err.why c.args.self.now new c.args.entry.now
    (subst (λ (old : BookView g.row.D.Denot).
    BookComes g.D.Disk.faults old c.args.entry.now new (Err c.in-Err.why)) same c.in-Err.ensures.comes)

pub returns-in-Err-clause-taken : goal.returns-in-Err-clause-taken
returns-in-Err-clause-taken g c =
    c.make.ensures.taken ∙ ap (λ (book : BookView g.row.D.Denot). taken_by (state_in book) c.args.entry.now.act)
    (c.deref_mut.ensures.value ∙ c.self.view_is)

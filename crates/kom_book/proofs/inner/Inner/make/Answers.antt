use Rattle.std.proofs.Common.{◌≡◌, false, None, Option, sym, subst}
use Rattle.std.specs.Prelude.{IfSome}
use Rattle.batch_log.specs.declared.errors.FlushFault.{FlushFault}
use Rattle.kom_journal.specs.Images.{images_at, moment}
use Rattle.kom_journal.specs.Journals.{JournalView}
use Rattle.kom_book.specs.Books.{BookView, IsMarked}
use Rattle.kom_book.specs.Making.{BookComes, StopsCome, book_of}
use Rattle.kom_book.proofs.ActsMade.{unstored_comes, unstored_stops, marks_come, book_with}
use Rattle.kom_book.proofs.inner.Inner.make.Goals as goal

pub make_stored-requires-clause-whole : goal.make_stored-requires-clause-whole
make_stored-requires-clause-whole g c none =
    subst (λ (journal : Option (JournalView g.row.D.Denot)). IfSome journal (λ store. store.refused ≡ false))
    c.in-Some.is (c.self.invariant.whole none)

pub returns-in-None-clause-comes : goal.returns-in-None-clause-comes
returns-in-None-clause-comes g c =
    let refused : Option FlushFault = c.self.inside.refused in
    let new : BookView g.row.D.Denot = book_with c.make_kept.new.self c.self.inside.journal refused in
    subst (λ (old : BookView g.row.D.Denot).
    BookComes g.D.Disk.faults old c.args.entry.now new c.make_kept.result) c.self.view_is
    (subst (λ (journal : Option (JournalView g.row.D.Denot)).
    BookComes g.D.Disk.faults (book_with c.self.inside.core journal refused) c.args.entry.now
    (book_with c.make_kept.new.self journal refused) c.make_kept.result) (sym c.in-None.is)
    (unstored_comes g.D.Disk.faults c.make_kept.result c.self.inside.core c.make_kept.new.self refused
    c.args.entry.now c.make_kept.ensures.comes))

pub returns-in-None-clause-stops : goal.returns-in-None-clause-stops
returns-in-None-clause-stops g c told =
    let refused : Option FlushFault = c.self.inside.refused in
    let new : BookView g.row.D.Denot = book_with c.make_kept.new.self c.self.inside.journal refused in
    subst (λ (old : BookView g.row.D.Denot).
    StopsCome (moment g.D.Disk.moment) (images_at g.D.Disk.images_at) old new c.make_kept.result) c.self.view_is
    (subst (λ (journal : Option (JournalView g.row.D.Denot)).
    StopsCome (moment g.D.Disk.moment) (images_at g.D.Disk.images_at)
    (book_with c.self.inside.core journal refused) (book_with c.make_kept.new.self journal refused)
    c.make_kept.result) (sym c.in-None.is)
    (unstored_stops g.D.Disk.faults (moment g.D.Disk.moment) (images_at g.D.Disk.images_at) c.make_kept.result
    c.self.inside.core c.make_kept.new.self refused))

pub returns-in-Some-clause-comes : goal.returns-in-Some-clause-comes
returns-in-Some-clause-comes g c =
    let new : BookView g.row.D.Denot =
    book_of c.make_stored.new.core c.make_stored.new.store c.make_stored.new.refused in
    subst (λ (old : BookView g.row.D.Denot).
    BookComes g.D.Disk.faults old c.args.entry.now new c.make_stored.result) c.self.view_is
    (subst (λ (journal : Option (JournalView g.row.D.Denot)).
    BookComes g.D.Disk.faults (book_with c.self.inside.core journal c.self.inside.refused) c.args.entry.now new
    c.make_stored.result)
    (sym c.in-Some.is) c.make_stored.ensures.comes)

pub returns-in-Some-clause-stops : goal.returns-in-Some-clause-stops
returns-in-Some-clause-stops g c told =
    let new : BookView g.row.D.Denot =
    book_of c.make_stored.new.core c.make_stored.new.store c.make_stored.new.refused in
    subst (λ (old : BookView g.row.D.Denot).
    StopsCome (moment g.D.Disk.moment) (images_at g.D.Disk.images_at) old new c.make_stored.result) c.self.view_is
    (subst (λ (journal : Option (JournalView g.row.D.Denot)).
    StopsCome (moment g.D.Disk.moment) (images_at g.D.Disk.images_at)
    (book_with c.self.inside.core journal c.self.inside.refused) new c.make_stored.result) (sym c.in-Some.is)
    (c.make_stored.ensures.stops told))

pub invariant_of-self : goal.invariant_of-self
invariant_of-self g c =
    let refused : Option FlushFault = c.self.inside.refused in
    subst (λ (journal : Option (JournalView g.row.D.Denot)).
    IsMarked c.make_kept.new.self.state.store_refused journal refused) (sym c.in-None.is)
    (marks_come g.D.Disk.faults c.make_kept.result (book_with c.self.inside.core None refused)
    (book_with c.make_kept.new.self None refused) c.args.entry.now
    (unstored_comes g.D.Disk.faults c.make_kept.result c.self.inside.core c.make_kept.new.self refused
    c.args.entry.now c.make_kept.ensures.comes)
    (subst (λ (journal : Option (JournalView g.row.D.Denot)).
    IsMarked c.self.inside.core.state.store_refused journal refused) c.in-None.is c.self.invariant))

pub invariant_of-self-in-Some : goal.invariant_of-self-in-Some
invariant_of-self-in-Some g c =
    marks_come g.D.Disk.faults c.make_stored.result
    (book_of c.self.inside.core c.in-Some.store c.self.inside.refused)
    (book_of c.make_stored.new.core c.make_stored.new.store c.make_stored.new.refused) c.args.entry.now
    c.make_stored.ensures.comes
    (subst (λ (journal : Option (JournalView g.row.D.Denot)).
    IsMarked c.self.inside.core.state.store_refused journal c.self.inside.refused) c.in-Some.is c.self.invariant)

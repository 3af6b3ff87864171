-- What the right to read a text says by the author of the text.
use Rattle.std.proofs.Common.{◌≡◌, ℕ, Bool, false, ◌||◌, Option, Some, None, ap}
use Rattle.kom_model.specs.declared.viewers.Viewer.{Viewer}
use Rattle.kom_model.specs.Db.{Db, text_author_of}
use Rattle.kom_model.specs.Rights.{reads, reads_by_recipient, is_author}

-- what an author that may be there tells
abbrev told : (ℕ → Bool) → Option ℕ → Bool
told tell found = elim found [ None ↦ false | Some author ↦ tell author ]

pub reads_none : (db : Db) (viewer : Viewer) (text : ℕ) → text_author_of db text ≡ None → reads db viewer text ≡ false
unfolding reads
reads_none db viewer text is =
    ap (told (λ author. viewer.strong || is_author viewer.person author || reads_by_recipient db viewer text)) is

pub reads_some : (db : Db) (viewer : Viewer) (text author : ℕ) → text_author_of db text ≡ Some author →
    reads db viewer text ≡ (viewer.strong || is_author viewer.person author || reads_by_recipient db viewer text)
unfolding reads
reads_some db viewer text author is =
    ap (told (λ author. viewer.strong || is_author viewer.person author || reads_by_recipient db viewer text)) is

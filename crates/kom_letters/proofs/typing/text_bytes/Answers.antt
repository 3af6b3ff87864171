use Rattle.std.proofs.Common.{◌≡◌, ℕ, false, List, IsUtf8, subst, ◌∙◌, rules}
use Rattle.std.specs.Str.{chars}
use Rattle.kom_letters.specs.Typing.{goes_as_latin1}
use Rattle.kom_letters.proofs.Typed.{utf8_as_typed}
use Rattle.kom_letters.proofs.typing.text_bytes.Goals as goal

pub returns-clause-as_typed : goal.returns-clause-as_typed
returns-clause-as_typed c =
    let text : IsUtf8 c.args.typed.now = c.in_ok-letters.ensures.text (search rules) in
    let other = rw c.in-None.is at c.in_ok-body.ensures in
    let goes : goes_as_latin1 (chars c.args.typed.now) ≡ false =
    subst (λ (letters : List ℕ). goes_as_latin1 letters ≡ false)
    (c.as_slice.ensures.value ∙ c.in_ok-letters.ensures.letters) other in
    utf8_as_typed c.args.typed.now c.in_ok-body-in-None.body.items c.in_ok-body-in-None.ensures.items text goes

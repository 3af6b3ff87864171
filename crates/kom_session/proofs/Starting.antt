-- A machine for a link that was not read.
use Rattle.std.proofs.Common.{◌≡◌, ℕ, false, inl, List, [], Option, Some, None, refl, sym, ap, subst, append-nil}
use Rattle.std.specs.Prelude.{IfSome}
use Rattle.kom_framing.specs.Splitting.{Splitting, IsAt}
use Rattle.kom_links.specs.Outside.{Look, with_bytes}
use Rattle.kom_session.specs.declared.phase.Phase.TheVariants as phase
use Rattle.kom_session.specs.declared.phase.Stage.TheVariants as stage
use Rattle.kom_session.specs.Ends.{IsUntouched}
use Rattle.kom_session.specs.Known.{Seen}
use Rattle.kom_session.specs.Serving.{Nobody}
use Rattle.kom_session.specs.Waits.{AreAnswered}
use Rattle.kom_session.specs.Kept.{IsKept}
use Rattle.kom_session.proofs.Others.{others_none}

grown-nil : (told : Option (List ℕ)) → with_bytes [] told ≡ told
grown-nil None = refl
grown-nil (Some before) = ap Some (append-nil before)

no_look : (told : Option (List Look)) → IfSome told (λ looks. looks ≡ [])
    → IfSome told (λ looks. AreAnswered false [] looks false [])
no_look None none = tt
no_look (Some looks) none =
    subst (λ looks. AreAnswered false [] looks false []) (sym none) (refl, refl)

pub kept_new : (start : Seen) → IsUntouched start.link → (splitting : Splitting)
    → IsAt splitting [] [] → (pending : List ℕ) → pending ≡ [] →
    IsKept start
    (record {
      splitting = splitting;
      pending = pending;
      session = 0;
      cause = None;
      phase = phase.Calm;
      stage = stage.Serving;
      bad = None;
    }) start
kept_new start untouched splitting at pending nothing = record {
  past = record { fed = []; party = Nobody [] };
  served = record {
    added = [];
    more = [];
    bytes = [];
    waited = false;
    place = [];
    recent = [];
    mine = sym (append-nil start.desk.mine);
    answers = sym (append-nil start.desk.answers);
    own = tt;
    taken = sym (grown-nil start.link.taken);
    put = sym (grown-nil start.link.put);
    owed = nothing;
    party = record { none = refl; calm = refl; nothing = refl; may_tell = inl refl };
    steps = refl;
    looked = no_look start.link.reads untouched.no_read;
    phase = (inl refl, λ waited some. absurd (cc waited));
    cause = refl;
    unrefused = λ none sound number. refl;
    since = λ some. absurd (some refl);
    others = others_none 0 start;
    untouched = untouched;
  };
  stage = record {
    units = [];
    at = at;
    called = (refl, refl);
    sound = refl;
    bad = refl;
    early = tt;
  };
}

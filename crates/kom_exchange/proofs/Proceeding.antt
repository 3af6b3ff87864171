-- Keys, a server and a screen go on.
use Rattle.std.proofs.Common.{◌≡◌, false, refl, sym, subst, ◌∙◌}
use Rattle.kom_links.specs.Outside.{LinkView}
use Rattle.kom_screen.specs.Screens.{Seen, Grows}
use Rattle.kom_exchange.specs.Asking.{Asking}
use Rattle.kom_exchange.specs.Fair.{Proceeds}
use Rattle.kom_exchange.specs.Goes.{Hears}
use Rattle.kom_exchange.specs.Typing.{Types}
use Rattle.kom_exchange.proofs.Going.{grows_none, grows_trans, goes_none, goes_trans, goes_hears}

pub proceeds_none : (keys : LinkView) (server : Asking) (screen : Seen)
    → Proceeds keys server screen keys server screen
proceeds_none keys server screen = record {
  typed = grows_none keys.taken;
  goes = goes_none server;
  shown = grows_none screen.sink.put;
  columns = refl;
}

pub proceeds_then : {k1 k2 k3 : LinkView} {s1 s2 s3 : Asking} {t1 t2 t3 : Seen} → Proceeds k1 s1 t1 k2 s2 t2
    → Proceeds k2 s2 t2 k3 s3 t3 → Proceeds k1 s1 t1 k3 s3 t3
proceeds_then {k1} {k2} {k3} {s1} {s2} {s3} {t1} {t2} {t3} p q = record {
  typed = grows_trans k1.taken k2.taken k3.taken p.typed q.typed;
  goes = goes_trans s1 s2 s3 p.goes q.goes;
  shown = grows_trans t1.sink.put t2.sink.put t3.sink.put p.shown q.shown;
  columns = q.columns ∙ p.columns;
}

pub proceeds_heard : (keys : LinkView) (old new : Asking) (screen : Seen) → Hears old new
    → Proceeds keys old screen keys new screen
proceeds_heard keys old new screen h = record {
  typed = grows_none keys.taken;
  goes = goes_hears old new h;
  shown = grows_none screen.sink.put;
  columns = refl;
}

pub proceeds_typed : (old new : LinkView) (server : Asking) (screen : Seen) → Types old new
    → Proceeds old server screen new server screen
proceeds_typed old new server screen t = record {
  typed = t.typed;
  goes = goes_none server;
  shown = grows_none screen.sink.put;
  columns = refl;
}

pub proceeds_shown : (keys : LinkView) (server : Asking) (old new : Seen) → Grows old.sink.put new.sink.put
    → new.columns ≡ old.columns → Proceeds keys server old keys server new
proceeds_shown keys server old new g columns = record {
  typed = grows_none keys.taken;
  goes = goes_none server;
  shown = g;
  columns = columns;
}

-- a line or a prompt was put after that
pub proceeds_line : {k1 k2 : LinkView} {s1 s2 : Asking} {t1 t2 t3 : Seen} → Proceeds k1 s1 t1 k2 s2 t2
    → Grows t2.sink.put t3.sink.put → t3.columns ≡ t2.columns → Proceeds k1 s1 t1 k2 s2 t3
proceeds_line {k1} {k2} {s1} {s2} {t1} {t2} {t3} p g columns = proceeds_then p (proceeds_shown k2 s2 t2 t3 g columns)

-- a prompt was ended
pub proceeds_ended : (keys : LinkView) (server : Asking) (old new : Seen) → new ≡ record old { is_open = false }
    → Proceeds keys server old keys server new
proceeds_ended keys server old new e =
    subst (λ (x : Seen). Proceeds keys server old keys server x) (sym e)
    (record { typed = grows_none keys.taken; goes = goes_none server; shown = grows_none old.sink.put; columns = refl })

-- keys are as they were
pub proceeds_keys : (old new : LinkView) (server : Asking) (screen : Seen) → new ≡ old
    → Proceeds old server screen new server screen
proceeds_keys old new server screen e =
    subst (λ (x : LinkView). Proceeds old server screen x server screen) (sym e) (proceeds_none old server screen)

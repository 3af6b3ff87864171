use Rattle.std.proofs.Common.{◌≡◌, true, false, List, [], ◌∷◌, sym, ap, ◌∙◌, subst}
use Rattle.kom_types.specs.declared.effects.Effect.{Effect}
use Rattle.kom_model.specs.Effects.{fits, after_effect}
use Rattle.kom_state.specs.Keepers.{append_pending}
use Rattle.kom_book.proofs.Kept.{apply_fit, apply_unfit, kept_fit, kept_unfit}
use Rattle.kom_book.proofs.starting.make_one.Goals as goal

pub returns-in_err-reserve-clause-rest : goal.returns-in_err-reserve-clause-rest
returns-in_err-reserve-clause-rest g c = g.met.K.Keeper.itself_stays c.args.keeper.now

pub returns-then-not-fits-clause-rows : goal.returns-then-not-fits-clause-rows
returns-then-not-fits-clause-rows g c =
    let unfit : fits c.args.effect c.args.rows.now.db ≡ false =
    ap (fits c.args.effect) (sym c.reserve.ensures.db) ∙ sym c.fits.ensures ∙ c.if-not-fits.true in
    c.reserve.ensures.db ∙ sym (apply_unfit c.args.effect c.args.rows.now.db unfit)

pub returns-then-not-fits-clause-kept : goal.returns-then-not-fits-clause-kept
returns-then-not-fits-clause-kept g c =
    let unfit : fits c.args.effect c.args.rows.now.db ≡ false =
    ap (fits c.args.effect) (sym c.reserve.ensures.db) ∙ sym c.fits.ensures ∙ c.if-not-fits.true in
    kept_unfit c.args.effect c.args.rows.now.db (g.K.Keeper.pending c.args.keeper.now)
    (g.K.Keeper.pending c.reserve-2.new.self) unfit c.reserve-2.ensures.pending

pub keep-requires-clause-room : goal.keep-requires-clause-room
keep-requires-clause-room g c = (
  [],
  subst (λ (list : List Effect). g.K.Keeper.has_room c.reserve-2.new.self list) c.from_ref-2.ensures.value
      c.in_ok-reserve-2.ensures.room,
)

pub keep-requires-clause-fits : goal.keep-requires-clause-fits
keep-requires-clause-fits g c =
    (c.reserve.new.self.db, sym c.fits.ensures ∙ c.if-not-fits.false)

pub apply_effect-requires-clause-fits : goal.apply_effect-requires-clause-fits
apply_effect-requires-clause-fits g c = sym c.fits.ensures ∙ c.if-not-fits.false

pub returns-clause-rows : goal.returns-clause-rows
returns-clause-rows g c =
    let fit : fits c.args.effect c.args.rows.now.db ≡ true =
    ap (fits c.args.effect) (sym c.reserve.ensures.db) ∙ sym c.fits.ensures
    ∙ c.if-not-fits.false in
    c.apply_effect.ensures.db ∙ ap (after_effect c.args.effect) c.reserve.ensures.db
    ∙ sym (apply_fit c.args.effect c.args.rows.now.db fit)

pub returns-clause-kept : goal.returns-clause-kept
returns-clause-kept g c =
    let fit : fits c.args.effect c.args.rows.now.db ≡ true =
    ap (fits c.args.effect) (sym c.reserve.ensures.db) ∙ sym c.fits.ensures
    ∙ c.if-not-fits.false in
    kept_fit c.args.effect c.args.rows.now.db (g.K.Keeper.pending c.args.keeper.now)
    (g.K.Keeper.pending c.keep.new.self) fit
    (c.keep.ensures.kept ∙ ap (append_pending (c.args.effect ∷ [])) c.reserve-2.ensures.pending)

pub returns-clause-rest : goal.returns-clause-rest
returns-clause-rest g c = g.met.K.Keeper.stays_on _ _ _ c.reserve-2.ensures.rest c.keep.ensures.rest

use Rattle.std.proofs.Common.{◌≡◌, slice_get, Some, sym}
use Rattle.std.proofs.lemmas.Option.{slice_get_read}
use Rattle.row_slots.proofs.Pages.{near-cleared}
use Rattle.row_slots.proofs.dense_lists.DenseLists.sweep_page.Goals as goal

pub returns-then-not-is_used : goal.returns-then-not-is_used
returns-then-not-is_used c = λ key.
    let there : slice_get c.args.self.now.near.items c.args.self.now.hand ≡ Some c.index.result.now =
    slice_get_read c.args.self.now.near.items _ c.args.self.now.hand c.index.result.now c.args.self.now.near.ok.0
    c.requires.within c.index.ensures in
    near-cleared c.args.self.now.near.items c.args.self.now.hand c.index.result.now c.new.result c.args.self.now.far key
    c.requires.far there (sym c.if-not-is_used.ensures) c.new.ensures.items

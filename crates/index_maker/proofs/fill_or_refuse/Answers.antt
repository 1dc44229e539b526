use Rattle.std.specs.Prelude.{Ok}
use Rattle.std.proofs.Common.{ℕ, List, length, sym, ap, ap₂, ◌∙◌, arith}
use Rattle.label_uses.specs.UseBytes.{index_of}
use Rattle.label_uses.proofs.IndexFits.{index_fits}
use Rattle.indexed_outcome.specs.Make.{made_of}
use Rattle.indexed_outcome.proofs.MakeLaws.{kept_layout, room_yes}
use Rattle.index_maker.proofs.fill_or_refuse.Goals as goal

pub overflow_cast-result : goal.overflow_cast-result
overflow_cast-result c =
    let a = c.args in
    omega (arith, c.fill_index.ensures.filled, index_fits a.labels.now a.pending.now (kept_layout a.pending.now c.bytes.ensures.kept.0 c.bytes.ensures.kept.1), c.bytes.ensures.kept.1)

pub returns : goal.returns
returns c =
    let a = c.args in
    let m = c.fill_index in
    room_yes (index_of a.labels.now a.pending.now) a.index.now (omega (arith, c.if-index-bytes.false, ap length c.bytes.ensures.value, index_fits a.labels.now a.pending.now (kept_layout a.pending.now c.bytes.ensures.kept.0 c.bytes.ensures.kept.1)))
    ∙ ap₂ (λ (n : ℕ) (x : List ℕ). made_of (Ok n) x) (sym m.ensures.filled) (sym m.ensures.bytes)

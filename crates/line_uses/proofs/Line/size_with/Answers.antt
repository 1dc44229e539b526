use Rattle.std.proofs.Common.{◌<◌, ◌≡◌, List, length, take, get_or, sym, ap, ◌∙◌, arith}
use Rattle.std.proofs.Math.Seq.{take_all}
use Rattle.label_uses.proofs.InsertLaws.{rise_all}
use Rattle.label_uses.specs.UseBytes.{uses_bytes}
use Rattle.emit_pairs.specs.Pairs.{plain}
use Rattle.emit_pairs.specs.declared.InstructionPair.{InstructionPair}
use Rattle.use_adding.proofs.MakingLaws.{held_is}
use Rattle.line_uses.specs.Line.{LineIn}
use Rattle.line_uses.specs.LineIndex.{held_by}
use Rattle.line_uses.specs.LineUses.{line_uses, pair_growth}
use Rattle.line_uses.proofs.LineLaws.{size_next}
use Rattle.line_uses.proofs.Line.size_with.Goals as goal

pub loop-i-init : goal.loop-i-init
unfolding line_uses
loop-i-init c = (omega arith, λ us i r m. c.len-size.ensures.0 ∙ (held_is c.args.uses.now (length c.args.uses.now) us i).1)

pub loop-i-preserved : goal.loop-i-preserved
loop-i-preserved c =
    let v = c.args.self.now in
    let l = c.loop-i in
    let g = c.pair_growth-size.ensures in
    let ps = c.self.inside.pairs.now in
    let same : ps ≡ v.pairs = ap (λ (x : LineIn). x.pairs) c.self.view_is in
    let waits = (get_or ps l.i (plain 0)).label in
    let h : l.i < length v.pairs = omega (arith, ap length same) in
    let s = ap (λ (x : List InstructionPair). (get_or x l.i (plain 0)).label) (sym same) in (
      omega (arith, l.invariant.0, g.0),
      λ us i r m.
          let grown = g.1 us i r ∙ ap (λ (x : List InstructionPair). pair_growth v.labels v.names (held_by v.labels v.names us (take l.i x)) waits) same in
          omega (arith, l.invariant.1 us i r m, grown, size_next v.labels v.names (plain 0) waits m v.pairs l.i us (rise_all us r) h s),
    )

pub returns : goal.returns
returns c us i r m =
    let v = c.args.self.now in
    let l = c.loop-i in
    let same : c.self.inside.pairs.now ≡ v.pairs = ap (λ (x : LineIn). x.pairs) c.self.view_is in
    let whole : take l.i v.pairs ≡ v.pairs = take_all l.i v.pairs (omega (arith, ap length same)) in
    l.invariant.1 us i r m ∙ ap (λ (ps : List InstructionPair). length (uses_bytes (line_uses v.labels v.names m ps us))) whole

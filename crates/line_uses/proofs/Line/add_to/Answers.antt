use Rattle.std.proofs.Common.{◌<◌, ◌≤◌, ◌≡◌, List, length, take, refl, sym, ap, arith, get_or}
use Rattle.std.proofs.Math.Seq.{take_all}
use Rattle.emit_pairs.specs.Pairs.{plain}
use Rattle.emit_pairs.specs.declared.InstructionPair.{InstructionPair}
use Rattle.label_uses.specs.UseBytes.{uses_bytes}
use Rattle.line_uses.specs.Line.{LineIn}
use Rattle.line_uses.specs.LineUses.{line_uses}
use Rattle.line_uses.specs.LineIndex.{RoomForPair}
use Rattle.line_uses.proofs.LineLaws.{line_start, line_room, line_next, next_most}
use Rattle.line_uses.proofs.Line.add_to.Goals as goal
use Rattle.line_uses.proofs.Line.add_to.Goals.{In-loop-pair}

-- the word of this turn is that of the line
record Word (c : In-loop-pair) : Type 0 where
  within : c.loop-pair.pair-index < length c.args.self.now.pairs
  stands : (get_or c.args.self.now.pairs c.loop-pair.pair-index (plain 0)).label ≡ (get_or c.self.inside.pairs.now c.loop-pair.pair-index (plain 0)).label
  room : RoomForPair c.args.self.now.labels c.args.self.now.names c.loop-pair.index c.loop-pair.filled (get_or c.self.inside.pairs.now c.loop-pair.pair-index (plain 0)).label c.loop-pair.n

word : (c : In-loop-pair) → Word c
word c =
    let a = c.args in
    let l = c.loop-pair in
    let v = a.self.now in
    let q = c.requires.1 in
    let same : c.self.inside.pairs.now ≡ v.pairs = ap (λ (x : LineIn). x.pairs) c.self.view_is in
    let h : l.pair-index < length v.pairs = omega (arith, ap length same) in
    let s = ap (λ (ps : List InstructionPair). (get_or ps l.pair-index (plain 0)).label) (sym same) in
    record {
      within = h;
      stands = s;
      room = line_room v.labels v.names a.index.now a.first v.pairs q.us l.index l.pair-index l.filled l.n (l.invariant.3 q.us q.index_in) (plain 0)
          _ h s (length v.pairs) (omega arith) (omega (arith, q.room, ap (λ (ps : List InstructionPair). length (uses_bytes (line_uses v.labels v.names a.first ps q.us))) (take_all (length v.pairs) v.pairs (omega arith))));
    }

pub loop-pair-init : goal.loop-pair-init
loop-pair-init c =
    let a = c.args in
    let v = a.self.now in
    (omega arith, refl, omega arith, λ us i. line_start v.labels v.names a.index.now a.fill a.first v.pairs us i)

pub add_pair-filled-requires : goal.add_pair-filled-requires
add_pair-filled-requires c = (word (goal.at.add_pair-filled-requires c).In-loop-pair).room

pub loop-pair-preserved : goal.loop-pair-preserved
loop-pair-preserved c =
    let a = c.args in
    let v = a.self.now in
    let l = c.loop-pair in
    let waits = (get_or c.self.inside.pairs.now l.pair-index (plain 0)).label in
    let w = word (goal.at.loop-pair-preserved c).In-loop-pair in
    let r = w.room in
    let p = c.add_pair-filled in
    let fits : p.result ≤ length l.index = omega (arith, (p.ensures r.us r.index_in).filled, r.room) in (
      omega (arith, w.within),
      omega arith,
      omega (arith, c.next_number-n.ensures, next_most v.labels v.names waits l.n),
      λ us i.
          let k = l.invariant.3 us i in
          line_next v.labels v.names a.index.now a.first v.pairs us l.index l.pair-index l.filled l.n k (plain 0) waits w.within w.stands
          p.new.index p.result c.next_number-n.result p.auto.index fits (p.ensures (line_uses v.labels v.names a.first (take l.pair-index v.pairs) us) k.index_in) c.next_number-n.ensures,
    )

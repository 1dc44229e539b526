use Rattle.std.proofs.Common.{◌≡◌, ℕ, ◌+◌, ◌≤◌, List, length, get_or, drop, sym, ap, ap₂, ◌∙◌, arith}
use Rattle.pending.specs.declared.Origin.{Origin}
use Rattle.emit_pairs.specs.declared.InstructionPair.{InstructionPair}
use Rattle.record.specs.Stores.{append}
use Rattle.record.proofs.StoresLaws.{append_none, append_append}
use Rattle.emit_pairs.specs.Pairs.{plain}
use Rattle.emit_bytes.specs.Appended.{onward, pair_bytes, pendings_len, pendings_bytes}
use Rattle.emit_bytes.proofs.AppendedLaws.{pair_length, pendings_length, sizes_here, pendings_here, pendings_end}
use Rattle.emit_bytes.proofs.LinePendings.put.Goals as goal

pub put_pair-to-requires : goal.put_pair-to-requires
put_pair-to-requires c =
    let l = c.loop-pair in
    let ps = c.pairs-pair-items.result.now in
    let size = pendings_len c.args.self.tokens.now in
    omega (arith, l.invariant.0, c.requires.in_bounds, ap size c.pairs-pair-items.ensures, sizes_here c.args.self.tokens.now (plain 0) ps l.pair-index (omega arith))

pub loop-pair-preserved : goal.loop-pair-preserved
loop-pair-preserved c =
    let l = c.loop-pair in
    let t = c.args.self.tokens.now in
    let ps = c.pairs-pair-items.result.now in
    let waits = (get_or ps l.pair-index (plain 0)).label in
    let left = drop (l.pair-index + 1) ps in
    let pair : List ℕ = pair_bytes t l.from waits in
    let rest : List ℕ = pendings_bytes t (onward l.from) left in
    let put = c.put_pair-to in
    let size = sizes_here t (plain 0) ps l.pair-index (omega arith) in
    let k : put.result ≡ l.to + length pair = omega (arith, put.ensures.1, pair_length t l.from waits) in
    let fits : put.result + length rest ≤ length l.d = omega (arith, put.ensures.1, pendings_length t (onward l.from) left, size, l.invariant.0, c.requires.in_bounds, ap (pendings_len t) c.pairs-pair-items.ensures) in (
      omega (arith, put.ensures.1, size, l.invariant.0),
      omega (arith, ap (λ (o : Origin). o.offset) c.onward-from.ensures, l.invariant.1),
      l.invariant.2 ∙ ap (append l.d l.to) (pendings_here t (plain 0) ps l.pair-index (omega arith) l.from)
          ∙ sym (append_append l.d l.to pair rest put.result (sym k) fits)
          ∙ ap₂ (λ (d : List ℕ) (o : Origin). append d put.result (pendings_bytes t o left)) (sym put.ensures.0) (sym c.onward-from.ensures),
    )

pub returns : goal.returns
returns c =
    let l = c.loop-pair in
    let t = c.args.self.tokens.now in
    let put = append c.args.d.now c.args.at in
    let e = pendings_end t c.pairs-pair-items.result.now l.pair-index (omega arith) l.from in
    append_none l.d l.to ∙ ap (append l.d l.to) (sym e) ∙ sym l.invariant.2 ∙ ap (λ (ps : List InstructionPair). put (pendings_bytes t c.args.origin ps)) c.pairs-pair-items.ensures

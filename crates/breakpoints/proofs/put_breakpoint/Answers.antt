use Rattle.std.proofs.Common.{ℕ, ◌+◌, ◌*◌, ◌≡◌, List, ◌++◌, length, refl, sym, ap, ◌∙◌, arith}
use Rattle.record.specs.Stores.{append, le16_bytes, le32_bytes, location_bytes}
use Rattle.record.proofs.StoresLaws.{append_none, append_then}
use Rattle.breakpoints.specs.BreakpointBytes.{pcs_bytes}
use Rattle.breakpoints.proofs.BreakpointBytesLaws.{pcs_next, pcs_length}
use Rattle.breakpoints.proofs.put_breakpoint.Goals as goal

pub loop-i-init : goal.loop-i-init
unfolding pcs_bytes
loop-i-init c = append_none _ _

pub loop-i-preserved : goal.loop-i-preserved
loop-i-preserved c =
    let at = c.args.at in
    let pc = c.args.pcs.first in
    let l = c.loop-i in
    let h = c.put_location.new.d in
    append_then h (at + 12) (pcs_bytes l.i pc) (at + 12 + 4 * l.i) (le32_bytes (pc + 4 * l.i)) l.invariant c.put32.ensures
    (omega (arith, pcs_length l.i pc)) (omega arith)
    ∙ ap (append h (at + 12)) (sym (pcs_next l.i pc (pc + 4 * l.i) refl))

pub returns : goal.returns
returns c =
    let a = c.args in
    let d = a.d.now in
    let pc = a.pcs.first in
    let n = a.pcs.count in
    let h = c.put_location.new.d in
    let i : c.loop-i.i ≡ n = omega arith in
    let pcs : c.loop-i.d ≡ append h (a.at + 12) (pcs_bytes n pc) = c.loop-i.invariant ∙ ap (λ (k : ℕ). append h (a.at + 12) (pcs_bytes k pc)) i in
    let e3 = append_then d a.at (le16_bytes (8 + 4 * n) ++ le16_bytes 37) (a.at + 4) (location_bytes a.location) c.put_head.ensures c.put_location.ensures (omega arith) (omega arith) in
    let e4 = append_then d a.at _ (a.at + 12) (pcs_bytes n pc) e3 pcs (omega arith) (omega (arith, pcs_length n pc)) in
    let body : List ℕ = location_bytes a.location ++ pcs_bytes n pc in
    let m : 8 + 4 * n ≡ length body = omega (arith, pcs_length n pc) in
    e4 ∙ ap (λ (k : ℕ). append d a.at (le16_bytes k ++ le16_bytes 37 ++ body)) m

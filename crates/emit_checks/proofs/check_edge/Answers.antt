-- Either no word is left, or the first word left fits, or it does not.
use Rattle.std.proofs.Common.{◌≡◌, ◌+◌, ◌-◌, ◌*◌, refl, sym, ◌∙◌, arith}
use Rattle.emit_checks.proofs.RoomLaws.{edge_end, edge_next, edge_stop_lem}
use Rattle.emit_checks.proofs.check_edge.Goals as goal

pub loop-i-init : goal.loop-i-init
loop-i-init c =
    let size = c.args.numbers.counts.data_len in
    let n : c.args.n - 0 ≡ c.args.n = omega arith in
    let at : size + 4 * 0 ≡ size = omega arith in
    rw (n, at) refl

pub returns-then-address-at : goal.returns-then-address-at
returns-then-address-at c =
    let a = c.args in
    let i = c.loop-i.i in
    sym (c.loop-i.invariant ∙ edge_stop_lem a.line a.numbers.place.address (a.n - i) (a.numbers.counts.data_len + 4 * i) (omega arith) (omega arith))

pub loop-i-preserved : goal.loop-i-preserved
loop-i-preserved c =
    let a = c.args in
    let i = c.loop-i.i in
    let size = a.numbers.counts.data_len in
    let n : a.n - (i + 1) ≡ a.n - i - 1 = omega arith in
    let at : size + 4 * (i + 1) ≡ size + 4 * i + 4 = omega arith in
    rw (n, at) (c.loop-i.invariant ∙ edge_next a.line a.numbers.place.address (a.n - i) (size + 4 * i) (omega arith) (omega arith))

pub returns : goal.returns
returns c =
    let a = c.args in
    let i = c.loop-i.i in
    sym (c.loop-i.invariant ∙ edge_end a.line a.numbers.place.address (a.n - i) (a.numbers.counts.data_len + 4 * i) (omega arith))

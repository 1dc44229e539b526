use Rattle.std.proofs.Common.{◌≡◌, ◌+◌, ◌<◌, [], ◌∷◌, ◌++◌, get_or, length, take, sym, ap, ◌∙◌, add-one, arith}
use Rattle.std.proofs.Math.Seq.{take-suc, take_all, length-take-le}
use Rattle.record.specs.Stores.{append}
use Rattle.record.proofs.StoresLaws.{append_none, append_then, one_store}
use Rattle.record.proofs.put_all.Goals as goal

pub loop-i-init : goal.loop-i-init
loop-i-init c = (omega arith, append_none _ _)

pub loop-i-preserved : goal.loop-i-preserved
loop-i-preserved c =
    let a = c.args in
    let l = c.loop-i in
    let s = a.src.now in
    let b = get_or s l.i 0 in
    let h : l.i < length s = omega arith in
    let e : take (l.i + 1) s ≡ take l.i s ++ b ∷ [] = rw add-one (take-suc s l.i 0 h) in (
      omega arith,
      append_then a.d.now a.at (take l.i s) (a.at + l.i) (b ∷ []) l.invariant.1 (one_store l.d (a.at + l.i) b (omega arith))
          (omega (arith, length-take-le l.i s (omega arith))) (omega arith)
          ∙ ap (append a.d.now a.at) (sym e),
    )

pub returns : goal.returns
returns c = c.loop-i.invariant.1 ∙ ap (append c.args.d.now c.args.at) (take_all c.loop-i.i c.args.src.now (omega arith))

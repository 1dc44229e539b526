use Rattle.std.proofs.Common.{◌≡◌, ◌+◌, ◌-◌, sym, ap₂, ◌∙◌, arith}
use Rattle.macros.proofs.NamesLaws.{name_is, all_ok, ok_end, ok_stop, ok_next}
use Rattle.macros.proofs.names_ok.Goals as goal

pub returns-then-not-name_ok : goal.returns-then-not-name_ok
returns-then-not-name_ok c =
    let l = c.loop in
    sym (l.invariant.1 ∙ ok_stop c.args.list.now (c.args.count - l.counter) l.from (omega arith) (sym c.if-not-name_ok.ensures))

pub behind_name-from-requires : goal.behind_name-from-requires
behind_name-from-requires c = omega (arith, (name_is c.args.list.now c.loop.from (sym c.if-not-name_ok.ensures)).start)

pub loop-preserved : goal.loop-preserved
loop-preserved c =
    let l = c.loop in
    let b = c.args.list.now in
    let e = sym c.if-not-name_ok.ensures in
    let n = c.behind_name-from.ensures.0 in
    let m : c.args.count - l.counter - 1 ≡ c.args.count - (l.counter + 1) = omega arith in
    (omega (arith, n, (name_is b l.from e).within), l.invariant.1 ∙ ok_next b (c.args.count - l.counter) l.from (omega arith) e ∙ ap₂ (all_ok b) m (sym n))

pub returns : goal.returns
returns c =
    let l = c.loop in
    sym (l.invariant.1 ∙ ok_end c.args.list.now (c.args.count - l.counter) l.from (omega arith))

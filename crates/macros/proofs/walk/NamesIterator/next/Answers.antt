use Rattle.std.proofs.Common.{◌-◌, ap, ◌∙◌, arith}
use Rattle.macros.proofs.NamesLaws.{all_ok, first_ok, others_ok}
use Rattle.macros.proofs.walk.NamesIterator.next.Goals as goal

pub behind_name-behind-requires : goal.behind_name-behind-requires
behind_name-behind-requires c =
    let s = c.args.self.now in
    (first_ok s.list.now s.count s.at (omega arith) s.ok).start

pub slice_bounds-name-end : goal.slice_bounds-name-end
slice_bounds-name-end c =
    let s = c.args.self.now in
    omega (arith, c.behind_name-behind.ensures.0, (first_ok s.list.now s.count s.at (omega arith) s.ok).within)

pub invariant_of-self : goal.invariant_of-self
invariant_of-self c =
    let s = c.args.self.now in
    record { ok = ap (all_ok s.list.now (s.count - 1)) c.behind_name-behind.ensures.0 ∙ others_ok s.list.now s.count s.at (omega arith) s.ok }

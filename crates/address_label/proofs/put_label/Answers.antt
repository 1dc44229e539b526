use Rattle.std.proofs.Common.{[], ◌∷◌, ◌+◌, length, ap, arith}
use Rattle.record.proofs.StoresLaws.{append_then, one_store}
use Rattle.address_label.proofs.put_label.Goals as goal

pub returns-in-Constant : goal.returns-in-Constant
returns-in-Constant c =
    let at = c.args.at in
    let d = c.args.d.now in
    let e1 = one_store d at 0 (omega arith) in
    let e2 = append_then d at (0 ∷ []) (at + 1) _ e1 c.put64.ensures (omega arith) (omega arith) in
    let e3 = append_then d at _ (at + 9) _ e2 c.put64-in-Constant.ensures (omega arith) (omega arith) in
    rw c.in-Constant.is e3

pub returns-in-Label : goal.returns-in-Label
returns-in-Label c =
    let at = c.args.at in
    let d = c.args.d.now in
    let e1 = one_store d at 1 (omega arith) in
    let e2 = append_then d at (1 ∷ []) (at + 1) _ e1 c.put64-in-Label.ensures (omega arith) (omega arith) in
    let e3 = append_then d at _ (at + 9) _ e2 c.put_location.ensures (omega arith) (omega arith) in
    let e4 = append_then d at _ (at + 17) _ e3 c.put_all.ensures (omega arith) (omega (arith, ap length c.name_of.ensures, rw c.in-Label.is at c.requires)) in
    rw c.in-Label.is (rw c.name_of.ensures at e4)

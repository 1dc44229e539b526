use Rattle.std.specs.Prelude.{None}
use Rattle.std.proofs.Common.{ℕ, List, ◌≡◌, ◌≤◌, ◌*◌, length, sym, subst, arith, length-take}
use Rattle.record.specs.Records.{places, first_bad}
use Rattle.names.specs.Owners.{has_owned_name}
use Rattle.names.proofs.OwnersLaws.{owned_is}
use Rattle.name_sort.specs.Before.{AllNamed}
use Rattle.name_index.proofs.CountLaws.{count_at_least}
use Rattle.name_index.proofs.PlacesLaws.{all_ok}
use Rattle.name_index.proofs.make.Goals as goal

-- A record has at least four bytes.
few : (skip : ℕ) (list : List ℕ) → first_bad (has_owned_name skip list) (places list) ≡ None → length (places list) * 4 ≤ length list
few skip list g = count_at_least 4 list (has_owned_name skip list) (λ p e. ((owned_is skip list p e).whole_at, omega arith)) g

pub sort-requires-clause-a_in_bounds : goal.sort-requires-clause-a_in_bounds
sort-requires-clause-a_in_bounds g c =
    let n = length-take c.fill-n.result c.fill-n.new.index in
    (omega (arith, n), omega (arith, n, few g.row.SKIP c.args.list.now c.bytes.ensures.named))

pub sort-requires-clause-all_named : goal.sort-requires-clause-all_named
sort-requires-clause-all_named g c =
    let s = c.args.list.now in
    let ok = has_owned_name g.row.SKIP s in
    rw c.bytes.ensures.value (subst (AllNamed g.row.SKIP s) (sym c.fill-n.ensures.1) (all_ok ok (places s) c.bytes.ensures.named))

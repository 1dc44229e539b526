use Rattle.std.specs.Prelude.{None}
use Rattle.std.proofs.Common.{ℕ, List, ◌*◌, ◌≤◌, ◌≡◌, length, ap, ◌∙◌, arith}
use Rattle.std.proofs.lemmas.Iterator.Consumers.{count_from_yields_List, YieldsList-from_first}
use Rattle.record.specs.Left.{places_left}
use Rattle.record.specs.Records.{places, first_bad}
use Rattle.name_index.proofs.CountLaws.{count_at_least}
use Rattle.pending.specs.Pendings.{pending_ok}
use Rattle.pending.proofs.PendingsLaws.{pending_is}
use Rattle.use_adding.proofs.Pendings.count.Goals as goal

few : (pending : List ℕ) → first_bad (pending_ok 16 pending) (places pending) ≡ None → length (places pending) * 36 ≤ length pending
few pending g = count_at_least 36 pending (pending_ok 16 pending) (λ p e. let i = pending_is 16 pending p e in (i.whole_at, omega (arith, i.least))) g

pub overflow_cast-result : goal.overflow_cast-result
overflow_cast-result c =
    let n = count_from_yields_List c.places.result _ c.count.ensures.ran (YieldsList-from_first (λ x. x) places_left _ c.places.ensures.value) in
    omega (arith, n, few c.self.inside.bytes.now c.self.invariant.0, c.self.invariant.1)

pub returns : goal.returns
returns c =
    let n = count_from_yields_List c.places.result _ c.count.ensures.ran (YieldsList-from_first (λ x. x) places_left _ c.places.ensures.value) in
    (n ∙ ap (λ (s : List ℕ). length (places s)) c.self.view_is, omega (arith, n, few c.self.inside.bytes.now c.self.invariant.0, c.self.invariant.1))

-- The places of pendings: each has a body, and there are at most 1,820. Assumes nothing.
use Rattle.std.specs.Prelude.{ℕ, ◌≤◌, List, true, ◌≡◌, length, None}
use Rattle.std.proofs.Common.{arith, ne_eqb}
use Rattle.record.specs.Records.{kind_at, places, first_bad, limit}
use Rattle.names.proofs.NamesLaws.{has_name_lem, all_named}
use Rattle.names.specs.Owners.{before_name, has_owned_name}
use Rattle.names.proofs.OwnersLaws.{Without, without_owner}
use Rattle.name_index.proofs.CountLaws.{count_at_least}
use Rattle.pending.specs.Pendings.{pending_ok, PendingIs}
use Rattle.pending.proofs.PendingsLaws.{pending_is}

-- A pending has no owner, so its whole body is taken as its name.
body_named : (pending : List ℕ) (p : ℕ) → PendingIs pending p → has_owned_name 0 pending p ≡ true
body_named pending p i =
    let w : Without 0 pending p = without_owner 0 pending p (ne_eqb (kind_at pending p) 41 (λ e. omega (arith, i.record_kind))) in
    has_name_lem (before_name 0 pending p) pending p i.whole_at (omega (arith, w.before))

pub bodies_named : (pending : List ℕ) → first_bad (pending_ok 16 pending) (places pending) ≡ None → first_bad (has_owned_name 0 pending) (places pending) ≡ None
bodies_named pending g = all_named (pending_ok 16 pending) (has_owned_name 0 pending) (λ p e. body_named pending p (pending_is 16 pending p e)) (places pending) g

pub pendings_few : (pending : List ℕ) → first_bad (pending_ok 16 pending) (places pending) ≡ None → length pending ≤ limit → length (places pending) ≤ 1820
pendings_few pending g h =
    omega (arith, count_at_least 36 pending (pending_ok 16 pending) (λ p e. let i = pending_is 16 pending p e in (i.whole_at, omega (arith, i.least))) g)

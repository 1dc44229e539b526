use Rattle.std.proofs.Common.{◌≡◌, ◌≤◌, length, drop}
use Rattle.dry_run_core.proofs.FetchLaws.{fetch_at}
use Rattle.dry_run_core.proofs.image.Placed.fetch.Given as goal

abbrev pub invariant-loop-at : goal.invariant-loop-at
invariant-loop-at l = (l.at-index ≤ length l.at-items) × (fetch_at l.list l.at-items l.pc ≡ fetch_at l.list (drop l.at-index l.at-items) l.pc)

-- An index is never longer than its pending list: a buffer as long as the pending list's fill count is never too short. Assumes nothing.
use Rattle.std.specs.Prelude.{ℕ, ◌≤◌, List, [], ◌≡◌, length, None}
use Rattle.std.proofs.Common.{arith, sym, ap}
use Rattle.record.specs.Records.{places}
use Rattle.record.proofs.RecordsLaws.{places_all}
use Rattle.pending.specs.Pendings.{pending_layout}
use Rattle.pending.proofs.PendingsLaws.{pending_good}
use Rattle.label_uses.specs.Uses.{uses_of}
use Rattle.label_uses.specs.UseBytes.{index_of}
use Rattle.label_uses.proofs.UseBytesLaws.{uses_none}
use Rattle.label_uses.proofs.FitsLaws.{fits_from}

pub index_fits : (labels pending : List ℕ) → pending_layout 16 pending ≡ None → length (index_of labels pending) ≤ length pending
unfolding index_of uses_of
index_fits labels pending g =
    fits_from labels pending 0 0 (places pending) [] (sym (places_all pending)) (omega arith) (pending_good 16 pending g).1 (omega (arith, ap length uses_none))

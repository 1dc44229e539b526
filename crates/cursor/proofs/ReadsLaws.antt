-- A reading, stated by the position at which it leaves the cursor. Assumes nothing.
use Rattle.std.specs.Prelude.{◌≡◌}
use Rattle.std.proofs.Common.{subst}
use Rattle.cursor.specs.declared.Cursor.{Cursor}
use Rattle.cursor.specs.Cursors.{At, cursor_at}
use Rattle.cursor.specs.Reads.{Placed, ReadAs, CursorIn, Reads}

pub read_as : {A : Type 0} {before after : CursorIn} {x : At A} {answer : A} → Reads before x answer after → (position : Cursor)
    → (position ≡ cursor_at after.list after.index) × Placed after.list position → ReadAs before.list x answer position
read_as r position p =
    let q = subst (λ (c : CursorIn). (position ≡ cursor_at c.list c.index) × Placed c.list position) r.after_is p in
    record { answer_is = r.answer_is; cursor_is = q.0; placed = q.1 }

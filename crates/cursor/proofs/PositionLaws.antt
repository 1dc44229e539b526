-- The position that a cursor over a borrowed token list holds. Assumes nothing.
use Rattle.std.specs.Prelude.{ℕ, List, ◌≡◌}
use Rattle.std.proofs.Common.{sym}
use Rattle.cursor.specs.declared.Cursor.{Cursor}
use Rattle.cursor.specs.Cursors.{cursor_at}
use Rattle.cursor.specs.Reads.{Placed, CursorIn}
use Rattle.cursor.proofs.CursorsLaws.{cursor_eta}

-- The position that the list and the index give. These two are a cursor's value.
abbrev pub position_of : CursorIn → Cursor
position_of cursor = cursor_at cursor.list cursor.index

-- It is the index and the byte place that the cursor keeps.
pub position_kept : (tokens : List ℕ) (index at : ℕ) → Placed tokens (record { index = index; at = at })
    → position_of (record { list = tokens; index = index }) ≡ (record { index = index; at = at })
position_kept tokens index at p = sym (cursor_eta tokens (record { index = index; at = at }) p)

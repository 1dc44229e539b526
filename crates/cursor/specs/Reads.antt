-- A cursor in its token list, and what a reader promises. Assumes nothing.
use Rattle.std.specs.Prelude.{ℕ, ◌≤◌, List, ◌≡◌, length, get_or, None}
use Rattle.record.specs.Records.{places}
use Rattle.lexer.specs.Tokens.{token_layout, tokens}
use Rattle.cursor.specs.declared.Cursor.{Cursor}
use Rattle.cursor.specs.Cursors.{At, cursor_at}

-- the list keeps its layout, the index is within it, and the byte place belongs to the index
pub record Placed (s : List ℕ) (c : Cursor) : Type 0 where
  pub layout_good : token_layout s ≡ None
  pub index_within : c.index ≤ length (tokens s)
  pub place_is : c.at ≡ get_or (places s) c.index (length s)

-- the answer is the definition's, and so is the position after what was read
pub record ReadAs {A : Type 0} (s : List ℕ) (x : At A) (answer : A) (cursor : Cursor) : Type 0 where
  pub answer_is : answer ≡ x.answer
  pub cursor_is : cursor ≡ cursor_at s x.index
  pub placed : Placed s cursor

-- a cursor over its token list, by the count of tokens before it
pub record CursorIn : Type 0 where
  pub list : List ℕ
  pub index : ℕ

-- the answer is the definition's, and the cursor is in the same list, after what was read
pub record Reads {A : Type 0} (before : CursorIn) (x : At A) (answer : A) (after : CursorIn) : Type 0 where
  pub answer_is : answer ≡ x.answer
  pub after_is : after ≡ record { list = before.list; index = x.index }

-- The line that shows a buffer's bytes. Assumes nothing.
use Rattle.std.specs.Prelude.{ℕ, List, ◌++◌}
use Rattle.record.specs.Texts.{bytes_of}
use Rattle.text.specs.Text.{hex_bytes}

-- a buffer: its name, and all its bytes, two hexadecimal digits each
unfoldable pub bytes_line : (name bytes : List ℕ) → List ℕ
bytes_line name bytes = name ++ hex_bytes bytes ++ bytes_of "\n"

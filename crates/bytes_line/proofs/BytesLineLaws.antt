-- The length of a line of bytes. Assumes nothing.
use Rattle.std.specs.Prelude.{ℕ, ◌+◌, ◌*◌, ◌≡◌, List, ◌++◌, length}
use Rattle.std.proofs.Common.{arith, length-append}
use Rattle.record.specs.Texts.{bytes_of}
use Rattle.text.specs.Text.{hex_bytes}
use Rattle.text.proofs.TextLaws.{hex_length}
use Rattle.bytes_line.specs.BytesLine.{bytes_line}

pub bytes_length : (name bytes : List ℕ) → length (bytes_line name bytes) ≡ length name + 2 * length bytes + 1
unfolding bytes_line
bytes_length name bytes =
    omega (arith, length-append (name ++ hex_bytes bytes) (bytes_of "\n"), length-append name (hex_bytes bytes), hex_length bytes)

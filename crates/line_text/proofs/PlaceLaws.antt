-- The place of a line, read behind the fill counts. Assumes nothing.
use Rattle.std.specs.Prelude.{ℕ, List, ◌≡◌, drop}
use Rattle.input.proofs.InputLaws.{word_behind, half_behind}
use Rattle.line_text.specs.Line.{place_in, place_of}

pub place_behind_counts : (s : List ℕ) → place_of (drop 12 s) ≡ place_in s
place_behind_counts s = rw (word_behind s 12 0, half_behind s 12 4, word_behind s 12 6)

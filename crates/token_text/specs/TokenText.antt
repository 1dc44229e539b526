-- What `read_text` prints (document 02, P7), in the lines that docs/DECISIONS.md gives. Assumes nothing.
use Rattle.std.specs.Prelude.{ℕ, List, ◌++◌, take, drop, replicate, Err, Ok, Result}
use Rattle.record.specs.Texts.{bytes_of}
use Rattle.refusal.specs.Numbers.{numbered}
use Rattle.text_reader.specs.Outcome.{TextOutcome, read_text}
use Rattle.input.specs.Input.{word_or_zero}
use Rattle.text.specs.Text.{hex_bytes, refused_line}
use Rattle.refusal.specs.declared.Refusal.{Refusal}

-- `tokens` and the filled part in hexadecimal
abbrev pub tokens_line : List ℕ → List ℕ
tokens_line list = (bytes_of "tokens " ++ hex_bytes list) ++ bytes_of "\n"

-- "A refusal prints alone"
abbrev pub answer_text : Result ℕ Refusal → List ℕ → List ℕ
answer_text (Ok fill) tokens = tokens_line (take fill tokens)
answer_text (Err r) tokens = refused_line (numbered r)

abbrev pub outcome_text : TextOutcome → List ℕ
outcome_text o = answer_text o.answer o.tokens

-- an input is the source and the length of the token buffer, four bytes each, and then the text to the end
unfoldable pub read_text_text : List ℕ → List ℕ
read_text_text s = outcome_text (read_text (drop 8 s) (word_or_zero s 0) (replicate (word_or_zero s 4) 0))

-- A word's line: what comes before the word, and what comes after it. Assumes nothing.
use Rattle.std.specs.Prelude.{List, ◌++◌, ℕ}
use Rattle.io.specs.Digits.{last_digits}
use Rattle.record.specs.Texts.{bytes_of}
use Rattle.page_outcome.specs.Page.{columns, cut}

-- a pc's eight digits and two blanks
abbrev pub start_of : (pc : ℕ) → List ℕ
start_of pc = last_digits 16 8 pc ++ bytes_of "  "

-- two blanks, the label's columns, and 32 blanks to make 72 columns
abbrev pub end_of : (name : List ℕ) → List ℕ
end_of name = bytes_of "  " ++ columns 20 (cut name) ++ bytes_of "                                \n"

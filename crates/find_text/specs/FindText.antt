-- What is printed for a lookup (document 02, P13): `found` and the address in eight hexadecimal digits, or `none`, and then `compared` and the
-- count of name comparisons; or the refusal's line. Assumes nothing.
use Rattle.std.specs.Prelude.{ℕ, List, ◌++◌, Err, None, Ok, Option, Result, Some}
use Rattle.io.specs.Digits.{last_digits}
use Rattle.record.specs.Texts.{bytes_of}
use Rattle.refusal.specs.Numbers.{numbered}
use Rattle.labels.specs.declared.Found.{Found}
use Rattle.label_finder.specs.Find.{find_label}
use Rattle.input.specs.Input.{list_of, behind_lists, word_or_zero}
use Rattle.text.specs.Text.{last_field, refused_line}
use Rattle.refusal.specs.declared.Refusal.{Refusal}

abbrev pub address_line : Option ℕ → List ℕ
address_line (Some address) = bytes_of "found " ++ last_digits 16 8 address ++ bytes_of "\n"
address_line None = bytes_of "none\n"

abbrev pub found_lines : Found → List ℕ
found_lines found = address_line found.address ++ (bytes_of "compared" ++ last_field found.compared)

-- "A refusal prints alone"
abbrev pub answer_text : Result Found Refusal → List ℕ
answer_text (Ok found) = found_lines found
answer_text (Err r) = refused_line (numbered r)

-- an input is the labels and the name, each after its count, and then the source
unfoldable pub find_text : List ℕ → List ℕ
find_text s = answer_text (find_label (list_of 0 s) (list_of 1 s) (word_or_zero (behind_lists 2 s) 0))

-- What `finish` prints (document 01, `finish`), in each sort of job (document 02, P5). Assumes nothing.
use Rattle.std.specs.Prelude.{ℕ, ◌+◌, List, [], ◌∷◌, ◌++◌, map, Err, Ok, Result}
use mathlib.Core.List.{flatten}
use Rattle.io.specs.Digits.{last_digits}
use Rattle.jobs.specs.declared.Job.{Job}
use Rattle.jobs.specs.declared.Job.TheVariants.{Commit}
use Rattle.record.specs.Texts.{bytes_of}
use Rattle.labels.specs.Labels.{table_of}
use Rattle.refusal.specs.Numbers.{numbered}
use Rattle.build_outcome.specs.Build.{build_outcome}
use Rattle.reading.specs.Reading.{ImageRegion, Image, image_of}
use Rattle.reading.specs.Rows.{Row, rows}
use Rattle.input.specs.Input.{list_of}
use Rattle.text.specs.Text.{field, word_text, refused_line}
use Rattle.refusal.specs.declared.Refusal.{Refusal}

-- "Entry, address, pc and word have eight lower-case hexadecimal digits each"
abbrev pub eight : ℕ → List ℕ
eight n = last_digits 16 8 n

-- "It prints `entry` and the entry, then per region `region`, its number (decimal) and address, then a line of pc and word for each four bytes."
unfoldable pub entry_line : (entry : ℕ) → List ℕ
entry_line entry = bytes_of "entry " ++ eight entry ++ bytes_of "\n"

unfoldable pub region_line : (number address : ℕ) → List ℕ
region_line number address = bytes_of "region" ++ field number ++ bytes_of " " ++ eight address ++ bytes_of "\n"

unfoldable pub word_line : (pc : ℕ) (word : List ℕ) → List ℕ
word_line pc word = eight pc ++ bytes_of " " ++ word ++ bytes_of "\n"

abbrev pub row_line : Row → List ℕ
row_line r = word_line r.pc (word_text r.bytes)

-- the lines of data from offset i on
unfoldable pub data_lines : (address i : ℕ) → List ℕ → List ℕ
unfolding flatten rows word_line word_text
data_lines address i bytes = flatten (map row_line (rows address i bytes))

abbrev pub region_text : (number : ℕ) → ImageRegion → List ℕ
region_text number r = region_line number r.address ++ data_lines r.address 0 r.bytes

unfoldable pub regions_text : (number : ℕ) → Image → List ℕ
regions_text number [] = []
regions_text number (r ∷ rs) = region_text number r ++ regions_text (number + 1) rs

abbrev pub image_text : (entry : ℕ) → Image → List ℕ
image_text entry image = entry_line entry ++ regions_text 0 image

-- "A refusal prints alone"
abbrev pub outcome_text : Result ℕ Refusal → (regions : List ℕ) → List ℕ
outcome_text (Ok entry) regions = image_text entry (image_of regions)
outcome_text (Err r) regions = refused_line (numbered r)

abbrev pub build_text : Job → (labels entry regions pending : List ℕ) → List ℕ
build_text job labels entry regions pending = let o = build_outcome job (table_of labels) entry regions pending in outcome_text o.answer o.regions

-- "reads the build's buffers from standard input in argument order: labels, entry, regions, pending"
unfoldable pub finish_text_by : Job → List ℕ → List ℕ
finish_text_by job s = build_text job (list_of 0 s) (list_of 1 s) (list_of 2 s) (list_of 3 s)

-- what `finish` prints: it builds as the commit does
abbrev pub finish_text : List ℕ → List ℕ
finish_text = finish_text_by Commit

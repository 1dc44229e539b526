-- The page as it is written: region by region, and word by word. Assumes nothing.
use Rattle.std.specs.Prelude.{ℕ, List, ◌++◌, map}
use mathlib.Core.List.{flatten}
use Rattle.reading.specs.Reading.{ImageRegion, Image}
use Rattle.reading.specs.Rows.{rows}
use Rattle.page_outcome.specs.Page.{region_line, row_line, page_lines}

-- the lines of data from offset i on
unfoldable pub data_text : (label : ℕ → List ℕ) (address i : ℕ) → List ℕ → List ℕ
unfolding flatten rows
data_text label address i bytes = flatten (map (row_line label) (rows address i bytes))

abbrev pub region_text : (label : ℕ → List ℕ) (number : ℕ) → ImageRegion → List ℕ
region_text label number r = region_line number ++ data_text label r.address 0 r.bytes

unfoldable pub image_text : (label : ℕ → List ℕ) (number : ℕ) → Image → List ℕ
unfolding flatten page_lines
image_text label number image = flatten (page_lines label number image)

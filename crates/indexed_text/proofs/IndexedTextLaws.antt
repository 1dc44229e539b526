-- The lengths of the lines of an emit call's outcome with an index. Assumes nothing.
use Rattle.std.specs.Prelude.{ℕ, List, drop, ◌+◌, ◌≤◌, ◌≡◌, ◌++◌, length}
use Rattle.std.proofs.Common.{arith, length-append}
use Rattle.record.specs.Texts.{bytes_of}
use Rattle.emit_outcome.specs.Answer.{EmitAnswer}
use Rattle.indexed_outcome.specs.declared.IndexedCounts.{IndexedCounts}
use Rattle.input.proofs.InputLaws.{word_behind, half_behind}
use Rattle.text.specs.Text.{field, last_field}
use Rattle.text.proofs.TextLaws.{field_most, last_most}
use Rattle.line_text.specs.Line.{answer_text, loaded_text, place_of}
use Rattle.line_text.proofs.LineLaws.{answer_most, loaded_most}
use Rattle.bytes_line.specs.BytesLine.{bytes_line}
use Rattle.bytes_line.proofs.BytesLineLaws.{bytes_length}
use Rattle.indexed_outcome.specs.Indexed.{IndexedOutcome}
use Rattle.indexed_text.specs.IndexedText.{fills_line, head_text, outcome_text, place_in}

-- the place of a line, read behind the fill counts
pub place_behind_counts : (s : List ℕ) → place_of (drop 16 s) ≡ place_in s
place_behind_counts s = rw (word_behind s 16 0, half_behind s 16 4, word_behind s 16 6)

pub fills_length : (c : IndexedCounts) → length (fills_line c)
    ≡ 5 + length (field c.counts.data_len) + length (field c.counts.pending) + length (field c.counts.breakpoints) + length (last_field c.index)
unfolding fills_line
fills_length c =
    let one = bytes_of "fills" ++ field c.counts.data_len in
    let two = one ++ field c.counts.pending in
    omega (arith, length-append (two ++ field c.counts.breakpoints) (last_field c.index), length-append two (field c.counts.breakpoints), length-append one (field c.counts.pending))

pub fills_most : (c : IndexedCounts) → length (fills_line c) ≤ 90
fills_most c = omega (arith, fills_length c, field_most c.counts.data_len, field_most c.counts.pending, field_most c.counts.breakpoints, last_most c.index)

pub head_length : (a : EmitAnswer) (c : IndexedCounts) → length (head_text a c) ≡ length (answer_text a) + length (fills_line c) + length (loaded_text a)
unfolding head_text
head_length a c = omega (arith, length-append (answer_text a ++ fills_line c) (loaded_text a), length-append (answer_text a) (fills_line c))

pub head_most : (a : EmitAnswer) (c : IndexedCounts) → length (head_text a c) ≤ 247
head_most a c = omega (arith, head_length a c, answer_most a, fills_most c, loaded_most a)

pub outcome_length : (o : IndexedOutcome) → length (outcome_text o)
    ≡ length (head_text o.answer o.counts) + length (bytes_line (bytes_of "data ") o.lent.region_data) + length (bytes_line (bytes_of "pending ") o.lent.pending)
    + length (bytes_line (bytes_of "breakpoints ") o.lent.breakpoints) + length (bytes_line (bytes_of "index ") o.index)
unfolding outcome_text
outcome_length o =
    let one = head_text o.answer o.counts ++ bytes_line (bytes_of "data ") o.lent.region_data in
    let two = one ++ bytes_line (bytes_of "pending ") o.lent.pending in
    let three = two ++ bytes_line (bytes_of "breakpoints ") o.lent.breakpoints in
    omega (arith, length-append three (bytes_line (bytes_of "index ") o.index), length-append two (bytes_line (bytes_of "breakpoints ") o.lent.breakpoints), length-append one (bytes_line (bytes_of "pending ") o.lent.pending), length-append (head_text o.answer o.counts) (bytes_line (bytes_of "data ") o.lent.region_data))

-- How long the text is at most, if each buffer has at most 65,537 bytes.
pub outcome_most : (o : IndexedOutcome) → length o.lent.region_data ≤ 65537 → length o.lent.pending ≤ 65537 → length o.lent.breakpoints ≤ 65537 → length o.index ≤ 65537
    → length (outcome_text o) ≤ 525000
outcome_most o d p b u =
    omega (arith, outcome_length o, head_most o.answer o.counts, bytes_length (bytes_of "data ") o.lent.region_data, bytes_length (bytes_of "pending ") o.lent.pending, bytes_length (bytes_of "breakpoints ") o.lent.breakpoints, bytes_length (bytes_of "index ") o.index, d, p, b, u)

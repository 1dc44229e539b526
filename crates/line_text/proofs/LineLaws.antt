-- The lengths of the lines of an emit call's outcome. Assumes nothing.
use Rattle.std.specs.Prelude.{Ok, Err, ℕ, ◌+◌, ◌≤◌, ◌≡◌, ◌++◌, length}
use Rattle.std.proofs.Common.{arith, length-append}
use Rattle.record.specs.Texts.{bytes_of}
use Rattle.refusal.specs.Numbers.{numbered}
use Rattle.loading.specs.declared.LoadForm.{LoadForm}
use Rattle.loading.specs.declared.LoadForm.TheVariants.{Nothing, Addiu, Ori, Lui, BothHalves}
use Rattle.emit_outcome.specs.declared.FillCounts.{FillCounts}
use Rattle.emit_outcome.specs.Answer.{EmitAnswer}
use Rattle.emit_outcome.specs.Call.{EmitOutcome}
use Rattle.text.specs.Text.{field, last_field, refused_line}
use Rattle.text.proofs.TextLaws.{field_most, last_most, refused_most}
use Rattle.bytes_line.specs.BytesLine.{bytes_line}
use Rattle.bytes_line.proofs.BytesLineLaws.{bytes_length}
use Rattle.line_text.specs.Line.{position_line, answer_text, fills_line, loaded_line, loaded_text, head_text, outcome_text}

pub position_most : (position : ℕ) → length (position_line position) ≤ 30
position_most position = omega (arith, last_most position)

pub answer_most : (a : EmitAnswer) → length (answer_text a) ≤ 144
answer_most (Ok done) = omega (arith, position_most done.position)
answer_most (Err refused) = omega (arith, length-append (refused_line (numbered refused.refusal)) (position_line refused.position), refused_most (numbered refused.refusal), position_most refused.position)

pub fills_length : (c : FillCounts) → length (fills_line c) ≡ 5 + length (field c.data_len) + length (field c.pending) + length (last_field c.breakpoints)
unfolding fills_line
fills_length c =
    let front = bytes_of "fills" ++ field c.data_len in
    omega (arith, length-append (front ++ field c.pending) (last_field c.breakpoints), length-append front (field c.pending))

pub fills_most : (c : FillCounts) → length (fills_line c) ≤ 69
fills_most c = omega (arith, fills_length c, field_most c.data_len, field_most c.pending, last_most c.breakpoints)

form_most : (form : LoadForm) → length (loaded_line form) ≤ 13
form_most Nothing = omega arith
form_most Addiu = omega arith
form_most Ori = omega arith
form_most Lui = omega arith
form_most BothHalves = omega arith

pub loaded_most : (a : EmitAnswer) → length (loaded_text a) ≤ 13
loaded_most (Ok done) = form_most done.loaded
loaded_most (Err refused) = omega arith

pub head_length : (a : EmitAnswer) (c : FillCounts) → length (head_text a c) ≡ length (answer_text a) + length (fills_line c) + length (loaded_text a)
unfolding head_text
head_length a c = omega (arith, length-append (answer_text a ++ fills_line c) (loaded_text a), length-append (answer_text a) (fills_line c))

pub head_most : (a : EmitAnswer) (c : FillCounts) → length (head_text a c) ≤ 226
head_most a c = omega (arith, head_length a c, answer_most a, fills_most c, loaded_most a)

pub outcome_length : (o : EmitOutcome) → length (outcome_text o)
    ≡ length (head_text o.answer o.counts) + length (bytes_line (bytes_of "data ") o.lent.region_data) + length (bytes_line (bytes_of "pending ") o.lent.pending) + length (bytes_line (bytes_of "breakpoints ") o.lent.breakpoints)
unfolding outcome_text
outcome_length o =
    let one = head_text o.answer o.counts ++ bytes_line (bytes_of "data ") o.lent.region_data in
    let two = one ++ bytes_line (bytes_of "pending ") o.lent.pending in
    omega (arith, length-append two (bytes_line (bytes_of "breakpoints ") o.lent.breakpoints), length-append one (bytes_line (bytes_of "pending ") o.lent.pending), length-append (head_text o.answer o.counts) (bytes_line (bytes_of "data ") o.lent.region_data))

-- How long the text is at most, if each buffer has at most 65,537 bytes.
pub outcome_most : (o : EmitOutcome) → length o.lent.region_data ≤ 65537 → length o.lent.pending ≤ 65537 → length o.lent.breakpoints ≤ 65537
    → length (outcome_text o) ≤ 400000
outcome_most o d p b =
    omega (arith, outcome_length o, head_most o.answer o.counts, bytes_length (bytes_of "data ") o.lent.region_data, bytes_length (bytes_of "pending ") o.lent.pending, bytes_length (bytes_of "breakpoints ") o.lent.breakpoints, d, p, b)

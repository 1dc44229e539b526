-- An immediate that the job takes stands in the word, or is loaded for the alternative.
use Rattle.std.proofs.Common.{subst}
use Rattle.loading.specs.declared.LoadForm.{LoadForm}
use Rattle.operand.specs.Held.{slot_in, constant_in}
use Rattle.emit_integer.specs.IntegerWords.{immediate_line_pairs}
use Rattle.emit_pairs.specs.Pairs.{EmitIs}
use Rattle.emit_dispatch.proofs.FormsLaws.{immediate_form_lem}
use Rattle.emit_dispatch.proofs.LinesLaws.{encoding_as, immediate_taken}
use Rattle.emit_dispatch.proofs.encoding_pairs.Goals as goal

pub returns-in-Immediate : goal.returns-in-Immediate
returns-in-Immediate c =
    let a = c.args in
    let o = a.operands in
    let alt = c.in-Immediate.alt in
    let taken = immediate_taken a.job a.op o c.in-Immediate.is c.requires.taken in
    encoding_as a.job a.op o c.in-Immediate.is
    (subst (λ (f : LoadForm). EmitIs c.do_immediate_instruction.result (immediate_line_pairs a.op alt (slot_in o.first) (slot_in o.second) (constant_in o.third)) f)
    (immediate_form_lem alt (constant_in o.third) taken) c.do_immediate_instruction.ensures)

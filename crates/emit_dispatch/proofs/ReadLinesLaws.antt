-- The line if an operand was missed, and the line if all operands were read. Assumes nothing.
use Rattle.std.specs.Prelude.{◌≡◌, List, Err, Ok, Result}
use Rattle.std.proofs.Common.{sym, subst}
use Rattle.cursor.specs.Cursors.{At}
use Rattle.cursor.specs.Reads.{CursorIn, Reads}
use Rattle.operand.specs.declared.Miss.{Miss}
use Rattle.operand.specs.Answers.{Answer, Got}
use Rattle.operand_list.specs.declared.Wants.{Wants}
use Rattle.operand_list.specs.declared.Operands.{Operands}
use Rattle.operand_list.specs.OperandLists.{AskedAll, given_all}
use Rattle.operand_list.specs.HeldOperands.{held_values}
use Rattle.loading.specs.declared.LoadForm.{LoadForm}
use Rattle.emit_pairs.specs.declared.emit_instruction.EmitInstruction.{EmitInstruction}
use Rattle.emit_pairs.specs.declared.InstructionPair.{InstructionPair}
use Rattle.emit_pairs.specs.Pairs.{Range}
use Rattle.emit_dispatch.specs.declared.Unmade.{Unmade}
use Rattle.emit_dispatch.specs.LineAnswers.{Missed as MissedOperand, unmade_answer}
use Rattle.emit_dispatch.specs.Lines.{line_by}
use Rattle.emit_dispatch.specs.Contract.{held_answer, MadeAs, LineAs}
use Rattle.emit_dispatch.proofs.LinesLaws.{line_held}

module _ (w : Wants) {before after : CursorIn} (x : At (Answer (AskedAll w))) {given : Result Operands Miss} (r : Reads before (given_all w x) given after) (range : AskedAll w → Range)
    (pairs : AskedAll w → List InstructionPair) (form : AskedAll w → LoadForm) where
  -- the line answers what was missed, and has no words
  pub line_missed : (m : Miss) → given ≡ Err m → (unmade : Unmade) → unmade_answer unmade ≡ MissedOperand m → LineAs before (line_by x.answer x.index range pairs form) (Err unmade) after
  line_missed m e unmade a =
      line_held w x r range pairs form (Err unmade) (subst (λ (y : Result Operands Miss). MadeAs (line_by (held_answer w y) 0 range pairs form) (Err unmade)) (sym e) (sym a))

  -- The line has the words that the operands make, or it answers that they are out of range.
  pub line_read : (o : Operands) → given ≡ Ok o → (made : Result EmitInstruction Unmade) → MadeAs (line_by (Got (held_values w o)) 0 range pairs form) made
      → LineAs before (line_by x.answer x.index range pairs form) made after
  line_read o e made a = line_held w x r range pairs form made (subst (λ (y : Result Operands Miss). MadeAs (line_by (held_answer w y) 0 range pairs form) made) (sym e) a)

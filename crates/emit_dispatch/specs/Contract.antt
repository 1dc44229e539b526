-- What the dispatch of a line promises: the answer, the words and the position are the definition's. Assumes nothing.
use Rattle.std.specs.Prelude.{◌≡◌, Result, Ok, Err}
use Rattle.cursor.specs.Reads.{CursorIn}
use Rattle.operand.specs.declared.Miss.{Miss}
use Rattle.operand.specs.Answers.{Answer, Got, Missed}
use Rattle.operand_list.specs.declared.Wants.{Wants}
use Rattle.operand_list.specs.declared.Operands.{Operands}
use Rattle.operand_list.specs.OperandLists.{AskedAll}
use Rattle.operand_list.specs.HeldOperands.{held_values}
use Rattle.emit_pairs.specs.declared.emit_instruction.EmitInstruction.{EmitInstruction}
use Rattle.emit_pairs.specs.Pairs.{EmitIs}
use Rattle.emit_dispatch.specs.declared.Unmade.{Unmade}
use Rattle.emit_dispatch.specs.LineAnswers.{Made, unmade_answer}
use Rattle.emit_dispatch.specs.Lines.{Line}

-- what was read, as the values that the operands hold
abbrev pub held_answer : (w : Wants) → Result Operands Miss → Answer (AskedAll w)
held_answer w (Ok operands) = Got (held_values w operands)
held_answer w (Err miss) = Missed miss

-- the code's words are the line's, or so is the reason why there are none
abbrev pub MadeAs : Line → Result EmitInstruction Unmade → Type 0
MadeAs line (Ok emit) = (line.answer ≡ Made) × EmitIs emit line.pairs line.form
MadeAs line (Err unmade) = line.answer ≡ unmade_answer unmade

-- the answer is the line's, and the cursor is in the same list, after the line's operands
pub record LineAs (before : CursorIn) (line : Line) (answer : Result EmitInstruction Unmade) (after : CursorIn) : Type 0 where
  pub made_as : MadeAs line answer
  pub after_is : after ≡ record { list = before.list; index = line.index }

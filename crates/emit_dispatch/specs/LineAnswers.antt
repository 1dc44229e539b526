-- Whether the words of a line are made. Assumes nothing.
use Rattle.operand.specs.declared.Miss.{Miss}
use Rattle.emit_pairs.specs.declared.Fault.{Fault}
use Rattle.emit_dispatch.specs.declared.Unmade.{Unmade}
use Rattle.emit_dispatch.specs.declared.Unmade.TheVariants.{Missed as MissedOperand, OutOfRange as OutsideRange}

pub data LineAnswer : Type 0 where
  Made : LineAnswer
  Missed : Miss → LineAnswer
  OutOfRange : Fault → LineAnswer

-- the answer of a line whose words are not made
abbrev pub unmade_answer : Unmade → LineAnswer
unmade_answer (MissedOperand miss) = Missed miss
unmade_answer (OutsideRange fault) = OutOfRange fault

-- What a line's operands hold, by what was asked for. Assumes nothing.
use Rattle.operand.specs.Held.{held}
use Rattle.operand_list.specs.declared.Wants.{Wants}
use Rattle.operand_list.specs.declared.Operands.{Operands}
use Rattle.operand_list.specs.OperandLists.{AskedAll}

abbrev pub held_values : (w : Wants) → Operands → AskedAll w
held_values w o = (held w.first o.first, held w.second o.second, held w.third o.third)

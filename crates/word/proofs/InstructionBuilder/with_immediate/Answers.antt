-- Sixteen bits fit the field, so that OR-ing puts them there.
use Rattle.std.proofs.Common.{◌∙◌, arith}
use Rattle.field.proofs.FieldLaws.{or_is_set}
use Rattle.word.proofs.InstructionBuilder.with_immediate.Goals as goal

pub returns : goal.returns
returns c = rw c.from.ensures at c.with_field.ensures ∙ or_is_set _ 0 16 _ (omega arith)

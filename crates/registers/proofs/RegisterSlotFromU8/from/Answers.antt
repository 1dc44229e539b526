use Rattle.std.proofs.Common.{refl, ◌∙◌}
use Rattle.registers.proofs.PastLaws.{up_to_last}
use Rattle.registers.specs.Slots.{slots}
use Rattle.registers.specs.declared.RegisterSlot.TheVariants.{ReturnAddress}
use Rattle.registers.proofs.RegisterSlotFromU8.from.Goals as goal

pub returns : goal.returns
returns c = up_to_last slots _ ReturnAddress c.args.n _ _ refl refl (c.from.ensures ∙ c.min.ensures)

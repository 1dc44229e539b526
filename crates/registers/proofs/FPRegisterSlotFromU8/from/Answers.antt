use Rattle.std.proofs.Common.{refl, ◌∙◌}
use Rattle.registers.proofs.PastLaws.{up_to_last}
use Rattle.registers.specs.Slots.{fp_slots}
use Rattle.registers.specs.declared.FPRegisterSlot.TheVariants.{F31}
use Rattle.registers.proofs.FPRegisterSlotFromU8.from.Goals as goal

pub returns : goal.returns
returns c = up_to_last fp_slots _ F31 c.args.n _ _ refl refl (c.from.ensures ∙ c.min.ensures)

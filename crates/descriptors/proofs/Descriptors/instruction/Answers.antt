use Rattle.std.proofs.Common.{ℕ, List, ap₂, ◌∙◌}
use Rattle.descriptors.specs.Descriptors.{instruction_at}
use Rattle.descriptors.proofs.Descriptors.instruction.Goals as goal

pub returns : goal.returns
returns c = c.instruction.ensures ∙ ap₂ (λ (s : List ℕ) (at : ℕ). instruction_at s at) (c.new.ensures.0 ∙ c.self.view_is) c.new.ensures.1

use Rattle.patching_text.proofs.TurnsLaws.{step_turns}
use Rattle.patching_text.proofs.do_step.Goals as goal

pub returns : goal.returns
returns g c = λ b. step_turns _ _ _ _ _ _ (c.patch_step-stepped.ensures b) c.put_step.ensures

use Rattle.form_counts.specs.Below.{addiu_below, ori_below, lui_below, below}
use Rattle.form_counts.proofs.count_below.Goals as goal

pub returns : goal.returns
unfolding below addiu_below ori_below lui_below
returns c = cc

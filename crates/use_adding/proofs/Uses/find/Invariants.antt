use Rattle.std.proofs.Common.{List, ◌-◌, length}
use Rattle.label_uses.specs.Uses.{Use}
use Rattle.use_adding.specs.Adding.{IndexIn}
use Rattle.use_adding.proofs.AddingLaws.{Reached}
use Rattle.use_adding.proofs.Uses.find.Given as goal

-- the uses before `at` all go before the key
abbrev pub invariant-loop-at : goal.invariant-loop-at
invariant-loop-at l = (us : List Use) → IndexIn l.bytes (length l.bytes) us → Reached us l.key l.at

abbrev pub decreases-loop-at : goal.decreases-loop-at
decreases-loop-at l = length l.bytes - l.at

use Rattle.std.proofs.Common.{◌≡◌, ◌-◌, ◌≤◌, length}
use Rattle.text_reader.proofs.OutcomeLaws.{answer_at}
use Rattle.text_reader.proofs.PassLaws.{Going}
use Rattle.text_reader.proofs.pass.Given as goal

abbrev pub invariant-loop-at : goal.invariant-loop-at
invariant-loop-at l =
    (l.at ≤ length l.text)
    × (l.fill ≤ length l.tokens)
    × (length l.tokens ≡ length l.initial.tokens)
    × (length l.tokens ≡ l.room)
    × (answer_at l.source l.text 0 (length l.initial.tokens) 0 ≡ answer_at l.source l.text l.at (length l.tokens) l.fill)
    × Going l.source l.text l.initial.tokens l.writes l.tokens l.at l.fill

abbrev pub decreases-loop-at : goal.decreases-loop-at
decreases-loop-at l = length l.text - l.at

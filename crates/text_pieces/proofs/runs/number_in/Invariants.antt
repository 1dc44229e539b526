use Rattle.std.proofs.Common.{◌^◌, ◌≡◌, ◌<◌}
use Rattle.text_pieces.specs.Numbers.{number_in}
use Rattle.text_pieces.proofs.NumbersLaws.{number_from, digits_at}
use Rattle.text_pieces.proofs.runs.number_in.Given as goal

-- The number comes from the value so far and the digits from here on.
abbrev pub invariant-loop-i : goal.invariant-loop-i
invariant-loop-i l =
    (l.value < 2 ^ 64) × (number_in l.base l.text ≡ number_from l.base l.value l.i (digits_at l.base l.text l.i))

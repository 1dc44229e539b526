use Rattle.std.proofs.Common.{◌+◌, ◌≡◌, ◌≤◌, List, length}
use Rattle.label_uses.specs.Uses.{Use}
use Rattle.use_adding.specs.Adding.{IndexIn}
use Rattle.line_uses.proofs.LineLaws.{LineTo}
use Rattle.line_uses.proofs.Line.add_to.Given as goal

abbrev pub invariant-loop-pair : goal.invariant-loop-pair
invariant-loop-pair l =
    (l.pair-index ≤ length l.self.pairs) × (length l.index ≡ length l.fn.index) × (l.n ≤ l.first + l.pair-index)
    × ((us : List Use) → IndexIn l.fn.index l.fill us → LineTo l.self.labels l.self.names l.fn.index l.first l.self.pairs us l.index l.pair-index l.filled l.n)

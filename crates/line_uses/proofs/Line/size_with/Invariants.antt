use Rattle.std.proofs.Common.{ℕ, ◌+◌, ◌*◌, ◌≡◌, ◌≤◌, List, length, take}
use Rattle.label_uses.specs.Uses.{Use}
use Rattle.label_uses.specs.UseBytes.{uses_bytes}
use Rattle.label_uses.specs.Says.{KeysRise}
use Rattle.use_adding.specs.Adding.{IndexIn}
use Rattle.line_uses.specs.LineUses.{line_uses}
use Rattle.line_uses.proofs.Line.size_with.Given as goal

abbrev pub invariant-loop-i : goal.invariant-loop-i
invariant-loop-i l =
    (l.size ≤ length l.uses + 65549 * l.i)
    × ((us : List Use) → IndexIn l.uses (length l.uses) us → KeysRise us → (m : ℕ) → l.size ≡ length (uses_bytes (line_uses l.self.labels l.self.names m (take l.i l.self.pairs) us)))

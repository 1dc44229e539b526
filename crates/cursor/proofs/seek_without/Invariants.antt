use Rattle.std.proofs.Common.{◌≡◌, ◌-◌, length}
use Rattle.lexer.specs.Tokens.{tokens}
use Rattle.cursor.specs.Cursors.{seek}
use Rattle.cursor.specs.Reads.{Placed}
use Rattle.cursor.proofs.seek_without.Given as goal

abbrev pub invariant-loop-cursor : goal.invariant-loop-cursor
invariant-loop-cursor l =
    Placed l.list l.cursor × (seek (tokens l.list) l.initial.cursor.index ≡ seek (tokens l.list) l.cursor.index)

abbrev pub decreases-loop-cursor : goal.decreases-loop-cursor
decreases-loop-cursor l = length (tokens l.list) - l.cursor.index

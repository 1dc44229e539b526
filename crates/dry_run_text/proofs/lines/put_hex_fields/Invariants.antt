use Rattle.std.proofs.Common.{◌≡◌, ◌++◌, drop}
use Rattle.dry_run_text.specs.Lines.{hex_fields}
use Rattle.dry_run_text.proofs.lines.put_hex_fields.Given as goal

-- The text so far, with the numbers left put behind it, is the whole text.
abbrev pub invariant-loop-number : goal.invariant-loop-number
invariant-loop-number g l = l.out ++ hex_fields (drop l.number-index l.numbers) ≡ l.initial.out ++ hex_fields l.numbers

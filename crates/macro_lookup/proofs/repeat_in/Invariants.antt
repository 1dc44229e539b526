use Rattle.std.specs.Prelude.{MatchOption}
use Rattle.std.specs.Option.{unwrap_or}
use Rattle.std.proofs.Common.{length, ◌+◌, ◌<◌}
use Rattle.macro_lookup.specs.Lookup.{Scanned}
use Rattle.macro_lookup.proofs.repeat_in.Given as goal

abbrev pub invariant-loop-other : goal.invariant-loop-other
invariant-loop-other l = record {
  scanned : Scanned l.macros.bytes.now l.index (l.other-index + 1) l.low (unwrap_or l.best (length l.macros.bytes.now));
  within : MatchOption l.best Unit (λ b. b < length l.macros.bytes.now);
}

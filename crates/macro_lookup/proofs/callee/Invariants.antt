use Rattle.std.specs.Prelude.{IfSome}
use Rattle.std.specs.Option.{unwrap_or}
use Rattle.std.proofs.Common.{◌<◌}
use Rattle.record.specs.Left.{places_left}
use Rattle.macro_lookup.proofs.LookupLaws.{Met}
use Rattle.macro_lookup.proofs.callee.Given as goal

abbrev pub invariant-loop-at : goal.invariant-loop-at
invariant-loop-at l = record {
  met : Met l.macros l.name l.limit (places_left l.at-iterator) (unwrap_or l.found l.limit);
  before : IfSome l.found (λ k. k < l.limit);
}

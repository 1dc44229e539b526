use Rattle.std.proofs.Common.{ℕ, ◌≡◌}
use Rattle.record.specs.Records.{places_from}
use Rattle.macro_tokens.proofs.ArgumentsLaws.{Took}
use Rattle.macro_tokens.proofs.arguments_from.Given as goal

abbrev pub invariant-loop-at : goal.invariant-loop-at
invariant-loop-at l = record {
  here : ℕ;
  left : places_from l.at-iterator.list.now l.at-iterator.at ≡ places_from l.reading.list.now here;
  took : Took l.source.text.now l.source.macros.now l.reading.list.now l.reading.body l.from here l.taken;
}

use Rattle.std.proofs.Common.{◌+◌, ◌*◌, ◌-◌, length}
use Rattle.written_out.specs.declared.Mode.TheVariants.{Leading}
use Rattle.macro_tokens.specs.Places.{ReadableFrom}
use Rattle.write_out.specs.Body.{steps_from}
use Rattle.write_out.proofs.Same.{Same}
use Rattle.write_out.proofs.+write_call_write_body.Given as goal

-- A body calls the work on its tokens, and that calls the body of a macro above.
abbrev pub decreases-write_call : goal.decreases-write_call
decreases-write_call l = 2 * l.frame.now.most

abbrev pub decreases-write_body : goal.decreases-write_body
decreases-write_body l = 2 * l.frame.now.most + 1

abbrev pub invariant-write_body-loop-at : goal.invariant-write_body-loop-at
invariant-write_body-loop-at l =
    ReadableFrom l.frame.source.text.now l.frame.source.macros.now l.reading.list.now l.reading.body l.at
    × Same l.really l.initial.out l.from (steps_from l.frame.source.text.now l.frame.source.macros.now l.frame.most l.frame.levels l.reading.list.now l.reading.body Leading l.reading.body.start) l.out l.fill (steps_from l.frame.source.text.now l.frame.source.macros.now l.frame.most l.frame.levels l.reading.list.now l.reading.body l.mode l.at)

abbrev pub decreases-write_body-loop-at : goal.decreases-write_body-loop-at
decreases-write_body-loop-at l = length l.reading.list.now - l.at

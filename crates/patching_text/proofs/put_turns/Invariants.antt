use Rattle.patching_outcome.specs.Patching.{patching_of}
use Rattle.patching_text.specs.Script.{most_turns, script_text}
use Rattle.patching_text.specs.Setup.{given_by}
use Rattle.patching_text.proofs.TurnsLaws.{Here}
use Rattle.patching_text.proofs.put_turns.Given as goal

abbrev pub invariant-loop : goal.invariant-loop
invariant-loop g l =
    let f = l.fn in
    let given = given_by f.setup in
    Here (script_text most_turns given (patching_of f.regions f.pending f.breakpoints f.kept f.start) f.script) given
    (patching_of l.regions l.pending l.breakpoints l.kept l.counts) l.rest l.out l.counter

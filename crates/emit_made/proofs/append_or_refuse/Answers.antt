use Rattle.std.specs.Prelude.{Err}
use Rattle.std.proofs.Common.{sym, ap, ◌∙◌}
use Rattle.std.proofs.lemmas.Result.{err_from_is_err_and}
use Rattle.emit_outcome.specs.Call.{lent_of, outcome_of}
use Rattle.emit_outcome.specs.declared.RefusedLine.{RefusedLine}
use Rattle.emit_made.proofs.MadeLaws.{stopped_ok, stopped_err, words_pass, refused_outcome, WordsPass}
use Rattle.emit_made.proofs.append_or_refuse.Goals as goal
use Rattle.emit_made.proofs.append_or_refuse.Goals.{In_ok-words}

pub returns-in_err-words : goal.returns-in_err-words
returns-in_err-words c =
    let a = c.args in
    let lent = lent_of a.«data».now a.pending.now a.breakpoints.now in
    let p = err_from_is_err_and c.from_residual.result c.from_residual.ensures.1 in
    let s = stopped_err a.read.position c.check_line-passed.result (sym c.at_position.ensures ∙ c.in_err-words.was) in
    rw (p.1, p.2)
    (refused_outcome a.tokens.now a.numbers lent a.read c.check_line-passed.ensures s.0 s.1 ∙ ap (λ (k : RefusedLine). outcome_of (Err k) a.numbers.counts lent) s.2)

-- the words have passed
pass : (c : In_ok-words) → let a = c.args in WordsPass a.tokens.now a.numbers (lent_of a.«data».now a.pending.now a.breakpoints.now) a.read c.in_ok-words.words
pass c =
    let a = c.args in
    words_pass a.tokens.now a.numbers (lent_of a.«data».now a.pending.now a.breakpoints.now) a.read c.check_line-passed.ensures c.in_ok-words.words
    (stopped_ok a.read.position c.check_line-passed.result (sym c.at_position.ensures ∙ c.in_ok-words.was))

pub append_line-requires : goal.append_line-requires
append_line-requires c = record { filled = c.requires; emit_value = (pass (goal.at.append_line-requires c).In_ok-words).room }

pub returns : goal.returns
returns c = (pass (goal.at.returns c).In_ok-words).outcome_is ∙ c.append_line.ensures

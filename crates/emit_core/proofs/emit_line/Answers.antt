use Rattle.std.specs.Prelude.{◌≡◌, Ok, Err}
use Rattle.std.proofs.Common.{sym, ap, subst, ◌∙◌}
use Rattle.std.proofs.lemmas.Result.{err_from_is_err_and}
use Rattle.emit_outcome.specs.Call.{lent_of, call_of, outcome_of}
use Rattle.emit_outcome.specs.declared.RefusedLine.{RefusedLine}
use Rattle.emit_outcome.specs.Checks.{list_stop}
use Rattle.emit_checks.proofs.ListsLaws.{lists_pass}
use Rattle.emit_made.proofs.MadeLaws.{stopped_ok, stopped_err}
use Rattle.emit_core.specs.Read.{ReadBy}
use Rattle.emit_core.proofs.EmitLaws.{by_lists, read_outcome_lem, unread_outcome}
use Rattle.emit_core.proofs.emit_line.Goals as goal
use Rattle.emit_core.proofs.emit_line.Goals.{In_ok-at_position}

-- the lists have passed
passed : (c : In_ok-at_position) → let a = c.args in let l = a.lists in
    list_stop l.tokens.now l.mnemonic.now l.descriptors.now (lent_of a.«data».now a.pending.now a.breakpoints.now) a.numbers.place.region a.numbers.counts ≡ Ok tt
passed c = sym c.check_lists-passed.ensures ∙ stopped_ok c.args.numbers.place.position c.check_lists-passed.result (sym c.at_position.ensures ∙ c.in_ok-at_position.was)

pub returns-in_err-at_position : goal.returns-in_err-at_position
returns-in_err-at_position c =
    let a = c.args in
    let l = a.lists in
    let lent = lent_of a.«data».now a.pending.now a.breakpoints.now in
    let p = err_from_is_err_and c.from_residual.result c.from_residual.ensures.1 in
    let s = stopped_err a.numbers.place.position c.check_lists-passed.result (sym c.at_position.ensures ∙ c.in_err-at_position.was) in
    rw (p.1, p.2)
    (by_lists a.job (call_of l.tokens.now l.mnemonic.now l.descriptors.now lent a.numbers.counts a.numbers.place) (sym c.check_lists-passed.ensures ∙ s.1) ∙ ap (λ (k : RefusedLine). outcome_of (Err k) a.numbers.counts lent) s.2)

pub read_line-line-requires : goal.read_line-line-requires
read_line-line-requires c =
    let l = lists_pass _ _ _ _ c.args.numbers.place.region _ (passed (goal.at.read_line-line-requires c).In_ok-at_position) in
    (l.tokens_good, l.mnemonic_good, l.descriptors_good)

pub returns-in_err-read : goal.returns-in_err-read
returns-in_err-read c =
    let a = c.args in
    let l = a.lists in
    let lent = lent_of a.«data».now a.pending.now a.breakpoints.now in
    let p = err_from_is_err_and c.from_residual-in_err-read.result c.from_residual-in_err-read.ensures.1 in
    let s = stopped_err a.numbers.place.position c.read_line-line.result (sym c.at_position-2.ensures ∙ c.in_err-read.was) in
    let r = subst (ReadBy a.job l.tokens.now l.mnemonic.now l.descriptors.now a.numbers.place.position) s.1 c.read_line-line.ensures in
    rw (p.1, p.2)
    (unread_outcome a.job (call_of l.tokens.now l.mnemonic.now l.descriptors.now lent a.numbers.counts a.numbers.place) s.0 (passed (goal.at.returns-in_err-read c).In_ok-at_position) r ∙ ap (λ (k : RefusedLine). outcome_of (Err k) a.numbers.counts lent) s.2)

pub append_or_refuse-requires : goal.append_or_refuse-requires
append_or_refuse-requires c = (lists_pass _ _ _ _ c.args.numbers.place.region _ (passed (goal.at.append_or_refuse-requires c).In_ok-at_position)).filled

pub returns : goal.returns
returns c =
    let a = c.args in
    let l = a.lists in
    let lent = lent_of a.«data».now a.pending.now a.breakpoints.now in
    let s = stopped_ok a.numbers.place.position c.read_line-line.result (sym c.at_position-2.ensures ∙ c.in_ok-read.was) in
    let r = subst (ReadBy a.job l.tokens.now l.mnemonic.now l.descriptors.now a.numbers.place.position) s c.read_line-line.ensures in
    read_outcome_lem a.job (call_of l.tokens.now l.mnemonic.now l.descriptors.now lent a.numbers.counts a.numbers.place) _ _ r (passed (goal.at.returns c).In_ok-at_position) ∙ c.append_or_refuse.ensures

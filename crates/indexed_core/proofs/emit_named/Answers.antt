use Rattle.std.specs.Prelude.{Err}
use Rattle.std.proofs.Common.{ℕ, List, true, sym, ap, subst, ◌∙◌, arith}
use Rattle.std.proofs.lemmas.Result.{err_from_is_err_and}
use Rattle.emit_outcome.specs.Call.{Lent, Call, EmitOutcome, lent_of, call_of, filled_pending}
use Rattle.emit_outcome.specs.Emit.{line_outcome}
use Rattle.emit_outcome.specs.declared.RefusedLine.{RefusedLine}
use Rattle.emit_checks.specs.Made.{made_line}
use Rattle.emit_checks.proofs.ListsLaws.{lists_pass}
use Rattle.emit_made.proofs.MadeLaws.{stopped_ok, stopped_err}
use Rattle.emit_core.specs.Read.{ReadBy, ReadIs}
use Rattle.emit_core.proofs.EmitLaws.{read_outcome_lem, unread_outcome}
use Rattle.label_uses.specs.UseBytes.{index_of}
use Rattle.indexed_outcome.specs.Indexed.{IndexedCall, indexed_call_of, indexed_outcome_of}
use Rattle.indexed_core.specs.Steps.{new_index}
use Rattle.indexed_core.proofs.NewUsesLaws.{new_index_lem}
use Rattle.indexed_core.proofs.ChecksLaws.{all_pass, pending_passes}
use Rattle.indexed_core.proofs.StepsLaws.{call_unknown, call_line}
use Rattle.indexed_core.proofs.emit_named.Goals as goal
use Rattle.indexed_core.proofs.emit_named.Goals.{Start, In_ok-read}

abbrev lent : Start → Lent
lent c = let a = c.args in lent_of a.«data».now a.pending.now a.breakpoints.now

abbrev plain_call : Start → Call
plain_call c = let a = c.args in call_of a.tokens.now a.mnemonic.now a.descriptors.now (lent c) a.numbers.counts a.numbers.place

abbrev call : Start → IndexedCall
call c = indexed_call_of (plain_call c) c.args.labels.now c.args.index.now c.args.fill

was_read : (c : In_ok-read) → let a = c.args in ReadIs a.job a.tokens.now a.mnemonic.now a.descriptors.now a.numbers.place.position true c.in_ok-read.read
was_read c =
    let a = c.args in
    subst (ReadBy a.job a.tokens.now a.mnemonic.now a.descriptors.now a.numbers.place.position)
    (stopped_ok a.numbers.place.position c.read_line.result (sym c.at_position.ensures ∙ c.in_ok-read.was)) c.read_line.ensures

pub read_line-requires : goal.read_line-requires
read_line-requires c =
    let s = (goal.at.read_line-requires c).Start in
    let l = lists_pass _ _ _ _ c.args.numbers.place.region _ (all_pass (call s) c.requires).lists_pass in
    (l.tokens_good, l.mnemonic_good, l.descriptors_good)

pub returns-in_err-read : goal.returns-in_err-read
returns-in_err-read c =
    let a = c.args in
    let s = (goal.at.returns-in_err-read c).Start in
    let p = err_from_is_err_and c.from_residual.result c.from_residual.ensures.1 in
    let k = stopped_err a.numbers.place.position c.read_line.result (sym c.at_position.ensures ∙ c.in_err-read.was) in
    let r = subst (ReadBy a.job a.tokens.now a.mnemonic.now a.descriptors.now a.numbers.place.position) k.1 c.read_line.ensures in
    rw (p.1, p.2)
    (call_unknown a.job (call s) c.requires k.0 (unread_outcome a.job (plain_call s) k.0 (all_pass (call s) c.requires).lists_pass r)
    ∙ ap (λ (x : RefusedLine). indexed_outcome_of (Err x) (record { counts = a.numbers.counts; index = a.fill }) (lent s) a.index.now) k.2)

pub append_or_refuse-requires : goal.append_or_refuse-requires
append_or_refuse-requires c =
    let s = (goal.at.append_or_refuse-requires c).Start in
    let p = all_pass (call s) c.requires in
    record {
      lists_filled = (lists_pass _ _ _ _ c.args.numbers.place.region _ p.lists_pass).filled;
      pending_kept = (pending_passes _ _ _ (lent s) c.args.numbers.place.region c.args.numbers.counts p.six_pass).2;
      labels_good = p.labels_good;
      index_good = p.index_good;
    }

pub returns : goal.returns
returns c =
    let s = (goal.at.returns c).Start in
    let a = c.args in
    let r = c.in_ok-read.read in
    let is = was_read (goal.at.returns c).In_ok-read in
    let e = read_outcome_lem a.job (plain_call s) true r is (all_pass (call s) c.requires).lists_pass in
    let y : EmitOutcome = line_outcome a.tokens.now r.line a.numbers (lent s) (made_line r) in
    let new : List ℕ = new_index a.labels.now a.tokens.now (filled_pending (lent s) a.numbers.counts) (made_line r).pairs in
    call_line a.job (call s) c.requires r.line y new is.location_is e
    (λ position loaded f.
    ap (λ (o : EmitOutcome). index_of a.labels.now (filled_pending o.lent o.counts)) (sym e)
    ∙ new_index_lem a.job (plain_call s) r position loaded (ap (λ (o : EmitOutcome). o.answer) e ∙ f) a.labels.now (λ i. omega (arith, c.type_inv.tokens i)) (λ i. omega (arith, c.type_inv.mnemonic i))
    is.line_is)
    ∙ c.append_or_refuse.ensures

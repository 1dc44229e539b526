use Rattle.std.specs.Prelude.{None, Some}
use Rattle.std.proofs.Common.{ℕ, ◌≡◌, take, rules, sym, ap, ◌∙◌, length-take-le, arith}
use Rattle.record.specs.Records.{places, first_bad}
use Rattle.record.proofs.RecordsLaws.{places_all}
use Rattle.pending.specs.Pendings.{pending_ok, pending_layout}
use Rattle.pending.proofs.PendingsLaws.{pending_kept}
use Rattle.breakpoints.specs.Breakpoints.{pending_buffer_layout}
use Rattle.breakpoints.proofs.BreakpointsLaws.{filled_good, filled_or}
use Rattle.breakpoints.proofs.check_pending_buffer.Goals as goal

pub or_else-requires : goal.or_else-requires
or_else-requires c = λ e. let r = filled_good c.args.fill c.args.buffer.now None (sym c.filled.ensures ∙ e) in search rules

pub returns : goal.returns
unfolding pending_buffer_layout
returns c =
    let a = c.args in
    let l = take a.fill a.buffer.now in
    let checked : c.filled.result ≡ None → c.or_else.result ≡ pending_layout 16 l = λ e. search rules in
    let good : c.filled.result ≡ None → c.or_else.result ≡ first_bad (pending_ok 16 l) (places l) =
    λ e.
    let r = filled_good a.fill a.buffer.now None (sym c.filled.ensures ∙ e) in
    checked e ∙ pending_kept 16 l (omega (arith, length-take-le a.fill a.buffer.now r.1)) ∙ ap (first_bad (pending_ok 16 l)) (sym (places_all l)) in
    let bad : (p : ℕ) → c.filled.result ≡ Some p → c.or_else.result ≡ Some p = λ p e. search rules in
    filled_or a.fill a.buffer.now _ _ _ c.filled.ensures good bad

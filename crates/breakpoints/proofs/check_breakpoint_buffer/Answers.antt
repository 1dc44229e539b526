use Rattle.std.specs.Prelude.{None, Some}
use Rattle.std.proofs.Common.{ℕ, ◌≡◌, take, rules, sym, ◌∙◌}
use Rattle.record.specs.Records.{places, first_bad}
use Rattle.breakpoints.specs.Breakpoints.{breakpoint_ok, breakpoint_buffer_layout}
use Rattle.breakpoints.proofs.BreakpointsLaws.{filled_good, filled_or}
use Rattle.breakpoints.proofs.check_breakpoint_buffer.Goals as goal

pub or_else-requires : goal.or_else-requires
or_else-requires c = λ e. let r = filled_good c.args.fill c.args.buffer.now None (sym c.filled.ensures ∙ e) in search rules

pub returns : goal.returns
unfolding breakpoint_buffer_layout
returns c =
    let l = take c.args.fill c.args.buffer.now in
    let good : c.filled.result ≡ None → c.or_else.result ≡ first_bad (breakpoint_ok l) (places l) = λ e. search rules in
    let bad : (p : ℕ) → c.filled.result ≡ Some p → c.or_else.result ≡ Some p = λ p e. search rules in
    filled_or c.args.fill c.args.buffer.now _ _ _ c.filled.ensures good bad

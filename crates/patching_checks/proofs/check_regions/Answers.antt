use Rattle.std.specs.Prelude.{None, Some}
use Rattle.std.proofs.Common.{ℕ, ◌≡◌, take, rules, sym, ◌∙◌}
use Rattle.regions.specs.Regions.{region_layout}
use Rattle.breakpoints.proofs.BreakpointsLaws.{filled_good, filled_or}
use Rattle.patching_checks.proofs.check_regions.Goals as goal

pub or_else-requires : goal.or_else-requires
or_else-requires c = λ e. let r = filled_good c.args.fill c.args.buffer.now None (sym c.filled.ensures ∙ e) in search rules

pub returns : goal.returns
returns c =
    let a = c.args in
    let l = take a.fill a.buffer.now in
    let good : c.filled.result ≡ None → c.or_else.result ≡ region_layout l = λ e. search rules in
    let bad : (p : ℕ) → c.filled.result ≡ Some p → c.or_else.result ≡ Some p = λ p e. search rules in
    filled_or a.fill a.buffer.now _ _ _ c.filled.ensures good bad

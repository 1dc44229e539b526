use Rattle.std.specs.Prelude.{None, Some}
use Rattle.std.proofs.Common.{ℕ, ◌≡◌, take, rules, sym, ◌∙◌}
use Rattle.regions.specs.Regions.{region_layout}
use Rattle.breakpoints.proofs.BreakpointsLaws.{filled_good}
use Rattle.patching_outcome.specs.Line.{is_listed, only_listed}
use Rattle.patching_line.proofs.ListedLaws.{listed_or}
use Rattle.patching_line.proofs.check_listed.Goals as goal

pub or_else-requires : goal.or_else-requires
or_else-requires c = λ e. let r = filled_good c.args.fill c.args.buffer.now (region_layout (take c.args.fill c.args.buffer.now)) (sym c.check_regions.ensures ∙ e) in search rules

pub returns : goal.returns
returns c =
    let a = c.args in
    let good : c.check_regions.result ≡ None → c.or_else.result ≡ only_listed (is_listed (take a.fill a.buffer.now) a.region) None = λ e. search rules in
    let bad : (p : ℕ) → c.check_regions.result ≡ Some p → c.or_else.result ≡ Some p = λ p e. search rules in
    listed_or a.region a.fill a.buffer.now (sym c.region_number_ok.ensures ∙ c.if-not-region_number_ok.false) _ _ c.check_regions.ensures good bad

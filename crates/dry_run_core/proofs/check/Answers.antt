use Rattle.std.proofs.Common.{sym, ◌∙◌, arith}
use Rattle.regions.proofs.RegionsLaws.{region_place_lem}
use Rattle.dry_run_core.proofs.check.Goals as goal

pub check_layout-requires : goal.check_layout-requires
check_layout-requires c = λ place e. omega (arith, region_place_lem _ place (sym c.first_bad_region.ensures ∙ e))

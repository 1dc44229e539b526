use Rattle.std.proofs.lemmas.Result.{err_from_is_err_and}
use Rattle.patching_line.proofs.LineLaws.{line_stops}
use Rattle.patching_line.proofs.checked_line.Goals as goal

pub returns-in_err-check_layouts : goal.returns-in_err-check_layouts
returns-in_err-check_layouts c =
    let p = err_from_is_err_and c.from_residual.result c.from_residual.ensures.1 in
    rw (p.1, p.2) (line_stops _ _ _ _ _ _ _ _ _ _ _ c.in_err-check_layouts.ensures)

-- The layouts are checked first, and then the names. The place of a name is at most 65,536.
use Rattle.std.specs.Prelude.{Err}
use Rattle.std.proofs.Common.{refl, sym, ap, ◌∙◌, arith}
use Rattle.std.proofs.lemmas.Result.{err_from_is_err_and}
use Rattle.emit_checks.proofs.PlacesLaws.{repeat_place}
use Rattle.emit_checks.proofs.ListsLaws.{layouts_pass, lists_are}
use Rattle.emit_checks.proofs.check_lists.Goals as goal

pub returns-in_err-check_layouts : goal.returns-in_err-check_layouts
returns-in_err-check_layouts c =
    let p = err_from_is_err_and _ c.from_residual.ensures.1 in
    p.1 ∙ ap Err p.2 ∙ sym (lists_are _ _ _ _ _ _ (sym c.in_err-check_layouts.ensures) refl)

pub new-requires : goal.new-requires
new-requires c = (layouts_pass _ _ _ _ c.args.region _ (sym c.in_ok-check_layouts.ensures)).descriptors_good

pub check_names-requires : goal.check_names-requires
check_names-requires c p e =
    omega (arith, repeat_place _ p (layouts_pass _ _ _ _ c.args.region _ (sym c.in_ok-check_layouts.ensures)).descriptors_good (sym (rw c.new.ensures at c.first_repeat.ensures) ∙ e))

-- If the layouts pass, the names decide.
pub returns : goal.returns
returns c = c.check_names.ensures ∙ sym (lists_are _ _ _ _ _ _ (sym c.in_ok-check_layouts.ensures) (sym (rw c.new.ensures at c.first_repeat.ensures)))

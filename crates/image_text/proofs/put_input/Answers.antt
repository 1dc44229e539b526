use Rattle.std.specs.Prelude.{None, Result}
use Rattle.std.proofs.Common.{◌≡◌, ℕ, length, ap, sym, ◌∙◌, arith}
use Rattle.refusal.specs.declared.Refusal.{Refusal}
use Rattle.regions.specs.Regions.{region_layout}
use Rattle.input.specs.Input.{list_of, held}
use Rattle.input.proofs.InputLaws.{held_in}
use Rattle.image_text.specs.Image.{outcome_text, finish_text_by}
use Rattle.image_text.proofs.MostLaws.{image_most}
use Rattle.image_text.proofs.BuiltLaws.{built_layout, built_text}
use Rattle.image_text.proofs.put_input.Goals as goal
use Rattle.image_text.proofs.put_input.Goals.{After-build_for, In-Ok}

-- an accepted build's regions keep their layout
good : (g : _) (c : In-Ok g) → region_layout c.build_for.new.regions ≡ None
good g c = built_layout _ _ _ _ _ c.build_for.ensures c.in-Ok.address c.in-Ok.is

-- what the outcome prints
printed : (g : _) (c : After-build_for g) → outcome_text c.build_for.result c.build_for.new.regions ≡ finish_text_by c.args.job c.args.input.now
printed g c =
    let h : c.hold_in-regions.result.now ≡ held (list_of 2 c.args.input.now) = (held_in _ _ c.hold_in-regions.ensures).bytes ∙ ap held c.list_of.ensures in
    built_text _ _ _ _ _ c.build_for.ensures c.args.input.now c.list_of-labels.ensures c.list_of-entry.ensures h c.list_of-pending.ensures

pub new-requires : goal.new-requires
new-requires g c = good g (goal.at.new-requires g c).In-Ok

pub put_image-requires : goal.put_image-requires
put_image-requires g c =
    rw c.new.ensures (omega (arith, image_most c.build_for.new.regions c.in-Ok.address (good g (goal.at.put_image-requires g c).In-Ok), ap length c.clear.ensures, c.requires))

pub returns-in-Ok : goal.returns-in-Ok
returns-in-Ok g c =
    rw (c.put_image.ensures, c.clear.ensures, c.new.ensures)
    (ap (λ (r : Result ℕ Refusal). outcome_text r c.build_for.new.regions) (sym c.in-Ok.is) ∙ printed g (goal.at.returns-in-Ok g c).After-build_for)

pub returns-in-Err : goal.returns-in-Err
returns-in-Err g c =
    rw (c.push_refusal.ensures, c.clear.ensures)
    (ap (λ (r : Result ℕ Refusal). outcome_text r c.build_for.new.regions) (sym c.in-Err.is) ∙ printed g (goal.at.returns-in-Err g c).After-build_for)

use Rattle.std.proofs.Common.{ℕ, List, ap, sym, ◌∙◌, add-one, arith, append-nil, length, length-set, take, take-suc-set, ◌++◌, ◌<◌}
use Rattle.std.proofs.Math.Seq.{append_snoc}
use Rattle.regions.proofs.RegionsLaws.{region_good}
use Rattle.dry_run_core.proofs.image.Placed.new.Goals as goal

pub offset_bounds-at-count : goal.offset_bounds-at-count
offset_bounds-at-count c = record { fits = omega (arith, ap length c.in-Some.ensures.steps, region_good _ c.places-place-items.ensures.layout) }

pub bounds-at-count : goal.bounds-at-count
bounds-at-count c = omega (arith, ap length c.in-Some.ensures.steps, region_good _ c.places-place-items.ensures.layout)

pub overflow_add-count : goal.overflow_add-count
overflow_add-count c = record { fits = omega (arith, ap length c.in-Some.ensures.steps, region_good _ c.places-place-items.ensures.layout) }

pub loop-place-preserved : goal.loop-place-preserved
loop-place-preserved c =
    let n = c.loop-place.count in
    let h : n < length c.loop-place.at = omega (arith, ap length c.in-Some.ensures.steps, region_good _ c.places-place-items.ensures.layout, c.loop-place.invariant.slots) in
    record {
      room = omega (arith, ap length c.in-Some.ensures.steps);
      rest =
          rw (add-one, take-suc-set c.loop-place.at n c.in-Some.place h)
          (append_snoc (take n c.loop-place.at) c.in-Some.place _ ∙ ap (λ (ps : List ℕ). take n c.loop-place.at ++ ps) (sym c.in-Some.ensures.steps) ∙ c.loop-place.invariant.rest);
      slots = length-set _ n _ ∙ c.loop-place.invariant.slots;
    }

pub invariant_of-result : goal.invariant_of-result
invariant_of-result c =
    let n = c.loop-place.count in (
      sym (append-nil (take n c.loop-place.at)) ∙ ap (λ (ps : List ℕ). take n c.loop-place.at ++ ps) (sym c.in-None.ensures.steps.0) ∙ c.loop-place.invariant.rest,
      omega (arith, ap length c.in-None.ensures.steps.0, region_good _ c.places-place-items.ensures.layout),
    )

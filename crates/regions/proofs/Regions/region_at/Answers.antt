use Rattle.std.proofs.Common.{arith, refl}
use Rattle.regions.proofs.RegionsLaws.{RegionIs, region_is}
use Rattle.regions.proofs.Regions.region_at.Goals as goal
use Rattle.regions.proofs.Regions.region_at.Goals.{After-self}

-- what the region's test says
region : (c : After-self) → RegionIs c.self.inside.bytes.now c.args.at
region c = region_is _ _ (rw c.self.view_is c.requires)

pub overflow_add-at : goal.overflow_add-at
overflow_add-at c = omega (arith, region (goal.at.overflow_add-at c).After-self)

pub word_at-address-requires : goal.word_at-address-requires
word_at-address-requires c = omega (arith, region (goal.at.word_at-address-requires c).After-self)

pub half_at-size-requires : goal.half_at-size-requires
half_at-size-requires c = omega (arith, region (goal.at.half_at-size-requires c).After-self)

pub overflow_sub-size : goal.overflow_sub-size
overflow_sub-size c = omega (arith, c.half_at-size.ensures.0, region (goal.at.overflow_sub-size c).After-self)

pub overflow_add-result : goal.overflow_add-result
overflow_add-result c = omega (arith, region (goal.at.overflow_add-result c).After-self)

pub returns : goal.returns
returns c = rw (← c.self.view_is, c.word_at-address.ensures, c.half_at-size.ensures.0) (rw c.self.view_is refl)

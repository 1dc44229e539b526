-- The patches of a build: two lists, the pendings' places in patch order, and their labels' places. Assumes nothing.
use Rattle.std.specs.Prelude.{ℕ, ◌≤◌, ◌≡◌, List, None}
use Rattle.labels.specs.Labels.{label_layout}
use Rattle.regions.specs.Regions.{region_layout, region_count}
use Rattle.pending.specs.Pendings.{pending_layout}
use Rattle.build_outcome.specs.Build.{order_from}
use Rattle.binary_builder.specs.Steps.{label_places}

-- the labels, and the pendings whose patches wait for them
pub record PatchLists : Type 0 where
  pub labels : List ℕ
  pub pending : List ℕ

-- a list of pendings, for at most 16 regions
pub record Listed (pending : List ℕ) : Type 0 where
  pub count : ℕ
  pub at_most : count ≤ 16
  pub kept : pending_layout count pending ≡ None

-- the pendings' places in patch order, for each number of regions that the list is good for, and the places of their labels
pub record PlacesAre (labels pending order found : List ℕ) : Type 0 where
  pub labels_good : label_layout labels ≡ None
  pub in_order : (count : ℕ) → count ≤ 16 → pending_layout count pending ≡ None → order ≡ order_from count pending 0
  pub found_are : found ≡ label_places labels pending order

-- a list of regions, and a list of pendings for them
pub record PatchedLists (regions pending : List ℕ) : Type 0 where
  pub regions_good : region_layout regions ≡ None
  pub pending_good : pending_layout (region_count regions) pending ≡ None

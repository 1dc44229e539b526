-- What a build knows of its four lists once their layouts have passed. Assumes nothing.
use Rattle.std.specs.Prelude.{ℕ, List, ◌≡◌, None}
use Rattle.labels.specs.Labels.{label_layout}
use Rattle.regions.specs.Regions.{region_layout, region_count}
use Rattle.address_label.specs.Entries.{entry_layout}
use Rattle.pending.specs.Pendings.{pending_layout}

-- each of the four lists keeps its layout
pub record Layouts (labels entry regions pending : List ℕ) : Type 0 where
  pub labels_good : label_layout labels ≡ None
  pub entry_good : entry_layout entry ≡ None
  pub regions_good : region_layout regions ≡ None
  pub pending_good : pending_layout (region_count regions) pending ≡ None

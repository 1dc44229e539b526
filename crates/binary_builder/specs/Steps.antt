-- What the steps of a build promise: the entry's answer, the pendings' places in patch order, and the places of their labels. Assumes nothing.
use Rattle.std.specs.Prelude.{ℕ, ◌≤◌, ◌<◌, ◌≡◌, List, map, length, take, get_or, Err, None, Ok, Option, Result, Some}
use Rattle.jobs.specs.declared.Job.{Job}
use Rattle.refusal.specs.Verdicts.{first_stop}
use Rattle.refusal.specs.declared.Refusal.TheVariants.{UnknownEntry}
use Rattle.labels.specs.Labels.{label_layout, Table}
use Rattle.regions.specs.Regions.{region_layout, region_count}
use Rattle.address_label.specs.declared.AddressLabel.{AddressLabel}
use Rattle.pending.specs.Pendings.{pending_layout, pending_at, PendingIs}
use Rattle.patch.specs.Patches.{destination, name_location}
use Rattle.patch.specs.Placed.{label_place}
use Rattle.build_outcome.specs.Build.{order_from, patch_order, patch_verdict}
use Rattle.refusal.specs.declared.Refusal.{Refusal}

-- the entry's part of the answer
abbrev pub reached_entry : AddressLabel → Option ℕ → Result ℕ Refusal
reached_entry label (Some address) = Ok address
reached_entry label None = Err (UnknownEntry (name_location label))

abbrev pub entry_answer : (labels : Table) (entry : List ℕ) → Option AddressLabel → Result ℕ Refusal
entry_answer labels entry None = Ok 0x00400000
entry_answer labels entry (Some label) = reached_entry label (destination labels entry label)

-- a list of pendings, for some number of regions
pub record PendingList (pending : List ℕ) : Type 0 where
  pub regions : ℕ
  pub kept : pending_layout regions pending ≡ None

-- the most pendings that a list can hold: 65,536 bytes have room for no more records of 36
abbrev pub most_pendings : ℕ
most_pendings = 1820

-- the first n numbers of `order` are the places ps
pub record Ordered (ps : List ℕ) (n : ℕ) (order : List ℕ) : Type 0 where
  pub count : n ≡ length ps
  pub places_are : take n order ≡ ps

-- the first n numbers of `order` are the patch order, for each number of regions that the pendings are good for
abbrev pub InPatchOrder : (pending : List ℕ) (n : ℕ) (order : List ℕ) → Type 0
InPatchOrder pending n order = (count : ℕ) → count ≤ 16 → pending_layout count pending ≡ None → Ordered (order_from count pending 0) n order

-- there is a pending at each of the places
abbrev pub EachPending : (pending ps : List ℕ) → Type 0
EachPending pending ps = (i : ℕ) → i < length ps → PendingIs pending (get_or ps i 0)

-- the place of each patch's label
unfoldable pub label_places : (labels pending ps : List ℕ) → List ℕ
unfolding label_place
label_places labels pending ps = map (λ (p : ℕ). label_place labels pending (pending_at pending p).label) ps

-- lists that keep their layouts, the pendings' places in patch order, and the places of their labels
pub record BuildLists (labels regions pending order found : List ℕ) : Type 0 where
  pub labels_good : label_layout labels ≡ None
  pub regions_good : region_layout regions ≡ None
  pub pending_good : pending_layout (region_count regions) pending ≡ None
  pub in_order : order ≡ patch_order regions pending
  pub few : length order ≤ most_pendings
  pub found_are : found ≡ label_places labels pending order

-- the patches at these places have passed their checks, in some job
pub record PatchesPass (labels : Table) (regions pending ps : List ℕ) : Type 0 where
  pub job : Job
  pub pass : first_stop (patch_verdict job labels regions pending) ps ≡ Ok tt

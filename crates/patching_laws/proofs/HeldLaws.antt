-- The script's state and the state of its accepted lines alone: what holds between the two once a step has passed its checks (document 02, P12).
-- Assumes nothing.
use Rattle.std.specs.Prelude.{ℕ, zero, suc, ◌+◌, ◌*◌, ◌/◌, ◌≤◌, ◌<◌, ◌≡◌, length, get_or, take, drop, None, Ok}
use mathlib.Core.List.Memᴰ
use mathlib.Core.List.{List, [], ◌∷◌, Memᴰ}
use Rattle.std.proofs.Common.{⊎_elim, sym, ap, ap₂, subst, ◌∙◌}
use Rattle.jobs.specs.declared.Job.{Job}
use Rattle.record.specs.Records.{places, limit}
use Rattle.record.proofs.OneMoreLaws.{good_each}
use Rattle.labels.specs.Labels.{Table}
use Rattle.regions.specs.declared.Region.{Region}
use Rattle.regions.specs.Regions.{region_layout, region_count, region_place, region_at}
use Rattle.pending.specs.Pendings.{pending_ok, pending_layout, pending_at}
use Rattle.pending.proofs.PendingsLaws.{pending_good, pending_region}
use Rattle.patch.specs.Patches.{region_for, slot_of, pending_verdict}
use Rattle.patch.proofs.PatchesLaws.{reached}
use Rattle.build_outcome.specs.Build.{order_from, patch_verdict, write_patches}
use Rattle.build_outcome.proofs.BuildLaws.{ordered_in}
use Rattle.build_outcome.proofs.KeptLaws.{InData, in_data, Kept, kept_first, region_same}
use Rattle.patching_outcome.specs.Patching.{Patching, regions_of, pendings_of, order_of, done_of}
use Rattle.patching_outcome.specs.Step.{put_back}
use Rattle.patching_laws.specs.Claims.{ImageIs}
use Rattle.patching_outcome.proofs.LayoutLaws.{Within}
use Rattle.patching_laws.proofs.UndoLaws.{Holds, Wrote, wrote, write_taken}

-- A place in patch order is a place of the list, so its pending's region is listed.
pub order_listed : (regions pending : List ℕ) → pending_layout (region_count regions) pending ≡ None → (at : ℕ) → Memᴰ at (order_from (region_count regions) pending 0)
    → Memᴰ at (places pending) × ((pending_at pending at).region < region_count regions)
order_listed regions pending g at m =
    let i = ordered_in regions pending at m in
    (i, pending_region (region_count regions) pending at (good_each (pending_ok (region_count regions) pending) (places pending) (pending_good (region_count regions) pending g).1 at i))

pub take_member : (n : ℕ) (ps : List ℕ) (p : ℕ) → Memᴰ p (take n ps) → Memᴰ p ps
take_member zero ps p m = elim m [ ]
take_member (suc n) [] p m = elim m [ ]
take_member (suc n) (q ∷ ps) p m = ⊎_elim (λ (e : p ≡ q). Memᴰ.head e) (λ t. Memᴰ.tail (take_member n ps p t)) (Memᴰ.cases_cons m)

module _ (job : Job) (labels : Table) (entry : List ℕ) where
  -- The accepted lines' patches that are already written.
  abbrev pub done_in : Patching → Patching → List ℕ
  done_in q b = take q.counts.patches (order_of b)

  pub record Held (q b : Patching) : Type 0 where
    pub none_patched : b.counts.patches ≡ 0
    pub base_runs : b.counts.state ≡ 0
    pub pending_is : q.pending ≡ b.pending
    pub breakpoints_are : q.breakpoints ≡ b.breakpoints
    pub regions_fill : q.counts.regions ≡ b.counts.regions
    pub pending_fill : q.counts.pending ≡ b.counts.pending
    pub breakpoints_fill : q.counts.breakpoints ≡ b.counts.breakpoints
    pub regions_within : Within b.counts.regions b.regions
    pub pending_within : Within b.counts.pending b.pending
    pub kept_within : (length q.kept ≤ limit) × (4 * (length b.pending / 36) ≤ length q.kept)
    pub good : region_layout (regions_of b) ≡ None
    pub pendings_good : pending_layout (region_count (regions_of b)) (pendings_of b) ≡ None
    pub count : q.counts.patches ≤ length (order_of b)
    pub passed : (at : ℕ) → Memᴰ at (done_in q b) → patch_verdict job labels (regions_of b) (pendings_of b) at ≡ Ok tt
    pub image : q.regions ≡ write_patches labels (regions_of b) (pendings_of b) (done_in q b) b.regions
    pub undo : put_back (regions_of b) (pendings_of b) q.kept 0 (done_in q b) q.regions ≡ b.regions

  module _ (q b : Patching) (h : Held q b) where
    abbrev base : List ℕ
    base = regions_of b

    abbrev waiting : List ℕ
    waiting = pendings_of b

    pub pendings_same : pendings_of q ≡ pendings_of b
    pendings_same = ap₂ (λ (n : ℕ) (s : List ℕ). take n s) h.pending_fill h.pending_is

    pub listed : (at : ℕ) → Memᴰ at (order_of b) → Memᴰ at (places (pendings_of b)) × ((pending_at (pendings_of b) at).region < region_count (regions_of b))
    listed at m = order_listed base waiting h.pendings_good at m

    pub fitting : (at : ℕ) → Memᴰ at (done_in q b) → (pending_at (pendings_of b) at).offset + 4 ≤ (region_for (regions_of b) (pending_at (pendings_of b) at)).size
    fitting at m = let p = pending_at waiting at in (reached job labels waiting (region_for base p) p (h.passed at m)).inside

    pub inside : (at : ℕ) → Memᴰ at (done_in q b) → InData (regions_of b) (pending_at (pendings_of b) at).region (slot_of (regions_of b) (pending_at (pendings_of b) at))
    inside at m = in_data base (pending_at waiting at).region (pending_at waiting at).offset h.good (listed at (take_member q.counts.patches (order_of b) at m)).1 (fitting at m)

    pub base_holds : Holds labels (regions_of b) (pendings_of b) b.counts.regions b.regions
    base_holds = record { filled = h.regions_within.1; heads = kept_first base h.good }

    pub wrote_all : Wrote labels (regions_of b) (pendings_of b) b.counts.regions b.regions q.regions
    wrote_all = subst (Wrote labels base waiting b.counts.regions b.regions) (sym h.image) (wrote labels base waiting b.counts.regions (done_in q b) b.regions inside base_holds)

    regions_taken : regions_of q ≡ take b.counts.regions q.regions
    regions_taken = ap (λ (n : ℕ). take n q.regions) h.regions_fill

    -- The image keeps the regions of the accepted lines' list.
    pub image_kept : Kept (regions_of b) (regions_of q)
    image_kept = subst (Kept base) (sym regions_taken) wrote_all.holds.heads

    pub count_same : region_count (regions_of q) ≡ region_count (regions_of b)
    count_same = ap length image_kept.places_same

    pub place_same : (n : ℕ) → region_place (regions_of q) n ≡ region_place (regions_of b) n
    place_same n = ap (λ (ps : List ℕ). get_or ps n 0) image_kept.places_same

    pub region_is : (n : ℕ) → n < region_count (regions_of b) → region_at (regions_of q) (region_place (regions_of q) n) ≡ region_at (regions_of b) (region_place (regions_of b) n)
    region_is n l = region_same base (regions_of q) image_kept n l

    pub order_same : order_of q ≡ order_of b
    order_same = ap₂ (λ (n : ℕ) (s : List ℕ). order_from n s 0) count_same pendings_same

    pub done_same : done_of q ≡ done_in q b
    done_same = ap (take q.counts.patches) order_same

    -- The checks 14 to 16 give both the same verdict.
    pub verdict_same : (at : ℕ) → Memᴰ at (order_of b) → patch_verdict job labels (regions_of q) (pendings_of q) at ≡ patch_verdict job labels (regions_of b) (pendings_of b) at
    verdict_same at m =
        ap (λ (s : List ℕ). patch_verdict job labels (regions_of q) s at) pendings_same
        ∙ ap (λ (g : Region). pending_verdict job labels waiting g (pending_at waiting at)) (region_is (pending_at waiting at).region (listed at m).1)

    -- the claim
    pub image_is : regions_of q ≡ write_patches labels (regions_of b) (pendings_of b) (done_of q) (regions_of b)
    image_is =
        regions_taken ∙ ap (take b.counts.regions) h.image
        ∙ write_taken labels base waiting b.counts.regions (done_in q b) b.regions inside base_holds
        ∙ ap (λ (ps : List ℕ). write_patches labels base waiting ps base) (sym done_same)

    pub held_image : ImageIs job labels entry q b
    held_image = record {
      image_is = image_is;
      order_is = order_same;
      behind = ap (λ (n : ℕ). drop n q.regions) h.regions_fill ∙ wrote_all.rest_same;
      pending_is = h.pending_is;
      breakpoints_are = h.breakpoints_are;
      fills_are = (h.regions_fill, h.pending_fill, h.breakpoints_fill);
    }

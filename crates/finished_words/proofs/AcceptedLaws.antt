-- The patches of an accepted build: each has a region, a destination and a place there. What each patch keeps true, all together keep true.
-- Assumes nothing.
use Rattle.std.specs.Prelude.{ℕ, ◌+◌, ◌^◌, ◌<◌, ◌≤◌, ◌⊎◌, Bool, true, false, ◌≡◌, refl, length, eqb, Ok, Some}
use Rattle.std.proofs.Common.{arith, inl, inr, ⊎_elim, sym, ap, ◌∙◌, eqb-true}
use mathlib.Core.List.Memᴰ
use mathlib.Core.List.{List, [], ◌∷◌, Memᴰ}
use Rattle.std.proofs.lemmas.Bool.{eqb-false}
use Rattle.jobs.specs.declared.Job.{Job}
use Rattle.record.specs.Records.{places}
use Rattle.record.proofs.OneMoreLaws.{good_each}
use Rattle.labels.specs.Labels.{Table}
use Rattle.regions.specs.Regions.{region_count, region_place, region_at}
use Rattle.pending.specs.Pendings.{pending_ok, pending_at}
use Rattle.pending.proofs.PendingsLaws.{pending_region, pending_good}
use Rattle.patch.specs.Patches.{destination, region_for, in_range, address_or, write_pending}
use Rattle.patch.proofs.PatchesLaws.{destination_lt, Reached, reached}
use Rattle.build_outcome.proofs.KeptLaws.{InData, in_data, data_apart, Kept, kept_first, kept_put}
use Rattle.build_outcome.specs.Build.{patch_order, patch_verdict, build_verdict, write_patches, patched_regions}
use Rattle.build_outcome.proofs.BuildLaws.{Accepted, accepted_is, each_pass, in_order, ordered_in}
use Rattle.finished_words.specs.Listed.{In, kind_of, pc_at, destination_at, slot_at, Apart}

-- the region list with the patch of the record at p written
abbrev pub written : (labels : Table) (regions pending : List ℕ) → ℕ → List ℕ → List ℕ
written labels regions pending p d = write_pending labels pending (region_for regions (pending_at pending p)) (pending_at pending p) d

-- Each patch of the list keeps P true.
abbrev Keeps : (labels : Table) (regions pending : List ℕ) → (List ℕ → Type 0) → Type 0
Keeps labels regions pending P = (q : ℕ) (d : List ℕ) → In pending q → Kept regions d → P d → P (written labels regions pending q d)

-- each of the places is one of the list's
abbrev Among : (pending ps : List ℕ) → Type 0
Among pending ps = (q : ℕ) → Memᴰ q ps → In pending q

module _ (job : Job) (labels : Table) (entry regions pending : List ℕ) (pass : build_verdict job labels entry regions pending ≡ Ok tt) where
  accepted : Accepted job labels entry regions pending
  accepted = accepted_is job labels entry regions pending pass

  -- each pending has a region and passed its checks
  pub has_region : (p : ℕ) → In pending p → (pending_at pending p).region < region_count regions
  has_region p m =
      pending_region (region_count regions) pending p
      (good_each (pending_ok (region_count regions) pending) (places pending) (pending_good (region_count regions) pending accepted.pending_good).1 p m)

  in_turn : (p : ℕ) → In pending p → Memᴰ p (patch_order regions pending)
  in_turn p m = in_order regions pending p (has_region p m) m

  pub reaches : (p : ℕ) → In pending p → Reached job labels pending (region_for regions (pending_at pending p)) (pending_at pending p)
  reaches p m =
      reached job labels pending (region_for regions (pending_at pending p)) (pending_at pending p)
      (each_pass (patch_verdict job labels regions pending) (patch_order regions pending) accepted.patches_pass p (in_turn p m))

  pub known : (p : ℕ) → In pending p → destination labels pending (pending_at pending p).label ≡ Some (destination_at labels pending p)
  known p m = let r = reaches p m in r.known ∙ ap Some (sym (ap (address_or 0) r.known))

  pub dest_lt : (p : ℕ) → In pending p → destination_at labels pending p < 2 ^ 32
  dest_lt p m = destination_lt labels pending (pending_at pending p).label (destination_at labels pending p) (known p m)

  pub in_range_lem : (p : ℕ) → In pending p → in_range job (kind_of pending p) (pc_at regions pending p) (destination_at labels pending p) ≡ true
  in_range_lem p m =
      let r = reaches p m in
      let e : destination_at labels pending p ≡ r.dest = ap (address_or 0) r.known in
      rw e r.range

  in_place : (p : ℕ) → In pending p → InData regions (pending_at pending p).region (slot_at regions pending p)
  in_place p m = in_data regions (pending_at pending p).region (pending_at pending p).offset accepted.regions_good (has_region p m) (reaches p m).inside

  -- Its word lies within every list of the same length.
  pub has_room : (p : ℕ) (d : List ℕ) → In pending p → Kept regions d → slot_at regions pending p + 4 ≤ length d
  has_room p d m k = omega (arith, (in_place p m).within, k.length_same)

  -- If a patch does not touch four bytes at an offset of a region, it does not touch them in the list.
  pub apart_in_list : (r o q : ℕ) → r < region_count regions → o + 4 ≤ (region_at regions (region_place regions r)).size → In pending q
      → ((pending_at pending q).region ≡ r → ((pending_at pending q).offset + 4 ≤ o) ⊎ (o + 4 ≤ (pending_at pending q).offset))
      → (slot_at regions pending q + 4 ≤ (region_at regions (region_place regions r)).start + o) ⊎ ((region_at regions (region_place regions r)).start + o + 4 ≤ slot_at regions pending q)
  apart_in_list r o q n h mq f = go (eqb (pending_at pending q).region r) refl
    where
      go : (b : Bool) → eqb (pending_at pending q).region r ≡ b
          → (slot_at regions pending q + 4 ≤ (region_at regions (region_place regions r)).start + o) ⊎ ((region_at regions (region_place regions r)).start + o + 4 ≤ slot_at regions pending q)
      go true e =
          let s : (pending_at pending q).region ≡ r = eqb-true (pending_at pending q).region r e in
          let t : region_place regions (pending_at pending q).region ≡ region_place regions r = ap (region_place regions) s in
          ⊎_elim (λ k. inl (omega (arith, t, k))) (λ k. inr (omega (arith, t, k))) (f s)
      go false e =
          data_apart regions (pending_at pending q).region r (slot_at regions pending q) ((region_at regions (region_place regions r)).start + o) (eqb-false (pending_at pending q).region r e)
          (in_place q mq) (in_data regions r o accepted.regions_good n h)

  -- two patches share no byte of the list
  pub slots_apart : Apart pending → (p q : ℕ) → In pending p → In pending q → (q ≡ p → ⊥)
      → (slot_at regions pending q + 4 ≤ slot_at regions pending p) ⊎ (slot_at regions pending p + 4 ≤ slot_at regions pending q)
  slots_apart apart p q mp mq n =
      apart_in_list (pending_at pending p).region (pending_at pending p).offset q (has_region p mp) (reaches p mp).inside mq (apart q p mq mp n)

  -- ---- patch after patch
  keeps : (p : ℕ) (d : List ℕ) → In pending p → Kept regions d → Kept regions (written labels regions pending p d)
  unfolding write_pending
  keeps p d m k = kept_put regions d k (pending_at pending p).region (slot_at regions pending p) _ (in_place p m)

  -- What each patch of the list keeps true, a run of patches keeps true.
  along : (P : List ℕ → Type 0) → Keeps labels regions pending P
      → (ps d : List ℕ) → Among pending ps → Kept regions d → P d → P (write_patches labels regions pending ps d)
  unfolding write_patches
  along P step [] d a k h = h
  along P step (q ∷ ps) d a k h =
      let m = a q (Memᴰ.head refl) in
      along P step ps (written labels regions pending q d) (λ x t. a x (Memᴰ.tail t)) (keeps q d m k) (step q d m k h)

  -- If the patch of p makes Q true and every patch keeps Q, then Q holds after a run that includes p.
  past : (P Q : List ℕ → Type 0) (p : ℕ)
      → Keeps labels regions pending P
      → ((d : List ℕ) → Kept regions d → P d → Q (written labels regions pending p d))
      → Keeps labels regions pending Q
      → (ps d : List ℕ) → Among pending ps → Memᴰ p ps → Kept regions d → P d → Q (write_patches labels regions pending ps d)
  unfolding write_patches
  past P Q p before turn later [] d a m k h = elim m [ ]
  past P Q p before turn later (q ∷ ps) d a m k h =
      go (Memᴰ.cases_cons m) (past P Q p before turn later ps (written labels regions pending q d) rest)
    where
      mq : In pending q
      mq = a q (Memᴰ.head refl)

      rest : Among pending ps
      rest x t = a x (Memᴰ.tail t)

      go : (p ≡ q) ⊎ Memᴰ p ps
          → (Memᴰ p ps → Kept regions (written labels regions pending q d) → P (written labels regions pending q d)
          → Q (write_patches labels regions pending ps (written labels regions pending q d)))
          → Q (write_patches labels regions pending ps (written labels regions pending q d))
      go (inl e) ih =
          let s : Q (written labels regions pending q d) = rw e at (turn d k h) in
          along Q later ps (written labels regions pending q d) rest (keeps q d mq k) s
      go (inr t) ih = ih t (keeps q d mq k) (before q d mq k h)

  order : Among pending (patch_order regions pending)
  order q t = ordered_in regions pending q t

  first : Kept regions regions
  first = kept_first regions accepted.regions_good

  -- What holds at entry and is kept by each patch, holds at exit.
  pub at_exit : (P : List ℕ → Type 0) → Keeps labels regions pending P
      → P regions → P (patched_regions labels regions pending)
  at_exit P step h = along P step (patch_order regions pending) regions order first h

  pub from_turn : (P Q : List ℕ → Type 0) (p : ℕ) → In pending p
      → Keeps labels regions pending P
      → ((d : List ℕ) → Kept regions d → P d → Q (written labels regions pending p d))
      → Keeps labels regions pending Q
      → P regions → Q (patched_regions labels regions pending)
  from_turn P Q p m before turn later h = past P Q p before turn later (patch_order regions pending) regions order (in_turn p m) first h

  pub finished_kept : Kept regions (patched_regions labels regions pending)
  finished_kept = at_exit (Kept regions) (λ q d m k h. keeps q d m k) first

-- Patches whose pendings read as before, in regions that stand as before. Growing may come before or after writing them, and before or after
-- putting them back. What passed 14 to 16 still passes. The kept words put back undo the writes (document 02, P12). Assumes nothing.
use Rattle.std.specs.Prelude.{ℕ, ◌+◌, ◌*◌, ◌^◌, ◌%◌, ◌≤◌, ◌≡◌, refl, length, drop, Ok, Option, Some}
use Rattle.std.proofs.Common.{arith, inl, inr, sym, subst, ◌∙◌, length-take, le-leb}
use mathlib.Core.List.{List, [], ◌∷◌, Memᴰ}
use Rattle.std.proofs.Math.Path.{ap, ap₂}
use Rattle.jobs.specs.declared.Job.{Job}
use Rattle.record.specs.Bytes.{le32, part}
use Rattle.record.specs.Stores.{le32_bytes, append}
use Rattle.labels.specs.Labels.{Table}
use Rattle.address_label.specs.LabelBytes.{name_bytes}
use Rattle.address_label.specs.declared.AddressLabel.{AddressLabel}
use Rattle.address_label.specs.declared.AddressLabel.TheVariants.{Constant, Label}
use Rattle.pending.specs.declared.Pending.{Pending}
use Rattle.pending.specs.Pendings.{pending_at}
use Rattle.patch.specs.Patches.{destination, plus_offset, region_for, slot_of, pc_of, patched_word, address_or, pending_verdict, write_pending, in_range}
use Rattle.patch.proofs.PatchesLaws.{reached, verdict_is, passes}
use Rattle.build_outcome.specs.Build.{patch_verdict, write_patches}
use Rattle.patching_outcome.specs.Step.{put_back}
use Rattle.patching_laws.proofs.WriteLaws.{Clear, Fits, grow, grow_word, put_fits, put_grow}

-- ---- the kept words, put back one by one

pub put_back_inside : (regions pending kept : List ℕ) (i at : ℕ) (ps d : List ℕ) → (pending_at pending at).offset + 4 ≤ (region_for regions (pending_at pending at)).size
    → put_back regions pending kept i (at ∷ ps) d ≡ append (put_back regions pending kept (i + 1) ps d) (slot_of regions (pending_at pending at)) (part kept (4 * i) 4)
unfolding put_back
put_back_inside regions pending kept i at ps d h =
    let x = pending_at pending at in
    rw (le-leb (x.offset + 4) (region_for regions x).size h, put_back)

-- A destination depends on its record only by the name.
destination_name : (labels : Table) (s t : List ℕ) (l : AddressLabel) → name_bytes t l ≡ name_bytes s l → destination labels t l ≡ destination labels s l
unfolding destination
destination_name labels s t (Constant value) e = refl
destination_name labels s t (Label name) e = ap (λ (x : List ℕ). plus_offset (labels.address name.location.source x) name.offset) e

-- A patch writes its word; its place and pc come from the region's start and address.
abbrev word_at : (start address : ℕ) → Pending → Option ℕ → List ℕ → List ℕ
word_at start address p to d = append d (start + p.offset) (le32_bytes (patched_word p.kind ((address + p.offset) % 2 ^ 32) (address_or 0 to) (le32 d (start + p.offset))))

module _ (labels : Table) (old new pold pnew : List ℕ) (f from b : ℕ) (ws : List ℕ) (inner : from + 4 + b ≤ f) where
  -- The pending at `at` reads as before; its region stands as before and is no shorter; its patch lies inside it, clear of what grows.
  pub record Steady (at : ℕ) : Type 0 where
    pub reads : pending_at pnew at ≡ pending_at pold at
    pub name_same : name_bytes pnew (pending_at pnew at).label ≡ name_bytes pold (pending_at pold at).label
    pub start_same : (region_for new (pending_at pold at)).start ≡ (region_for old (pending_at pold at)).start
    pub address_same : (region_for new (pending_at pold at)).address ≡ (region_for old (pending_at pold at)).address
    pub size_most : (region_for old (pending_at pold at)).size ≤ (region_for new (pending_at pold at)).size
    pub inside : (pending_at pold at).offset + 4 ≤ (region_for old (pending_at pold at)).size
    pub clear : Clear f from b ws inner (slot_of old (pending_at pold at)) 4

  module _ (at : ℕ) (s : Steady at) where
    same_destination : destination labels pnew (pending_at pold at).label ≡ destination labels pold (pending_at pold at).label
    same_destination =
        destination_name labels pold pnew (pending_at pold at).label (ap (λ (p : Pending). name_bytes pnew p.label) (sym s.reads) ∙ s.name_same)

    -- What passed still passes.
    pub verdict_stays : (job : Job) → patch_verdict job labels old pold at ≡ Ok tt → patch_verdict job labels new pnew at ≡ Ok tt
    verdict_stays job e =
        let p = pending_at pold at in
        let r = reached job labels pold (region_for old p) p e in
        let pc : pc_of (region_for new p) p ≡ pc_of (region_for old p) p = ap (λ (n : ℕ). (n + p.offset) % 2 ^ 32) s.address_same in
        ap (λ (x : Pending). pending_verdict job labels pnew (region_for new x) x) s.reads
        ∙ verdict_is job labels pnew (region_for new p) p (Some r.dest) (same_destination ∙ r.known)
        ∙ passes job (region_for new p) p r.dest (omega (arith, s.size_most, r.inside)) (ap (λ (n : ℕ). in_range job p.kind n r.dest) pc ∙ r.range)

    same_write : (d : List ℕ) → write_pending labels pnew (region_for new (pending_at pnew at)) (pending_at pnew at) d ≡ write_pending labels pold (region_for old (pending_at pold at)) (pending_at pold at) d
    unfolding write_pending
    same_write d =
        let p = pending_at pold at in
        ap (λ (x : Pending). write_pending labels pnew (region_for new x) x d) s.reads
        ∙ ap₂ (λ (start address : ℕ). word_at start address p (destination labels pnew p.label) d) s.start_same s.address_same
        ∙ ap (λ (to : Option ℕ). word_at (region_for old p).start (region_for old p).address p to d) same_destination

    -- Writing and growing may change places.
    one_grown : (d : List ℕ) → Fits f from b ws inner d
        → (write_pending labels pold (region_for old (pending_at pold at)) (pending_at pold at) (grow f from b ws inner d) ≡ grow f from b ws inner (write_pending labels pold (region_for old (pending_at pold at)) (pending_at pold at) d))
        × Fits f from b ws inner (write_pending labels pold (region_for old (pending_at pold at)) (pending_at pold at) d)
    unfolding write_pending
    one_grown d fits =
        let p = pending_at pold at in
        let g = region_for old p in
        let i = g.start + p.offset in
        let e = grow_word f from b ws inner d fits i s.clear in (
          ap (λ (n : ℕ). append (grow f from b ws inner d) i (le32_bytes (patched_word p.kind (pc_of g p) (address_or 0 (destination labels pold p.label)) n))) e
              ∙ put_grow f from b ws inner d fits i (le32_bytes (patched_word p.kind (pc_of g p) (address_or 0 (destination labels pold p.label)) (le32 d i))) s.clear,
          put_fits f from b ws inner d fits i (le32_bytes (patched_word p.kind (pc_of g p) (address_or 0 (destination labels pold p.label)) (le32 d i))) s.clear,
        )

  pub write_grown : (ps : List ℕ) (d : List ℕ) → ((at : ℕ) → Memᴰ at ps → Steady at) → Fits f from b ws inner d
      → (write_patches labels new pnew ps (grow f from b ws inner d) ≡ grow f from b ws inner (write_patches labels old pold ps d)) × Fits f from b ws inner (write_patches labels old pold ps d)
  unfolding write_patches
  write_grown [] d s fits = (refl, fits)
  write_grown (p ∷ ps) d s fits =
      let h = s p (Memᴰ.head refl) in
      let one = one_grown p h d fits in
      let later = write_grown ps (write_pending labels pold (region_for old (pending_at pold p)) (pending_at pold p) d) (λ at m. s at (Memᴰ.tail m)) one.1 in
      (ap (write_patches labels new pnew ps) (same_write p h (grow f from b ws inner d) ∙ one.0) ∙ later.0, later.1)

  shorter : (i n : ℕ) → n ≤ 4 → Clear f from b ws inner i 4 → Clear f from b ws inner i n
  shorter i n h (inl c) = inl (c.0, omega (arith, c.1))
  shorter i n h (inr c) = inr (omega arith)

  -- Putting back and growing may change places.
  pub put_back_grown : (kept : List ℕ) (i : ℕ) (ps : List ℕ) (d : List ℕ) → ((at : ℕ) → Memᴰ at ps → Steady at) → Fits f from b ws inner d
      → (put_back new pnew kept i ps (grow f from b ws inner d) ≡ grow f from b ws inner (put_back old pold kept i ps d)) × Fits f from b ws inner (put_back old pold kept i ps d)
  unfolding put_back
  put_back_grown kept i [] d s fits = (refl, fits)
  put_back_grown kept i (at ∷ ps) d s fits = go (put_back_grown kept (i + 1) ps d (λ q m. s q (Memᴰ.tail m)) fits)
    where
      h : Steady at
      h = s at (Memᴰ.head refl)

      most : length (part kept (4 * i) 4) ≤ 4
      most = omega (arith, length-take 4 (drop (4 * i) kept))

      c : Clear f from b ws inner (slot_of old (pending_at pold at)) (length (part kept (4 * i) 4))
      c = shorter (slot_of old (pending_at pold at)) (length (part kept (4 * i) 4)) most h.clear

      go : (put_back new pnew kept (i + 1) ps (grow f from b ws inner d) ≡ grow f from b ws inner (put_back old pold kept (i + 1) ps d)) × Fits f from b ws inner (put_back old pold kept (i + 1) ps d)
          → (put_back new pnew kept i (at ∷ ps) (grow f from b ws inner d) ≡ grow f from b ws inner (put_back old pold kept i (at ∷ ps) d)) × Fits f from b ws inner (put_back old pold kept i (at ∷ ps) d)
      go (e, fit) =
          let x = pending_at pold at in
          let here = put_back_inside old pold kept i at ps d h.inside in
          let most_new : (pending_at pnew at).offset + 4 ≤ (region_for new (pending_at pnew at)).size = subst (λ (y : Pending). y.offset + 4 ≤ (region_for new y).size) (sym h.reads) (omega (arith, h.inside, h.size_most)) in
          let there = put_back_inside new pnew kept i at ps (grow f from b ws inner d) most_new in
          let slot : slot_of new (pending_at pnew at) ≡ slot_of old x = ap (slot_of new) h.reads ∙ ap (λ (n : ℕ). n + x.offset) h.start_same in (
            there ∙ ap₂ (λ (y : List ℕ) (n : ℕ). append y n (part kept (4 * i) 4)) e slot
                ∙ put_grow f from b ws inner (put_back old pold kept (i + 1) ps d) fit (slot_of old x) (part kept (4 * i) 4) c
                ∙ ap (grow f from b ws inner) (sym here),
            subst (Fits f from b ws inner) (sym here) (put_fits f from b ws inner (put_back old pold kept (i + 1) ps d) fit (slot_of old x) (part kept (4 * i) 4) c),
          )

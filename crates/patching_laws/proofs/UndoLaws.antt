-- Patches written one after the other into a buffer that begins with the region list, and their kept words put back (document 02, P12).
-- Assumes nothing.
use Rattle.std.specs.Prelude.{ℕ, ◌+◌, ◌-◌, ◌*◌, ◌≤◌, ◌<◌, true, false, ◌≡◌, drop, leb}
use native.Mathlib.Omega.{arith}
use mathlib.Core.List.{List, [], ◌∷◌, ◌++◌, Memᴰ}
use Rattle.std.proofs.Common.{inr, subst, ◌∙◌, get_or-take, get_or-drop, ext_get_or}
use Rattle.std.proofs.Math.Path.{refl, sym, ap, ap₂}
use Rattle.std.proofs.Math.ListN.{length, take, length-drop}
use Rattle.std.proofs.Math.Seq.{length-take-le}
use Rattle.record.specs.Bytes.{le32, part}
use Rattle.record.specs.Stores.{le32_bytes, append}
use Rattle.record_growth.proofs.PutLaws.{put_length, put_out, take_put, put_back_same, part_in, part_out}
use Rattle.labels.specs.Labels.{Table}
use Rattle.regions.specs.declared.Region.{Region}
use Rattle.pending.specs.Pendings.{pending_at}
use Rattle.patch.specs.Patches.{destination, region_for, slot_of, pc_of, patched_word, address_or, write_pending}
use Rattle.build_outcome.specs.Build.{write_patches}
use Rattle.build_outcome.proofs.KeptLaws.{InData, Kept, kept_put}
use Rattle.patching_outcome.specs.Step.{put_back}
use Rattle.patching_laws.proofs.PatchedLaws.{put_back_inside}

-- ---- bytes

-- a write within the first f bytes leaves the rest
drop_put : (d : List ℕ) (f i : ℕ) (a : List ℕ) → i + length a ≤ f → f ≤ length d → drop f (append d i a) ≡ drop f d
drop_put d f i a h room =
    let l : length (append d i a) ≡ length d = put_length d i a (omega arith) in
    ext_get_or 0 (drop f (append d i a)) (drop f d) (length-drop f (append d i a) ∙ ap (λ (n : ℕ). n - f) l ∙ sym (length-drop f d))
    (λ x m. get_or-drop f (append d i a) x 0 ∙ put_out d i a (omega arith) (f + x) (inr (omega arith)) ∙ sym (get_or-drop f d x 0))

word_taken : (d : List ℕ) (f i : ℕ) → i + 4 ≤ f → le32 (take f d) i ≡ le32 d i
word_taken d f i h =
    omega (arith, get_or-take f d i 0 (omega arith), get_or-take f d (i + 1) 0 (omega arith), get_or-take f d (i + 2) 0 (omega arith), get_or-take f d (i + 3) 0 (omega arith))

module _ (labels : Table) (regions pending : List ℕ) where
  -- Writes the pending at a place.
  abbrev pub write_at : ℕ → List ℕ → List ℕ
  write_at at d = write_pending labels pending (region_for regions (pending_at pending at)) (pending_at pending at) d

  abbrev pub slot_at : ℕ → ℕ
  slot_at at = slot_of regions (pending_at pending at)

  abbrev pub Inside : ℕ → Type 0
  Inside at = InData regions (pending_at pending at).region (slot_of regions (pending_at pending at))

  pub write_append : (ps qs d : List ℕ) → write_patches labels regions pending (ps ++ qs) d ≡ write_patches labels regions pending qs (write_patches labels regions pending ps d)
  unfolding write_patches
  write_append [] qs d = refl
  write_append (p ∷ ps) qs d = write_append ps qs (write_at p d)

  pub write_one : (at : ℕ) (d : List ℕ) → write_patches labels regions pending (at ∷ []) d ≡ write_at at d
  unfolding write_patches
  write_one at d = refl

  -- what a patch writes: four bytes at its slot
  abbrev word_of : ℕ → ℕ → ℕ
  word_of at old = patched_word (pending_at pending at).kind (pc_of (region_for regions (pending_at pending at)) (pending_at pending at)) (address_or 0 (destination labels pending (pending_at pending at).label)) old

  pub write_is : (at : ℕ) (d : List ℕ) → write_at at d ≡ append d (slot_at at) (le32_bytes (word_of at (le32 d (slot_at at))))
  unfolding write_pending
  write_is at d = refl

  -- A buffer whose first f bytes keep the regions' heads.
  pub record Holds (f : ℕ) (d : List ℕ) : Type 0 where
    pub filled : f ≤ length d
    pub heads : Kept regions (take f d)

  -- What a write keeps: the bytes behind f, the length, and the heads.
  pub record Wrote (f : ℕ) (d e : List ℕ) : Type 0 where
    pub length_same : length e ≡ length d
    pub rest_same : drop f e ≡ drop f d
    pub holds : Holds f e

  wrote_one : (f at : ℕ) (d : List ℕ) → Inside at → Holds f d → Wrote f d (write_at at d)
  wrote_one f at d i h =
      let w = le32_bytes (word_of at (le32 d (slot_at at))) in
      let l : length (take f d) ≡ length regions = h.heads.length_same in
      let m : slot_at at + 4 ≤ f = omega (arith, i.within, l, length-take-le f d h.filled) in
      let t : take f (write_at at d) ≡ append (take f d) (slot_at at) w = ap (take f) (write_is at d) ∙ take_put d f (slot_at at) w m h.filled in
      let n : length (write_at at d) ≡ length d = ap length (write_is at d) ∙ put_length d (slot_at at) w (omega (arith, h.filled)) in
      record {
        length_same = n;
        rest_same = ap (drop f) (write_is at d) ∙ drop_put d f (slot_at at) w m h.filled;
        holds = record {
          filled = omega (arith, h.filled);
          heads = subst (Kept regions) (sym t) (kept_put regions (take f d) h.heads (pending_at pending at).region (slot_at at) (word_of at (le32 d (slot_at at))) i);
        };
      }

  pub wrote : (f : ℕ) (ps : List ℕ) (d : List ℕ) → ((at : ℕ) → Memᴰ at ps → Inside at) → Holds f d → Wrote f d (write_patches labels regions pending ps d)
  unfolding write_patches
  wrote f [] d i h = record { length_same = refl; rest_same = refl; holds = h }
  wrote f (p ∷ ps) d i h =
      let one = wrote_one f p d (i p (Memᴰ.head refl)) h in
      let later = wrote f ps (write_at p d) (λ at m. i at (Memᴰ.tail m)) one.holds in
      record { length_same = later.length_same ∙ one.length_same; rest_same = later.rest_same ∙ one.rest_same; holds = later.holds }

  -- The first f bytes are then the same bytes with the patches written into them.
  pub write_taken : (f : ℕ) (ps : List ℕ) (d : List ℕ) → ((at : ℕ) → Memᴰ at ps → Inside at) → Holds f d
      → take f (write_patches labels regions pending ps d) ≡ write_patches labels regions pending ps (take f d)
  unfolding write_patches
  write_taken f [] d i h = refl
  write_taken f (p ∷ ps) d i h =
      let x = i p (Memᴰ.head refl) in
      let one = wrote_one f p d x h in
      let l : length (take f d) ≡ length regions = h.heads.length_same in
      let m : slot_at p + 4 ≤ f = omega (arith, x.within, l, length-take-le f d h.filled) in
      let e : take f (write_at p d) ≡ write_at p (take f d) =
      ap (take f) (write_is p d) ∙ take_put d f (slot_at p) (le32_bytes (word_of p (le32 d (slot_at p)))) m h.filled
      ∙ ap (λ (n : ℕ). append (take f d) (slot_at p) (le32_bytes (word_of p n))) (sym (word_taken d f (slot_at p) m))
      ∙ sym (write_is p (take f d)) in
      write_taken f ps (write_at p d) (λ at n. i at (Memᴰ.tail n)) one.holds ∙ ap (write_patches labels regions pending ps) e

  -- ---- putting back

  abbrev back : List ℕ → ℕ → List ℕ → List ℕ → List ℕ
  back kept i ps d = put_back regions pending kept i ps d

  -- each patch inside its region's data
  abbrev pub Fitting : ℕ → Type 0
  Fitting at = (pending_at pending at).offset + 4 ≤ (region_for regions (pending_at pending at)).size

  back_append : (kept : List ℕ) (i : ℕ) (ps qs d : List ℕ) → ((at : ℕ) → Memᴰ at ps → Fitting at) → back kept i (ps ++ qs) d ≡ back kept i ps (back kept (i + length ps) qs d)
  unfolding put_back
  back_append kept i [] qs d h = let z : i ≡ i + 0 = omega arith in ap (λ (n : ℕ). back kept n qs d) z
  back_append kept i (p ∷ ps) qs d h =
      let x = h p (Memᴰ.head refl) in
      let z : i + 1 + length ps ≡ i + length (p ∷ ps) = omega arith in
      put_back_inside regions pending kept i p (ps ++ qs) d x
      ∙ ap (λ (y : List ℕ). append y (slot_at p) (part kept (4 * i) 4)) (back_append kept (i + 1) ps qs d (λ at m. h at (Memᴰ.tail m)) ∙ ap (λ (n : ℕ). back kept (i + 1) ps (back kept n qs d)) z)
      ∙ sym (put_back_inside regions pending kept i p ps (back kept (i + length (p ∷ ps)) qs d) x)

  -- Two buffers that agree on these kept words put back the same.
  back_kept : (kept other : List ℕ) (i : ℕ) (ps d : List ℕ) → ((at : ℕ) → Memᴰ at ps → Fitting at) → ((j : ℕ) → j < i + length ps → part other (4 * j) 4 ≡ part kept (4 * j) 4)
      → back other i ps d ≡ back kept i ps d
  unfolding put_back
  back_kept kept other i [] d h e = refl
  back_kept kept other i (p ∷ ps) d h e =
      let x = h p (Memᴰ.head refl) in
      put_back_inside regions pending other i p ps d x
      ∙ ap₂ (λ (y w : List ℕ). append y (slot_at p) w) (back_kept kept other (i + 1) ps d (λ at m. h at (Memᴰ.tail m)) (λ j l. e j (omega arith))) (e i (omega arith))
      ∙ sym (put_back_inside regions pending kept i p ps d x)

  -- One more patch, whose bytes are kept: putting back undoes it too.
  pub undo_one : (kept : List ℕ) (ps : List ℕ) (at : ℕ) (d whole : List ℕ) → ((q : ℕ) → Memᴰ q ps → Fitting q) → Fitting at → slot_at at + 4 ≤ length d
      → 4 * length ps + 4 ≤ length kept → put_back regions pending kept 0 ps d ≡ whole
      → put_back regions pending (append kept (4 * length ps) (part d (slot_at at) 4)) 0 (ps ++ at ∷ []) (write_at at d) ≡ whole
  unfolding put_back
  undo_one kept ps at d whole h x room space e =
      let n = length ps in
      let bytes = part d (slot_at at) 4 in
      let lb : length bytes ≡ 4 = length-take-le 4 (drop (slot_at at) d) (omega (arith, length-drop (slot_at at) d)) in
      let more = append kept (4 * n) bytes in
      let z : 0 + n ≡ n = omega arith in
      let w = le32_bytes (word_of at (le32 d (slot_at at))) in
      let read : part more (4 * (0 + n)) 4 ≡ bytes =
      ap (λ (m : ℕ). part more (4 * m) 4) z ∙ ap (part more (4 * n)) (sym lb) ∙ part_in kept (4 * n) bytes (omega (arith, lb)) in
      let last : back more (0 + n) (at ∷ []) (write_at at d) ≡ d =
      put_back_inside regions pending more (0 + n) at [] (write_at at d) x
      ∙ ap₂ (λ (y v : List ℕ). append y (slot_at at) v) (write_is at d) read
      ∙ put_back_same d (slot_at at) w 4 room refl in
      back_append more 0 ps (at ∷ []) (write_at at d) h
      ∙ ap (back more 0 ps) last
      ∙ back_kept kept more 0 ps d h (λ j l. part_out kept (4 * n) bytes (4 * j) 4 (omega (arith, lb)) (omega arith) (inr (omega arith)))
      ∙ e

-- Region lists that agree on the pendings' regions put back the same.
pub back_regions : (regions other pending kept : List ℕ) (i : ℕ) (ps d : List ℕ) → ((at : ℕ) → Memᴰ at ps → region_for other (pending_at pending at) ≡ region_for regions (pending_at pending at))
    → put_back other pending kept i ps d ≡ put_back regions pending kept i ps d
unfolding put_back
back_regions regions other pending kept i [] d h = refl
back_regions regions other pending kept i (p ∷ ps) d h =
    let x = pending_at pending p in
    ap₂ (λ (g : Region) (y : List ℕ). elim (leb (x.offset + 4) g.size) [ true ↦ append y (g.start + x.offset) (part kept (4 * i) 4) | false ↦ y ])
    (h p (Memᴰ.head refl)) (back_regions regions other pending kept (i + 1) ps d (λ at m. h at (Memᴰ.tail m)))

-- Patches put back one by one, the last first: what is left to do; the regions stay where they were. Assumes nothing.
use Rattle.std.specs.Prelude.{ℕ, ◌+◌, ◌*◌, ◌≤◌, ◌<◌, List, [], ◌∷◌, ◌++◌, Bool, true, false, ◌⊎◌, ◌≡◌, refl, length, get_or, take, drop, leb, ltb, None, min}
use Rattle.std.specs.List.{push}
use Rattle.std.proofs.Common.{arith, add-one, inl, inr, sym, ap, ap₂, subst, ◌∙◌, length-append, length-drop, length-take, length-take-le, take-suc, take_at, drop_at, get_or-take, leb-true, le-leb, ltb-true, ltb-false}
use Rattle.std.proofs.lemmas.List.{length_push, get_or_push, take-take, drop-take}
use Rattle.std.proofs.lemmas.Bool.{lt-leb}
use Rattle.record.specs.Bytes.{byte_at, part}
use Rattle.record.specs.Records.{body_len, next}
use Rattle.record.specs.Stores.{append}
use Rattle.record_growth.proofs.PutLaws.{put_length, put_out, take_put}
use Rattle.regions.specs.declared.Region.{Region}
use Rattle.regions.specs.Regions.{region_layout, region_count, region_place, region_at}
use Rattle.regions.proofs.RegionsLaws.{region_is, region_place_ok, region_within, places_apart, places_kept}
use Rattle.pending.specs.Pendings.{pending_at}
use Rattle.pending.specs.declared.Pending.{Pending}
use Rattle.patch.specs.Patches.{region_for, slot_of}
use Rattle.build_outcome.proofs.KeptLaws.{InData, in_data, Kept, kept_first, region_same}
use Rattle.patching_outcome.specs.Step.{put_back}
use Rattle.patching_step.specs.Undo.{back_at, PatchAt, FilledRegions, PatchesAt}

-- ---- one patch, whose record and region were read
module _ (regions pending bytes : List ℕ) (at : ℕ) (d : List ℕ) (p : Pending) (g : Region) (read : p ≡ pending_at pending at) (numbered : g ≡ region_at regions (region_place regions p.region)) where
  region_for_lem : g ≡ region_for regions (pending_at pending at)
  region_for_lem = numbered ∙ ap (λ (q : Pending). region_for regions q) read

  end_is : leb ((pending_at pending at).offset + 4) (region_for regions (pending_at pending at)).size ≡ leb (p.offset + 4) g.size
  end_is = sym (ap₂ (λ (q : Pending) (h : Region). leb (q.offset + 4) h.size) read region_for_lem)

  pub back_past : g.size < p.offset + 4 → d ≡ back_at regions pending bytes at d
  back_past h = rw (end_is ∙ lt-leb (p.offset + 4) g.size h, back_at)

  pub back_in : (e : List ℕ) → p.offset + 4 ≤ g.size → e ≡ append d (g.start + p.offset) bytes → e ≡ back_at regions pending bytes at d
  back_in e h w = rw (end_is ∙ le-leb (p.offset + 4) g.size h, back_at) (w ∙ ap₂ (λ (q : Pending) (x : Region). append d (x.start + q.offset) bytes) read region_for_lem)

  pub back_room : PatchAt regions pending at → region_layout regions ≡ None → p.offset + 4 ≤ g.size → g.start + p.offset + 4 ≤ length regions
  back_room a good h =
      let w = region_within regions p.region good (rw read a.region_is) in
      omega (arith, w, ap (λ (x : Region). x.start) numbered, ap (λ (x : Region). x.size) numbered)

-- ---- the last of several

pub back_last : (regions pending kept : List ℕ) (i : ℕ) (ps : List ℕ) (at : ℕ) (d : List ℕ)
    → put_back regions pending kept i (ps ++ at ∷ []) d ≡ put_back regions pending kept i ps (back_at regions pending (part kept (4 * (i + length ps)) 4) at d)
unfolding put_back
back_last regions pending kept i [] at d =
    let z : i ≡ i + 0 = omega arith in
    ap (λ (n : ℕ). back_at regions pending (part kept (4 * n) 4) at d) z
back_last regions pending kept i (p ∷ ps) at d =
    let z : i + 1 + length ps ≡ i + length (p ∷ ps) = omega arith in
    ap (back_at regions pending (part kept (4 * i) 4) p)
    (back_last regions pending kept (i + 1) ps at d ∙ ap (λ (n : ℕ). put_back regions pending kept (i + 1) ps (back_at regions pending (part kept (4 * n) 4) at d)) z)

pub back_none : (regions pending kept : List ℕ) (i : ℕ) (ps d : List ℕ) → ps ≡ [] → put_back regions pending kept i ps d ≡ d
unfolding put_back
back_none regions pending kept i ps d e = ap (λ (l : List ℕ). put_back regions pending kept i l d) e

-- ---- four bytes stored in a region's data move no region
module _ (regions d : List ℕ) (k : Kept regions d) (r i : ℕ) (bs : List ℕ) (four : length bs ≡ 4) (a : InData regions r i) where
  room : i + length bs ≤ length d
  room = omega (arith, a.within, k.length_same)

  body_same : body_len d (region_place regions r) ≡ body_len regions (region_place regions r)
  body_same =
      let p = region_place regions r in
      omega (arith, k.heads r a.number p (omega arith) (omega arith), k.heads r a.number (p + 1) (omega arith) (omega arith))

  stays : (j : ℕ) → (j < i) ⊎ (i + 4 ≤ j) → byte_at (append d i bs) j ≡ byte_at d j
  stays j (inl h) = put_out d i bs room j (inl h)
  stays j (inr h) = put_out d i bs room j (inr (omega arith))

  -- A region's head stands before its own data and later regions' data, and behind earlier regions' data.
  outside : (q : ℕ) → q < region_count regions → (j : ℕ) → region_place regions q ≤ j → j < region_place regions q + 8 → (j < i) ⊎ (i + 4 ≤ j)
  outside q h j x y = go (ltb q r) refl (ltb r q) refl
    where
      go : (b : Bool) → ltb q r ≡ b → (c : Bool) → ltb r q ≡ c → (j < i) ⊎ (i + 4 ≤ j)
      go true e c f =
          let g = region_is regions (region_place regions q) (region_place_ok regions q k.regions_good h) in
          inl (omega (arith, places_apart regions q r (ltb-true q r e) a.number, a.from))
      go false e true f = inr (omega (arith, places_apart regions r q (ltb-true r q f) h, a.to))
      go false e false f =
          let u = ltb-false q r e in
          let v = ltb-false r q f in
          let s : q ≡ r = omega arith in
          inl (omega (arith, ap (region_place regions) s, a.from))

  pub kept_bytes : Kept regions (append d i bs)
  kept_bytes =
      let s = k.places_same in
      let n : r < region_count d = rw s a.number in
      let f : region_place d r + 8 ≤ i = rw s a.from in
      let b = body_same in
      let t : i + 4 ≤ next d (region_place d r) = rw s (omega (arith, a.to)) in
      let l = put_length d i bs room in
      let e = places_kept d (append d i bs) r i (sym l) k.layout_good n f t (λ j x. sym (stays j x)) in
      record {
        regions_good = k.regions_good;
        length_same = l ∙ k.length_same;
        places_same = e.0 ∙ s;
        layout_good = e.1;
        heads = λ q h j x y. stays j (outside q h j x y) ∙ k.heads q h j x y;
      }

-- ---- the last of the places and of the kept bytes that are left, and what is left without them
pub record LastOf (order kept before places words : List ℕ) (at : ℕ) (bytes : List ℕ) : Type 0 where
  pub some : length before ≡ length places + 1
  pub place_is : at ≡ get_or order (length places) 0
  pub four : length bytes ≡ 4
  pub bytes_are : bytes ≡ part kept (4 * length places) 4
  pub places_left : places ≡ take (length places) order
  pub words_left : words ≡ take (4 * length places) kept

pub last_of : (order kept before words_before places words : List ℕ) (at : ℕ) (bytes : List ℕ) → 4 * length order ≤ length kept
    → before ≡ take (length before) order → words_before ≡ take (4 * length before) kept → before ≡ push places at → words_before ≡ words ++ bytes → length bytes ≡ min 4 (length words_before)
    → LastOf order kept before places words at bytes
last_of order kept before words_before places words at bytes room e f p q b =
    let n : length before ≡ length places + 1 = ap length p ∙ length_push places at in
    let w : length before ≤ length order = omega (arith, ap length e, length-take (length before) order) in
    let l : length words_before ≡ 4 * length before = ap length f ∙ length-take-le (4 * length before) kept (omega arith) in
    let four : length bytes ≡ 4 = omega arith in
    let m : length words ≡ 4 * length places = omega (arith, ap length q, length-append words bytes) in
    let z : 4 * length before ≡ length words + 4 = omega arith in
    let v : get_or before (length places) 0 ≡ at = ap (λ (x : List ℕ). get_or x (length places) 0) p ∙ get_or_push places at 0 (length places) refl in
    record {
      some = n;
      place_is = sym v ∙ ap (λ (x : List ℕ). get_or x (length places) 0) e ∙ get_or-take (length before) order (length places) 0 (omega arith);
      four = four;
      bytes_are = sym (drop_at words bytes (length words) refl) ∙ ap (drop (length words)) (sym q ∙ f) ∙ ap (λ (k : ℕ). drop (length words) (take k kept)) z ∙ drop-take (length words) 4 kept
          ∙ ap (λ (k : ℕ). take 4 (drop k kept)) m;
      places_left = sym (take_at places (at ∷ []) (length places) refl) ∙ ap (take (length places)) (sym p ∙ e) ∙ take-take (length places) (length before) order (omega arith);
      words_left = sym (take_at words bytes (length words) refl) ∙ ap (take (length words)) (sym q ∙ f) ∙ take-take (length words) (4 * length before) kept (omega arith) ∙ ap (λ (k : ℕ). take k kept) m;
    }

-- ---- a turn, in a buffer whose first bytes are the region list

pub record Undoing (regions pending kept order whole : List ℕ) (fill left : ℕ) (d : List ℕ) : Type 0 where
  pub left_few : left ≤ length order
  pub from_here : whole ≡ put_back regions pending kept 0 (take left order) d
  pub filled : fill ≤ length d
  pub heads : Kept regions (take fill d)

pub undo_start : (pending kept order buffer : List ℕ) (fill : ℕ) → FilledRegions fill buffer
    → Undoing (take fill buffer) pending kept order (put_back (take fill buffer) pending kept 0 order buffer) fill (length order) buffer
undo_start pending kept order buffer fill f =
    record {
      left_few = omega arith;
      from_here = ap (λ (l : List ℕ). put_back (take fill buffer) pending kept 0 l buffer) (sym (all order));
      filled = f.within;
      heads = kept_first (take fill buffer) f.good;
    }
  where
    all : (l : List ℕ) → take (length l) l ≡ l
    all [] = refl
    all (x ∷ l) = ap (λ (m : List ℕ). x ∷ m) (all l)

module _ (regions pending kept order whole : List ℕ) (fill n : ℕ) (d : List ℕ) (u : Undoing regions pending kept order whole fill (n + 1) d)
    (each : PatchesAt regions pending order kept) where
  here : n < length order
  here = omega (arith, u.left_few)

  -- The patch has the same region in the buffer.
  pub turn_patch : PatchAt (take fill d) pending (get_or order n 0)
  turn_patch = let p = each.each n here in record { pending_is = p.pending_is; region_is = rw u.heads.places_same p.region_is }

  pub turn_filled : FilledRegions fill d
  turn_filled = record { within = u.filled; good = u.heads.layout_good }

  pub turn_room : 4 * n + 4 ≤ length kept
  turn_room = omega (arith, here, each.room)

  bytes_four : length (part kept (4 * n) 4) ≡ 4
  bytes_four = length-take-le 4 (drop (4 * n) kept) (omega (arith, turn_room, length-drop (4 * n) kept))

  same_back : back_at (take fill d) pending (part kept (4 * n) 4) (get_or order n 0) d ≡ back_at regions pending (part kept (4 * n) 4) (get_or order n 0) d
  same_back =
      let q = pending_at pending (get_or order n 0) in
      ap (λ (g : Region). elim (leb (q.offset + 4) g.size) [ true ↦ append d (g.start + q.offset) (part kept (4 * n) 4) | false ↦ d ])
      (region_same regions (take fill d) u.heads q.region (each.each n here).region_is)

  still : (e : List ℕ) → e ≡ back_at regions pending (part kept (4 * n) 4) (get_or order n 0) d → (fill ≤ length e) × Kept regions (take fill e)
  still e h = subst (λ (x : List ℕ). (fill ≤ length x) × Kept regions (take fill x)) (sym h) (go (leb ((pending_at pending (get_or order n 0)).offset + 4) (region_for regions (pending_at pending (get_or order n 0))).size) refl)
    where
      go : (b : Bool) → leb ((pending_at pending (get_or order n 0)).offset + 4) (region_for regions (pending_at pending (get_or order n 0))).size ≡ b
          → let x : List ℕ = elim b [ true ↦ append d (slot_of regions (pending_at pending (get_or order n 0))) (part kept (4 * n) 4) | false ↦ d ] in (fill ≤ length x) × Kept regions (take fill x)
      go false b = (u.filled, u.heads)
      go true b =
          let p = pending_at pending (get_or order n 0) in
          let i = in_data regions p.region p.offset u.heads.regions_good (each.each n here).region_is (leb-true (p.offset + 4) (region_for regions p).size b) in
          let f = bytes_four in
          let l : length (take fill d) ≡ fill = length-take-le fill d u.filled in
          let s : slot_of regions p + length (part kept (4 * n) 4) ≤ fill = omega (arith, i.within, u.heads.length_same) in (
            omega (arith, u.filled, put_length d (slot_of regions p) (part kept (4 * n) 4) (omega (arith, u.filled))),
            subst (Kept regions) (sym (take_put d fill (slot_of regions p) (part kept (4 * n) 4) s u.filled)) (kept_bytes regions (take fill d) u.heads p.region (slot_of regions p) (part kept (4 * n) 4) f i),
          )

  pub undo_next : (e : List ℕ) → e ≡ back_at (take fill d) pending (part kept (4 * n) 4) (get_or order n 0) d → Undoing regions pending kept order whole fill n e
  undo_next e h =
      let k = h ∙ same_back in
      let s = still e k in
      let l : length (take n order) ≡ n = length-take-le n order (omega (arith, here)) in
      let z : 0 + length (take n order) ≡ n = omega arith in
      record {
        left_few = omega (arith, here);
        from_here =
            u.from_here
            ∙ ap (λ (ps : List ℕ). put_back regions pending kept 0 ps d) (ap (λ (m : ℕ). take m order) (add-one n) ∙ take-suc order n 0 here)
            ∙ back_last regions pending kept 0 (take n order) (get_or order n 0) d
            ∙ ap (λ (m : ℕ). put_back regions pending kept 0 (take n order) (back_at regions pending (part kept (4 * m) 4) (get_or order n 0) d)) z
            ∙ ap (put_back regions pending kept 0 (take n order)) (sym k);
        filled = s.0;
        heads = s.1;
      }

pub undo_end : (regions pending kept order whole : List ℕ) (fill left : ℕ) (d : List ℕ) → Undoing regions pending kept order whole fill left d → left ≤ 0 → d ≡ whole
undo_end regions pending kept order whole fill left d u h =
    let z : left ≡ 0 = omega arith in
    sym (u.from_here ∙ back_none regions pending kept 0 (take left order) d (ap (λ (n : ℕ). take n order) z))

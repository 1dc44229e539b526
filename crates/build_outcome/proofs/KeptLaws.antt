-- What patches do not change in the region list: its length, its records' places and heads, and each region's address. Assumes nothing.
use Rattle.std.specs.Prelude.{ℕ, ◌+◌, ◌-◌, ◌<◌, ◌≤◌, List, Bool, true, false, ◌⊎◌, ◌≡◌, refl, length, ltb, None}
use Rattle.std.proofs.Common.{arith, inl, inr, sym, ap, ◌∙◌, ltb-true, ltb-false}
use Rattle.record.specs.Bytes.{byte_at, le32}
use Rattle.record.specs.Records.{body_len, next, places}
use Rattle.record.specs.Stores.{le32_bytes, append}
use Rattle.regions.specs.Regions.{region_layout, region_count, region_place, region_at}
use Rattle.regions.proofs.RegionsLaws.{RegionIs, region_is, region_place_ok, places_apart, places_kept}
use Rattle.patch.proofs.WordLaws.{length_put, byte_out}

-- four bytes from i on lie in the data of region r
pub record InData (regions : List ℕ) (r i : ℕ) : Type 0 where
  pub number : r < region_count regions
  pub from : region_place regions r + 8 ≤ i
  pub to : i + 4 ≤ next regions (region_place regions r)
  pub within : i + 4 ≤ length regions

-- Four bytes at an offset within a region's data lie in that data.
pub in_data : (regions : List ℕ) (r o : ℕ) → region_layout regions ≡ None → r < region_count regions → o + 4 ≤ (region_at regions (region_place regions r)).size
    → InData regions r ((region_at regions (region_place regions r)).start + o)
in_data regions r o g n h =
    let q = region_place regions r in
    let f : RegionIs regions q = region_is regions q (region_place_ok regions r g n) in
    record { number = n; from = omega arith; to = omega arith; within = omega arith }

-- the data of two regions share no byte
pub data_apart : (regions : List ℕ) (r q i j : ℕ) → (r ≡ q → ⊥) → InData regions r i → InData regions q j → (i + 4 ≤ j) ⊎ (j + 4 ≤ i)
data_apart regions r q i j n a b = go (ltb r q) refl (ltb q r) refl
  where
    go : (x : Bool) → ltb r q ≡ x → (y : Bool) → ltb q r ≡ y → (i + 4 ≤ j) ⊎ (j + 4 ≤ i)
    go true e y f = inl (omega (arith, places_apart regions r q (ltb-true r q e) b.number, a.to, b.from))
    go false e true f = inr (omega (arith, places_apart regions q r (ltb-true q r f) a.number, b.to, a.from))
    go false e false f =
        let u = ltb-false r q e in
        let v = ltb-false q r f in
        absurd (n (omega arith))

pub record Kept (regions d : List ℕ) : Type 0 where
  pub regions_good : region_layout regions ≡ None
  pub length_same : length d ≡ length regions
  pub places_same : places d ≡ places regions
  pub layout_good : region_layout d ≡ None
  pub heads : (r : ℕ) → r < region_count regions → (j : ℕ) → region_place regions r ≤ j → j < region_place regions r + 8 → byte_at d j ≡ byte_at regions j

pub kept_first : (regions : List ℕ) → region_layout regions ≡ None → Kept regions regions
kept_first regions g = record { regions_good = g; length_same = refl; places_same = refl; layout_good = g; heads = λ r h j a b. refl }

module _ (regions d : List ℕ) (k : Kept regions d) where
  body_same : (r : ℕ) → r < region_count regions → body_len d (region_place regions r) ≡ body_len regions (region_place regions r)
  body_same r h =
      let p = region_place regions r in
      omega (arith, k.heads r h p (omega arith) (omega arith), k.heads r h (p + 1) (omega arith) (omega arith))

  -- The region with a given number reads as at entry.
  pub region_same : (r : ℕ) → r < region_count regions → region_at d (region_place d r) ≡ region_at regions (region_place regions r)
  region_same r h =
      let p = region_place regions r in
      let a : le32 d (p + 4) ≡ le32 regions (p + 4) =
      omega (
        arith,
        k.heads r h (p + 4) (omega arith) (omega arith),
        k.heads r h (p + 4 + 1) (omega arith) (omega arith),
        k.heads r h (p + 4 + 2) (omega arith) (omega arith),
        k.heads r h (p + 4 + 3) (omega arith) (omega arith),
      ) in
      let b = body_same r h in
      rw k.places_same (cc (a, b))

  -- Storing a word in a region's data keeps all this true.
  pub kept_put : (r i w : ℕ) → InData regions r i → Kept regions (append d i (le32_bytes w))
  kept_put r i w a =
      let s = k.places_same in
      let room : i + 4 ≤ length d = omega (arith, a.within, k.length_same) in
      let n : r < region_count d = rw s a.number in
      let f : region_place d r + 8 ≤ i = rw s a.from in
      let b : body_len d (region_place regions r) ≡ body_len regions (region_place regions r) = body_same r a.number in
      let t : i + 4 ≤ next d (region_place d r) = rw s (omega (arith, a.to)) in
      let e = places_kept d (append d i (le32_bytes w)) r i (sym (length_put d i w room)) k.layout_good n f t (λ j x. sym (byte_out d i w room j x)) in
      record {
        regions_good = k.regions_good;
        length_same = length_put d i w room ∙ k.length_same;
        places_same = e.0 ∙ s;
        layout_good = e.1;
        heads = λ q h j x y. byte_out d i w room j (outside q h j x y) ∙ k.heads q h j x y;
      }
    where
      -- A head stands before the data of its own region and of later ones, and behind the data of earlier ones.
      outside : (q : ℕ) → q < region_count regions → (j : ℕ) → region_place regions q ≤ j → j < region_place regions q + 8 → (j < i) ⊎ (i + 4 ≤ j)
      outside q h j x y = go (ltb q r) refl (ltb r q) refl
        where
          go : (b : Bool) → ltb q r ≡ b → (c : Bool) → ltb r q ≡ c → (j < i) ⊎ (i + 4 ≤ j)
          go true e c f =
              let g = region_is regions (region_place regions q) (region_place_ok regions q k.regions_good h) in
              inl (omega (arith, places_apart regions q r (ltb-true q r e) a.number))
          go false e true f = inr (omega (arith, places_apart regions r q (ltb-true r q f) h))
          go false e false f =
              let u = ltb-false q r e in
              let v = ltb-false r q f in
              let s : q ≡ r = omega arith in
              inl (omega (arith, ap (region_place regions) s, a.from))

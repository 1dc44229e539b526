-- A region list in which one region's data has grown: its layout and its regions stay. Only the grown region's size changes, and the places
-- of the regions behind it (document 02, P12). Assumes nothing.
use Rattle.std.specs.Prelude.{ℕ, zero, suc, ◌+◌, ◌-◌, ◌^◌, ◌≤◌, ◌<◌, Bool, true, false, ◌&&◌, ◌≡◌, refl, get_or, ltb, eqb, None}
use native.Mathlib.Omega.{arith}
use mathlib.Core.List.{List, [], ◌∷◌, map, Memᴰ}
use Rattle.std.proofs.Common.{inl, inr, sym, ap₂, ◌∙◌}
use Rattle.std.proofs.Math.Bool.{and-eq-true_iff}
use Rattle.std.proofs.Math.Path.{ap}
use Rattle.std.proofs.Math.ListN.{length}
use Rattle.std.proofs.lemmas.List.{length-map}
use Rattle.std.proofs.Math.Dec.{leb}
use borrow.Author.Tests.{ltb-true, ltb-false, le-leb, eqb-true}
use Rattle.record.specs.Bytes.{byte_at, le32}
use Rattle.record.specs.Records.{body_len, kind_at, next, whole, places, first_bad, first_bad_of, limit}
use Rattle.record.proofs.RecordsLaws.{whole_is, limit_kept, first_pass, first_good}
use Rattle.record.specs.Stores.{le16_bytes, append}
use Rattle.record.proofs.BehindLaws.{digits16}
use Rattle.record.proofs.OneMoreLaws.{is_whole}
use Rattle.record_growth.proofs.PutLaws.{put_length, put_in_lem, put_out, insert_length, insert_before, insert_behind}
use Rattle.record_growth.proofs.ChainLaws.{Grows, shift, shift_up, shift_not, grown_places}
use Rattle.regions.specs.declared.Region.{Region}
use Rattle.regions.specs.Regions.{region_ok, region_records, region_layout, region_count, region_place, region_at}
use Rattle.regions.proofs.RegionsLaws.{RegionIs, region_is, region_good, region_place_ok, places_apart}
use Rattle.patching_outcome.specs.Grown.{inserted, grown}

-- ---- the bytes

module _ (s : List ℕ) (p : ℕ) (ws : List ℕ) (w : whole s p ≡ true) (small : body_len s p + length ws < 2 ^ 16) where
  abbrev wide : List ℕ
  wide = inserted s (next s p) ws

  abbrev head : List ℕ
  head = le16_bytes (body_len s p + length ws)

  wide_length : length wide ≡ length s + length ws
  wide_length = insert_length s (next s p) ws (whole_is s p w).1

  room : p + 2 ≤ length wide
  room = omega (arith, wide_length, whole_is s p w)

  pub grown_grows : Grows s (grown s p ws) p (length ws)
  unfolding grown
  grown_grows =
      let c = next s p in
      let h = whole_is s p w in
      let z : p + 0 ≡ p = omega arith in
      let b₀ : byte_at (append wide p head) p ≡ byte_at head 0 = ap (byte_at (append wide p head)) (sym z) ∙ put_in_lem wide p head room 0 (omega arith) in
      let b₁ : byte_at (append wide p head) (p + 1) ≡ byte_at head 1 = put_in_lem wide p head room 1 (omega arith) in
      record {
        longer = put_length wide p head room ∙ wide_length;
        body_longer = omega (arith, b₀, b₁, digits16 (body_len s p + length ws) small);
        before = λ j l. put_out wide p head room j (inl l) ∙ insert_before s c ws h.1 j (omega arith);
        between = λ j l m. put_out wide p head room j (inr l) ∙ insert_before s c ws h.1 j m;
        behind = λ j l. put_out wide p head room (j + length ws) (inr (omega arith)) ∙ insert_behind s c ws h.1 j l;
      }

-- ---- lists

member : (ps : List ℕ) (n : ℕ) → n < length ps → Memᴰ (get_or ps n 0) ps
member [] n h = absurd (omega arith)
member (p ∷ ps) zero h = Memᴰ.head refl
member (p ∷ ps) (suc n) h = Memᴰ.tail (member ps n (omega arith))

get_d_map : (f : ℕ → ℕ) (ps : List ℕ) (n : ℕ) → n < length ps → get_or (map f ps) n 0 ≡ f (get_or ps n 0)
get_d_map f [] n h = absurd (omega arith)
get_d_map f (p ∷ ps) zero h = refl
get_d_map f (p ∷ ps) (suc n) h = get_d_map f ps n (omega arith)

-- If each place passes and there are at most n of them, all pass.
of_each : (n : ℕ) (ok : ℕ → Bool) (ps : List ℕ) → length ps ≤ n → ((k : ℕ) → k < length ps → ok (get_or ps k 0) ≡ true) → first_bad_of n ok ps ≡ None
unfolding first_bad_of
of_each zero ok [] l e = refl
of_each (suc n) ok [] l e = refl
of_each zero ok (p ∷ ps) l e = absurd (omega arith)
of_each (suc n) ok (p ∷ ps) l e = rw (e 0 (omega arith), first_bad_of) (of_each n ok ps (omega arith) (λ k h. e (suc k) (omega arith)))

-- a list whose records are all good has whole records
all_whole : (s : List ℕ) (ps : List ℕ) → first_bad (region_ok s) ps ≡ None → first_bad (whole s) ps ≡ None
unfolding first_bad
all_whole s [] g = refl
all_whole s (p ∷ ps) g = let f = first_good (region_ok s) p ps g in first_pass (whole s) p ps (region_is s p f.0).whole_at ∙ all_whole s ps f.1

records_pass : (s ps : List ℕ) → 0 < length ps → length ps ≤ 16 → ((k : ℕ) → k < length ps → region_ok s (get_or ps k 0) ≡ true) → region_records s ps ≡ None
unfolding region_records
records_pass s [] h l e = absurd (omega arith)
records_pass s (p ∷ ps) h l e = of_each 16 (region_ok s) (p ∷ ps) l e

-- ---- the regions

abbrev pub region_in : List ℕ → ℕ → Region
region_in s n = region_at s (region_place s n)

abbrev pub region_of : (address start size : ℕ) → Region
region_of address start size = record { address = address; start = start; size = size }

pub record GrownList (s t : List ℕ) (r k : ℕ) : Type 0 where
  pub keeps : region_layout t ≡ None
  pub count_same : region_count t ≡ region_count s
  pub place_before : (n : ℕ) → n < region_count s → n ≤ r → region_place t n ≡ region_place s n
  pub place_behind : (n : ℕ) → n < region_count s → r < n → region_place t n ≡ region_place s n + k
  pub region_before : (n : ℕ) → n < region_count s → n < r → region_in t n ≡ region_in s n
  pub region_here : region_in t r ≡ region_of (region_in s r).address (region_in s r).start ((region_in s r).size + k)
  pub region_behind : (n : ℕ) → n < region_count s → r < n → region_in t n ≡ region_of (region_in s n).address ((region_in s n).start + k) (region_in s n).size

module _ (s t : List ℕ) (r k : ℕ) (good : region_layout s ≡ None) (hr : r < region_count s) (g : Grows s t (region_place s r) k) (short : length t ≤ limit) where
  abbrev from : ℕ
  from = region_place s r

  is : (n : ℕ) → n < region_count s → RegionIs s (region_place s n)
  is n h = region_is s (region_place s n) (region_place_ok s n good h)

  places_are : places t ≡ map (shift from k) (places s)
  places_are = grown_places s t from k g (all_whole s (places s) (region_good s good).1) (member (places s) r hr)

  count : region_count t ≡ region_count s
  count = ap length places_are ∙ length-map (places s) (shift from k)

  place_is : (n : ℕ) → n < region_count s → region_place t n ≡ shift from k (region_place s n)
  place_is n h = ap (λ (ps : List ℕ). get_or ps n 0) places_are ∙ get_d_map (shift from k) (places s) n h

  -- How region n stands to the region that grew.
  data Stands (n : ℕ) : Type 0 where
    below : n < r → next s (region_place s n) ≤ from → region_place t n ≡ region_place s n → Stands n
    here : n ≡ r → region_place t n ≡ region_place s n → Stands n
    above : r < n → next s from ≤ region_place s n → region_place t n ≡ region_place s n + k → Stands n

  stands : (n : ℕ) → n < region_count s → Stands n
  stands n h = go (ltb n r) refl (ltb r n) refl
    where
      go : (b : Bool) → ltb n r ≡ b → (c : Bool) → ltb r n ≡ c → Stands n
      go true b c e =
          let l = ltb-true n r b in
          let a = places_apart s n r l hr in
          below l a (place_is n h ∙ shift_not from k (region_place s n) (omega arith))
      go false b true e =
          let l = ltb-true r n e in
          let a = places_apart s r n l h in
          above l a (place_is n h ∙ shift_up from k (region_place s n) (omega arith))
      go false b false e =
          let q : n ≡ r = omega (arith, ltb-false n r b, ltb-false r n e) in
          here q (place_is n h ∙ shift_not from k (region_place s n) (omega (arith, ap (region_place s) q)))

  -- a region's kind and address, byte by byte
  head_byte : (n i j : ℕ) → n < region_count s → region_place s n + 2 ≤ i → i < region_place s n + 8 → j + region_place s n ≡ i + region_place t n → byte_at t j ≡ byte_at s i
  head_byte n i j h lo hi e = go (stands n h)
    where
      go : Stands n → byte_at t j ≡ byte_at s i
      go (below l a p) =
          let z : j ≡ i = omega arith in
          ap (byte_at t) z ∙ g.before i (omega (arith, is n h))
      go (here q p) =
          let z : j ≡ i = omega arith in
          let f = ap (region_place s) q in
          let m : from + 2 ≤ i = omega arith in
          let x : i < next s from = omega (arith, is r hr) in
          ap (byte_at t) z ∙ g.between i m x
      go (above l a p) =
          let z : j ≡ i + k = omega arith in
          ap (byte_at t) z ∙ g.behind i (omega arith)

  kind_same : (n : ℕ) → n < region_count s → kind_at t (region_place t n) ≡ kind_at s (region_place s n)
  kind_same n h =
      let p = region_place s n in
      let q = region_place t n in
      omega (arith, head_byte n (p + 2) (q + 2) h (omega arith) (omega arith) (omega arith), head_byte n (p + 2 + 1) (q + 2 + 1) h (omega arith) (omega arith) (omega arith))

  address_same : (n : ℕ) → n < region_count s → le32 t (region_place t n + 4) ≡ le32 s (region_place s n + 4)
  address_same n h =
      let p = region_place s n in
      let q = region_place t n in
      omega (
        arith,
        head_byte n (p + 4) (q + 4) h (omega arith) (omega arith) (omega arith),
        head_byte n (p + 4 + 1) (q + 4 + 1) h (omega arith) (omega arith) (omega arith),
        head_byte n (p + 4 + 2) (q + 4 + 2) h (omega arith) (omega arith) (omega arith),
        head_byte n (p + 4 + 3) (q + 4 + 3) h (omega arith) (omega arith) (omega arith),
      )

  -- a region's length
  body_below : (n : ℕ) → n < region_count s → n < r → body_len t (region_place s n) ≡ body_len s (region_place s n)
  body_below n h l =
      let p = region_place s n in
      let a = places_apart s n r l hr in
      omega (arith, g.before p (omega arith), g.before (p + 1) (omega arith))

  body_above : (n : ℕ) → n < region_count s → r < n → body_len t (region_place s n + k) ≡ body_len s (region_place s n)
  body_above n h l =
      let p = region_place s n in
      let a = places_apart s r n l h in
      let z : p + k + 1 ≡ p + 1 + k = omega arith in
      omega (arith, g.behind p a, ap (byte_at t) z ∙ g.behind (p + 1) (omega arith))

  -- A record passes if it is whole, is a region, and has an address.
  passes : (q : ℕ) → q + 4 ≤ length t → next t q ≤ length t → kind_at t q ≡ 35 → 4 ≤ body_len t q → region_ok t q ≡ true
  unfolding region_ok
  passes q h n e l =
      (and-eq-true_iff (whole t q) (eqb (kind_at t q) 35 && leb 4 (body_len t q))).1
      (is_whole t q h n, rw e (le-leb 4 (body_len t q) l))

  kind_is : (n : ℕ) → n < region_count s → kind_at s (region_place s n) ≡ 35
  unfolding region_ok
  kind_is n h =
      let p = region_place s n in
      let w = (and-eq-true_iff (whole s p) (eqb (kind_at s p) 35 && leb 4 (body_len s p))).0 (region_place_ok s n good h) in
      eqb-true (kind_at s p) 35 ((and-eq-true_iff (eqb (kind_at s p) 35) (leb 4 (body_len s p))).0 w.1).0

  region_passes : (n : ℕ) → n < region_count s → region_ok t (region_place t n) ≡ true
  region_passes n h = go (stands n h)
    where
      kind : kind_at t (region_place t n) ≡ 35
      kind = kind_same n h ∙ kind_is n h

      go : Stands n → region_ok t (region_place t n) ≡ true
      go (below l a p) =
          let i = is n h in
          let b : body_len t (region_place t n) ≡ body_len s (region_place s n) = ap (body_len t) p ∙ body_below n h l in
          passes (region_place t n) (omega (arith, i, g.longer)) (omega (arith, i, g.longer)) kind (omega (arith, i))
      go (here q p) =
          let i = is n h in
          let b : body_len t (region_place t n) ≡ body_len s (region_place s n) + k = ap (body_len t) (p ∙ ap (region_place s) q) ∙ g.body_longer ∙ ap (λ (m : ℕ). body_len s (region_place s m) + k) (sym q) in
          passes (region_place t n) (omega (arith, i, g.longer)) (omega (arith, i, g.longer)) kind (omega (arith, i))
      go (above l a p) =
          let i = is n h in
          let b : body_len t (region_place t n) ≡ body_len s (region_place s n) = ap (body_len t) p ∙ body_above n h l in
          passes (region_place t n) (omega (arith, i, g.longer)) (omega (arith, i, g.longer)) kind (omega (arith, i))

  layout : region_layout t ≡ None
  unfolding region_layout
  layout =
      let c = region_good s good in
      limit_kept t (region_records t (places t)) short
      ∙ records_pass t (places t) (omega (arith, count, c.2)) (omega (arith, count, c.3)) (λ n h. region_passes n (omega (arith, count)))

  pub grown_list : GrownList s t r k
  grown_list = record {
    keeps = layout;
    count_same = count;
    place_before = λ n h l. place_is n h ∙ shift_not from k (region_place s n) (before n h l);
    place_behind = λ n h l. place_is n h ∙ shift_up from k (region_place s n) (omega (arith, places_apart s r n l h));
    region_before = λ n h l. same_as n (region_place s n) (body_len s (region_place s n)) (address_same n h) (place_is n h ∙ shift_not from k (region_place s n) (before n h (omega arith))) (body_below n h l);
    region_here =
        let e : body_len s from + k - 4 ≡ body_len s from - 4 + k = omega (arith, is r hr) in
        same_as r from (body_len s from + k) (address_same r hr) (place_is r hr ∙ shift_not from k from (omega arith)) g.body_longer
        ∙ ap (λ (m : ℕ). region_of (le32 s (from + 4)) (from + 8) m) e;
    region_behind = λ n h l.
        let p = region_place s n in
        let e : p + k + 8 ≡ p + 8 + k = omega arith in
        same_as n (p + k) (body_len s p) (address_same n h) (place_is n h ∙ shift_up from k p (omega (arith, places_apart s r n l h))) (body_above n h l)
        ∙ ap (λ (m : ℕ). region_of (le32 s (p + 4)) m (body_len s p - 4)) e;
  }
    where
      before : (n : ℕ) → n < region_count s → n ≤ r → region_place s n ≤ from
      before n h l = go (ltb n r) refl
        where
          go : (b : Bool) → ltb n r ≡ b → region_place s n ≤ from
          go true b = omega (arith, places_apart s n r (ltb-true n r b) hr)
          go false b = let e : n ≡ r = omega (arith, ltb-false n r b) in omega (arith, ap (region_place s) e)

      same_as : (n p b : ℕ) → le32 t (region_place t n + 4) ≡ le32 s (region_place s n + 4) → region_place t n ≡ p → body_len t p ≡ b
          → region_in t n ≡ region_of (le32 s (region_place s n + 4)) (p + 8) (b - 4)
      same_as n p b a e f =
          ap₂ (λ (x q : ℕ). region_of x (q + 8) (body_len t q - 4)) a e ∙ ap (λ (m : ℕ). region_of (le32 s (region_place s n + 4)) (p + 8) (m - 4)) f

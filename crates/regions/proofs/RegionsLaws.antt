-- Laws of regions: each is whole in a good list; they stand one after another; a change in one's data moves none; where a layout breaks. Assumes nothing.
use Rattle.std.specs.Prelude.{ℕ, zero, suc, ◌+◌, ◌≤◌, ◌<◌, List, [], ◌∷◌, Bool, true, false, ◌&&◌, ◌⊎◌, ◌≡◌, refl, length, get_or, leb, eqb, ltb, None, Some}
use Rattle.std.proofs.Common.{add-one, arith, inl, inr, ⊎_elim, sym, ap, ◌∙◌, drop-cons, leb-true, ltb-true, ltb-false}
use Rattle.std.proofs.Math.Bool.{and-eq-true_iff}
use Rattle.record.specs.Bytes.{byte_at, le16}
use Rattle.record.specs.Records.{body_len, kind_at, whole, next, places, places_from, first_bad, first_bad_of, limit, within_limit}
use Rattle.record.proofs.RecordsLaws.{places_end, places_step, places_cut, places_all, places_cons, whole_is, good_at, of_good, of_place, limit_bad, limit_good, limit_kept, limit_passed}
use Rattle.record.proofs.WalkLaws.{Turn}
use Rattle.regions.specs.Regions.{region_ok, region_records, region_layout, region_count, region_place, region_at}

-- ---- one region

-- What holds when a region's test passes.
pub record RegionIs (s : List ℕ) (at : ℕ) : Type 0 where
  pub whole_at : whole s at ≡ true
  pub head : at + 4 ≤ length s
  pub body : next s at ≤ length s
  pub least : 4 ≤ body_len s at

pub region_is : (s : List ℕ) (at : ℕ) → region_ok s at ≡ true → RegionIs s at
unfolding region_ok
region_is s at e =
    let w = (and-eq-true_iff (whole s at) (eqb (kind_at s at) 35 && leb 4 (body_len s at))).0 e in
    let r = whole_is s at w.0 in
    let l = (and-eq-true_iff (eqb (kind_at s at) 35) (leb 4 (body_len s at))).0 w.1 in
    record { whole_at = w.0; head = r.0; body = r.1; least = leb-true 4 (body_len s at) l.1 }

-- ---- the places of records, of any kind

-- Two tests that agree at each place fail first at the same place.
of_same : (n : ℕ) (f g : ℕ → Bool) (ps : List ℕ) → ((k : ℕ) → k < length ps → f (get_or ps k 0) ≡ g (get_or ps k 0)) → first_bad_of n f ps ≡ first_bad_of n g ps
unfolding first_bad_of
of_same zero f g [] e = refl
of_same (suc n) f g [] e = refl
of_same zero f g (p ∷ ps) e = refl
of_same (suc n) f g (p ∷ ps) e = go (g p) refl (e 0 (omega arith)) (of_same n f g ps (λ k h. e (suc k) (omega arith)))
  where
    go : (b : Bool) → g p ≡ b → f p ≡ g p → first_bad_of n f ps ≡ first_bad_of n g ps → first_bad_of (suc n) f (p ∷ ps) ≡ first_bad_of (suc n) g (p ∷ ps)
    go true b h ih = rw (h ∙ b, first_bad_of) (rw (b, first_bad_of) ih)
    go false b h ih = rw (h ∙ b, first_bad_of) (rw (b, first_bad_of))

-- within the list a record begins
places_some : (s : List ℕ) (at : ℕ) → at < length s → 0 < length (places_from s at)
places_some s at h = go (whole s at) refl
  where
    go : (w : Bool) → whole s at ≡ w → 0 < length (places_from s at)
    go true w = rw (places_step s at h w) (omega arith)
    go false w = rw (places_cut s at h w) (omega arith)

-- the first record stands at the list's beginning
pub place_first : (s : List ℕ) → region_place s 0 ≡ 0
place_first s = go (places s) (sym (places_all s))
  where
    go : (ps : List ℕ) → places_from s 0 ≡ ps → get_or ps 0 0 ≡ 0
    go [] e = refl
    go (p ∷ ps) e = (places_cons s 0 p ps e).1

-- If another place follows, it is the first place from the first record's end on.
places_two : (s : List ℕ) (at p q : ℕ) (ps : List ℕ) → places_from s at ≡ p ∷ (q ∷ ps) → (p ≡ at) × (places_from s (next s at) ≡ q ∷ ps)
places_two s at p q ps e = let c = places_cons s at p (q ∷ ps) e in (c.1, ⊎_elim (λ w. w.1) (λ w. cc) c.2)

-- each place but the first is where the record before it ends
after_from : (s : List ℕ) (at : ℕ) (ps : List ℕ) (n : ℕ) → places_from s at ≡ ps → suc n < length ps → get_or ps (suc n) 0 ≡ next s (get_or ps n 0)
after_from s at [] n e h = absurd (omega arith)
after_from s at (p ∷ []) n e h = absurd (omega arith)
after_from s at (p ∷ (q ∷ ps)) zero e h =
    let c = places_two s at p q ps e in
    (places_cons s (next s at) q ps c.1).1 ∙ ap (next s) (sym c.0)
after_from s at (p ∷ (q ∷ ps)) (suc n) e h = after_from s (next s at) (q ∷ ps) n (places_two s at p q ps e).1 (omega arith)

place_suc : (s : List ℕ) (n : ℕ) → suc n < region_count s → region_place s (suc n) ≡ next s (region_place s n)
place_suc s n h = after_from s 0 (places s) n (sym (places_all s)) h

pub place_after : (s : List ℕ) (n : ℕ) → n + 1 < region_count s → region_place s (n + 1) ≡ next s (region_place s n)
place_after s n h = rw (add-one n) (place_suc s n (omega arith))

-- So a later record begins at the end of an earlier one, or behind it.
pub places_apart : (s : List ℕ) (m n : ℕ) → m < n → n < region_count s → next s (region_place s m) ≤ region_place s n
places_apart s m zero l h = absurd (omega arith)
places_apart s m (suc n) l h = go (ltb m n) refl (places_apart s m n)
  where
    go : (b : Bool) → ltb m n ≡ b → (m < n → n < region_count s → next s (region_place s m) ≤ region_place s n) → next s (region_place s m) ≤ region_place s (suc n)
    go true b ih = omega (arith, place_suc s n h, ih (ltb-true m n b) (omega arith))
    go false b ih =
        let e : m ≡ n = omega (arith, ltb-false m n b) in
        rw e (omega (arith, place_suc s n h))

-- ---- two lists of one length

whole_same : (s t : List ℕ) (at : ℕ) → length s ≡ length t → body_len s at ≡ body_len t at → whole s at ≡ whole t at
whole_same s t at l b = rw (l, b)

-- Lists with equal record lengths have equal places.
same_from : (s t : List ℕ) (at : ℕ) (ps : List ℕ) → length s ≡ length t → places_from s at ≡ ps
    → ((n : ℕ) → n < length ps → body_len s (get_or ps n 0) ≡ body_len t (get_or ps n 0)) → places_from t at ≡ ps
same_from s t at [] l e h = go (ltb at (length s)) refl
  where
    go : (b : Bool) → ltb at (length s) ≡ b → places_from t at ≡ []
    go false b = places_end t at (omega (arith, ltb-false at (length s) b))
    go true b = absurd (omega (arith, rw e at (places_some s at (ltb-true at (length s) b))))
same_from s t at (p ∷ ps) l e h =
    let c = places_cons s at p ps e in
    let b : body_len s at ≡ body_len t at = rw c.1 at (h 0 (omega arith)) in
    let n : next t at ≡ next s at = omega arith in
    let v = whole_same s t at l b in
    ⊎_elim
    (λ w. places_step t at (omega arith) (sym v ∙ w.0)
    ∙ cc (ap (places_from t) n, same_from s t (next s at) ps l w.1 (λ k i. h (suc k) (omega arith))))
    (λ w. places_cut t at (omega arith) (sym v ∙ w.0) ∙ cc)
    c.2

pub places_same : (s t : List ℕ) → length s ≡ length t → ((n : ℕ) → n < region_count s → body_len s (region_place s n) ≡ body_len t (region_place s n)) → places t ≡ places s
places_same s t l h = places_all t ∙ same_from s t 0 (places s) l (sym (places_all s)) h

-- If the kinds agree too, both records are regions or neither is.
ok_same : (s t : List ℕ) (at : ℕ) → length s ≡ length t → body_len s at ≡ body_len t at → kind_at s at ≡ kind_at t at → region_ok s at ≡ region_ok t at
unfolding region_ok
ok_same s t at l b k = rw (whole_same s t at l b, k, b)

records_same : (s t ps : List ℕ) → length s ≡ length t → ((n : ℕ) → n < length ps → region_ok s (get_or ps n 0) ≡ region_ok t (get_or ps n 0)) → region_records s ps ≡ region_records t ps
unfolding region_records
records_same s t [] l h = ap Some l
records_same s t (p ∷ ps) l h = of_same 16 (region_ok s) (region_ok t) (p ∷ ps) h

layout_same : (s t : List ℕ) → length s ≡ length t
    → ((n : ℕ) → n < region_count s → (body_len s (region_place s n) ≡ body_len t (region_place s n)) × (kind_at s (region_place s n) ≡ kind_at t (region_place s n)))
    → region_layout t ≡ region_layout s
unfolding region_layout within_limit
layout_same s t l h =
    ap (λ (ps : List ℕ). within_limit t (region_records t ps)) (places_same s t l (λ n i. (h n i).0))
    ∙ ap (within_limit t) (sym (records_same s t (places s) l (λ n i. ok_same s t (region_place s n) l (h n i).0 (h n i).1)))
    ∙ rw (← l, within_limit)

-- ---- the layout

records_good : (s ps : List ℕ) → region_records s ps ≡ None → (first_bad (region_ok s) ps ≡ None) × (0 < length ps) × (length ps ≤ 16)
unfolding region_records
records_good s [] g = let z : ◌≡◌ {A = ℕ} 0 1 = cc in absurd (omega arith)
records_good s (p ∷ ps) g = let h = of_good 16 (region_ok s) (p ∷ ps) g in (h.0, omega arith, h.1)

pub region_good : (s : List ℕ) → region_layout s ≡ None
    → (length s ≤ limit) × (first_bad (region_ok s) (places s) ≡ None) × (0 < length (places s)) × (length (places s) ≤ 16)
unfolding region_layout
region_good s g =
    let l = limit_good s (region_records s (places s)) g in
    let r = records_good s (places s) l.1 in
    (l.0, r.0, r.1, r.2)

pub region_place_ok : (s : List ℕ) (n : ℕ) → region_layout s ≡ None → n < region_count s → region_ok s (region_place s n) ≡ true
region_place_ok s n g h = good_at (region_ok s) (places s) (region_good s g).1 n h

-- the turn of a loop over the numbered places is at the place of that number, and a region stands there
pub place_taken : (s : List ℕ) (n p : ℕ) (ps : List ℕ) → Turn s n p ps → p ≡ region_place s n
place_taken s n p ps t = let e = drop-cons (places s) n 0 t.numbered in cc (t.left_are, e)

pub region_taken : (s : List ℕ) (n p : ℕ) (ps : List ℕ) → region_layout s ≡ None → Turn s n p ps → region_ok s p ≡ true
region_taken s n p ps g t = t.passes (region_ok s) (region_good s g).1

-- the cases of the layout
pub layout_long : (s : List ℕ) → limit < length s → region_layout s ≡ Some limit
unfolding region_layout
layout_long s h = limit_passed s (region_records s (places s)) h

pub layout_none : (s : List ℕ) → length s ≡ 0 → region_layout s ≡ Some 0
unfolding region_layout region_records
layout_none s h = limit_kept s (region_records s (places s)) (omega arith) ∙ rw (places_all s ∙ places_end s 0 (omega arith)) (ap Some h)

pub layout_first : (s : List ℕ) → 0 < length s → region_layout s ≡ within_limit s (first_bad_of 16 (region_ok s) (places s))
unfolding region_layout region_records
layout_first s h = ap (within_limit s) (go (places s) (rw (places_all s) (places_some s 0 h)))
  where
    go : (ps : List ℕ) → 0 < length ps → region_records s ps ≡ first_bad_of 16 (region_ok s) ps
    go [] h = absurd (omega arith)
    go (p ∷ ps) h = refl

pub layout_some : (s : List ℕ) → 0 < length s → length s ≤ limit → region_layout s ≡ first_bad_of 16 (region_ok s) (places_from s 0)
layout_some s h l = layout_first s h ∙ limit_kept s (first_bad_of 16 (region_ok s) (places s)) l ∙ ap (first_bad_of 16 (region_ok s)) (places_all s)

-- a region's data is in the list
pub region_within : (s : List ℕ) (r : ℕ) → region_layout s ≡ None → r < region_count s
    → (region_at s (region_place s r)).start + (region_at s (region_place s r)).size ≤ length s
region_within s r g h = let f = region_is s (region_place s r) (region_place_ok s r g h) in omega arith

-- ---- a change of four bytes within one region's data
module _ (s t : List ℕ) (r i : ℕ) (l : length s ≡ length t) (g : region_layout s ≡ None) (hr : r < region_count s) (lo : region_place s r + 8 ≤ i)
    (hi : i + 4 ≤ next s (region_place s r)) (same : (j : ℕ) → (j < i) ⊎ (i + 4 ≤ j) → byte_at s j ≡ byte_at t j) where
  -- each region's head and address stand before the four bytes or after them
  apart : (n : ℕ) → n < region_count s → (region_place s n + 8 ≤ i) ⊎ (i + 4 ≤ region_place s n)
  apart n h = go (ltb n r) refl (ltb r n) refl
    where
      go : (b : Bool) → ltb n r ≡ b → (c : Bool) → ltb r n ≡ c → (region_place s n + 8 ≤ i) ⊎ (i + 4 ≤ region_place s n)
      go true b c k = inl (omega (arith, places_apart s n r (ltb-true n r b) hr, region_is s (region_place s n) (region_place_ok s n g h)))
      go false b true k = inr (omega (arith, places_apart s r n (ltb-true r n k) h))
      go false b false k =
          let e : n ≡ r = omega (arith, ltb-false n r b, ltb-false r n k) in
          inl (rw e (omega arith))

  -- so they are kept
  head_kept : (n j : ℕ) → n < region_count s → region_place s n ≤ j → j < region_place s n + 8 → byte_at s j ≡ byte_at t j
  head_kept n j h b c = same j (⊎_elim (λ x. inl (omega arith)) (λ x. inr (omega arith)) (apart n h))

  half_kept : (n j : ℕ) → n < region_count s → region_place s n ≤ j → j + 1 < region_place s n + 8 → le16 s j ≡ le16 t j
  half_kept n j h b c = omega (arith, head_kept n j h b (omega arith), head_kept n (j + 1) h (omega arith) c)

  heads_same : (n : ℕ) → n < region_count s
      → (body_len s (region_place s n) ≡ body_len t (region_place s n)) × (kind_at s (region_place s n) ≡ kind_at t (region_place s n))
  heads_same n h =
      let p = region_place s n in
      (half_kept n p h (omega arith) (omega arith), half_kept n (p + 2) h (omega arith) (omega arith))

  pub places_kept : (places t ≡ places s) × (region_layout t ≡ None)
  places_kept = (places_same s t l (λ n h. (heads_same n h).0), layout_same s t l heads_same ∙ g)

-- ---- the place of a list that breaks its layout is within the limit

record_place : (s ps : List ℕ) (p : ℕ) → places s ≡ ps → region_records s ps ≡ Some p → p ≤ length s
unfolding region_records
record_place s [] p q e = let z : length s ≡ p = cc in omega arith
record_place s (x ∷ ps) p q e = of_place 16 (region_ok s) s p (ap (first_bad_of 16 (region_ok s)) q ∙ e)

pub region_place_lem : (s : List ℕ) (p : ℕ) → region_layout s ≡ Some p → p ≤ limit
unfolding region_layout
region_place_lem s p e = limit_bad s (region_records s (places s)) p e (record_place s (places s) p refl)

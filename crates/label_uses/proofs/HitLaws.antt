-- What a name stands for, even if labels repeat: a lookup through any index finds something exactly if the scan does.
-- The first part is for crates/name_index. Assumes nothing.
use Rattle.std.specs.Prelude.{ℕ, zero, suc, ◌+◌, ◌≤◌, ◌<◌, Bool, ◌≡◌, length, get_or, ltb, eqb, None, Option, Some}
use Rattle.std.proofs.Common.{arith, ⊎_elim, sym, ap₂, ◌∙◌, ltb-true, ltb-false, eqb-true}
use mathlib.Core.List.{List, [], ◌∷◌}
use Rattle.std.proofs.Math.Bool.{true, false, and-eq-true_iff}
use Rattle.std.proofs.Math.Path.{refl, ap}
use Rattle.record.specs.Bytes.{same_bytes}
use Rattle.record.specs.Records.{places}
use Rattle.names.specs.Names.{first_where}
use Rattle.names.proofs.NamesLaws.{where_hit, where_pass}
use Rattle.names.specs.Owners.{for_all, owner_of, owned_name, is_owned, first_owned}
use Rattle.name_order.specs.Order.{Key, key_order}
use Rattle.name_order.proofs.OrderLaws.{never, key_same, key_is}
use Rattle.name_sort.specs.Sorting.{In}
use Rattle.name_sort.proofs.SortingLaws.{at_in, in_cons, not_in}
use Rattle.name_sort.specs.Before.{key_of}
use Rattle.name_index.specs.declared.Looked.{Looked}
use Rattle.name_index.specs.Index.{IndexOf, middle, search_from, standing, lookup}
use Rattle.name_index.proofs.PlacesLaws.{none_where}
use Rattle.name_index.proofs.IndexLaws.{owned_key, key_owned, in_index, at_list, key_at, goes, below_before}
use Rattle.name_index.proofs.SearchLaws.{search_end, search_up, search_hit, search_down, lookup_all}
use Rattle.labels.specs.Labels.{or_else, labelled}
use Rattle.label_uses.specs.Uses.{standing_by}
use Rattle.label_uses.specs.declared.Standing.{Standing}
use Rattle.label_uses.specs.declared.Standing.TheVariants.{Known, Unknown}
use Rattle.std.specs.declared.cmp.Ordering.TheVariants.{Less, Equal, Greater}
use Rattle.std.specs.declared.cmp.Ordering.{Ordering}

abbrev pub is_hit : Option ℕ → Bool
is_hit (Some p) = true
is_hit None = false

-- ---- a scan
module _ (test : ℕ → Bool) where
  -- If an element passes the test, the scan finds one.
  no_miss : (ps : List ℕ) (q : ℕ) → In q ps → test q ≡ true → is_hit (first_where test ps) ≡ true
  no_miss [] q m t = absurd (not_in q m)
  no_miss (p ∷ ps) q m t = go (test p) refl (no_miss ps q)
    where
      go : (b : Bool) → test p ≡ b → (In q ps → test q ≡ true → is_hit (first_where test ps) ≡ true) → is_hit (first_where test (p ∷ ps)) ≡ true
      go true e ih = ap is_hit (where_hit test p ps e)
      go false e ih =
          ⊎_elim
          (λ (i : q ≡ p). let z : test q ≡ false = ap test i ∙ e in never (cc))
          (λ k. ap is_hit (where_pass test p ps e) ∙ ih k t)
          (in_cons q p ps m)

  -- What the scan finds passes the test.
  finds_it : (ps : List ℕ) (p : ℕ) → first_where test ps ≡ Some p → test p ≡ true
  unfolding first_where
  finds_it [] p e = never (cc)
  finds_it (q ∷ ps) p e = go (test q) refl (finds_it ps p)
    where
      go : (b : Bool) → test q ≡ b → (first_where test ps ≡ Some p → test p ≡ true) → test p ≡ true
      go true f ih = let h = where_hit test q ps f in let i : p ≡ q = cc in ap test i ∙ f
      go false f ih = ih (sym (where_pass test q ps f) ∙ e)

above : (a b : ℕ) → (b ≤ a → ⊥) → a < b
above a b h = go (ltb a b) refl
  where
    go : (t : Bool) → ltb a b ≡ t → a < b
    go true e = ltb-true a b e
    go false e = absurd (h (ltb-false a b e))

-- ---- a search in an index in which several records may have the same owner and name
module _ (skip : ℕ) (s l : List ℕ) (ix : IndexOf skip s l) (owner : ℕ) (name : List ℕ) where
  abbrev at : ℕ → Ordering
  at k = standing skip s owner name (get_or l k 0)

  -- The records with the name stand from lo on and before hi.
  abbrev Between : ℕ → ℕ → Type 0
  Between lo hi = (k : ℕ) → k < length l → key_at skip s l ix k ≡ (name, owner) → (lo ≤ k) × (k < hi)

  same_at : (k : ℕ) → key_at skip s l ix k ≡ (name, owner) → at k ≡ Equal
  same_at k e = ap (λ (x : Key). key_order x (name, owner)) e ∙ key_same (name, owner)

  not_before : (m k : ℕ) → m < length l → k ≤ m → at m ≡ Less → key_at skip s l ix k ≡ (name, owner) → ⊥
  not_before m k h n o e = go (ltb k m) refl
    where
      go : (b : Bool) → ltb k m ≡ b → ⊥
      go true t =
          let z = below_before skip s l ix (name, owner) k m (ltb-true k m t) h o in
          let w = same_at k e in
          never (cc)
      go false t =
          let q : k ≡ m = let v = ltb-false k m t in omega arith in
          let z : at k ≡ Less = ap at q ∙ o in
          let w = same_at k e in
          never (cc)

  not_behind : (m k : ℕ) → k < length l → m ≤ k → at m ≡ Greater → key_at skip s l ix k ≡ (name, owner) → ⊥
  not_behind m k h n o e = go (ltb m k) refl
    where
      go : (b : Bool) → ltb m k ≡ b → ⊥
      go true t =
          ⊎_elim
          (λ z. let w : at m ≡ Less = ap (key_order (key_at skip s l ix m)) (sym e) ∙ z in never (cc))
          (λ z. let w = same_at m (z.0 ∙ e) in never (cc))
          (goes skip s l ix m k (ltb-true m k t) h)
      go false t =
          let q : k ≡ m = let v = ltb-false m k t in omega arith in
          let z : at k ≡ Greater = ap at q ∙ o in
          let w = same_at k e in
          never (cc)

  -- If nothing is left, the scan finds nothing. If one is met, the scan finds one.
  missed : (lo hi : ℕ) → hi ≤ lo → Between lo hi → is_hit (first_owned skip s owner name) ≡ false
  missed lo hi h b = ap is_hit (none_where (is_owned skip s owner name) (places s) λ q m t.
      let r = at_in l q (in_index skip s l ix q m) in
      let k = b r.0 r.1 (ap (key_of skip s) r.2 ∙ owned_key skip s owner name q t) in
      absurd (omega (arith, k)))

  met : (k : ℕ) → k < length l → at k ≡ Equal → is_hit (first_owned skip s owner name) ≡ true
  met k h e =
      no_miss (is_owned skip s owner name) (places s) (get_or l k 0) (at_list skip s l ix k h)
      (key_owned skip s owner name (get_or l k 0) (key_is (key_at skip s l ix k) (name, owner) e))

  abbrev searched : (lo hi c : ℕ) → Bool
  searched lo hi c = is_hit (search_from (standing skip s owner name) l lo hi c).named

  search_hits : (n lo hi c : ℕ) → hi ≤ lo + n → hi ≤ length l → Between lo hi → searched lo hi c ≡ is_hit (first_owned skip s owner name)
  search_hits zero lo hi c a h b =
      ap (λ (x : Looked). is_hit x.named) (search_end (standing skip s owner name) l lo hi c (omega arith)) ∙ sym (missed lo hi (omega arith) b)
  search_hits (suc n) lo hi c a h b =
      go (ltb lo hi) refl (at (middle lo hi)) refl (search_hits n (middle lo hi + 1) hi (c + 1)) (search_hits n lo (middle lo hi) (c + 1))
    where
      go : (t : Bool) → ltb lo hi ≡ t → (o : Ordering) → at (middle lo hi) ≡ o
          → (hi ≤ middle lo hi + 1 + n → hi ≤ length l → Between (middle lo hi + 1) hi → searched (middle lo hi + 1) hi (c + 1) ≡ is_hit (first_owned skip s owner name))
          → (middle lo hi ≤ lo + n → middle lo hi ≤ length l → Between lo (middle lo hi) → searched lo (middle lo hi) (c + 1) ≡ is_hit (first_owned skip s owner name))
          → searched lo hi c ≡ is_hit (first_owned skip s owner name)
      go false t o e up down =
          let k = ltb-false lo hi t in
          ap (λ (x : Looked). is_hit x.named) (search_end (standing skip s owner name) l lo hi c k) ∙ sym (missed lo hi k b)
      go true t Less e up down =
          let k = ltb-true lo hi t in
          ap (λ (x : Looked). is_hit x.named) (search_up (standing skip s owner name) l lo hi c k e)
          ∙ up (omega arith) h (λ i m f. (omega (arith, above (middle lo hi) i (λ q. not_before (middle lo hi) i (omega arith) q e f)), (b i m f).1))
      go true t Equal e up down =
          let k = ltb-true lo hi t in
          ap (λ (x : Looked). is_hit x.named) (search_hit (standing skip s owner name) l lo hi c k e) ∙ sym (met (middle lo hi) (omega arith) e)
      go true t Greater e up down =
          let k = ltb-true lo hi t in
          ap (λ (x : Looked). is_hit x.named) (search_down (standing skip s owner name) l lo hi c k e)
          ∙ down (omega arith) (omega arith) (λ i m f. ((b i m f).0, above i (middle lo hi) (λ q. not_behind (middle lo hi) i m q e f)))

-- Over any index, a lookup finds something exactly if the scan does.
pub lookup_hits : (skip : ℕ) (s l : List ℕ) → IndexOf skip s l → (owner : ℕ) (name : List ℕ) → is_hit (lookup skip s l owner name).named ≡ is_hit (first_owned skip s owner name)
lookup_hits skip s l ix owner name =
    ap (λ (x : Looked). is_hit x.named) (lookup_all skip s l owner name)
    ∙ search_hits skip s l ix owner name (length l) 0 (length l) 0 (omega arith) (omega arith) (λ k h e. (omega arith, h))

-- ---- what a name stands for: does its source have a label of the name, and is there one for all files?
abbrev pub standing_hit : (source : ℕ) → (own shared : Bool) → Standing
standing_hit source true shared = Known source
standing_hit source false true = Known for_all
standing_hit source false false = Unknown source

owner_found : (labels : List ℕ) (owner : ℕ) (name : List ℕ) (p : ℕ) → first_owned 4 labels owner name ≡ Some p → owner_of 4 labels p ≡ owner
owner_found labels owner name p e =
    let t = finds_it (is_owned 4 labels owner name) (places labels) p e in
    eqb-true (owner_of 4 labels p) owner ((and-eq-true_iff (eqb (owner_of 4 labels p) owner) (same_bytes (owned_name 4 labels p) name)).0 t).0

pub standing_by_hits : (labels : List ℕ) (source : ℕ) (name : List ℕ)
    → standing_by labels source (labelled labels source name) ≡ standing_hit source (is_hit (first_owned 4 labels source name)) (is_hit (first_owned 4 labels for_all name))
standing_by_hits labels source name = go (first_owned 4 labels source name) refl (first_owned 4 labels for_all name) refl
  where
    go : (x : Option ℕ) → first_owned 4 labels source name ≡ x → (y : Option ℕ) → first_owned 4 labels for_all name ≡ y
        → standing_by labels source (labelled labels source name) ≡ standing_hit source (is_hit (first_owned 4 labels source name)) (is_hit (first_owned 4 labels for_all name))
    go (Some p) e y f =
        ap₂ (λ (a b : Option ℕ). standing_by labels source (or_else a b)) e f
        ∙ ap Known (owner_found labels source name p e)
        ∙ sym (ap₂ (λ (a b : Option ℕ). standing_hit source (is_hit a) (is_hit b)) e f)
    go None e (Some p) f =
        ap₂ (λ (a b : Option ℕ). standing_by labels source (or_else a b)) e f
        ∙ ap Known (owner_found labels for_all name p f)
        ∙ sym (ap₂ (λ (a b : Option ℕ). standing_hit source (is_hit a) (is_hit b)) e f)
    go None e None f =
        ap₂ (λ (a b : Option ℕ). standing_by labels source (or_else a b)) e f ∙ sym (ap₂ (λ (a b : Option ℕ). standing_hit source (is_hit a) (is_hit b)) e f)

-- Laws of a search in an index, step by step: what it finds, and how many names it compares. Assumes nothing.
use Prim.Native.Nat.{ℕ, zero, suc, ◌+◌, ◌-◌, ◌^◌, ◌≤◌, ◌<◌}
use Rattle.std.proofs.Common.{arith, ⊎_elim, sym, ap, ◌∙◌, ltb-true, ltb-false, lt-ltb, le-ltb}
use Rattle.std.proofs.Math.Nat.{two-pow-succ}
use Rattle.std.specs.Prelude.{List, Bool, true, false, ◌≡◌, length, get_or, ltb, None, Some}
use Rattle.std.proofs.Math.Path.{refl}
use Rattle.record.specs.Records.{places}
use Rattle.names.specs.Names.{first_where}
use Rattle.names.specs.Owners.{is_owned, same_owned, first_owned, owned_repeat}
use Rattle.name_order.specs.Order.{Key, key_order}
use Rattle.name_order.proofs.OrderLaws.{never, key_same, key_is}
use Rattle.name_sort.proofs.SortingLaws.{at_in}
use Rattle.name_sort.specs.Before.{key_of}
use Rattle.name_index.specs.declared.Looked.{Looked}
use Rattle.name_index.specs.Index.{IndexOf, middle, search_f, search_from, standing, lookup_from, lookup}
use Rattle.name_index.proofs.PlacesLaws.{none_where, all_first}
use Rattle.name_index.proofs.IndexLaws.{owned_key, is_at_lem, in_index, at_list, key_at, goes, below_before}
use Rattle.std.specs.declared.cmp.Ordering.TheVariants.{Less, Equal, Greater}
use Rattle.std.specs.declared.cmp.Ordering.{Ordering}

from_not : (a b : ℕ) → (b ≤ a → ⊥) → a < b
from_not a b h = go (ltb a b) refl
  where
    go : (t : Bool) → ltb a b ≡ t → a < b
    go true e = ltb-true a b e
    go false e = absurd (h (ltb-false a b e))

-- ---- steps of a search
module _ (stands : ℕ → Ordering) (l : List ℕ) where
  end_f : (f lo hi c : ℕ) → hi ≤ lo → search_f f stands l lo hi c ≡ record { named = None; compared = c; end = lo }
  unfolding search_f
  end_f zero lo hi c h = refl
  end_f (suc f) lo hi c h = rw (le-ltb lo hi h, search_f)

  module _ (f lo hi c : ℕ) (h : lo < hi) where
    up_f : stands (get_or l (middle lo hi) 0) ≡ Less → search_f (suc f) stands l lo hi c ≡ search_f f stands l (middle lo hi + 1) hi (c + 1)
    unfolding search_f
    up_f e = rw (lt-ltb lo hi h, search_f) (rw e)

    hit_f : stands (get_or l (middle lo hi) 0) ≡ Equal → search_f (suc f) stands l lo hi c ≡ record { named = Some (get_or l (middle lo hi) 0); compared = c + 1; end = middle lo hi }
    unfolding search_f
    hit_f e = rw (lt-ltb lo hi h, search_f) (rw e)

    down_f : stands (get_or l (middle lo hi) 0) ≡ Greater → search_f (suc f) stands l lo hi c ≡ search_f f stands l lo (middle lo hi) (c + 1)
    unfolding search_f
    down_f e = rw (lt-ltb lo hi h, search_f) (rw e)

  -- Any fuel gives the same answer, if it is at least the length left.
  same : (f g lo hi c : ℕ) → hi ≤ lo + f → hi ≤ lo + g → search_f f stands l lo hi c ≡ search_f g stands l lo hi c
  same zero g lo hi c hf hg = end_f zero lo hi c (omega arith) ∙ sym (end_f g lo hi c (omega arith))
  same (suc f) zero lo hi c hf hg = end_f (suc f) lo hi c (omega arith) ∙ sym (end_f zero lo hi c (omega arith))
  same (suc f) (suc g) lo hi c hf hg = go (ltb lo hi) refl (stands (get_or l (middle lo hi) 0)) refl
      (same f g (middle lo hi + 1) hi (c + 1)) (same f g lo (middle lo hi) (c + 1))
    where
      go : (b : Bool) → ltb lo hi ≡ b → (o : Ordering) → stands (get_or l (middle lo hi) 0) ≡ o
          → (hi ≤ middle lo hi + 1 + f → hi ≤ middle lo hi + 1 + g → search_f f stands l (middle lo hi + 1) hi (c + 1) ≡ search_f g stands l (middle lo hi + 1) hi (c + 1))
          → (middle lo hi ≤ lo + f → middle lo hi ≤ lo + g → search_f f stands l lo (middle lo hi) (c + 1) ≡ search_f g stands l lo (middle lo hi) (c + 1))
          → search_f (suc f) stands l lo hi c ≡ search_f (suc g) stands l lo hi c
      go false e o eo up down = let h = ltb-false lo hi e in end_f (suc f) lo hi c h ∙ sym (end_f (suc g) lo hi c h)
      go true e Less eo up down =
          let h = ltb-true lo hi e in
          up_f f lo hi c h eo ∙ up (omega arith) (omega arith) ∙ sym (up_f g lo hi c h eo)
      go true e Equal eo up down = let h = ltb-true lo hi e in hit_f f lo hi c h eo ∙ sym (hit_f g lo hi c h eo)
      go true e Greater eo up down =
          let h = ltb-true lo hi e in
          down_f f lo hi c h eo ∙ down (omega arith) (omega arith) ∙ sym (down_f g lo hi c h eo)

  module _ (lo hi c : ℕ) where
    pub search_end : hi ≤ lo → search_from stands l lo hi c ≡ record { named = None; compared = c; end = lo }
    unfolding search_from
    search_end h = end_f (hi - lo) lo hi c h

    module _ (h : lo < hi) where
      more_fuel : search_from stands l lo hi c ≡ search_f (suc (hi - lo)) stands l lo hi c
      unfolding search_from
      more_fuel = same (hi - lo) (suc (hi - lo)) lo hi c (omega arith) (omega arith)

      pub search_up : stands (get_or l (middle lo hi) 0) ≡ Less → search_from stands l lo hi c ≡ search_from stands l (middle lo hi + 1) hi (c + 1)
      unfolding search_from
      search_up e = more_fuel ∙ up_f (hi - lo) lo hi c h e ∙ same (hi - lo) (hi - (middle lo hi + 1)) (middle lo hi + 1) hi (c + 1) (omega arith) (omega arith)

      pub search_hit : stands (get_or l (middle lo hi) 0) ≡ Equal → search_from stands l lo hi c ≡ record { named = Some (get_or l (middle lo hi) 0); compared = c + 1; end = middle lo hi }
      search_hit e = more_fuel ∙ hit_f (hi - lo) lo hi c h e

      pub search_down : stands (get_or l (middle lo hi) 0) ≡ Greater → search_from stands l lo hi c ≡ search_from stands l lo (middle lo hi) (c + 1)
      unfolding search_from
      search_down e = more_fuel ∙ down_f (hi - lo) lo hi c h e ∙ same (hi - lo) (middle lo hi - lo) lo (middle lo hi) (c + 1) (omega arith) (omega arith)

pub lookup_from_lem : (skip : ℕ) (s l : List ℕ) (owner : ℕ) (name : List ℕ) (c : ℕ) → lookup_from skip s l owner name c ≡ search_from (standing skip s owner name) l 0 (length l) c
unfolding lookup_from
lookup_from_lem skip s l owner name c = refl

pub lookup_first : (skip : ℕ) (s l : List ℕ) (owner : ℕ) (name : List ℕ) → lookup skip s l owner name ≡ lookup_from skip s l owner name 0
unfolding lookup
lookup_first skip s l owner name = refl

pub lookup_all : (skip : ℕ) (s l : List ℕ) (owner : ℕ) (name : List ℕ) → lookup skip s l owner name ≡ search_from (standing skip s owner name) l 0 (length l) 0
lookup_all skip s l owner name = lookup_first skip s l owner name ∙ lookup_from_lem skip s l owner name 0

-- ---- what is found
module _ (skip : ℕ) (s l : List ℕ) (ix : IndexOf skip s l) (owner : ℕ) (name : List ℕ) where
  -- Records with this owner and name stand from lo on and before hi.
  abbrev Between : ℕ → ℕ → Type 0
  Between lo hi = (k : ℕ) → k < length l → key_at skip s l ix k ≡ (name, owner) → (lo ≤ k) × (k < hi)

  -- Such a record compares Equal. So none stands at or before a record that is less, nor at or behind one that is greater.
  not_at : (k : ℕ) → key_at skip s l ix k ≡ (name, owner) → standing skip s owner name (get_or l k 0) ≡ Equal
  not_at k e = ap (λ (x : Key). key_order x (name, owner)) e ∙ key_same (name, owner)

  not_before : (m k : ℕ) → m < length l → k ≤ m → standing skip s owner name (get_or l m 0) ≡ Less → key_at skip s l ix k ≡ (name, owner) → ⊥
  not_before m k h n o e = go (ltb k m) refl
    where
      go : (b : Bool) → ltb k m ≡ b → ⊥
      go true t =
          let z = below_before skip s l ix (name, owner) k m (ltb-true k m t) h o in
          let w = not_at k e in
          never (cc)
      go false t =
          let q : k ≡ m = let v = ltb-false k m t in omega arith in
          let z : standing skip s owner name (get_or l k 0) ≡ Less = ap (λ (i : ℕ). standing skip s owner name (get_or l i 0)) q ∙ o in
          let w = not_at k e in
          never (cc)

  not_behind : (m k : ℕ) → k < length l → m ≤ k → standing skip s owner name (get_or l m 0) ≡ Greater → key_at skip s l ix k ≡ (name, owner) → ⊥
  not_behind m k h n o e = go (ltb m k) refl
    where
      go : (b : Bool) → ltb m k ≡ b → ⊥
      go true t =
          ⊎_elim
          (λ z. let w : standing skip s owner name (get_or l m 0) ≡ Less = ap (key_order (key_at skip s l ix m)) (sym e) ∙ z in never (cc))
          (λ z. let w = not_at m (z.0 ∙ e) in never (cc))
          (goes skip s l ix m k (ltb-true m k t) h)
      go false t =
          let q : k ≡ m = let v = ltb-false m k t in omega arith in
          let z : standing skip s owner name (get_or l k 0) ≡ Greater = ap (λ (i : ℕ). standing skip s owner name (get_or l i 0)) q ∙ o in
          let w = not_at k e in
          never (cc)

  missing : (lo hi : ℕ) → hi ≤ lo → Between lo hi → first_owned skip s owner name ≡ None
  missing lo hi h b = none_where (is_owned skip s owner name) (places s) λ q m t.
      let r = at_in l q (in_index skip s l ix q m) in
      let k = b r.0 r.1 (ap (key_of skip s) r.2 ∙ owned_key skip s owner name q t) in
      absurd (omega (arith, k))

  module _ (none : owned_repeat skip s ≡ None) where
    -- No other record has the same owner and name.
    pub only : (k : ℕ) → k < length l → key_at skip s l ix k ≡ (name, owner) → first_owned skip s owner name ≡ Some (get_or l k 0)
    only k h e =
        let p = get_or l k 0 in
        let f = is_at_lem (first_where (same_owned skip s p) (places s)) p (all_first (same_owned skip s) (places s) (places s) none p (at_list skip s l ix k h)) in
        ap (λ (x : Key). first_owned skip s x.1 x.0) (sym e) ∙ f

    pub found : (n lo hi c : ℕ) → hi ≤ lo + n → hi ≤ length l → Between lo hi → (search_from (standing skip s owner name) l lo hi c).named ≡ first_owned skip s owner name
    found zero lo hi c a h b = ap (λ (x : Looked). x.named) (search_end (standing skip s owner name) l lo hi c (omega arith)) ∙ sym (missing lo hi (omega arith) b)
    found (suc n) lo hi c a h b = go (ltb lo hi) refl (standing skip s owner name (get_or l (middle lo hi) 0)) refl
        (found n (middle lo hi + 1) hi (c + 1)) (found n lo (middle lo hi) (c + 1))
      where
        go : (t : Bool) → ltb lo hi ≡ t → (o : Ordering) → standing skip s owner name (get_or l (middle lo hi) 0) ≡ o
            → (hi ≤ middle lo hi + 1 + n → hi ≤ length l → Between (middle lo hi + 1) hi → (search_from (standing skip s owner name) l (middle lo hi + 1) hi (c + 1)).named ≡ first_owned skip s owner name)
            → (middle lo hi ≤ lo + n → middle lo hi ≤ length l → Between lo (middle lo hi) → (search_from (standing skip s owner name) l lo (middle lo hi) (c + 1)).named ≡ first_owned skip s owner name)
            → (search_from (standing skip s owner name) l lo hi c).named ≡ first_owned skip s owner name
        go false t o e up down =
            let k = ltb-false lo hi t in
            ap (λ (x : Looked). x.named) (search_end (standing skip s owner name) l lo hi c k) ∙ sym (missing lo hi k b)
        go true t Less e up down =
            let k = ltb-true lo hi t in
            ap (λ (x : Looked). x.named) (search_up (standing skip s owner name) l lo hi c k e)
            ∙ up (omega arith) h (λ i m f. (omega (arith, from_not (middle lo hi) i (λ q. not_before (middle lo hi) i (omega arith) q e f)), (b i m f).1))
        go true t Equal e up down =
            let k = ltb-true lo hi t in
            ap (λ (x : Looked). x.named) (search_hit (standing skip s owner name) l lo hi c k e) ∙ sym (only (middle lo hi) (omega arith) (key_is (key_at skip s l ix (middle lo hi)) (name, owner) e))
        go true t Greater e up down =
            let k = ltb-true lo hi t in
            ap (λ (x : Looked). x.named) (search_down (standing skip s owner name) l lo hi c k e)
            ∙ down (omega arith) (omega arith) (λ i m f. ((b i m f).0, from_not i (middle lo hi) (λ q. not_behind (middle lo hi) i m q e f)))

-- ---- how many names are compared: what is left is halved
pub halved : (stands : ℕ → Ordering) (l : List ℕ) (n lo hi c : ℕ) → hi - lo < 2 ^ n → (search_from stands l lo hi c).compared ≤ c + n
halved stands l zero lo hi c h = rw (search_end stands l lo hi c (omega arith)) (omega arith)
halved stands l (suc n) lo hi c h = go (ltb lo hi) refl (stands (get_or l (middle lo hi) 0)) refl
    (halved stands l n (middle lo hi + 1) hi (c + 1)) (halved stands l n lo (middle lo hi) (c + 1))
  where
    go : (t : Bool) → ltb lo hi ≡ t → (o : Ordering) → stands (get_or l (middle lo hi) 0) ≡ o
        → (hi - (middle lo hi + 1) < 2 ^ n → (search_from stands l (middle lo hi + 1) hi (c + 1)).compared ≤ c + 1 + n)
        → (middle lo hi - lo < 2 ^ n → (search_from stands l lo (middle lo hi) (c + 1)).compared ≤ c + 1 + n)
        → (search_from stands l lo hi c).compared ≤ c + suc n
    go false t o e up down = rw (search_end stands l lo hi c (ltb-false lo hi t)) (omega arith)
    go true t Less e up down =
        let k = ltb-true lo hi t in
        let m = up (omega (arith, two-pow-succ n)) in
        rw (search_up stands l lo hi c k e) (omega arith)
    go true t Equal e up down = rw (search_hit stands l lo hi c (ltb-true lo hi t) e) (omega arith)
    go true t Greater e up down =
        let k = ltb-true lo hi t in
        let m = down (omega (arith, two-pow-succ n)) in
        rw (search_down stands l lo hi c k e) (omega arith)

-- A lookup in an index finds what the straight scan finds. It compares at most one name per halving of the index (document 02, P13). Assumes nothing.
use Rattle.std.specs.Prelude.{ℕ, ◌+◌, ◌^◌, ◌≤◌, ◌<◌, List, Bool, true, false, ◌≡◌, refl, length, get_or, eqb, None, Some}
use Rattle.std.proofs.Common.{arith, ap, ◌∙◌, eq-eqb, ne_eqb}
use Rattle.record.specs.Bytes.{same_bytes}
use Rattle.names.specs.Owners.{owner_of, owned_name, is_owned, first_owned, owned_repeat}
use Rattle.name_index.specs.declared.Looked.{Looked}
use Rattle.name_index.specs.Index.{IndexOf, standing, lookup_from, told}
use Rattle.name_index.proofs.IndexLaws.{owned_key}
use Rattle.name_index.proofs.SearchLaws.{lookup_from_lem, only, found, halved}

-- "prove it equal to the straight scan on every label list not refused, name and source"
pub lookup_is_scan : (skip : ℕ) (s l : List ℕ) → IndexOf skip s l → owned_repeat skip s ≡ None
    → (owner : ℕ) (name : List ℕ) (c : ℕ) → (lookup_from skip s l owner name c).named ≡ first_owned skip s owner name
lookup_is_scan skip s l ix none owner name c =
    ap (λ (x : Looked). x.named) (lookup_from_lem skip s l owner name c)
    ∙ found skip s l ix owner name none (length l) 0 (length l) c (omega arith) (omega arith) (λ k h e. (omega arith, h))

-- "its count of name comparisons, at most 32": one lookup for the owner's own labels, then one for the shared labels.
pub lookup_count : (n skip : ℕ) (s l : List ℕ) → length l < 2 ^ n → (owner : ℕ) (name : List ℕ) (c : ℕ) → (lookup_from skip s l owner name c).compared ≤ c + n
lookup_count n skip s l h owner name c =
    let k = halved (standing skip s owner name) l n 0 (length l) c (omega arith) in
    rw (lookup_from_lem skip s l owner name c) (omega arith)

-- ---- the answer for one record
module _ (skip : ℕ) (s : List ℕ) (owner : ℕ) (name : List ℕ) (p c : ℕ) where
  pub told_here : owner_of skip s p ≡ owner → told skip s owner name p c ≡ record { same = same_bytes (owned_name skip s p) name; compared = c + 1 }
  told_here e = rw (eq-eqb (owner_of skip s p) owner e, told)

  pub told_other : (owner_of skip s p ≡ owner → ⊥) → told skip s owner name p c ≡ record { same = false; compared = c }
  told_other n = rw (ne_eqb (owner_of skip s p) owner n, told)

  pub told_same : (told skip s owner name p c).same ≡ is_owned skip s owner name p
  told_same = go (eqb (owner_of skip s p) owner) refl
    where
      go : (b : Bool) → eqb (owner_of skip s p) owner ≡ b → (told skip s owner name p c).same ≡ is_owned skip s owner name p
      go true e = rw (e, told)
      go false e = rw (e, told)

  -- the count grows by at most one
  pub told_count : (told skip s owner name p c).compared ≤ c + 1
  told_count = go (eqb (owner_of skip s p) owner) refl
    where
      go : (b : Bool) → eqb (owner_of skip s p) owner ≡ b → (told skip s owner name p c).compared ≤ c + 1
      go true e = rw (e, told) (omega arith)
      go false e = rw (e, told) (omega arith)

-- The index holds a record with this owner and name: the scan finds the same record.
pub owned_at : (skip : ℕ) (s l : List ℕ) → IndexOf skip s l → owned_repeat skip s ≡ None
    → (owner : ℕ) (name : List ℕ) (i : ℕ) → i < length l → is_owned skip s owner name (get_or l i 0) ≡ true → first_owned skip s owner name ≡ Some (get_or l i 0)
owned_at skip s l ix none owner name i h t = only skip s l ix owner name none i h (owned_key skip s owner name (get_or l i 0) t)

-- A line's patches begin where the data ended before it, or later, and lie inside the data with its words. Assumes nothing.
use Rattle.std.specs.Prelude.{ℕ, ◌+◌, ◌*◌, ◌≤◌, ◌≡◌, refl, ◌⊎◌, length, None, Option, Some}
use Rattle.std.proofs.Common.{arith, inl, inr}
use mathlib.Core.List.Memᴰ
use mathlib.Core.List.{List, [], ◌∷◌, ◌++◌, map, Memᴰ}
use Rattle.pending.specs.declared.Origin.{Origin}
use Rattle.emit_pairs.specs.declared.InstructionPair.{InstructionPair}
use Rattle.routine.specs.PatchValues.{Patch, origin_at, pair_patches, patches_from}
use Rattle.routine.specs.Run.{Each}
use Rattle.pending.specs.declared.InstructionLabel.{InstructionLabel}

module _ {A : Type 0} where
  pub each_append : (P : A → Type 0) (xs ys : List A) → Each P xs → Each P ys → Each P (xs ++ ys)
  each_append P [] ys h k = k
  each_append P (x ∷ xs) ys h k = (h.0, each_append P xs ys h.1 k)

  pub each_so : (P Q : A → Type 0) → ((x : A) → P x → Q x) → (xs : List A) → Each P xs → Each Q xs
  each_so P Q f [] h = tt
  each_so P Q f (x ∷ xs) h = (f x h.0, each_so P Q f xs h.1)

-- A claim on each mapped value holds for each member of the list.
pub each_mem : {A : Type 0} (P : A → Type 0) (f : ℕ → A) (xs : List ℕ) (q : ℕ) → Each P (map f xs) → Memᴰ q xs → P (f q)
each_mem P f [] q e m = elim m [ ]
each_mem P f (x ∷ xs) q e m = go (Memᴰ.cases_cons m) (each_mem P f xs q e.1)
  where
    go : (q ≡ x) ⊎ Memᴰ q xs → (Memᴰ q xs → P (f q)) → P (f q)
    go (inl s) ih = rw s e.0
    go (inr t) ih = ih t

-- A patch of the region that ends at `end` or before.
abbrev pub Before : (region end : ℕ) → Patch → Type 0
Before region end p = (p.region ≡ region) × (p.offset + 4 ≤ end)

one_before : (token_list : List ℕ) (word : Origin) (end : ℕ) (waits : Option InstructionLabel) → word.offset + 4 ≤ end → Each (Before word.region end) (pair_patches token_list word waits)
one_before token_list word end None h = tt
one_before token_list word end (Some waits) h = ((refl, h), tt)

pub patches_before : (token_list : List ℕ) (origin : Origin) (i end : ℕ) (ps : List InstructionPair) → origin.offset + 4 * (i + length ps) ≤ end
    → Each (Before origin.region end) (patches_from token_list origin i ps)
unfolding patches_from
patches_before token_list origin i end [] h = tt
patches_before token_list origin i end (p ∷ ps) h =
    each_append (Before origin.region end) (pair_patches token_list (origin_at origin i) p.label) (patches_from token_list origin (i + 1) ps)
    (one_before token_list (origin_at origin i) end p.label (omega arith)) (patches_before token_list origin (i + 1) end ps (omega arith))

-- A patch of the region that begins at `offset` or later.
abbrev pub Behind : (region offset : ℕ) → Patch → Type 0
Behind region offset p = (p.region ≡ region) × (offset ≤ p.offset)

one_behind : (token_list : List ℕ) (word : Origin) (offset : ℕ) (waits : Option InstructionLabel) → offset ≤ word.offset → Each (Behind word.region offset) (pair_patches token_list word waits)
one_behind token_list word offset None h = tt
one_behind token_list word offset (Some waits) h = ((refl, h), tt)

pub patches_behind : (token_list : List ℕ) (origin : Origin) (i offset : ℕ) (ps : List InstructionPair) → offset ≤ origin.offset + 4 * i
    → Each (Behind origin.region offset) (patches_from token_list origin i ps)
unfolding patches_from
patches_behind token_list origin i offset [] h = tt
patches_behind token_list origin i offset (p ∷ ps) h =
    each_append (Behind origin.region offset) (pair_patches token_list (origin_at origin i) p.label) (patches_from token_list origin (i + 1) ps)
    (one_behind token_list (origin_at origin i) offset p.label h) (patches_behind token_list origin (i + 1) offset ps (omega arith))

-- The label that is shown at a pc: a label of the list with that address, and of all those the smallest by bytes; nothing where no label has it.
-- Assumes nothing.
use Rattle.std.specs.Prelude.{ℕ, ◌+◌, ◌⊎◌, Bool, true, false, ◌≡◌, eqb}
use Rattle.std.proofs.Common.{arith, inl, inr, sym, ◌∙◌, eq-eqb, eqb-true}
use mathlib.Core.List.Memᴰ
use mathlib.Core.List.{List, [], ◌∷◌, Memᴰ}
use Rattle.std.proofs.Math.Path.{refl, ap}
use Rattle.record.specs.Bytes.{le32}
use Rattle.record.specs.Records.{places}
use Rattle.names.specs.Owners.{owned_name}
use Rattle.name_order.specs.Order.{order, then_by}
use Rattle.name_order.proofs.OrderLaws.{same_is, key_turned, key_trans, turned}
use Rattle.page_outcome.specs.Page.{blanks, columns, cut, names_at, smaller, smallest, shown, label_at}
use Rattle.std.specs.declared.cmp.Ordering.TheVariants.{Less, Equal, Greater}
use Rattle.std.specs.declared.cmp.Ordering.{Ordering}

-- One name is the other, or goes before it.
abbrev pub AtMost : List ℕ → List ℕ → Type 0
AtMost a b = (a ≡ b) ⊎ (order a b ≡ Less)

-- p is a label of the list with that address
pub record Stands (labels : List ℕ) (pc p : ℕ) : Type 0 where
  pub listed : Memᴰ p (places labels)
  pub there : le32 labels (p + 4) ≡ pc

-- The name belongs to such a label, and no such label has a smaller name.
pub record Smallest (labels : List ℕ) (pc : ℕ) (name : List ℕ) : Type 0 where
  pub place : ℕ
  pub stands : Stands labels pc place
  pub named : owned_name 4 labels place ≡ name
  pub least : (q : ℕ) → Stands labels pc q → AtMost name (owned_name 4 labels q)

-- ---- the order of names, from that of names with owners
then_same : (o : Ordering) → then_by o Equal ≡ o
then_same Less = refl
then_same Equal = refl
then_same Greater = refl

turn : (a b : List ℕ) → order b a ≡ Greater → order a b ≡ Less
turn a b e =
    let k = key_turned (b, 0) (a, 0) in
    sym (then_same (order a b)) ∙ k ∙ ap turned (then_same (order b a) ∙ e)

most_trans : (a b c : List ℕ) → AtMost a b → AtMost b c → AtMost a c
most_trans a b c (inl e) h = rw e h
most_trans a b c (inr e) (inl f) = inr (rw f at e)
most_trans a b c (inr e) (inr f) =
    inr (sym (then_same (order a c)) ∙ key_trans (a, 0) (b, 0) (c, 0) (then_same (order a b) ∙ e) (then_same (order b c) ∙ f))

record Smaller (a b c : List ℕ) : Type 0 where
  one : (c ≡ a) ⊎ (c ≡ b)
  first : AtMost c a
  second : AtMost c b

smaller_is : (a b : List ℕ) → Smaller a b (smaller a b)
unfolding smaller
smaller_is a b = go (order b a) refl
  where
    go : (o : Ordering) → order b a ≡ o → Smaller a b (smaller a b)
    go Less e =
        let s : smaller a b ≡ b = rw (e, smaller) in
        rw s (record { one = inr refl; first = inr e; second = inl refl })
    go Equal e =
        let s : smaller a b ≡ a = rw (e, smaller) in
        rw s (record { one = inl refl; first = inl refl; second = inl (sym (same_is b a e)) })
    go Greater e =
        let s : smaller a b ≡ a = rw (e, smaller) in
        rw s (record { one = inl refl; first = inl refl; second = inr (turn a b e) })

-- ---- the smallest of names
smallest_most : (a : List ℕ) (bs : List (List ℕ)) → AtMost (smallest a bs) a
unfolding smallest
smallest_most a [] = inl refl
smallest_most a (b ∷ bs) = most_trans _ (smaller a b) a (smallest_most (smaller a b) bs) (smaller_is a b).first

smallest_each : (a : List ℕ) (bs : List (List ℕ)) (c : List ℕ) → Memᴰ c bs → AtMost (smallest a bs) c
unfolding smallest
smallest_each a [] c m = absurd (Memᴰ.not-nil m)
smallest_each a (b ∷ bs) c m = go (Memᴰ.cases_cons m) (smallest_each (smaller a b) bs c)
  where
    go : (c ≡ b) ⊎ Memᴰ c bs → (Memᴰ c bs → AtMost (smallest (smaller a b) bs) c) → AtMost (smallest (smaller a b) bs) c
    go (inl e) ih = rw e (most_trans _ (smaller a b) b (smallest_most (smaller a b) bs) (smaller_is a b).second)
    go (inr t) ih = ih t

smallest_mem : (a : List ℕ) (bs : List (List ℕ)) → (smallest a bs ≡ a) ⊎ Memᴰ (smallest a bs) bs
unfolding smallest
smallest_mem a [] = inl refl
smallest_mem a (b ∷ bs) = go (smallest_mem (smaller a b) bs) (smaller_is a b).one
  where
    go : (smallest (smaller a b) bs ≡ smaller a b) ⊎ Memᴰ (smallest (smaller a b) bs) bs → (smaller a b ≡ a) ⊎ (smaller a b ≡ b)
        → (smallest (smaller a b) bs ≡ a) ⊎ Memᴰ (smallest (smaller a b) bs) (b ∷ bs)
    go (inl e) (inl f) = inl (e ∙ f)
    go (inl e) (inr f) = inr (Memᴰ.head (e ∙ f))
    go (inr t) f = inr (Memᴰ.tail t)

-- ---- the names at a pc
record From (labels : List ℕ) (pc : ℕ) (name : List ℕ) (ps : List ℕ) : Type 0 where
  place : ℕ
  listed : Memᴰ place ps
  there : le32 labels (place + 4) ≡ pc
  named : owned_name 4 labels place ≡ name

module _ (labels : List ℕ) (pc : ℕ) where
  at_here : (p : ℕ) (ps : List ℕ) → eqb (le32 labels (p + 4)) pc ≡ true → names_at labels pc (p ∷ ps) ≡ owned_name 4 labels p ∷ names_at labels pc ps
  unfolding names_at
  at_here p ps e = rw (e, names_at)

  at_other : (p : ℕ) (ps : List ℕ) → eqb (le32 labels (p + 4)) pc ≡ false → names_at labels pc (p ∷ ps) ≡ names_at labels pc ps
  unfolding names_at
  at_other p ps e = rw (e, names_at)

  names_to : (ps : List ℕ) (p : ℕ) → Memᴰ p ps → le32 labels (p + 4) ≡ pc → Memᴰ (owned_name 4 labels p) (names_at labels pc ps)
  names_to [] p m e = absurd (Memᴰ.not-nil m)
  names_to (q ∷ qs) p m e = go (eqb (le32 labels (q + 4)) pc) refl (Memᴰ.cases_cons m) (names_to qs p)
    where
      go : (b : Bool) → eqb (le32 labels (q + 4)) pc ≡ b → (p ≡ q) ⊎ Memᴰ p qs
          → (Memᴰ p qs → le32 labels (p + 4) ≡ pc → Memᴰ (owned_name 4 labels p) (names_at labels pc qs))
          → Memᴰ (owned_name 4 labels p) (names_at labels pc (q ∷ qs))
      go true f (inl s) ih = rw (at_here q qs f) (Memᴰ.head (ap (owned_name 4 labels) s))
      go true f (inr t) ih = rw (at_here q qs f) (Memᴰ.tail (ih t e))
      go false f (inl s) ih =
          let g : le32 labels (q + 4) ≡ pc = sym (ap (λ (i : ℕ). le32 labels (i + 4)) s) ∙ e in
          let t = eq-eqb (le32 labels (q + 4)) pc g in
          let z : ◌≡◌ {A = ℕ} 0 1 = cc in
          absurd (omega arith)
      go false f (inr t) ih = rw (at_other q qs f) (ih t e)

  names_from : (ps : List ℕ) (name : List ℕ) → Memᴰ name (names_at labels pc ps) → From labels pc name ps
  unfolding names_at
  names_from [] name m = absurd (Memᴰ.not-nil m)
  names_from (q ∷ qs) name m = go (eqb (le32 labels (q + 4)) pc) refl (names_from qs name)
    where
      more : From labels pc name qs → From labels pc name (q ∷ qs)
      more f = record { place = f.place; listed = Memᴰ.tail f.listed; there = f.there; named = f.named }

      first : eqb (le32 labels (q + 4)) pc ≡ true → (name ≡ owned_name 4 labels q) ⊎ Memᴰ name (names_at labels pc qs)
          → (Memᴰ name (names_at labels pc qs) → From labels pc name qs) → From labels pc name (q ∷ qs)
      first e (inl s) ih = record { place = q; listed = Memᴰ.head refl; there = eqb-true (le32 labels (q + 4)) pc e; named = sym s }
      first e (inr t) ih = more (ih t)

      go : (b : Bool) → eqb (le32 labels (q + 4)) pc ≡ b → (Memᴰ name (names_at labels pc qs) → From labels pc name qs) → From labels pc name (q ∷ qs)
      go true e ih = first e (Memᴰ.cases_cons (rw (at_here q qs e) at m)) ih
      go false e ih = more (ih (rw (at_other q qs e) at m))

  -- "Of several labels at a pc, the smallest by bytes is shown."
  pub shown_smallest : (p : ℕ) → Stands labels pc p → Smallest labels pc (label_at labels pc)
  unfolding label_at
  shown_smallest p s = go (names_at labels pc (places labels)) refl
    where
      go : (names : List (List ℕ)) → names_at labels pc (places labels) ≡ names → Smallest labels pc (shown (names_at labels pc (places labels)))
      go [] e = absurd (Memᴰ.not-nil (rw e at (names_to (places labels) p s.listed s.there)))
      go (a ∷ bs) e = rw e (made (names_from (places labels) (smallest a bs) (rw e (mem (smallest_mem a bs)))))
        where
          mem : (smallest a bs ≡ a) ⊎ Memᴰ (smallest a bs) bs → Memᴰ (smallest a bs) (a ∷ bs)
          mem (inl h) = Memᴰ.head h
          mem (inr t) = Memᴰ.tail t

          at_most : (c : List ℕ) → (c ≡ a) ⊎ Memᴰ c bs → AtMost (smallest a bs) c
          at_most c (inl h) = rw h (smallest_most a bs)
          at_most c (inr t) = smallest_each a bs c t

          made : From labels pc (smallest a bs) (places labels) → Smallest labels pc (smallest a bs)
          made f =
              record {
                place = f.place;
                stands = record { listed = f.listed; there = f.there };
                named = f.named;
                least = λ q t. at_most (owned_name 4 labels q) (Memᴰ.cases_cons (rw e at (names_to (places labels) q t.listed t.there)));
              }

  -- where no label has the address, nothing is shown
  pub shown_none : ((p : ℕ) → Stands labels pc p → ◌≡◌ {A = ℕ} 0 1) → label_at labels pc ≡ []
  unfolding label_at
  shown_none h = go (names_at labels pc (places labels)) refl
    where
      go : (names : List (List ℕ)) → names_at labels pc (places labels) ≡ names → shown (names_at labels pc (places labels)) ≡ []
      go [] e = ap shown e
      go (a ∷ bs) e =
          let f = names_from (places labels) a (rw e (Memᴰ.head refl)) in
          let z = h f.place (record { listed = f.listed; there = f.there }) in
          absurd (omega arith)

  -- and the label's columns are blank
  pub shown_blank : ((p : ℕ) → Stands labels pc p → ◌≡◌ {A = ℕ} 0 1) → columns 20 (cut (label_at labels pc)) ≡ blanks 20
  shown_blank h = ap (λ (name : List ℕ). columns 20 (cut name)) (shown_none h)

-- Filling the slots: the labels of an index go in from last to first, so the smallest name is put in last. Assumes nothing.
use Rattle.std.specs.Prelude.{◌≡◌, ℕ, zero, suc, ◌+◌, ◌-◌, ◌*◌, ◌<◌, ◌≤◌, Bool, true, false, List, [], ◌∷◌, length, ◌==◌, ◌≢◌, slice_index, slice_index_or, slice_set, refl, None, take}
use Rattle.std.specs.List.{push}
use Rattle.std.proofs.lemmas.List.{length_push, get_or_push, get_or-take, take-take}
use Rattle.std.proofs.Common.{add-one, arith, ⊎_elim, sym, ap, ◌∙◌, subst, get_or-set_same, get_or-set_other, below_more, eqb-true, length-take, take_at}
use mathlib.Core.List.Memᴰ
use mathlib.Core.List.{Memᴰ}
use Rattle.std.proofs.lemmas.Bool.{eqb-false}
use Rattle.record.specs.Bytes.{le32}
use Rattle.record.specs.Records.{places}
use Rattle.names.specs.Owners.{owned_name, owner_of, has_owned_name}
use Rattle.name_order.specs.Order.{then_by, numbers, order, Key, key_order}
use Rattle.name_order.proofs.OrderLaws.{never, key_same, key_trans}
use Rattle.name_sort.specs.Sorting.{In}
use Rattle.name_sort.proofs.SortingLaws.{in_head, in_tail, in_cons, not_in, at_in}
use Rattle.name_index.specs.Index.{IndexOf}
use Rattle.name_index.proofs.IndexLaws.{in_index, at_list, named_at, key_at, goes}
use Rattle.name_index.proofs.PlacesLaws.{all_ok}
use Rattle.labels.specs.Labels.{label_ok, label_layout}
use Rattle.labels.proofs.LabelsLaws.{LabelIs, label_is, labels_good, labels_named}
use Rattle.page_outcome.specs.Page.{label_at}
use Rattle.page_outcome.proofs.Shown.{Stands, shown_smallest, shown_none}
use Rattle.page_labels.specs.Slots.{SlotOk, name_in, pc_of, WordOf, Empty, Shows}
use Rattle.std.specs.declared.cmp.Ordering.TheVariants.{Less}
use Rattle.std.specs.declared.cmp.Ordering.{Ordering}

-- ---- a slot that is not 0
pub slot_named : (labels : List ℕ) (slot : ℕ) → 0 < slot → SlotOk labels slot → has_owned_name 4 labels (slot - 1) ≡ true
slot_named labels zero h s = absurd (omega arith)
slot_named labels (suc p) h s = let q : suc p - 1 ≡ p = omega arith in rw q s

pub slot_name : (labels : List ℕ) (slot : ℕ) → 0 < slot → name_in labels slot ≡ owned_name 4 labels (slot - 1)
slot_name labels zero h = absurd (omega arith)
slot_name labels (suc p) h = let q : suc p - 1 ≡ p = omega arith in ap (owned_name 4 labels) (sym q)

-- ---- slots that are emptied
pub empty_next : (slots : List ℕ) (i : ℕ) → i < length slots → Empty i slots → Empty (i + 1) (slice_set slots i 0)
empty_next slots i h e = below_more _ i (λ (k : ℕ) (n : k < i). get_or-set_other slots i k 0 0 (λ q. omega arith) ∙ e k n) (get_or-set_same slots i 0 0 h)

-- ---- the places of a list, in two forms
mem_in : (l : List ℕ) (p : ℕ) → Memᴰ p l → In p l
mem_in [] p m = absurd (Memᴰ.not-nil m)
mem_in (x ∷ l) p m = ⊎_elim (λ (e : p ≡ x). rw e (in_head x l)) (λ t. in_tail p x l (mem_in l p t)) (Memᴰ.cases_cons m)

in_mem : (l : List ℕ) (p : ℕ) → In p l → Memᴰ p l
in_mem [] p h = absurd (not_in p h)
in_mem (x ∷ l) p h = ⊎_elim (λ e. Memᴰ.head e) (λ t. Memᴰ.tail (in_mem l p t)) (in_cons p x l h)

-- ---- a pc's slot after the labels from i of the index on: empty, or the first of them with that address
abbrev address_at : (labels l : List ℕ) (k : ℕ) → ℕ
address_at labels l k = le32 labels (slice_index l k + 4)

pub data Slot (labels l : List ℕ) (pc i slot : ℕ) : Type 0 where
  none : slot ≡ 0 → ((k : ℕ) → i ≤ k → k < length l → address_at labels l k ≢ pc) → Slot labels l pc i slot
  has : (m : ℕ) → m < length l → slot ≡ slice_index l m + 1 → address_at labels l m ≡ pc → ((k : ℕ) → i ≤ k → k < length l → address_at labels l k ≡ pc → m ≤ k) → Slot labels l pc i slot

pub record Slotted (labels l : List ℕ) (address size : ℕ) (slots : List ℕ) (i : ℕ) : Type 0 where
  pub within : i ≤ length l
  pub each : (j : ℕ) → 4 * j < size → Slot labels l (pc_of address j) i (slice_index slots j)

module _ (labels l : List ℕ) (g : label_layout labels ≡ None) (ix : IndexOf 4 labels l) where
  pub label_at_lem : (i : ℕ) → i < length l → LabelIs labels (slice_index l i)
  label_at_lem i h = label_is labels (slice_index l i) (all_ok (label_ok labels) (places labels) (labels_good labels g) (slice_index l i) (at_list 4 labels l ix i h))

  stands : (k pc : ℕ) → k < length l → address_at labels l k ≡ pc → Stands labels pc (slice_index l k)
  stands k pc h e = record { listed = in_mem (places labels) (slice_index l k) (at_list 4 labels l ix k h); there = e }

  -- A label of the list stands somewhere in the index.
  found : (pc p : ℕ) → Stands labels pc p → (k : ℕ) × (k < length l) × (slice_index l k ≡ p)
  found pc p s = at_in l p (in_index 4 labels l ix p (mem_in (places labels) p s.listed))

  -- Of two labels, the earlier one in the index has no larger name.
  not_larger : (m k : ℕ) → m ≤ k → k < length l → order (owned_name 4 labels (slice_index l k)) (owned_name 4 labels (slice_index l m)) ≡ Less → ◌≡◌ {A = ℕ} 0 1
  not_larger m k h n o = go (m == k) refl
    where
      a : Key
      a = key_at 4 labels l ix m

      less : key_order (key_at 4 labels l ix k) a ≡ Less
      less = ap (λ (x : Ordering). then_by x (numbers (owner_of 4 labels (slice_index l k)) (owner_of 4 labels (slice_index l m)))) o

      irreflexive : key_order a a ≡ Less → ◌≡◌ {A = ℕ} 0 1
      irreflexive e = let s = key_same a in cc

      go : (b : Bool) → (m == k) ≡ b → ◌≡◌ {A = ℕ} 0 1
      go true e = irreflexive (ap (λ (i : ℕ). key_order (key_at 4 labels l ix i) a) (eqb-true m k e) ∙ less)
      go false e =
          let d = eqb-false m k e in
          ⊎_elim
          (λ f. irreflexive (key_trans a (key_at 4 labels l ix k) a f less))
          (λ f. irreflexive (ap (λ (x : Key). key_order x a) f.0 ∙ less))
          (goes 4 labels l ix m k (omega (arith, d)) n)

  -- So the first label with an address is the one shown.
  first_shown : (m pc : ℕ) → m < length l → address_at labels l m ≡ pc → ((k : ℕ) → k < length l → address_at labels l k ≡ pc → m ≤ k)
      → owned_name 4 labels (slice_index l m) ≡ label_at labels pc
  first_shown m pc h e least =
      let s = shown_smallest labels pc (slice_index l m) (stands m pc h e) in
      let f = found pc s.place s.stands in
      let t = ap (λ (p : ℕ). le32 labels (p + 4)) f.2 ∙ s.stands.there in
      let n : owned_name 4 labels (slice_index l f.0) ≡ label_at labels pc = ap (owned_name 4 labels) f.2 ∙ s.named in
      ⊎_elim
      (λ q. sym q)
      (λ o. never (not_larger m f.0 (least f.0 f.1 t) f.1 (ap (λ (x : List ℕ). order x (owned_name 4 labels (slice_index l m))) n ∙ o)))
      (s.least (slice_index l m) (stands m pc h e))

  slot_shows : (pc slot : ℕ) → Slot labels l pc 0 slot → (name_in labels slot ≡ label_at labels pc) × SlotOk labels slot
  slot_shows pc slot (none e f) =
      let n = shown_none labels pc (λ p s. let k = found pc p s in absurd (f k.0 (omega arith) k.1 (ap (λ (p : ℕ). le32 labels (p + 4)) k.2 ∙ s.there))) in
      rw e (sym n, tt)
  slot_shows pc slot (has m h e t f) =
      let q : slot ≡ suc (slice_index l m) = e ∙ add-one (slice_index l m) in
      rw q (first_shown m pc h t (λ k n a. f k (omega arith) n a), named_at 4 labels l ix (labels_named labels g) m h)

  module _ (address size : ℕ) where
    pub slotted_start : (slots : List ℕ) (count : ℕ) → Empty count slots → size ≤ 4 * count → Slotted labels l address size slots (length l)
    slotted_start slots count z h = record { within = omega arith; each = λ j k. none (z j (omega arith)) (λ n a b. absurd (omega arith)) }

    pub slotted_end : (slots : List ℕ) → Slotted labels l address size slots 0 → Shows labels address size slots
    slotted_end slots s =
        record { name_is = λ j k. (slot_shows (pc_of address j) (slice_index slots j) (s.each j k)).0; slot_ok = λ j k. (slot_shows (pc_of address j) (slice_index slots j) (s.each j k)).1 }

    module _ (slots : List ℕ) (i : ℕ) (s : Slotted labels l address size slots i) (p : 0 < i) where
      -- The label before has another address.
      other : (pc slot : ℕ) → (address_at labels l (i - 1) ≢ pc) → Slot labels l pc i slot → Slot labels l pc (i - 1) slot
      other pc slot d (none e f) = none e more
        where
          more : (k : ℕ) → i - 1 ≤ k → k < length l → address_at labels l k ≢ pc
          more k a b c = go (k == i - 1) refl
            where
              go : (t : Bool) → (k == i - 1) ≢ t
              go true t = d (ap (address_at labels l) (sym (eqb-true k (i - 1) t)) ∙ c)
              go false t = let x = eqb-false k (i - 1) t in f k (omega (arith, x)) b c
      other pc slot d (has m h e t f) = has m h e t more
        where
          more : (k : ℕ) → i - 1 ≤ k → k < length l → address_at labels l k ≡ pc → m ≤ k
          more k a b c = go (k == i - 1) refl
            where
              go : (t : Bool) → (k == i - 1) ≡ t → m ≤ k
              go true t = absurd (d (ap (address_at labels l) (sym (eqb-true k (i - 1) t)) ∙ c))
              go false t = let x = eqb-false k (i - 1) t in f k (omega (arith, x)) b c

      -- Its address is no word's.
      pub slotted_pass : (k : ℕ) → size ≤ 65536 → WordOf address size (address_at labels l (i - 1)) k → 16384 ≤ k → Slotted labels l address size slots (i - 1)
      slotted_pass k z w m = record {
        within = omega (arith, s.within);
        each = λ j h. other (pc_of address j) (slice_index slots j) (λ e. let q = w.only j h (sym e) in omega arith) (s.each j h);
      }

      -- Its address is word k's.
      pub slotted_hit : (k : ℕ) → WordOf address size (address_at labels l (i - 1)) k → k < 16384 → k < length slots
          → Slotted labels l address size (slice_set slots k (slice_index l (i - 1) + 1)) (i - 1)
      slotted_hit k w m r = record { within = omega (arith, s.within); each = λ j h. go j h (j == k) refl }
        where
          new : ℕ
          new = slice_index l (i - 1) + 1

          go : (j : ℕ) → 4 * j < size → (b : Bool) → (j == k) ≡ b → Slot labels l (pc_of address j) (i - 1) (slice_index (slice_set slots k new) j)
          go j h true e =
              let q = eqb-true j k e in
              let v : slice_index_or (slice_set slots k new) j 0 ≡ new = ap (λ (n : ℕ). slice_index (slice_set slots k new) n) q ∙ get_or-set_same slots k new 0 r in
              has (i - 1) (omega (arith, s.within)) v (sym (w.hit m).1 ∙ ap (pc_of address) (sym q)) (λ n a b c. a)
          go j h false e =
              let d = eqb-false j k e in
              subst (Slot labels l (pc_of address j) (i - 1)) (sym (get_or-set_other slots k j new 0 d))
              (other (pc_of address j) (slice_index slots j) (λ a. d (w.only j h (sym a))) (s.each j h))

-- The last of the index's places that are left, and what is left without it.
pub record Last (order left rest : List ℕ) (x : ℕ) : Type 0 where
  pub some : 0 < length left
  pub within : length left ≤ length order
  pub is : x ≡ slice_index order (length left - 1)
  pub fewer : length rest ≡ length left - 1
  pub rest_left : rest ≡ take (length rest) order

pub last_of : (order left rest : List ℕ) (x : ℕ) → left ≡ take (length left) order → left ≡ push rest x → Last order left rest x
last_of order left rest x e p =
    let n : length left ≡ length rest + 1 = ap length p ∙ length_push rest x in
    let w : length left ≤ length order = omega (arith, ap length e, length-take (length left) order) in
    let v : slice_index left (length rest) ≡ x = ap (λ (l : List ℕ). slice_index l (length rest)) p ∙ get_or_push rest x 0 (length rest) refl in
    let m : length rest ≡ length left - 1 = omega arith in
    record {
      some = omega arith;
      within = w;
      is = rw (← m) (sym v ∙ ap (λ (l : List ℕ). slice_index l (length rest)) e ∙ get_or-take (length left) order (length rest) 0 (omega arith));
      fewer = m;
      rest_left = sym (take_at rest (x ∷ []) (length rest) refl) ∙ ap (take (length rest)) (sym p ∙ e) ∙ take-take (length rest) (length left) order (omega arith);
    }

-- The uses of a pending list say what `Says` asks: keys rise, numbers rise, and a number stands under a key exactly if its pending names it. Assumes nothing.
use Prim.Native.Nat.{ℕ, suc, ◌+◌, ◌<◌}
use native.Mathlib.Omega.{arith}
use mathlib.Core.List.Memᴰ
use mathlib.Core.List.{List, [], ◌∷◌, ◌++◌, Memᴰ}
use Rattle.std.proofs.Common.{⊎_elim, sym, ◌∙◌, length-append, ltb-true, ltb-false}
use Rattle.std.specs.Prelude.{Bool, true, false, ◌≡◌, refl, length, get_or, ltb, Option, None, Some}
use Rattle.std.proofs.Math.Path.{ap, subst}
use Rattle.record.specs.Records.{places}
use Rattle.address_label.specs.declared.AddressLabel.{AddressLabel}
use Rattle.address_label.specs.declared.AddressLabel.TheVariants.{Constant, Label}
use Rattle.pending.specs.Pendings.{label_of}
use Rattle.label_uses.specs.Uses.{UseKey, Use, more_use, insert_use, use_of, uses_from, uses_of}
use Rattle.label_uses.proofs.InsertLaws.{Rises, none_left, rise_all, all_rise, Stood, before, new, grown, insert_stood, insert_keeps, insert_has, insert_rises}
use Rattle.label_uses.specs.Says.{key_in, key_at, NumbersRise, last, then, Says}
use Rattle.name_order.proofs.OrderLaws.{never}

-- ---- rising numbers, and one more number above them
pub rise_behind : (ns : List ℕ) (n : ℕ) → NumbersRise ns → ((m : ℕ) → Memᴰ m ns → m < n) → NumbersRise (ns ++ (n ∷ []))
rise_behind [] n r h = last
rise_behind (x ∷ []) n r h = then (h x (Memᴰ.head refl)) last
rise_behind (x ∷ (y ∷ ns)) n (then e r) h = then e (rise_behind (y ∷ ns) n r (λ m k. h m (Memᴰ.tail k)))

-- What the uses say of the first `count` pendings, wherever the keys come from.
pub record SaysTo (key_at_lem : ℕ → Option UseKey) (count : ℕ) (us : List Use) : Type 0 where
  pub rises : Rises us
  pub in_order : (u : Use) → Memᴰ u us → NumbersRise u.numbers × (0 < length u.numbers)
  pub sound : (u : Use) → Memᴰ u us → (n : ℕ) → Memᴰ n u.numbers → (n < count) × (key_at_lem n ≡ Some u.key)
  pub complete : (n : ℕ) → n < count → (key : UseKey) → key_at_lem n ≡ Some key → (u : Use) × Memᴰ u us × (u.key ≡ key) × Memᴰ n u.numbers

module _ (key_at_lem : ℕ → Option UseKey) where
  pub says_none : SaysTo key_at_lem 0 []
  says_none = record {
    rises = none_left;
    in_order = λ u m. absurd (Memᴰ.not-nil m);
    sound = λ u m. absurd (Memᴰ.not-nil m);
    complete = λ n h. absurd (omega arith);
  }

  module _ (count : ℕ) (us : List Use) (s : SaysTo key_at_lem count us) where
    -- one more pending, which is a constant
    pub says_skip : key_at_lem count ≡ None → SaysTo key_at_lem (count + 1) us
    says_skip e = record {
      rises = s.rises;
      in_order = s.in_order;
      sound = λ u m n k. let h = s.sound u m n k in (omega (arith, h.0), h.1);
      complete = whole;
    }
      where
        whole : (n : ℕ) → n < count + 1 → (key : UseKey) → key_at_lem n ≡ Some key → (u : Use) × Memᴰ u us × (u.key ≡ key) × Memᴰ n u.numbers
        whole n h key f = go (ltb n count) refl
          where
            go : (b : Bool) → ltb n count ≡ b → (u : Use) × Memᴰ u us × (u.key ≡ key) × Memᴰ n u.numbers
            go true b = s.complete n (ltb-true n count b) key f
            go false b =
                let i = ltb-false n count b in
                let j : n ≡ count = omega arith in
                let g : key_at_lem count ≡ Some key = ap key_at_lem (sym j) ∙ f in
                never (cc)

    -- one more pending, which is a name
    module _ (key : UseKey) (e : key_at_lem count ≡ Some key) where
      abbrev more : List Use
      more = insert_use key count us

      below_count : (u : Use) → Memᴰ u us → (n : ℕ) → Memᴰ n u.numbers → n < count
      below_count u m n k = (s.sound u m n k).0

      order_then : (v : Use) → Memᴰ v more → NumbersRise v.numbers × (0 < length v.numbers)
      order_then v m = go (insert_stood key count us v m)
        where
          go : Stood key count us v → NumbersRise v.numbers × (0 < length v.numbers)
          go (before t) = s.in_order v t
          go (new i) = subst (λ (x : Use). NumbersRise x.numbers × (0 < length x.numbers)) (sym i) (last, omega arith)
          go (grown u t k i) =
              subst (λ (x : Use). NumbersRise x.numbers × (0 < length x.numbers)) (sym i)
              (rise_behind u.numbers count (s.in_order u t).0 (below_count u t), omega (arith, length-append u.numbers (count ∷ [])))

      sound_then : (v : Use) → Memᴰ v more → (n : ℕ) → Memᴰ n v.numbers → (n < count + 1) × (key_at_lem n ≡ Some v.key)
      sound_then v m n k = go (insert_stood key count us v m)
        where
          here : n ≡ count → v.key ≡ key → (n < count + 1) × (key_at_lem n ≡ Some v.key)
          here i j = (omega arith, ap key_at_lem i ∙ e ∙ ap Some (sym j))

          go : Stood key count us v → (n < count + 1) × (key_at_lem n ≡ Some v.key)
          go (before t) = let h = s.sound v t n k in (omega (arith, h.0), h.1)
          go (new i) =
              ⊎_elim (λ (j : n ≡ count). here j (ap (λ (x : Use). x.key) i)) (λ t. absurd (Memᴰ.not-nil t))
              (Memᴰ.cases_cons (subst (λ (x : Use). Memᴰ n x.numbers) i k))
          go (grown u t j i) =
              ⊎_elim
              (λ (l : Memᴰ n u.numbers).
              let h = s.sound u t n l in
              (omega (arith, h.0), h.1 ∙ ap Some (sym (ap (λ (x : Use). x.key) i))))
              (λ (l : Memᴰ n (count ∷ [])).
              ⊎_elim (λ (q : n ≡ count). here q (ap (λ (x : Use). x.key) i ∙ j)) (λ t. absurd (Memᴰ.not-nil t)) (Memᴰ.cases_cons l))
              (Memᴰ.append_cases u.numbers (subst (λ (x : Use). Memᴰ n x.numbers) i k))

      abbrev Stands : ℕ → UseKey → Type 0
      Stands n k = (u : Use) × Memᴰ u more × (u.key ≡ k) × Memᴰ n u.numbers

      complete_then : (n : ℕ) → n < count + 1 → (k : UseKey) → key_at_lem n ≡ Some k → (u : Use) × Memᴰ u more × (u.key ≡ k) × Memᴰ n u.numbers
      complete_then n h k f = go (ltb n count) refl
        where
          go : (b : Bool) → ltb n count ≡ b → Stands n k
          go true b =
              let r = s.complete n (ltb-true n count b) k f in
              ⊎_elim
              (λ i. (r.0, i, r.2, r.3))
              (λ i. (more_use r.0 count, i.1, r.2, Memᴰ.append_left (count ∷ []) r.3))
              (insert_keeps key count us r.0 r.1)
          go false b =
              let i = ltb-false n count b in
              let j : n ≡ count = omega arith in
              let g : key_at_lem count ≡ Some k = ap key_at_lem (sym j) ∙ f in
              let q : key ≡ k = cc in
              let r = insert_has key count us in
              (r.0, r.1, r.2 ∙ q, subst (λ (m : ℕ). Memᴰ m r.0.numbers) (sym j) r.3)

      pub says_more : SaysTo key_at_lem (count + 1) (insert_use key count us)
      says_more = record { rises = insert_rises key count us s.rises; in_order = order_then; sound = sound_then; complete = complete_then }

-- ---- the fold
module _ (labels pending : List ℕ) (key_at_lem : ℕ → Option UseKey) where
  says_of : (n : ℕ) (us : List Use) → SaysTo key_at_lem n us → (x : AddressLabel) → key_at_lem n ≡ key_in labels pending x → SaysTo key_at_lem (n + 1) (use_of labels pending x n us)
  says_of n us s (Constant value) e = says_skip key_at_lem n us s e
  says_of n us s (Label l) e = says_more key_at_lem n us s _ e

  pub says_from : (ps : List ℕ) (n m : ℕ) (us : List Use) → n + length ps ≡ m
      → ((i : ℕ) → i < length ps → key_at_lem (n + i) ≡ key_in labels pending (label_of pending (get_or ps i 0)))
      → SaysTo key_at_lem n us → SaysTo key_at_lem m (uses_from labels pending n ps us)
  unfolding uses_from
  says_from [] n m us e h s = subst (λ (k : ℕ). SaysTo key_at_lem k us) (omega arith) s
  says_from (at ∷ ps) n m us e h s =
      says_from ps (n + 1) m (use_of labels pending (label_of pending at) n us) (omega arith)
      (λ i k. let j : n + 1 + i ≡ n + suc i = omega arith in ap key_at_lem j ∙ h (suc i) (omega arith))
      (says_of n us s (label_of pending at) (let j : n ≡ n + 0 = omega arith in ap key_at_lem j ∙ h 0 (omega arith)))

pub says_all : (labels pending : List ℕ) → SaysTo (key_at labels pending) (length (places pending)) (uses_of labels pending)
unfolding uses_of
says_all labels pending =
    says_from labels pending (key_at labels pending) (places pending) 0 (length (places pending)) [] (omega arith)
    (λ i h. let j : 0 + i ≡ i = omega arith in ap (key_at labels pending) j) (says_none (key_at labels pending))

pub to_says : (labels pending : List ℕ) (us : List Use) → SaysTo (key_at labels pending) (length (places pending)) us → Says labels pending us
to_says labels pending us s = record { names_rise = all_rise us s.rises; numbers_rise = s.in_order; right = s.sound; whole = s.complete }

pub says_to : (labels pending : List ℕ) (us : List Use) → Says labels pending us → SaysTo (key_at labels pending) (length (places pending)) us
says_to labels pending us s = record { rises = rise_all us s.names_rise; in_order = s.numbers_rise; sound = s.right; complete = s.whole }

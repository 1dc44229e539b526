-- Laws of the index's bytes: lengths, and one list of uses behind another. Assumes nothing.
use Rattle.std.specs.Prelude.{ℕ, ◌+◌, ◌*◌, ◌≤◌, List, [], ◌∷◌, ◌++◌, ◌≡◌, refl, length}
use Rattle.std.proofs.Common.{arith, append_assoc, sym, ap, ◌∙◌, length-append}
use Rattle.record.specs.Stores.{le16_bytes, le32_bytes}
use Rattle.label_uses.specs.Uses.{kept_of, UseKey, Use, use_order, one_use, more_use, insert_use}
use Rattle.label_uses.specs.Held.{Passed, none_passed, one_passed}
use Rattle.label_uses.proofs.InsertLaws.{insert_less, insert_same, insert_more, insert_none}
use Rattle.label_uses.specs.UseBytes.{numbers_bytes, use_body, use_bytes, uses_bytes}
use Rattle.std.specs.declared.cmp.Ordering.TheVariants.{Less, Equal, Greater}
use Rattle.std.specs.declared.cmp.Ordering.{Ordering}

-- ---- numbers
pub numbers_length : (ns : List ℕ) → length (numbers_bytes ns) ≡ 2 * length ns
unfolding numbers_bytes
numbers_length [] = refl
numbers_length (n ∷ ns) = omega (arith, numbers_length ns)

pub numbers_append : (ns ms : List ℕ) → numbers_bytes (ns ++ ms) ≡ numbers_bytes ns ++ numbers_bytes ms
unfolding numbers_bytes
numbers_append [] ms = refl
numbers_append (n ∷ ns) ms = ap (λ (bs : List ℕ). le16_bytes n ++ bs) (numbers_append ns ms)

pub numbers_one : (n : ℕ) → numbers_bytes (n ∷ []) ≡ le16_bytes n
unfolding numbers_bytes
numbers_one n = refl

-- ---- uses
pub body_length : (u : Use) → length (use_body u) ≡ 7 + 2 * length u.numbers + length u.key.name
body_length u =
    omega (
      arith,
      numbers_length u.numbers,
      length-append (numbers_bytes u.numbers) (le32_bytes (kept_of u.key.standing)),
      length-append (numbers_bytes u.numbers ++ le32_bytes (kept_of u.key.standing)) u.key.name,
    )

pub use_length : (u : Use) → length (use_bytes u) ≡ 11 + 2 * length u.numbers + length u.key.name
use_length u = omega (arith, body_length u)

pub uses_none : uses_bytes [] ≡ []
unfolding uses_bytes
uses_none = refl

pub uses_cons : (u : Use) (us : List Use) → uses_bytes (u ∷ us) ≡ use_bytes u ++ uses_bytes us
unfolding uses_bytes
uses_cons u us = refl

pub uses_append : (us vs : List Use) → uses_bytes (us ++ vs) ≡ uses_bytes us ++ uses_bytes vs
unfolding uses_bytes
uses_append [] vs = refl
uses_append (u ∷ us) vs = ap (λ (bs : List ℕ). use_bytes u ++ bs) (uses_append us vs) ∙ sym (append_assoc (use_bytes u) (uses_bytes us) (uses_bytes vs))

-- ---- one more use: two bytes more, or a record
pub record Grows (key : UseKey) (us vs : List Use) : Type 0 where
  pub least : length (uses_bytes us) + 2 ≤ length (uses_bytes vs)
  pub most : length (uses_bytes vs) ≤ length (uses_bytes us) + 13 + length key.name

pub cons_length : (u : Use) (us : List Use) → length (uses_bytes (u ∷ us)) ≡ 11 + 2 * length u.numbers + length u.key.name + length (uses_bytes us)
cons_length u us = ap length (uses_cons u us) ∙ length-append (use_bytes u) (uses_bytes us) ∙ ap (λ (n : ℕ). n + length (uses_bytes us)) (use_length u)

pub insert_length : (key : UseKey) (n : ℕ) (us : List Use) → Grows key us (insert_use key n us)
insert_length key n [] =
    let e = ap (λ (vs : List Use). length (uses_bytes vs)) (insert_none key n) ∙ cons_length (one_use key n) [] in
    let z : length (uses_bytes []) ≡ 0 = ap length uses_none in
    record { least = omega arith; most = omega arith }
insert_length key n (u ∷ us) = go (use_order key u.key) refl (insert_length key n us)
  where
    go : (o : Ordering) → use_order key u.key ≡ o → Grows key us (insert_use key n us) → Grows key (u ∷ us) (insert_use key n (u ∷ us))
    go Less e ih =
        let f = ap (λ (vs : List Use). length (uses_bytes vs)) (insert_less key n u us e) ∙ cons_length (one_use key n) (u ∷ us) in
        record { least = omega arith; most = omega arith }
    go Equal e ih =
        let f = ap (λ (vs : List Use). length (uses_bytes vs)) (insert_same key n u us e) ∙ cons_length (more_use u n) us in
        let g = cons_length u us in
        let h = length-append u.numbers (n ∷ []) in
        record { least = omega arith; most = omega arith }
    go Greater e ih =
        let f = ap (λ (vs : List Use). length (uses_bytes vs)) (insert_more key n u us e) ∙ cons_length u (insert_use key n us) in
        let g = cons_length u us in
        record { least = omega (arith, ih.least); most = omega (arith, ih.most) }

-- ---- behind uses that all go before the key
pub passed_behind : (key : UseKey) (l : List Use) (u : Use) → Passed key l → use_order key u.key ≡ Greater → Passed key (l ++ (u ∷ []))
passed_behind key [] u p e = one_passed e none_passed
passed_behind key (v ∷ l) u (one_passed f p) e = one_passed f (passed_behind key l u p e)

pub insert_behind : (key : UseKey) (n : ℕ) (l r : List Use) → Passed key l → insert_use key n (l ++ r) ≡ l ++ insert_use key n r
insert_behind key n [] r p = refl
insert_behind key n (u ∷ l) r (one_passed e p) = insert_more key n u (l ++ r) e ∙ ap (λ (us : List Use). u ∷ us) (insert_behind key n l r p)

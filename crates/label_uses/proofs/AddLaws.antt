-- One more use, byte for byte. Either a record is put in where its key sorts, or two bytes are put in behind a record's numbers, and its length and
-- count grow. What follows moves up. Assumes nothing.
use Rattle.std.specs.Prelude.{ℕ, ◌+◌, ◌*◌, ◌-◌, ◌≤◌, ◌≡◌, refl, length}
use Rattle.std.proofs.Common.{arith, ap₂, ◌∙◌, length-append}
use mathlib.Core.List.{List, [], ◌∷◌, ◌++◌, append_assoc}
use Rattle.std.proofs.Math.Path.{sym, ap}
use Rattle.record.specs.Bytes.{part}
use Rattle.record.specs.Stores.{le16_bytes, le32_bytes, append}
use Rattle.label_uses.specs.Uses.{is_known, kept_of, Use, more_use}
use Rattle.label_uses.specs.UseBytes.{flag_of, numbers_bytes, use_body, uses_bytes, use_bytes}
use Rattle.label_uses.proofs.UseBytesLaws.{numbers_length, numbers_append, numbers_one, body_length, uses_cons, uses_append}
use Rattle.label_uses.specs.Held.{Holds}
use Rattle.label_uses.proofs.MoveLaws.{append_over, put_between}

-- ---- a record, taken apart: its length, what stands between length and count, its count, its numbers, the rest
abbrev pub between_of : Use → List ℕ
between_of u = 39 ∷ 0 ∷ flag_of (is_known u.key.standing) ∷ []

abbrev pub rest_of : Use → List ℕ
rest_of u = le32_bytes (kept_of u.key.standing) ++ u.key.name

abbrev pub apart : (len : ℕ) → Use → (count : ℕ) → (numbers : List ℕ) → List ℕ
apart len u count numbers = le16_bytes len ++ (between_of u ++ (le16_bytes count ++ (numbers ++ rest_of u)))

pub use_apart : (u : Use) → use_bytes u ≡ apart (length (use_body u)) u (length u.numbers) (numbers_bytes u.numbers)
use_apart u = ap (λ (x : List ℕ). le16_bytes (length (use_body u)) ++ (between_of u ++ (le16_bytes (length u.numbers) ++ x))) (append_assoc (numbers_bytes u.numbers) (le32_bytes (kept_of u.key.standing)) u.key.name)

-- the same record with one more number
pub more_apart : (u : Use) (n : ℕ) → use_bytes (more_use u n) ≡ apart (length (use_body u) + 2) u (length u.numbers + 1) (numbers_bytes u.numbers ++ le16_bytes n)
more_apart u n =
    let c : length (u.numbers ++ (n ∷ [])) ≡ length u.numbers + 1 = length-append u.numbers (n ∷ []) in
    let b : length (use_body (more_use u n)) ≡ length (use_body u) + 2 = omega (arith, body_length u, body_length (more_use u n)) in
    let ns : numbers_bytes (u.numbers ++ (n ∷ [])) ≡ numbers_bytes u.numbers ++ le16_bytes n =
    numbers_append u.numbers (n ∷ []) ∙ ap (λ (x : List ℕ). numbers_bytes u.numbers ++ x) (numbers_one n) in
    use_apart (more_use u n)
    ∙ ap₂ (λ (len count : ℕ). apart len u count (numbers_bytes (u.numbers ++ (n ∷ [])))) b c
    ∙ ap (apart (length (use_body u) + 2) u (length u.numbers + 1)) ns

-- one more record
pub put_record : (d : List ℕ) (fill : ℕ) (l r : List Use) (u : Use) (at : ℕ) → Holds d fill (l ++ r) → at ≡ length (uses_bytes l) → fill + length (use_bytes u) ≤ length d
    → append (append d (at + length (use_bytes u)) (part d at (fill - at))) at (use_bytes u) ≡ append d 0 (uses_bytes (l ++ (u ∷ r)))
put_record d fill l r u at h e room =
    put_between d (uses_bytes l) (uses_bytes r) at fill (h.filled ∙ uses_append l r) (sym e) h.within (use_bytes u) room
    ∙ ap (append d 0) (ap (λ (x : List ℕ). uses_bytes l ++ x) (sym (uses_cons u r)) ∙ sym (uses_append l (u ∷ r)))

-- One more number: where its bytes are put in.
abbrev pub number_place : Use → (at : ℕ) → ℕ
number_place u at = at + 7 + 2 * length u.numbers

module _ (d : List ℕ) (fill : ℕ) (l r : List Use) (u : Use) (n at : ℕ) (h : Holds d fill (l ++ (u ∷ r))) (e : at ≡ length (uses_bytes l)) (room : fill + 2 ≤ length d) where
  abbrev before : List ℕ
  before = uses_bytes l

  abbrev behind : List ℕ
  behind = uses_bytes r

  abbrev ns : List ℕ
  ns = numbers_bytes u.numbers

  abbrev len : ℕ
  len = length (use_body u)

  abbrev count : ℕ
  count = length u.numbers

  -- the record up to its last number
  abbrev front : List ℕ
  front = le16_bytes len ++ (between_of u ++ (le16_bytes count ++ ns))

  parted : uses_bytes (l ++ (u ∷ r)) ≡ (before ++ front) ++ (rest_of u ++ behind)
  parted =
      uses_append l (u ∷ r)
      ∙ ap (λ (x : List ℕ). before ++ x) (uses_cons u r ∙ ap (λ (x : List ℕ). x ++ behind) (use_apart u))
      ∙ ap (λ (x : List ℕ). before ++ (le16_bytes len ++ (between_of u ++ (le16_bytes count ++ x)))) (append_assoc ns (rest_of u) behind)
      ∙ sym (append_assoc before front (rest_of u ++ behind))

  front_length : length (before ++ front) ≡ number_place u at
  front_length = omega (arith, length-append before front, numbers_length u.numbers)

  -- the number's two bytes are put in
  abbrev first : List ℕ
  first = append (append d (number_place u at + 2) (part d (number_place u at) (fill - number_place u at))) (number_place u at) (le16_bytes n)

  rest : List ℕ
  rest = ns ++ (le16_bytes n ++ (rest_of u ++ behind))

  first_is : first ≡ append d 0 (before ++ (le16_bytes len ++ (between_of u ++ (le16_bytes count ++ rest))))
  unfolding rest
  first_is =
      put_between d (before ++ front) (rest_of u ++ behind) (number_place u at) fill (h.filled ∙ parted) front_length h.within (le16_bytes n) room
      ∙ ap (append d 0)
      (append_assoc before front (le16_bytes n ++ (rest_of u ++ behind)))

  -- the record's length grows by them, and its count by one
  second_is : append first at (le16_bytes (len + 2)) ≡ append d 0 (before ++ (le16_bytes (len + 2) ++ (between_of u ++ (le16_bytes count ++ rest))))
  second_is = ap (λ (x : List ℕ). append x at (le16_bytes (len + 2))) first_is ∙ append_over d before (le16_bytes len) (le16_bytes (len + 2)) (between_of u ++ (le16_bytes count ++ rest)) at (sym e) refl

  third_is : append (append first at (le16_bytes (len + 2))) (at + 5) (le16_bytes (count + 1))
      ≡ append d 0 (before ++ (le16_bytes (len + 2) ++ (between_of u ++ (le16_bytes (count + 1) ++ rest))))
  third_is =
      let p : List ℕ = before ++ (le16_bytes (len + 2) ++ between_of u) in
      let k : length p ≡ at + 5 = omega (arith, length-append before (le16_bytes (len + 2) ++ between_of u)) in
      ap (λ (x : List ℕ). append x (at + 5) (le16_bytes (count + 1))) (second_is ∙ ap (append d 0) (sym (append_assoc before (le16_bytes (len + 2) ++ between_of u) (le16_bytes count ++ rest))))
      ∙ append_over d p (le16_bytes count) (le16_bytes (count + 1)) rest (at + 5) k refl
      ∙ ap (append d 0) (append_assoc before (le16_bytes (len + 2) ++ between_of u) (le16_bytes (count + 1) ++ rest))

  grown : before ++ (le16_bytes (len + 2) ++ (between_of u ++ (le16_bytes (count + 1) ++ rest))) ≡ uses_bytes (l ++ (more_use u n ∷ r))
  unfolding rest
  grown =
      ap (λ (x : List ℕ). before ++ (le16_bytes (len + 2) ++ (between_of u ++ (le16_bytes (count + 1) ++ x))))
      (sym (append_assoc ns (le16_bytes n) (rest_of u ++ behind)) ∙ sym (append_assoc (ns ++ le16_bytes n) (rest_of u) behind))
      ∙ ap (λ (x : List ℕ). before ++ x) (ap (λ (x : List ℕ). x ++ behind) (sym (more_apart u n)) ∙ sym (uses_cons (more_use u n) r))
      ∙ sym (uses_append l (more_use u n ∷ r))

  pub put_number : append (append (append (append d (number_place u at + 2) (part d (number_place u at) (fill - number_place u at))) (number_place u at) (le16_bytes n)) at (le16_bytes (length (use_body u) + 2))) (at + 5) (le16_bytes (length u.numbers + 1))
      ≡ append d 0 (uses_bytes (l ++ (more_use u n ∷ r)))
  put_number = third_is ∙ ap (append d 0) grown

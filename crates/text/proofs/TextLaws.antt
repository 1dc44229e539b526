-- Text written behind text, text written piece by piece, and the digits of a number. Assumes nothing.
use Rattle.std.specs.Prelude.{ℕ, zero, suc, ◌+◌, ◌-◌, ◌*◌, ◌/◌, ◌%◌, ◌^◌, ◌≤◌, ◌<◌, min, max, ◌≡◌, refl, List, [], ◌∷◌, ◌++◌, Bool, true, false, ltb, eqb, ℤ, pos, negsuc, nat_abs, length, take, drop, get_or}
use Rattle.std.specs.Int as std
use Rattle.std.proofs.Math.Nat.{one-le-pow, pow-le-pow_right}
use Rattle.std.proofs.Common.{pow-suc, mod-eq_of_lt, add-one, arith, sym, ap, ◌∙◌, length-append, length-take, length-drop, drop_of_length-le, drop-cons, length-take-le, ltb-true, ltb-false, lt-ltb, le-ltb, eqb-true, ne_eqb}
use Rattle.io.specs.Counts.{IsPrefixLen}
use Rattle.io.specs.Digits.{hex_digit_ascii, last_digits, IsDigitCount}
use Rattle.record.specs.Bytes.{le32}
use Rattle.record.specs.Stores.{append}
use Rattle.record.proofs.StoresLaws.{append_none, append_append, append_then, filled_append}
use Rattle.record.specs.Texts.{bytes_of}
use Rattle.refusal.specs.Split.{is_negative, size}
use Rattle.refusal.specs.declared.Numbered.{Numbered}
use Rattle.text.specs.Text.{Put, decimal_in, decimal, hex_bytes, word_text, field, signed_field, last_field, location_fields, refused_line}

append_length : (d : List ℕ) (at : ℕ) (xs : List ℕ) → at + length xs ≤ length d → length (append d at xs) ≡ length d
unfolding append
append_length d at xs h = simp (length-append, length-take, length-drop) (omega arith)

module _ (d : List ℕ) (at : ℕ) (xs e : List ℕ) (m : ℕ) (p : Put d at xs e m) where
  pub put_length : length e ≡ length d
  put_length = ap length p.bytes ∙ append_length d at xs p.fits

  -- The text ends within the buffer.
  pub put_counts : IsPrefixLen m e
  put_counts =
      let h : m ≤ length e = omega (arith, p.fits, p.ends, put_length) in
      (h, sym (length-take-le m e h))

  -- If the buffer has room for both texts, there is room for the second behind the first.
  pub put_room : (ys : List ℕ) → at + length (xs ++ ys) ≤ length d → m + length ys ≤ length e
  put_room ys h = omega (arith, p.ends, put_length, length-append xs ys)

  pub put_then : (ys f : List ℕ) (n : ℕ) → Put e m ys f n → Put d at (xs ++ ys) f n
  put_then ys f n q =
      let l = length-append xs ys in
      let g = put_length in
      record {
        fits = omega (arith, q.fits, p.ends);
        ends = omega (arith, q.ends, p.ends);
        bytes = append_then d at xs m ys p.bytes q.bytes (sym p.ends) (omega (arith, q.fits));
      }

-- Up to the end: what the buffer held in front, and then the text.
pub put_taken : (d : List ℕ) (at : ℕ) (xs e : List ℕ) (m : ℕ) → Put d at xs e m → take m e ≡ take at d ++ xs
put_taken d at xs e m p = rw (p.ends, p.bytes) (filled_append d at xs (omega (arith, p.fits)))

-- If both texts have room, the first has.
pub front_room : (at n : ℕ) (xs ys : List ℕ) → at + length (xs ++ ys) ≤ n → at + length xs ≤ n
front_room at n xs ys h = omega (arith, length-append xs ys)

-- ---- a text written piece by piece: what is still to be written
pub record Left (d : List ℕ) (at : ℕ) (xs e : List ℕ) (end : ℕ) (ys : List ℕ) : Type 0 where
  pub fits : at + length xs ≤ length d
  pub kept : length e ≡ length d
  pub ends : end + length ys ≡ at + length xs
  pub bytes : append e end ys ≡ append d at xs

pub left_first : (d : List ℕ) (at : ℕ) (xs : List ℕ) → at + length xs ≤ length d → Left d at xs d at xs
left_first d at xs h = record { fits = h; kept = refl; ends = refl; bytes = refl }

module _ {d : List ℕ} {at : ℕ} {xs : List ℕ} where
  -- there is room for the next piece
  pub left_room : (e : List ℕ) (end : ℕ) (ps ys : List ℕ) → Left d at xs e end (ps ++ ys) → end + length ps ≤ length e
  left_room e end ps ys l = omega (arith, l.fits, l.kept, l.ends, length-append ps ys)

  pub left_next : (e : List ℕ) (end : ℕ) (ps ys f : List ℕ) (n : ℕ) → Left d at xs e end (ps ++ ys) → Put e end ps f n → Left d at xs f n ys
  left_next e end ps ys f n l p =
      let a = length-append ps ys in
      record {
        fits = l.fits;
        kept = put_length e end ps f n p ∙ l.kept;
        ends = omega (arith, l.ends, p.ends);
        bytes = ap (λ (x : List ℕ). append x n ys) p.bytes
            ∙ append_append e end ps ys n (sym p.ends) (omega (arith, l.fits, l.kept, l.ends, p.ends))
            ∙ l.bytes;
      }

  pub left_last : (e : List ℕ) (end : ℕ) (ys f : List ℕ) (n : ℕ) → Left d at xs e end ys → Put e end ys f n → Put d at xs f n
  left_last e end ys f n l p = record { fits = l.fits; ends = p.ends ∙ l.ends; bytes = p.bytes ∙ l.bytes }

  pub left_none : (e : List ℕ) (end : ℕ) → Left d at xs e end [] → Put d at xs e end
  left_none e end l =
      record { fits = l.fits; ends = omega (arith, l.ends); bytes = append_none e end ∙ l.bytes }

-- ---- the count of digits
pub most_digits : (b least n k m : ℕ) → 0 < b → least ≤ m → n < b ^ m → IsDigitCount b least n k → k ≤ m
most_digits b least n k m p l h f = go (ltb m k) refl
  where
    go : (t : Bool) → ltb m k ≡ t → k ≤ m
    go true e =
        let q = ltb-true m k e in
        let w : b ^ m ≤ b ^ (k - 1) = pow-le-pow_right p (omega arith) in
        absurd (omega (arith, f.2 (omega arith)))
    go false e = omega (arith, ltb-false m k e)

-- A number that fits the width has the width's count of digits.
pub width_fits : (w n k : ℕ) → 0 < w → w ≤ 8 → n < 16 ^ w → IsDigitCount 16 (min (max w 1) 16) n k → k ≡ w
width_fits w n k p q h f =
    let e : min (max w 1) 16 ≡ w = omega arith in
    let g : IsDigitCount 16 w n k = rw e at f in
    omega (arith, most_digits 16 w n k w (omega arith) (omega arith) h g, g.0)

pub word_digits : (n k : ℕ) → n < 2 ^ 64 → IsDigitCount 10 1 n k → k ≤ 20
word_digits n k h f = most_digits 10 1 n k 20 (omega arith) (omega arith) (omega arith) f

pub digits_length : (b k n : ℕ) → length (last_digits b k n) ≡ k
digits_length b zero n = refl
digits_length b (suc k) n = omega (arith, length-append (last_digits b k (n / b)) (hex_digit_ascii (n % b) ∷ []), digits_length b k (n / b))

-- ---- decimal digits
decimal_one : (most n : ℕ) → n < 10 → decimal_in (suc most) n ≡ last_digits 10 1 n
unfolding decimal_in
decimal_one most n h = rw (lt-ltb n 10 h, decimal_in) (rw (mod-eq_of_lt h))

decimal_more : (most n : ℕ) → 10 ≤ n → decimal_in (suc most) n ≡ decimal_in most (n / 10) ++ (hex_digit_ascii (n % 10) ∷ [])
unfolding decimal_in
decimal_more most n h = rw (le-ltb n 10 h, decimal_in)

pub decimal_in_lem : (most n k : ℕ) → k ≤ most → IsDigitCount 10 1 n k → decimal_in most n ≡ last_digits 10 k n
decimal_in_lem zero n k h f = absurd (omega (arith, f.0))
decimal_in_lem (suc most) n zero h f = absurd (omega (arith, f.0))
decimal_in_lem (suc most) n (suc zero) h f = decimal_one most n f.1
decimal_in_lem (suc most) n (suc (suc k)) h f =
    let p : 10 ^ suc k ≡ 10 ^ k * 10 = pow-suc 10 k in
    let j : suc (suc k) - 1 ≡ suc k = omega arith in
    let i : suc k - 1 ≡ k = omega arith in
    let l : 10 ^ suc k ≤ n = rw j at (f.2 (omega arith)) in
    let q : 1 ≤ 10 ^ k = one-le-pow k 10 (omega arith) in
    let g : IsDigitCount 10 1 (n / 10) (suc k) = (omega arith, omega (arith, f.1, pow-suc 10 (suc k)), λ m. rw i (omega arith)) in
    let e : decimal_in most (n / 10) ≡ last_digits 10 (suc k) (n / 10) = decimal_in_lem most (n / 10) (suc k) (omega arith) g in
    decimal_more most n (omega arith) ∙ rw e

decimal_most : (most n : ℕ) → length (decimal_in most n) ≤ most
unfolding decimal_in
decimal_most zero n = omega arith
decimal_most (suc most) n = go (ltb n 10) refl (decimal_most most (n / 10))
  where
    go : (b : Bool) → ltb n 10 ≡ b → length (decimal_in most (n / 10)) ≤ most → length (decimal_in (suc most) n) ≤ suc most
    go true e ih = rw (e, decimal_in) (omega arith)
    go false e ih = rw (e, decimal_in) (omega (arith, length-append (decimal_in most (n / 10)) (hex_digit_ascii (n % 10) ∷ [])))

-- The digits made from a number are its text.
pub decimal_made : (n k : ℕ) (text : List ℕ) → n < 2 ^ 64 → IsDigitCount 10 1 n k → take k text ≡ last_digits 10 k n → take k text ≡ decimal n
decimal_made n k text h f e = e ∙ sym (decimal_in_lem 20 n k (word_digits n k h f) f)

-- ---- bytes in hexadecimal
pub hex_length : (bs : List ℕ) → length (hex_bytes bs) ≡ 2 * length bs
unfolding hex_bytes
hex_length [] = refl
hex_length (b ∷ bs) = omega (arith, length-append (last_digits 16 2 b) (hex_bytes bs), digits_length 16 2 b, hex_length bs)

pub hex_next : (bs : List ℕ) (i : ℕ) → i < length bs → hex_bytes (drop i bs) ≡ last_digits 16 2 (get_or bs i 0) ++ hex_bytes (drop (i + 1) bs)
unfolding hex_bytes
hex_next bs i h = rw (add-one, drop-cons bs i 0)

pub hex_end : (bs : List ℕ) (i : ℕ) → length bs ≤ i → hex_bytes (drop i bs) ≡ []
unfolding hex_bytes
hex_end bs i h = rw (drop_of_length-le bs h)

-- ---- a word of an image
pub text_whole : (bytes : List ℕ) → length bytes ≡ 4 → word_text bytes ≡ last_digits 16 8 (le32 bytes 0)
unfolding word_text
text_whole bytes h = rw (h, word_text)

pub text_part : (bytes : List ℕ) → (length bytes ≡ 4 → ⊥) → word_text bytes ≡ hex_bytes bytes
unfolding word_text
text_part bytes h = rw (ne_eqb (length bytes) 4 h, word_text)

pub text_length : (bytes : List ℕ) → length (word_text bytes) ≡ 2 * length bytes
unfolding word_text
text_length bytes = go (eqb (length bytes) 4) refl
  where
    go : (b : Bool) → eqb (length bytes) 4 ≡ b → length (word_text bytes) ≡ 2 * length bytes
    go true e = rw (e, word_text) (omega (arith, eqb-true (length bytes) 4 e, digits_length 16 8 (le32 bytes 0)))
    go false e = rw (e, word_text) (hex_length bytes)

-- ---- the sign
pub signed_from : (z : ℤ) → is_negative z ≡ false → signed_field z ≡ field (size z)
unfolding is_negative size signed_field
signed_from (pos n) h = refl
signed_from (negsuc n) h = cc

pub signed_below : (z : ℤ) → is_negative z ≡ true → signed_field z ≡ bytes_of " -" ++ decimal (size z + 1)
unfolding is_negative size signed_field
signed_below (pos n) h = cc
signed_below (negsuc n) h = refl

-- the same by the number's absolute value
pub positive_is : (z : ℤ) → std.is_negative z ≡ false → signed_field z ≡ field (nat_abs z)
unfolding signed_field
positive_is (pos n) h = refl
positive_is (negsuc n) h = cc

pub negative_is : (z : ℤ) → std.is_negative z ≡ true → signed_field z ≡ bytes_of " -" ++ decimal (nat_abs z)
unfolding signed_field
negative_is (pos n) h = absurd (omega (arith, ltb-true n 0 h))
negative_is (negsuc n) h = rw (add-one n)

-- ---- the most that a number and a refusal take
pub field_most : (n : ℕ) → length (field n) ≤ 21
field_most n = omega (arith, decimal_most 20 n)

pub last_most : (n : ℕ) → length (last_field n) ≤ 22
last_most n = omega (arith, length-append (field n) (bytes_of "\n"), field_most n)

signed_most : (z : ℤ) → length (signed_field z) ≤ 22
unfolding signed_field
signed_most (pos n) = omega (arith, field_most n)
signed_most (negsuc n) = omega (arith, decimal_most 20 (n + 1))

pub refused_length : (n : Numbered) → length (refused_line n)
    ≡ 7 + length (field n.number) + length (location_fields n.location) + length (signed_field n.a) + length (last_field n.b)
unfolding refused_line
refused_length n =
    let number = bytes_of "refused" ++ field n.number in
    let location = number ++ location_fields n.location in
    let a = location ++ signed_field n.a in
    omega (arith, length-append a (last_field n.b), length-append location (signed_field n.a), length-append number (location_fields n.location))

pub refused_most : (n : Numbered) → length (refused_line n) ≤ 114
refused_most n =
    let l = length-append (field n.location.source) (field n.location.index) in
    omega (
      arith,
      refused_length n,
      field_most n.number,
      field_most n.location.source,
      field_most n.location.index,
      signed_most n.a,
      last_most n.b,
    )

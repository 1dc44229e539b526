-- Laws of two lists, one behind the other: reads in the first list stay as they were, reads in the second are those of it alone.
-- And numbers read back from their bytes. Assumes nothing.
use Rattle.std.specs.Prelude.{ℕ, ◌+◌, ◌*◌, ◌/◌, ◌%◌, ◌^◌, ◌≤◌, ◌<◌, List, ◌++◌, ◌≡◌, length, take, drop}
use Rattle.std.proofs.Math.Nat.{div-div-eq-div-mul, div-add-mod}
use Rattle.std.proofs.Common.{arith, ap, ap₂, ◌∙◌, length-drop, get_or-append-add}
use Rattle.std.proofs.Math.ListN.{get_or-append}
use Rattle.std.proofs.lemmas.List.{take-append-le, drop-append-le}
use Rattle.std.proofs.Math.Seq.{drop-append-add}
use Rattle.record.specs.Stores.{LocationFits}
use Rattle.record.specs.Bytes.{byte_at, le16, le32, le64, location_at, part}
use Rattle.record.specs.declared.Location.{Location}

abbrev pub of : ℕ → ℕ → Location
of source index = record { source = source; index = index }

module _ (l r : List ℕ) where
  -- ---- in the first list
  pub byte_before : (i : ℕ) → i < length l → byte_at (l ++ r) i ≡ byte_at l i
  byte_before i h = get_or-append l r 0 i h

  pub le16_before : (i : ℕ) → i + 2 ≤ length l → le16 (l ++ r) i ≡ le16 l i
  le16_before i h = omega (arith, byte_before i (omega arith), byte_before (i + 1) (omega arith))

  pub le32_before : (i : ℕ) → i + 4 ≤ length l → le32 (l ++ r) i ≡ le32 l i
  le32_before i h =
      omega (arith, byte_before i (omega arith), byte_before (i + 1) (omega arith), byte_before (i + 2) (omega arith), byte_before (i + 3) (omega arith))

  pub le64_before : (i : ℕ) → i + 8 ≤ length l → le64 (l ++ r) i ≡ le64 l i
  le64_before i h = ap₂ (λ (a b : ℕ). a + 4294967296 * b) (le32_before i (omega arith)) (le32_before (i + 4) (omega arith))

  pub location_before : (i : ℕ) → i + 8 ≤ length l → location_at (l ++ r) i ≡ location_at l i
  location_before i h = ap₂ of (le32_before i (omega arith)) (le32_before (i + 4) (omega arith))

  pub part_before : (i n : ℕ) → i + n ≤ length l → part (l ++ r) i n ≡ part l i n
  part_before i n h =
      let m : n ≤ length (drop i l) = simp length-drop (omega arith) in
      ap (take n) (drop-append-le i l r (omega arith)) ∙ take-append-le n (drop i l) r m

  -- ---- in the second
  pub byte_behind : (i k : ℕ) → k ≡ length l + i → byte_at (l ++ r) k ≡ byte_at r i
  byte_behind i k e = ap (λ (j : ℕ). byte_at (l ++ r) j) e ∙ get_or-append-add l r i 0

  pub le16_behind : (i k : ℕ) → k ≡ length l + i → le16 (l ++ r) k ≡ le16 r i
  le16_behind i k e = omega (arith, byte_behind i k e, byte_behind (i + 1) (k + 1) (omega arith))

  pub le32_behind : (i k : ℕ) → k ≡ length l + i → le32 (l ++ r) k ≡ le32 r i
  le32_behind i k e =
      omega (arith, byte_behind i k e, byte_behind (i + 1) (k + 1) (omega arith), byte_behind (i + 2) (k + 2) (omega arith), byte_behind (i + 3) (k + 3) (omega arith))

  pub le64_behind : (i k : ℕ) → k ≡ length l + i → le64 (l ++ r) k ≡ le64 r i
  le64_behind i k e = ap₂ (λ (a b : ℕ). a + 4294967296 * b) (le32_behind i k e) (le32_behind (i + 4) (k + 4) (omega arith))

  pub location_behind : (i k : ℕ) → k ≡ length l + i → location_at (l ++ r) k ≡ location_at r i
  location_behind i k e = ap₂ of (le32_behind i k e) (le32_behind (i + 4) (k + 4) (omega arith))

  pub part_behind : (i k n : ℕ) → k ≡ length l + i → part (l ++ r) k n ≡ part r i n
  part_behind i k n e = ap (λ (j : ℕ). take n (drop j (l ++ r))) e ∙ ap (take n) (drop-append-add l r i)

-- ---- numbers from their bytes

pub digits16 : (n : ℕ) → n < 2 ^ 16 → n % 256 + 256 * (n / 256 % 256) ≡ n
digits16 n h = omega arith

-- a number's low 32 bits, byte by byte
abbrev pub digits_of : ℕ → ℕ
digits_of w = w % 256 + 256 * (w / 256 % 256) + 65536 * (w / 65536 % 256) + 16777216 * (w / 16777216 % 256)

pub low_digits : (w : ℕ) → digits_of w ≡ w % 4294967296
low_digits w =
    let e₁ : 256 * (w / 256) + w % 256 ≡ w = div-add-mod w 256 in
    let e₂ : 256 * (w / 65536) + w / 256 % 256 ≡ w / 256 = rw (← div-div-eq-div-mul w 256 256) (div-add-mod (w / 256) 256) in
    let e₃ : 256 * (w / 16777216) + w / 65536 % 256 ≡ w / 65536 = rw (← div-div-eq-div-mul w 65536 256) (div-add-mod (w / 65536) 256) in
    let e₄ : 256 * (w / 4294967296) + w / 16777216 % 256 ≡ w / 16777216 = rw (← div-div-eq-div-mul w 16777216 256) (div-add-mod (w / 16777216) 256) in
    let e₅ : 4294967296 * (w / 4294967296) + w % 4294967296 ≡ w = div-add-mod w 4294967296 in
    omega arith

pub digits32 : (n : ℕ) → n < 2 ^ 32 → digits_of n ≡ n
digits32 n h =
    let small : n % 4294967296 ≡ n = omega arith in
    low_digits n ∙ small

pub digits64 : (n : ℕ) → n < 2 ^ 64 → digits_of (n % 2 ^ 32) + 4294967296 * digits_of (n / 2 ^ 32) ≡ n
digits64 n h =
    let low : n % 4294967296 < 2 ^ 32 = omega arith in
    let high : n / 4294967296 < 2 ^ 32 = omega arith in
    let whole : n % 4294967296 + 4294967296 * (n / 4294967296) ≡ n = omega (arith, div-add-mod n 4294967296) in
    ap₂ (λ (a b : ℕ). a + 4294967296 * b) (digits32 (n % 4294967296) low) (digits32 (n / 4294967296) high) ∙ whole

pub location_digits : (l : Location) → LocationFits l → of (digits_of l.source) (digits_of l.index) ≡ l
location_digits l h = ap₂ of (digits32 l.source h.source_fits) (digits32 l.index h.index_fits)

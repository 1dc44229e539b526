-- Laws of padded names: the table has each of them; two names of letters and digits with one key are equal. Assumes nothing.
use Rattle.std.specs.Prelude.{ℕ, zero, suc, ◌+◌, ◌*◌, ◌≤◌, ◌<◌, List, [], ◌∷◌, true, ◌≡◌, refl, length, get_or}
use Rattle.std.proofs.Common.{not-suc-le-zero, arith, ap, ap₂, ◌∙◌}
use Rattle.std.proofs.Math.Bool.{and-eq-true_iff}
use Rattle.std.proofs.Math.ListN.{get_or-append}
use Rattle.record.specs.Bytes.{byte_at, all}
use Rattle.byte_class.specs.Class.{word_byte}
use Rattle.byte_class.proofs.ClassLaws.{word_range}
use Rattle.register_names.specs.RegisterNames.{names}
use Rattle.register_names.specs.Padded.{byte_or_blank, padded, joined, padded_names, key_of}

-- ---- the table
joined_at : (ns : List (List ℕ)) (i j k : ℕ) → i < length ns → j < 4 → k ≡ 4 * i + j → byte_at (joined ns) k ≡ byte_at (padded (get_or ns i [])) j
joined_at [] i j k h b e = absurd (not-suc-le-zero h)
joined_at (n ∷ ns) zero j k h b e =
    let m : k ≡ j = omega arith in
    ap (byte_at (joined (n ∷ ns))) m ∙ get_or-append (padded n) (joined ns) 0 j b
joined_at (n ∷ ns) (suc i) j k h b e =
    let m : k ≡ suc (suc (suc (suc (4 * i + j)))) = omega arith in
    ap (byte_at (joined (n ∷ ns))) m ∙ joined_at ns i j (4 * i + j) (omega arith) b refl

table_key : (i : ℕ) → i < length names
    → byte_at padded_names (4 * i) + 256 * byte_at padded_names (4 * i + 1) + 65536 * byte_at padded_names (4 * i + 2) + 16777216 * byte_at padded_names (4 * i + 3) ≡ key_of (get_or names i [])
unfolding padded_names
table_key i h =
    omega (
      arith,
      joined_at names i 0 (4 * i) h (omega arith) (omega arith),
      joined_at names i 1 (4 * i + 1) h (omega arith) refl,
      joined_at names i 2 (4 * i + 2) h (omega arith) refl,
      joined_at names i 3 (4 * i + 3) h (omega arith) refl,
    )

pub list_key : (list : List ℕ) (i : ℕ) → list ≡ padded_names → i < length names
    → byte_at list (4 * i) + 256 * byte_at list (4 * i + 1) + 65536 * byte_at list (4 * i + 2) + 16777216 * byte_at list (4 * i + 3) ≡ key_of (get_or names i [])
list_key list i e h = rw e (table_key i h)

-- ---- names of letters and digits
pub record Word (name : List ℕ) : Type 0 where
  pub short : length name ≤ 4
  pub word : all word_byte name ≡ true

first_word : (x : ℕ) (xs : List ℕ) → all word_byte (x ∷ xs) ≡ true → (word_byte x ≡ true) × (all word_byte xs ≡ true)
unfolding all
first_word x xs e = (and-eq-true_iff (word_byte x) (all word_byte xs)).0 e

byte_lt : (name : List ℕ) (i : ℕ) → all word_byte name ≡ true → byte_or_blank name i < 256
byte_lt [] i e = omega arith
byte_lt (x ∷ xs) zero e = omega (arith, word_range x (first_word x xs e).0)
byte_lt (x ∷ xs) (suc i) e = byte_lt xs i (first_word x xs e).1

-- Names that agree byte by byte, blanks behind them included, are equal.
alike : (k : ℕ) (a b : List ℕ) → length a ≤ k → length b ≤ k → all word_byte a ≡ true → all word_byte b ≡ true
    → ((i : ℕ) → i < k → byte_or_blank a i ≡ byte_or_blank b i) → a ≡ b
alike k [] [] m n p q h = refl
alike zero [] (y ∷ b) m n p q h = absurd (not-suc-le-zero n)
alike (suc k) [] (y ∷ b) m n p q h = absurd (omega (arith, word_range y (first_word y b q).0, h 0 (omega arith)))
alike zero (x ∷ a) b m n p q h = absurd (not-suc-le-zero m)
alike (suc k) (x ∷ a) [] m n p q h = absurd (omega (arith, word_range x (first_word x a p).0, h 0 (omega arith)))
alike (suc k) (x ∷ a) (y ∷ b) m n p q h =
    ap₂ (λ (u : ℕ) (v : List ℕ). u ∷ v) (h 0 (omega arith))
    (alike k a b (omega arith) (omega arith) (first_word x a p).1 (first_word y b q).1 (λ i l. h (suc i) (omega arith)))

below_four : (P : ℕ → Type 0) → P 0 → P 1 → P 2 → P 3 → (i : ℕ) → i < 4 → P i
below_four P p q r s zero h = p
below_four P p q r s (suc zero) h = q
below_four P p q r s (suc (suc zero)) h = r
below_four P p q r s (suc (suc (suc zero))) h = s
below_four P p q r s (suc (suc (suc (suc i)))) h = absurd (omega arith)

-- Numbers that agree have the same last digit and the same rest.
digit : (a b x y : ℕ) → a < 256 → b < 256 → a + 256 * x ≡ b + 256 * y → (a ≡ b) × (x ≡ y)
digit a b x y h k e =
    let l : x ≤ y = omega arith in
    let m : y ≤ x = omega arith in
    (omega arith, omega arith)

pub same_key : (a b : List ℕ) → Word a → Word b → key_of a ≡ key_of b → a ≡ b
same_key a b u v e =
    let low : List ℕ → ℕ = λ n. byte_or_blank n 2 + 256 * byte_or_blank n 3 in
    let lt : (i : ℕ) → (byte_or_blank a i < 256) × (byte_or_blank b i < 256) = λ i. (byte_lt a i u.word, byte_lt b i v.word) in
    let d = digit (byte_or_blank a 0) (byte_or_blank b 0) (byte_or_blank a 1 + 256 * low a) (byte_or_blank b 1 + 256 * low b) (lt 0).0 (lt 0).1 (omega arith) in
    let f = digit (byte_or_blank a 1) (byte_or_blank b 1) (low a) (low b) (lt 1).0 (lt 1).1 d.1 in
    let g = digit (byte_or_blank a 2) (byte_or_blank b 2) (byte_or_blank a 3) (byte_or_blank b 3) (lt 2).0 (lt 2).1 f.1 in
    alike 4 a b u.short v.short u.word v.word (below_four (λ (i : ℕ). byte_or_blank a i ≡ byte_or_blank b i) d.0 f.0 g.0 g.1)

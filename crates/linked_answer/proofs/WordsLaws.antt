-- The low 32 bits of a signed number, by its sign, and words put one behind the other. Assumes nothing.
use Rattle.std.specs.Prelude.{ℕ, zero, suc, ◌+◌, ◌-◌, ◌*◌, ◌%◌, ◌^◌, ◌≤◌, ◌<◌, ◌≡◌, refl, List, [], ◌∷◌, ◌++◌, map, true, false, ◌&&◌, leb, ℤ, pos, negsuc, length, take, get_or}
use Rattle.std.proofs.Common.{not-suc-le-zero, arith, ap, ◌∙◌, le-leb}
use Rattle.std.proofs.lemmas.Bool.{lt-leb}
use Rattle.std.proofs.lemmas.List.{length-map}
use mathlib.Core.Logic.{◌⊎◌, inl, inr}
use Rattle.std.specs.Int.{int_rem_euclid}
use Rattle.std.specs.Int.RustNames.{unsigned_abs}
use Rattle.record.specs.Stores.{le32_bytes}
use Rattle.refusal.specs.Split.{is_negative, size}
use Rattle.emit_pairs.specs.Pairs.{plain}
use Rattle.emit_bytes.specs.Appended.{word_bytes}
use Rattle.emit_bytes.proofs.AppendedLaws as appended
use Rattle.emit_bytes.proofs.AppendedLaws.{word_of}
use Rattle.linked_answer.specs.Words.{answer_bytes, low_word}

-- ---- low halves
pub low_negative : (z : ℤ) → is_negative z ≡ true → 2 ^ 32 - 1 - size z % 2 ^ 32 ≡ low_word z
unfolding low_word is_negative size
low_negative (pos n) h = let z : ◌≡◌ {A = ℕ} 0 1 = cc in absurd (omega arith)
low_negative (negsuc n) h = refl

pub low_positive : (z : ℤ) → is_negative z ≡ false → size z % 2 ^ 32 ≡ low_word z
unfolding low_word is_negative size
low_positive (pos n) h = refl
low_positive (negsuc n) h = let z : ◌≡◌ {A = ℕ} 0 1 = cc in absurd (omega arith)

-- A low word is the remainder by 2 ^ 32, as Rust's `rem_euclid` gives it.
pub low_left : (z : ℤ) → unsigned_abs (int_rem_euclid z (pos (2 ^ 32))) ≡ low_word z
unfolding low_word
low_left (pos n) = refl
low_left (negsuc n) = refl

-- ---- buffers that are too short
-- A call needs room for its answer, and enough room in one other buffer.
pub no_room : (n : ℕ) (counts answer : List ℕ) → (length answer < answer_bytes) ⊎ ((answer_bytes ≤ length answer) × (length counts < n)) → (leb answer_bytes (length answer) && leb n (length counts)) ≡ false
no_room n counts answer (inl h) = rw (lt-leb answer_bytes (length answer) h) refl
no_room n counts answer (inr h) = rw (le-leb answer_bytes (length answer) h.0, lt-leb n (length counts) h.1) refl

-- ---- words
word_at : (ws : List ℕ) (i : ℕ) → i < length ws → get_or (map word_of (map plain ws)) i [] ≡ le32_bytes (get_or ws i 0)
word_at [] i h = absurd (not-suc-le-zero h)
word_at (w ∷ ws) zero h = refl
word_at (w ∷ ws) (suc i) h = word_at ws i (omega arith)

-- those of the first i words
pub words_upto : (ws : List ℕ) (i : ℕ) → i ≤ length ws → length (word_bytes (take i (map plain ws))) ≡ 4 * i
words_upto ws i h = appended.words_upto (map plain ws) i (omega (arith, length-map ws plain))

-- one word more
pub words_next : (ws : List ℕ) (i : ℕ) → i < length ws → word_bytes (take (i + 1) (map plain ws)) ≡ word_bytes (take i (map plain ws)) ++ le32_bytes (get_or ws i 0)
words_next ws i h = appended.words_next (map plain ws) i (omega (arith, length-map ws plain)) ∙ ap (λ (w : List ℕ). word_bytes (take i (map plain ws)) ++ w) (word_at ws i h)

-- Laws of what a line appends: one word or one record more, and the lengths. Assumes nothing.
use Prim.Native.Nat.{ℕ, zero, suc, ◌+◌, ◌*◌, ◌≤◌, ◌<◌}
use Rattle.std.proofs.Common.{not-suc-le-zero, add-one, arith, ap₂, ◌∙◌, length-append, length-take, length-drop, length-take-le, drop, drop-cons, drop_of_length-le}
use Rattle.std.specs.Prelude.{◌≡◌, refl, length, take, get_or, None, Option, Some}
use Rattle.std.specs.List.{fold, sum_by}
use Rattle.std.proofs.Math.Path.{sym, ap}
use mathlib.Core.List.{List, [], ◌∷◌, ◌++◌, map, append_assoc, append-nil}
use Rattle.record.specs.Stores.{le32_bytes}
use Rattle.address_label.specs.LabelBytes.{name_bytes}
use Rattle.address_label.specs.declared.AddressLabel.{AddressLabel}
use Rattle.address_label.specs.declared.AddressLabel.TheVariants.{Constant, Label}
use Rattle.pending.proofs.PendingBytesLaws.{pending_length}
use Rattle.pending.specs.declared.Origin.{Origin}
use Rattle.emit_pairs.specs.declared.InstructionPair.{InstructionPair}
use Rattle.emit_pairs.specs.Pairs.{plain}
use Rattle.emit_bytes.specs.Appended.{word_bytes, onward, pair_bytes, pendings_bytes, pair_len, pendings_len}
use Rattle.pending.specs.declared.InstructionLabel.{InstructionLabel}

-- ---- words

-- the bytes of one pair's word
abbrev pub word_of : InstructionPair → List ℕ
word_of p = le32_bytes p.word

-- Each word has four bytes.
pub word_length : (ps : List InstructionPair) (i : ℕ) → i < length ps → length (get_or (map word_of ps) i []) ≡ 4
word_length [] i h = absurd (not-suc-le-zero h)
word_length (p ∷ ps) zero h = refl
word_length (p ∷ ps) (suc i) h = word_length ps i (omega arith)

pub words_length : (ps : List InstructionPair) → length (word_bytes ps) ≡ 4 * length ps
unfolding word_bytes
words_length [] = refl
words_length (p ∷ ps) = omega (arith, words_length ps)

-- the length of the first i pairs' words
pub words_upto : (ps : List InstructionPair) (i : ℕ) → i ≤ length ps → length (word_bytes (take i ps)) ≡ 4 * i
words_upto ps i h = words_length (take i ps) ∙ ap (λ (n : ℕ). 4 * n) (length-take-le i ps h)

words_suc : (ps : List InstructionPair) (i : ℕ) → i < length ps
    → word_bytes (take (suc i) ps) ≡ word_bytes (take i ps) ++ get_or (map word_of ps) i []
unfolding word_bytes
words_suc [] i h = absurd (not-suc-le-zero h)
words_suc (p ∷ ps) zero h = refl
words_suc (p ∷ ps) (suc i) h = ap (λ (r : List ℕ). le32_bytes p.word ++ r) (words_suc ps i (omega arith))

-- one word more
pub words_next : (ps : List InstructionPair) (i : ℕ) → i < length ps
    → word_bytes (take (i + 1) ps) ≡ word_bytes (take i ps) ++ get_or (map word_of ps) i []
words_next ps i h = rw add-one (words_suc ps i h)

-- a list that has each pair's word at its place
pub words_are : (ps : List InstructionPair) (words : List (List ℕ)) → length words ≡ length ps
    → ((i : ℕ) → i < length ps → get_or words i [] ≡ word_of (get_or ps i (plain 0))) → words ≡ map word_of ps
words_are [] [] l each = refl
words_are [] (w ∷ ws) l each = absurd (omega arith)
words_are (p ∷ ps) [] l each = absurd (omega arith)
words_are (p ∷ ps) (w ∷ ws) l each =
    ap₂ (λ (x : List ℕ) (xs : List (List ℕ)). x ∷ xs) (each 0 (omega arith)) (words_are ps ws (omega arith) (λ i h. each (suc i) (omega arith)))

-- ---- pending records

pub pair_length : (tokens : List ℕ) (origin : Origin) (waits : Option InstructionLabel) → length (pair_bytes tokens origin waits) ≡ pair_len tokens waits
pair_length tokens origin None = refl
pair_length tokens origin (Some waits) = pending_length tokens origin waits

pub pendings_length : (tokens : List ℕ) (origin : Origin) (ps : List InstructionPair) → length (pendings_bytes tokens origin ps) ≡ pendings_len tokens ps
unfolding pendings_bytes pendings_len
pendings_length tokens origin [] = refl
pendings_length tokens origin (p ∷ ps) =
    simp length-append (omega (arith, pair_length tokens origin p.label, pendings_length tokens (onward origin) ps))

-- the origin of a line's word with index i
unfoldable pub word_at : ℕ → Origin → Origin
word_at zero origin = origin
word_at (suc i) origin = word_at i (onward origin)

pub word_first : (origin : Origin) → origin ≡ word_at 0 origin
unfolding word_at
word_first origin = refl

word_suc : (i : ℕ) (origin : Origin) → onward (word_at i origin) ≡ word_at (suc i) origin
unfolding word_at
word_suc zero origin = refl
word_suc (suc i) origin = word_suc i (onward origin)

pub word_next : (i : ℕ) (origin : Origin) → onward (word_at i origin) ≡ word_at (i + 1) origin
word_next i origin = rw add-one (word_suc i origin)

pub word_offset : (i : ℕ) (origin : Origin) → (word_at i origin).offset ≡ origin.offset + 4 * i
unfolding word_at
word_offset zero origin = omega arith
word_offset (suc i) origin = omega (arith, word_offset i (onward origin))

module _ (tokens : List ℕ) (d : InstructionPair) (w : Option InstructionLabel) where
  pendings_suc : (origin : Origin) (ps : List InstructionPair) (i : ℕ) → i < length ps → (get_or ps i d).label ≡ w
      → pendings_bytes tokens origin (take (suc i) ps) ≡ pendings_bytes tokens origin (take i ps) ++ pair_bytes tokens (word_at i origin) w
  unfolding pendings_bytes word_at
  pendings_suc origin [] i h g = absurd (not-suc-le-zero h)
  pendings_suc origin (p ∷ ps) zero h g = append-nil (pair_bytes tokens origin p.label) ∙ ap (pair_bytes tokens origin) g
  pendings_suc origin (p ∷ ps) (suc i) h g =
      ap (λ (r : List ℕ). pair_bytes tokens origin p.label ++ r) (pendings_suc (onward origin) ps i (omega arith) g)
      ∙ sym (append_assoc (pair_bytes tokens origin p.label) (pendings_bytes tokens (onward origin) (take i ps)) (pair_bytes tokens (word_at i (onward origin)) w))

  -- one pair more: its record has the word's origin
  pub pendings_next : (origin : Origin) (ps : List InstructionPair) (i : ℕ) → i < length ps → (get_or ps i d).label ≡ w
      → pendings_bytes tokens origin (take (i + 1) ps) ≡ pendings_bytes tokens origin (take i ps) ++ pair_bytes tokens (word_at i origin) w
  pendings_next origin ps i h g = rw add-one (pendings_suc origin ps i h g)

  sizes_suc : (ps : List InstructionPair) (i : ℕ) → i < length ps → (get_or ps i d).label ≡ w
      → pendings_len tokens (take (suc i) ps) ≡ pendings_len tokens (take i ps) + pair_len tokens w
  unfolding pendings_len
  sizes_suc [] i h g = absurd (not-suc-le-zero h)
  sizes_suc (p ∷ ps) zero h g = omega (arith, ap (pair_len tokens) g)
  sizes_suc (p ∷ ps) (suc i) h g = omega (arith, sizes_suc ps i (omega arith) g)

  pub sizes_next : (ps : List InstructionPair) (i : ℕ) → i < length ps → (get_or ps i d).label ≡ w
      → pendings_len tokens (take (i + 1) ps) ≡ pendings_len tokens (take i ps) + pair_len tokens w
  sizes_next ps i h g = rw add-one (sizes_suc ps i h g)

-- the records take the sum of their sizes
sizes_fold : (tokens : List ℕ) (ps : List InstructionPair) (size : ℕ) → fold (λ (n : ℕ) (p : InstructionPair). n + pair_len tokens p.label) size ps ≡ size + pendings_len tokens ps
unfolding pendings_len
sizes_fold tokens [] size = omega arith
sizes_fold tokens (p ∷ ps) size = omega (arith, sizes_fold tokens ps (size + pair_len tokens p.label))

pub sizes_sum : (tokens : List ℕ) (ps : List InstructionPair) → sum_by (λ (p : InstructionPair). pair_len tokens p.label) ps ≡ pendings_len tokens ps
sizes_sum tokens ps = omega (arith, sizes_fold tokens ps 0)

-- each of them is at most 36 bytes longer than the token list
name_most : (names : List ℕ) (label : AddressLabel) → length (name_bytes names label) ≤ length names
name_most names (Constant value) = omega arith
name_most names (Label name) = simp (length-take, length-drop) (omega arith)

pair_most : (tokens : List ℕ) (waits : Option InstructionLabel) → pair_len tokens waits ≤ 36 + length tokens
pair_most tokens None = omega arith
pair_most tokens (Some waits) = omega (arith, name_most tokens waits.label)

pub sizes_most : (tokens : List ℕ) (ps : List InstructionPair) → length tokens ≤ 65536 → pendings_len tokens ps ≤ 65572 * length ps
unfolding pendings_len
sizes_most tokens [] h = omega arith
sizes_most tokens (p ∷ ps) h = omega (arith, pair_most tokens p.label, sizes_most tokens ps h)

-- the first pairs' records take no more room than those of more pairs
pub sizes_within : (tokens : List ℕ) (ps : List InstructionPair) (m n : ℕ) → m ≤ n → pendings_len tokens (take m ps) ≤ pendings_len tokens (take n ps)
unfolding pendings_len
sizes_within tokens ps zero n h = omega arith
sizes_within tokens [] (suc m) n h = omega arith
sizes_within tokens (p ∷ ps) (suc m) zero h = absurd (not-suc-le-zero h)
sizes_within tokens (p ∷ ps) (suc m) (suc n) h = omega (arith, sizes_within tokens ps m n (omega arith))

-- there is room for the next pair's record behind those of the pairs before it
pub sizes_room : (tokens : List ℕ) (d : InstructionPair) (w : Option InstructionLabel) (ps : List InstructionPair) (i n : ℕ) → i < n → n ≤ length ps → (get_or ps i d).label ≡ w
    → pendings_len tokens (take i ps) + pair_len tokens w ≤ pendings_len tokens (take n ps)
sizes_room tokens d w ps i n h k g = omega (arith, sizes_next tokens d w ps i (omega arith) g, sizes_within tokens ps (i + 1) n (omega arith))

-- The room for the pairs left: that for the first one, and that for the others.
module _ (tokens : List ℕ) (d : InstructionPair) (ps : List InstructionPair) (i : ℕ) (h : i < length ps) where
  pub sizes_here : pendings_len tokens (drop i ps) ≡ pair_len tokens (get_or ps i d).label + pendings_len tokens (drop (i + 1) ps)
  unfolding pendings_len
  sizes_here = rw (add-one, drop-cons ps i d h) refl

  pub pendings_here : (origin : Origin) → pendings_bytes tokens origin (drop i ps) ≡ pair_bytes tokens origin (get_or ps i d).label ++ pendings_bytes tokens (onward origin) (drop (i + 1) ps)
  unfolding pendings_bytes
  pendings_here origin = rw (add-one, drop-cons ps i d h) refl

module _ (tokens : List ℕ) (ps : List InstructionPair) (i : ℕ) (h : length ps ≤ i) where
  pub sizes_end : pendings_len tokens (drop i ps) ≡ 0
  unfolding pendings_len
  sizes_end = rw (drop_of_length-le ps h) refl

  pub pendings_end : (origin : Origin) → pendings_bytes tokens origin (drop i ps) ≡ []
  unfolding pendings_bytes
  pendings_end origin = rw (drop_of_length-le ps h) refl

-- A word read where its bytes stand is that word. Assumes nothing.
use Rattle.std.specs.Prelude.{ℕ, zero, suc, ◌+◌, ◌*◌, ◌^◌, ◌<◌, ◌≡◌, List, [], ◌∷◌, length, get_or}
use Rattle.std.proofs.Common.{arith, sym, ap, ◌∙◌}
use Rattle.record.specs.Bytes.{le32, part}
use Rattle.record.specs.Stores.{le32_bytes}
use Rattle.record.proofs.BehindLaws.{le32_behind, digits32}
use Rattle.emit_pairs.specs.declared.InstructionPair.{InstructionPair}
use Rattle.emit_bytes.specs.Appended.{word_bytes}
use Rattle.formats.specs.Operations.{words_of}
use Rattle.reading.proofs.ImageLaws.{part_word}

-- every word has 32 bits
abbrev pub Words32 : List ℕ → Type 0
Words32 [] = Unit {0}
Words32 (w ∷ ws) = (w < 2 ^ 32) × Words32 ws

-- word j of a line's bytes
read_word : (ps : List InstructionPair) → Words32 (words_of ps) → (j : ℕ) → j < length ps → le32 (word_bytes ps) (4 * j) ≡ get_or (words_of ps) j 0
unfolding word_bytes
read_word [] h j k = absurd (omega arith)
read_word (p ∷ ps) h zero k = digits32 p.word h.0
read_word (p ∷ ps) h (suc j) k =
    le32_behind (le32_bytes p.word) (word_bytes ps) (4 * j) (4 * suc j) (omega arith) ∙ read_word ps h.1 j (omega arith)

pub words_there : (s : List ℕ) (i : ℕ) (ps : List InstructionPair) → Words32 (words_of ps) → part s i (4 * length ps) ≡ word_bytes ps
    → (j : ℕ) → j < length ps → le32 s (i + 4 * j) ≡ get_or (words_of ps) j 0
words_there s i ps h e j k =
    sym (part_word s i (4 * length ps) (4 * j) (omega arith)) ∙ ap (λ (l : List ℕ). le32 l (4 * j)) e ∙ read_word ps h j k

-- The uses of a line's pendings, one after the other: "Each emitted line updates the index" (document 02, P1). Assumes nothing.
use Rattle.std.specs.Prelude.{ℕ, ◌+◌, List, [], ◌∷◌, Bool, true, false, ◌||◌, length, None, Option, Some}
use Rattle.record.specs.Bytes.{part}
use Rattle.address_label.specs.declared.AddressLabel.{AddressLabel}
use Rattle.address_label.specs.declared.AddressLabel.TheVariants.{Constant, Label}
use Rattle.emit_pairs.specs.declared.InstructionPair.{InstructionPair}
use Rattle.label_uses.specs.Uses.{UseKey, Use, use_order, key_for, use_of}
use Rattle.std.specs.declared.cmp.Ordering.TheVariants.{Less, Equal, Greater}
use Rattle.std.specs.declared.cmp.Ordering.{Ordering}
use Rattle.pending.specs.declared.InstructionLabel.{InstructionLabel}

-- ---- the uses after a line

-- adds the use of the label that a word waits for, as pending number n; the token list holds the names
abbrev pub pair_use : (labels names : List ℕ) → Option InstructionLabel → ℕ → List Use → List Use
pair_use labels names None n us = us
pair_use labels names (Some waits) n us = use_of labels names waits.label n us

-- the number of the next pending
abbrev pub next_number : Option InstructionLabel → ℕ → ℕ
next_number None n = n
next_number (Some waits) n = n + 1

unfoldable pub line_uses : (labels names : List ℕ) → ℕ → List InstructionPair → List Use → List Use
line_uses labels names n [] us = us
line_uses labels names n (p ∷ ps) us = line_uses labels names (next_number p.label n) ps (pair_use labels names p.label n us)

unfoldable pub number_after : ℕ → List InstructionPair → ℕ
number_after n [] = n
number_after n (p ∷ ps) = number_after (next_number p.label n) ps

-- ---- which keys are there

abbrev pub is_same : Ordering → Bool
is_same Less = false
is_same Equal = true
is_same Greater = false

abbrev pub same_key : UseKey → UseKey → Bool
same_key a b = is_same (use_order a b)

unfoldable pub has_key : UseKey → List Use → Bool
has_key key [] = false
has_key key (u ∷ us) = same_key key u.key || has_key key us

abbrev pub label_has : (labels names : List ℕ) → UseKey → AddressLabel → Bool
label_has labels names key (Constant value) = false
label_has labels names key (Label l) = same_key key (key_for labels l.location.source (part names l.name_at l.name_len))

abbrev pub pair_has : (labels names : List ℕ) → UseKey → Option InstructionLabel → Bool
pair_has labels names key None = false
pair_has labels names key (Some waits) = label_has labels names key waits.label

unfoldable pub key_among : (labels names : List ℕ) → UseKey → List InstructionPair → Bool
key_among labels names key [] = false
key_among labels names key (p ∷ ps) = pair_has labels names key p.label || key_among labels names key ps

-- ---- how many bytes one more use adds to the index: two if the key is held already, else a record of 13 bytes and the name

abbrev pub growth_of : (held : Bool) → (name : List ℕ) → ℕ
growth_of held name = elim held [ true ↦ 2 | false ↦ 13 + length name ]

abbrev pub label_growth : (labels names : List ℕ) → (UseKey → Bool) → AddressLabel → ℕ
label_growth labels names held (Constant value) = 0
label_growth labels names held (Label l) =
    let key = key_for labels l.location.source (part names l.name_at l.name_len) in
    growth_of (held key) key.name

abbrev pub pair_growth : (labels names : List ℕ) → (UseKey → Bool) → Option InstructionLabel → ℕ
pair_growth labels names held None = 0
pair_growth labels names held (Some waits) = label_growth labels names held waits.label

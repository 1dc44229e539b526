-- Descriptor records, kind 33: the instruction table (document 01, 'Mnemonic 32, descriptor 33'). Assumes nothing.
use Rattle.std.specs.Prelude.{ℕ, ◌+◌, List, [], ◌∷◌, Bool, true, false, ◌&&◌, ◌||◌, get_or, leb, eqb, None, Option, Some}
use Rattle.record.specs.Bytes.{byte_at, is_text, all}
use Rattle.record.specs.Records.{body_len, kind_at, whole, places, first_bad, within_limit}
use Rattle.names.specs.Names.{name_of, first_named, first_repeat}
use Rattle.instructions.specs.declared.Opcode.{Opcode}
use Rattle.instructions.specs.declared.Opcode.TheVariants.{Op, Func, Special, Algebra, Cop1, Cop1I}
use Rattle.instructions.specs.declared.Size.{Size}
use Rattle.instructions.specs.declared.Size.TheVariants.{Single, Double, Word}
use Rattle.instructions.specs.declared.Encoding.{Encoding}
use Rattle.instructions.specs.declared.Encoding.TheVariants.{Register, RegisterShift, Source, Destination, Inputs, Sham, SpecialBranch, Immediate, LoadImmediate, Jump, Branch, BranchZero, Parameterless, Offset, FPOffset, FP3Register, FP2Register, FPMove, FPCond, FPCrossMove, FPBranch}
use Rattle.descriptors.specs.declared.Instruction.{Instruction}

-- "opcode class (0 to 5 in `Opcode` order), key, encoding (0 to 20 in `Encoding` order), size (0 Single, 1 Double, 2 Word), flag,
-- alternative present, its class, its key, one byte each, then a name of 1 to 16 bytes"
abbrev pub class_of : List ℕ → ℕ → ℕ
class_of s at = byte_at s (at + 4)

abbrev pub key_of : List ℕ → ℕ → ℕ
key_of s at = byte_at s (at + 5)

abbrev pub encoding_of : List ℕ → ℕ → ℕ
encoding_of s at = byte_at s (at + 6)

abbrev pub size_of : List ℕ → ℕ → ℕ
size_of s at = byte_at s (at + 7)

abbrev pub flag_of : List ℕ → ℕ → ℕ
flag_of s at = byte_at s (at + 8)

abbrev pub present_of : List ℕ → ℕ → ℕ
present_of s at = byte_at s (at + 9)

abbrev pub alt_class_of : List ℕ → ℕ → ℕ
alt_class_of s at = byte_at s (at + 10)

abbrev pub alt_key_of : List ℕ → ℕ → ℕ
alt_key_of s at = byte_at s (at + 11)

-- the greatest value of a field, if the encoding uses it; else "A field that the encoding has no use for is 0."
-- Size is used by FP3Register, FP2Register, FPMove and FPCond, the flag by FPMove, FPCrossMove and FPBranch ("Flags are 0 or 1")
abbrev pub most_size : ℕ → ℕ
most_size e = elim (leb 15 e && leb e 18) [ true ↦ 2 | false ↦ 0 ]

abbrev pub most_flag : ℕ → ℕ
most_flag e = elim (eqb e 17 || leb 19 e) [ true ↦ 1 | false ↦ 0 ]

-- only Immediate uses the alternative; if there is none, its class and key are 0
abbrev pub most_present : ℕ → ℕ
most_present e = elim (eqb e 7) [ true ↦ 1 | false ↦ 0 ]

abbrev pub most_alternative : ℕ → ℕ → ℕ
most_alternative present most = elim (eqb present 1) [ true ↦ most | false ↦ 0 ]

unfoldable pub fields_ok : List ℕ → ℕ → Bool
fields_ok s at =
    leb (class_of s at) 5 && leb (encoding_of s at) 20 && leb (size_of s at) (most_size (encoding_of s at)) && leb (flag_of s at) (most_flag (encoding_of s at))
    && leb (present_of s at) (most_present (encoding_of s at)) && leb (alt_class_of s at) (most_alternative (present_of s at) 5) && leb (alt_key_of s at) (most_alternative (present_of s at) 255)

unfoldable pub descriptor_ok : List ℕ → ℕ → Bool
unfolding fields_ok all
descriptor_ok s at = whole s at && (eqb (kind_at s at) 33 && leb 9 (body_len s at) && leb (body_len s at) 24 && fields_ok s at && all is_text (name_of 8 s at))

unfoldable pub descriptor_layout : List ℕ → Option ℕ
unfolding descriptor_ok first_bad places within_limit
descriptor_layout s = within_limit s (first_bad (descriptor_ok s) (places s))

-- refusal 2: "Two descriptors ... share a name"
abbrev pub descriptor_repeat : List ℕ → Option ℕ
descriptor_repeat s = first_repeat 8 s

-- the place of the descriptor with that name
abbrev pub find_descriptor : List ℕ → List ℕ → Option ℕ
find_descriptor s name = first_named 8 s name

-- ---- a descriptor taken apart
abbrev pub opcode_from : ℕ → ℕ → Opcode
opcode_from class key = get_or (Op key ∷ Func key ∷ Special key ∷ Algebra key ∷ Cop1 key ∷ []) class (Cop1I key)

abbrev pub size_from : ℕ → Size
size_from n = get_or (Single ∷ Double ∷ []) n Word

abbrev pub alternative_at : List ℕ → ℕ → Option Opcode
alternative_at s at = elim (eqb (present_of s at) 1) [ true ↦ Some (opcode_from (alt_class_of s at) (alt_key_of s at)) | false ↦ None ]

-- the first twenty encodings in order, with what each carries; the last is FPBranch, in `instruction_at`
abbrev pub encodings_at : List ℕ → ℕ → List Encoding
encodings_at s at =
    Register ∷ RegisterShift ∷ Source ∷ Destination ∷ Inputs ∷ Sham ∷ SpecialBranch ∷ Immediate (alternative_at s at) ∷ LoadImmediate ∷ Jump ∷ Branch ∷ BranchZero
    ∷ Parameterless ∷ Offset ∷ FPOffset ∷ FP3Register (size_from (size_of s at)) ∷ FP2Register (size_from (size_of s at))
    ∷ FPMove (size_from (size_of s at)) (eqb (flag_of s at) 1) ∷ FPCond (size_from (size_of s at)) ∷ FPCrossMove (eqb (flag_of s at) 1) ∷ []

abbrev pub instruction_at : List ℕ → ℕ → Instruction
instruction_at s at = record {
  opcode = opcode_from (class_of s at) (key_of s at);
  encoding = get_or (encodings_at s at) (encoding_of s at) (FPBranch (eqb (flag_of s at) 1));
}

-- A line's words, each with the label it waits for (document 01, 'Words'). Assumes nothing.
use Rattle.std.specs.Prelude.{ℕ, ◌-◌, ◌^◌, ◌%◌, ◌≡◌, List, [], ◌∷◌, ◌++◌, map, Bool, true, false, ◌||◌, length, take, leb, ltb, Err, None, Ok, Option, Result, Some}
use Rattle.instructions.specs.declared.Opcode.{Opcode}
use Rattle.instructions.specs.declared.Opcode.TheVariants.{Op}
use Rattle.loading.specs.declared.LoadForm.{LoadForm}
use Rattle.loading.specs.declared.LoadForm.TheVariants.{Nothing as Unloaded}
use Rattle.loading.specs.Load.{form_of, load_words}
use Rattle.address_label.specs.declared.AddressLabel.{AddressLabel}
use Rattle.address_label.specs.declared.AddressLabel.TheVariants.{Constant, Label}
use Rattle.pending.specs.declared.InstructionLabelKind.{InstructionLabelKind}
use Rattle.pending.specs.declared.InstructionLabelKind.TheVariants.{Lower, Upper}
use Rattle.emit_pairs.specs.declared.InstructionPair.{InstructionPair}
use Rattle.emit_pairs.specs.declared.emit_instruction.EmitInstruction.{EmitInstruction}
use Rattle.emit_pairs.specs.declared.Fault.TheVariants.{Immediate}
use Rattle.emit_words.specs.Words.{register_word, immediate_word}
use Rattle.emit_pairs.specs.declared.Fault.{Fault}

-- a word that waits for no label, and one that waits
abbrev pub plain : ℕ → InstructionPair
plain w = record { word = w; label = None }

abbrev pub waiting : ℕ → InstructionLabelKind → AddressLabel → InstructionPair
waiting w kind label = record { word = w; label = Some (record { kind = kind; label = label }) }

-- the line's words: the first `count`
abbrev pub pairs_of : EmitInstruction → List InstructionPair
pairs_of e = take e.count e.instructions

-- e holds the pairs ps, and the line's constant is loaded by this form
pub record EmitIs (e : EmitInstruction) (ps : List InstructionPair) (form : LoadForm) : Type 0 where
  pub pairs_are : pairs_of e ≡ ps
  pub count_is : e.count ≡ length ps
  pub form_is : e.loaded ≡ form

-- $at
abbrev pub at_number : ℕ
at_number = 1

-- the words that load a constant
unfoldable pub load_pairs : ℕ → ℕ → List InstructionPair
unfolding load_words
load_pairs constant t = map plain (load_words constant t)

-- make_label: a constant is loaded; for a name, lui waits for its upper half and ori for its lower
unfoldable pub label_pairs : AddressLabel → ℕ → List InstructionPair
unfolding load_pairs
label_pairs (Constant c) t = load_pairs c t
label_pairs (Label name) t = waiting (immediate_word (Op 15) 0 t 0) Upper (Label name) ∷ waiting (immediate_word (Op 13) t t 0) Lower (Label name) ∷ []

-- how a label's constant is loaded; a name is not loaded
abbrev pub label_form : AddressLabel → LoadForm
label_form (Constant c) = form_of c
label_form (Label name) = Unloaded

-- "Immediate operands are tested as signed 64-bit": -32,768 to 32,767
unfoldable pub is_immediate : ℕ → Bool
is_immediate c = ltb c 32768 || leb (2 ^ 64 - 32768) c

-- whether a line's operands are in range, or which fault they have
abbrev pub Range : Type 0
Range = Result (Unit {0}) Fault

-- "9. An immediate without alternative lies outside -32,768 to 32,767"
abbrev pub immediate_range : Option Opcode → ℕ → Range
immediate_range None c = elim (is_immediate c) [ true ↦ Ok tt | false ↦ Err Immediate ]
immediate_range (Some alt) c = Ok tt

-- out of range: the constant is loaded into $at for the alternative's word; without an alternative, refusal 9 leaves no word
abbrev pub fallback_pairs : Option Opcode → (rt rs c : ℕ) → List InstructionPair
fallback_pairs None rt rs c = []
fallback_pairs (Some alt) rt rs c = load_pairs c at_number ++ plain (register_word alt rt rs at_number) ∷ []

unfoldable pub immediate_pairs : Opcode → Option Opcode → (rt rs c : ℕ) → List InstructionPair
unfolding is_immediate load_pairs
immediate_pairs op alt rt rs c = elim (is_immediate c) [ true ↦ plain (immediate_word op rs rt (c % 65536)) ∷ [] | false ↦ fallback_pairs alt rt rs c ]

-- a constant in range is in the word's own immediate field; else it is loaded for the alternative
abbrev pub fallback_form : Option Opcode → ℕ → LoadForm
fallback_form None c = Unloaded
fallback_form (Some alt) c = form_of c

abbrev pub immediate_form : Option Opcode → ℕ → LoadForm
immediate_form alt c = elim (is_immediate c) [ true ↦ Unloaded | false ↦ fallback_form alt c ]

-- The words of each encoding of float registers, from its operands in the line's order (emit.rs). Assumes nothing.
use Rattle.std.specs.Prelude.{ℕ, List, [], ◌∷◌, Bool}
use Rattle.registers.specs.Numbers.{fp_register_number}
use Rattle.registers.specs.declared.FPRegisterSlot.{FPRegisterSlot}
use Rattle.instructions.specs.declared.Opcode.{Opcode}
use Rattle.jobs.specs.declared.Format.{Format}
use Rattle.address_label.specs.declared.AddressLabel.{AddressLabel}
use Rattle.pending.specs.declared.InstructionLabelKind.TheVariants.{Branch}
use Rattle.emit_words.specs.Words.{fp3_word, fp2_word, fp_move_word, fp_cond_word, fp_cross_move_word, fp_branch_word}
use Rattle.emit_pairs.specs.declared.InstructionPair.{InstructionPair}
use Rattle.emit_pairs.specs.Pairs.{plain, waiting}

module _ (op : Opcode) where
  abbrev pub fp3_pairs : Format → (dest source temp : FPRegisterSlot) → List InstructionPair
  fp3_pairs fmt dest source temp = plain (fp3_word op fmt (fp_register_number dest) (fp_register_number source) (fp_register_number temp)) ∷ []

  abbrev pub fp2_pairs : Format → (dest source : FPRegisterSlot) → List InstructionPair
  fp2_pairs fmt dest source = plain (fp2_word op fmt (fp_register_number dest) (fp_register_number source)) ∷ []

  abbrev pub fp_move_pairs : Format → Bool → (dest source : FPRegisterSlot) → (code : ℕ) → List InstructionPair
  fp_move_pairs fmt flag dest source code = plain (fp_move_word op fmt (fp_register_number dest) (fp_register_number source) code flag) ∷ []

  abbrev pub fp_cond_pairs : Format → (code : ℕ) → (source target : FPRegisterSlot) → List InstructionPair
  fp_cond_pairs fmt code source target = plain (fp_cond_word op fmt code (fp_register_number source) (fp_register_number target)) ∷ []

  -- the numbers of the first and the second register: one is general, one is float
  abbrev pub fp_cross_move_pairs : (first second : ℕ) → List InstructionPair
  fp_cross_move_pairs first second = plain (fp_cross_move_word op first second) ∷ []

  abbrev pub fp_branch_pairs : Bool → (code : ℕ) → AddressLabel → List InstructionPair
  fp_branch_pairs flag code label = waiting (fp_branch_word op code flag) Branch label ∷ []

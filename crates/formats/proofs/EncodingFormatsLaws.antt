-- The words of each encoding load its constant, and then have its formats. Assumes nothing.
use Rattle.std.specs.Prelude.{ℕ, ◌%◌, ◌<◌, ◌≡◌, Bool, [], ◌∷◌, ◌++◌, Err, None, Ok, Some, Option}
use Rattle.std.proofs.Math.Bool.{true, false}
use Rattle.std.proofs.Common.{append_assoc, arith, lit<}
use Rattle.jobs.specs.declared.Job.{Job}
use Rattle.jobs.specs.Jobs.{format_of, source_opcode}
use Rattle.registers.specs.Numbers.{register_number as number, fp_register_number as fp_number}
use Rattle.registers.specs.NumberLaws.{register_lt, fp_register_lt}
use Rattle.registers.specs.declared.RegisterSlot.{RegisterSlot}
use Rattle.registers.specs.declared.RegisterSlot.TheVariants.{AssemblerTemporary}
use Rattle.instructions.specs.declared.Opcode.{Opcode}
use Rattle.instructions.specs.declared.Opcode.TheVariants.{Func}
use Rattle.instructions.specs.declared.Encoding.{Encoding}
use Rattle.instructions.specs.declared.Encoding.TheVariants.{Register, RegisterShift, Source, Destination, Inputs, Sham, SpecialBranch, Immediate, LoadImmediate, Jump, Branch, BranchZero, Parameterless, Offset, FPOffset, FP3Register, FP2Register, FPMove, FPCond, FPCrossMove, FPBranch}
use Rattle.address_label.specs.declared.AddressLabel.TheVariants.{Constant, Label}
use Rattle.pending.specs.declared.InstructionLabelKind.TheVariants.{Branch as BranchKind}
use Rattle.operand.specs.declared.InstructionValue.{InstructionValue}
use Rattle.operand.specs.declared.OffsetOrLabel.{OffsetOrLabel}
use Rattle.operand.specs.declared.OffsetOrLabel.TheVariants.{Label as Address, Offset as Based}
use Rattle.operand_list.specs.OperandLists.{AskedAll}
use Rattle.emit_words.specs.Words.{destination_word, inputs_word, register_word, immediate_word}
use Rattle.emit_pairs.specs.declared.Fault.TheVariants.{Immediate as ImmediateFault}
use Rattle.emit_pairs.specs.Pairs.{plain, waiting, load_pairs, label_pairs, is_immediate, immediate_range, immediate_pairs, Range}
use Rattle.emit_pairs.specs.Values.{constant_pairs}
use Rattle.emit_integer.specs.IntegerWords.{inputs_pairs, offset_line_pairs}
use Rattle.emit_dispatch.specs.Wants.{encoding_wants}
use Rattle.emit_dispatch.proofs.LinesLaws.{then_within}
use Rattle.emit_dispatch.specs.Lines.{kept_range, encoding_range, encoding_pairs}
use Rattle.formats.proofs.Formats.{Has, InFormats, first, register}
use Rattle.formats.proofs.FormatsLaws.{base_register, base_jump, source_register, source_branch, destination_register, inputs_register, inputs_branch, register_register, immediate_immediate, load_immediate, sham_register, three_float, two_float, cross_float, move_float, cond_float, branch_float}
use Rattle.formats.specs.Operations.{encoded, loads_of, words_of}
use Rattle.emit_dispatch.specs.LineLoads.{into_at, maybe_loads, immediate_loads, offset_loads}
use Rattle.formats.proofs.EncodingFormats.{in_register, in_immediate, in_branch, $at, inputs_formats, immediate_formats, added_formats, offset_formats, encoding_formats}
use Rattle.formats.proofs.LineFormats.{LoadThen}
use Rattle.formats.proofs.LineFormatsLaws.{one, alone, same_pairs, loaded_then, value_then, named}

-- ---- the encodings with several forms

module _ (op : Opcode) where
  inputs_words : (a b : RegisterSlot) (v : Option InstructionValue) → LoadThen (maybe_loads v) (inputs_formats op (number a) (number b) v) (words_of (inputs_pairs op a b v))
  inputs_words a b None = alone (one (inputs_register op (number a) (number b) (register_lt a) (register_lt b)))
  inputs_words a b (Some v) =
      value_then v (λ n. in_register op (number b) n 0 0 ∷ register 0 0 0 (number a) 0 18 ∷ [])
      (λ n. plain (inputs_word op (number b) n) ∷ plain (destination_word (Func 18) (number a)) ∷ [])
      (λ n h. first (inputs_register op (number b) n (register_lt b) h) (one (destination_register (Func 18) (number a) (register_lt a))))

  -- an immediate in range, and the alternative if it is out of range
  module _ (rt rs c : ℕ) (ht : rt < 32) (hs : rs < 32) where
    taken : Has (immediate_word op rs rt (c % 65536)) (in_immediate op rs rt (c % 65536))
    taken = immediate_immediate op rs rt hs ht (c % 65536) (omega arith)

    taken_or_loaded : (alt : Opcode) (b : Bool)
        → LoadThen (elim b [ true ↦ None | false ↦ into_at c ]) (elim b [ true ↦ in_immediate op rs rt (c % 65536) ∷ [] | false ↦ in_register alt rs $at rt 0 ∷ [] ])
        (words_of (elim b [ true ↦ plain (immediate_word op rs rt (c % 65536)) ∷ [] | false ↦ load_pairs c $at ++ plain (register_word alt rt rs $at) ∷ [] ]))
    taken_or_loaded alt true = alone (one taken)
    taken_or_loaded alt false = loaded_then c AssemblerTemporary (plain (register_word alt rt rs $at) ∷ []) (one (register_register alt rs $at hs (lit< tt) rt ht))

    taken_alone : (b : Bool) → ◌≡◌ {A = Range} (elim b [ true ↦ Ok tt | false ↦ Err ImmediateFault ]) (Ok tt)
        → LoadThen (elim b [ true ↦ None | false ↦ into_at c ]) (in_immediate op rs rt (c % 65536) ∷ [])
        (words_of (elim b [ true ↦ plain (immediate_word op rs rt (c % 65536)) ∷ [] | false ↦ [] ]))
    taken_alone true e = alone (one taken)
    taken_alone false e = let z : ◌≡◌ {A = ℕ} 0 1 = cc in absurd (omega arith)

    pub immediate_words : (alt : Option Opcode) → immediate_range alt c ≡ Ok tt → LoadThen (immediate_loads c) (immediate_formats op alt rt rs c) (words_of (immediate_pairs op alt rt rs c))
    unfolding immediate_pairs
    immediate_words None e = taken_alone (is_immediate c) e
    immediate_words (Some alt) e = taken_or_loaded alt (is_immediate c)

  -- An address: the base is added to $at, and the instruction goes through $at.
  module _ (rt : ℕ) (ht : rt < 32) where
    through_at : Has (immediate_word op $at rt 0) (in_immediate op $at rt 0)
    through_at = immediate_immediate op $at rt (lit< tt) ht 0 (lit< tt)

    added : (base : RegisterSlot) → InFormats (register_word (Func 32) $at $at (number base) ∷ immediate_word op $at rt 0 ∷ []) (added_formats op rt (number base))
    added base = first (register_register (Func 32) $at (number base) (lit< tt) (register_lt base) $at (lit< tt)) (one through_at)

    based : (c : ℕ) (base : RegisterSlot) (b : Bool)
        → LoadThen (elim b [ true ↦ None | false ↦ into_at c ]) (elim b [ true ↦ in_immediate op (number base) rt (c % 65536) ∷ [] | false ↦ added_formats op rt (number base) ])
        (words_of (constant_pairs b c base
        ++ plain (immediate_word op (elim b [ true ↦ number base | false ↦ $at ]) rt (elim b [ true ↦ c % 65536 | false ↦ 0 ])) ∷ []))
    unfolding label_pairs
    based c base true = alone (one (taken rt (number base) c ht (register_lt base)))
    based c base false =
        let add = plain (register_word (Func 32) $at $at (number base)) in
        let load = plain (immediate_word op $at rt 0) in
        same_pairs (append_assoc (load_pairs c $at) (add ∷ []) (load ∷ [])) (loaded_then c AssemblerTemporary (add ∷ load ∷ []) (added base))

    offset_words : (o : OffsetOrLabel) → LoadThen (offset_loads o) (offset_formats op rt o) (words_of (offset_line_pairs op rt o))
    unfolding label_pairs
    offset_words (Based (Constant c) base) = based c base (is_immediate c)
    offset_words (Based (Label name) base) = alone (named AssemblerTemporary (added base))
    offset_words (Address (Constant c)) = loaded_then c AssemblerTemporary (plain (immediate_word op $at rt 0) ∷ []) (one through_at)
    offset_words (Address (Label name)) = alone (named AssemblerTemporary (one through_at))

-- ---- all encodings

pub encoding_words : (job : Job) (e : Encoding) (op : Opcode) (x : AskedAll (encoding_wants e)) → encoding_range job e op x ≡ Ok tt
    → LoadThen (loads_of (encoded e op) x) (encoding_formats job e op x) (words_of (encoding_pairs job e op x))
encoding_words job Register op x h =
    value_then x.2 (λ n. in_register op (number x.1) n (number x.0) 0 ∷ []) (λ n. plain (register_word op (number x.0) (number x.1) n) ∷ [])
    (λ n k. one (register_register op (number x.1) n (register_lt x.1) k (number x.0) (register_lt x.0)))
encoding_words job RegisterShift op x h = alone (one (register_register op (number x.2) (number x.1) (register_lt x.2) (register_lt x.1) (number x.0) (register_lt x.0)))
encoding_words job Source op x h = alone (one (source_register (source_opcode job op) (number x.0) (register_lt x.0)))
encoding_words job Destination op x h = alone (one (destination_register op (number x.0) (register_lt x.0)))
encoding_words job Inputs op x h = inputs_words op x.0 x.1 x.2
encoding_words job Sham op x h = alone (one (sham_register op (number x.0) (number x.1) x.2 (register_lt x.0) (register_lt x.1)))
encoding_words job SpecialBranch op x h = alone (one (source_branch op (number x.0) (register_lt x.0)))
encoding_words job (Immediate alt) op x h =
    immediate_words op (number x.0) (number x.1) x.2 (register_lt x.0) (register_lt x.1) alt (then_within (kept_range job false op) (immediate_range alt x.2) h).1
encoding_words job LoadImmediate op x h = alone (one (load_immediate op (number x.0) (x.1 % 65536) (register_lt x.0) (omega arith)))
encoding_words job Jump op x h = alone (one (base_jump op))
encoding_words job Branch op x h =
    value_then x.1 (λ n. in_branch op (number x.0) n ∷ []) (λ n. waiting (inputs_word op (number x.0) n) BranchKind x.2 ∷ [])
    (λ n k. one (inputs_branch op (number x.0) n (register_lt x.0) k))
encoding_words job BranchZero op x h = alone (one (source_branch op (number x.0) (register_lt x.0)))
encoding_words job Parameterless op x h = alone (one (base_register op))
encoding_words job Offset op x h = offset_words op (number x.0) (register_lt x.0) x.1
encoding_words job FPOffset op x h = offset_words op (fp_number x.0) (fp_register_lt x.0) x.1
encoding_words job (FP3Register fmt) op x h =
    alone (one (three_float op (format_of job fmt) (fp_number x.0) (fp_number x.1) (fp_number x.2) (fp_register_lt x.0) (fp_register_lt x.1) (fp_register_lt x.2)))
encoding_words job (FP2Register fmt) op x h = alone (one (two_float op (format_of job fmt) (fp_number x.0) (fp_number x.1) (fp_register_lt x.0) (fp_register_lt x.1)))
encoding_words job (FPMove fmt flag) op x h = alone (one (move_float op (format_of job fmt) (fp_number x.0) (fp_number x.1) x.2 flag (fp_register_lt x.0) (fp_register_lt x.1)))
encoding_words job (FPCond fmt) op x h = alone (one (cond_float op (format_of job fmt) x.0 (fp_number x.1) (fp_number x.2) (fp_register_lt x.1) (fp_register_lt x.2)))
encoding_words job (FPCrossMove true) op x h = alone (one (cross_float op (fp_number x.0) (number x.1) (fp_register_lt x.0) (register_lt x.1)))
encoding_words job (FPCrossMove false) op x h = alone (one (cross_float op (number x.0) (fp_number x.1) (register_lt x.0) (fp_register_lt x.1)))
encoding_words job (FPBranch flag) op x h = alone (one (branch_float op x.0 flag))

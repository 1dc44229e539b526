-- The words of each pseudo-instruction load its constant, and then have its formats. Assumes nothing.
use Rattle.std.specs.Prelude.{ℕ, ◌<◌, refl, Bool, true, false, List, [], ◌∷◌, ◌++◌, Some}
use Rattle.std.proofs.Common.{subst, append_assoc, lit<}
use Rattle.jobs.specs.declared.Job.{Job}
use Rattle.jobs.specs.declared.Job.TheVariants.{Commit, Manual}
use Rattle.jobs.specs.Jobs.{by_manual, abs_first_word}
use Rattle.registers.specs.Numbers.{register_number as number}
use Rattle.registers.specs.NumberLaws.{register_lt}
use Rattle.registers.specs.declared.RegisterSlot.{RegisterSlot}
use Rattle.registers.specs.declared.RegisterSlot.TheVariants.{Zero, AssemblerTemporary}
use Rattle.instructions.specs.declared.Opcode.TheVariants.{Op, Func}
use Rattle.pseudo_names.specs.declared.Pseudo.{Pseudo}
use Rattle.pseudo_names.specs.declared.Pseudo.TheVariants.{Nop, Abs, BranchCustom, SetCustom, Beqz, Bnez, Seq, Sne, Neg, Negu, Not, Li, La, Move, B, Subi, Subiu}
use Rattle.address_label.specs.declared.AddressLabel.{AddressLabel}
use Rattle.address_label.specs.declared.AddressLabel.TheVariants.{Constant, Label}
use Rattle.pending.specs.declared.InstructionLabelKind.TheVariants.{Branch as BranchKind}
use Rattle.operands.specs.Operands.{with_sign}
use Rattle.operand_list.specs.OperandLists.{AskedAll}
use Rattle.emit_words.specs.Words.{inputs_word, register_word}
use Rattle.emit_words.proofs.WordsLaws.{abs_commit, abs_manual}
use Rattle.emit_pairs.specs.declared.InstructionPair.{InstructionPair}
use Rattle.emit_pairs.specs.Pairs.{plain, waiting, label_pairs}
use Rattle.emit_pairs.specs.Values.{value_pairs, value_number}
use Rattle.emit_pseudo.specs.PseudoWords.{compare_word, branch_opcode, turned, la_pairs}
use Rattle.emit_dispatch.specs.Wants.{pseudo_wants}
use Rattle.emit_dispatch.specs.Lines.{pseudo_pairs}
use Rattle.formats.proofs.Formats.{Format, Has, InFormats, no_words, first, register, immediate}
use Rattle.formats.proofs.FormatsLaws.{base_register, source_branch, inputs_branch, register_register, sham_register, has_immediate}
use Rattle.formats.specs.Operations.{words_of}
use Rattle.emit_dispatch.specs.LineLoads.{label_loads, pseudo_loads}
use Rattle.formats.proofs.EncodingFormats.{in_register, $at}
use Rattle.formats.proofs.PseudoFormats.{abs_format, compared, turned_formats, different_formats, address_formats, pseudo_formats}
use Rattle.formats.proofs.LineFormats.{LoadThen}
use Rattle.formats.proofs.LineFormatsLaws.{one, alone, same_pairs, loaded_alone, value_then, named}
use Rattle.formats.proofs.EncodingFormatsLaws.{immediate_words}

-- ---- all pseudo-instructions

compare_has : (greater unsigned : Bool) (rd a b : ℕ) → rd < 32 → a < 32 → b < 32 → Has (compare_word greater unsigned rd a b) (compared greater unsigned rd a b)
compare_has true true rd a b hd ha hb = register_register (Func 41) b a hb ha rd hd
compare_has true false rd a b hd ha hb = register_register (Func 42) b a hb ha rd hd
compare_has false true rd a b hd ha hb = register_register (Func 41) a b ha hb rd hd
compare_has false false rd a b hd ha hb = register_register (Func 42) a b ha hb rd hd

branch_has : (result : Bool) → Has (inputs_word (branch_opcode result) $at 0) (immediate (elim result [ true ↦ 5 | false ↦ 4 ]) $at 0 0)
branch_has true = inputs_branch (Op 5) $at 0 (lit< tt) (lit< tt)
branch_has false = inputs_branch (Op 4) $at 0 (lit< tt) (lit< tt)

turned_has : (result : Bool) (dest : RegisterSlot) → InFormats (words_of (turned result dest)) (turned_formats result (number dest))
turned_has true dest = no_words
turned_has false dest = one (has_immediate 14 (number dest) (number dest) 1 (lit< tt) (register_lt dest) (register_lt dest) (lit< tt))

-- registers of a word of class Func
module _ (function : ℕ) (rd rs rt : RegisterSlot) where
  three_has : Has (register_word (Func function) (number rd) (number rs) (number rt)) (in_register (Func function) (number rs) (number rt) (number rd) 0)
  three_has = register_register (Func function) (number rs) (number rt) (register_lt rs) (register_lt rt) (number rd) (register_lt rd)

-- sne and seq: the difference, and the words behind it
differs : (dest source : RegisterSlot) (n : ℕ) → n < 32 → {ws : List ℕ} {own : List Format} → InFormats ws own
    → InFormats (register_word (Func 35) (number dest) (number source) n ∷ register_word (Func 41) (number dest) 0 (number dest) ∷ ws) (different_formats (number dest) (number source) n ++ own)
differs dest source n k h =
    first (register_register (Func 35) (number source) n (register_lt source) k (number dest) (register_lt dest)) (first (three_has 41 dest Zero dest) h)

label_words : (r : RegisterSlot) (label : AddressLabel) → LoadThen (label_loads r label) (address_formats (number r) label) (words_of (la_pairs r label))
unfolding label_pairs
label_words r (Constant c) = loaded_alone c r
label_words r (Label name) = alone (named r no_words)

-- abs's first word, by the manual or as the commit has it
abs_has : (job : Job) (rt : ℕ) → rt < 32 → Has (abs_first_word job rt) (abs_format job rt)
abs_has job rt h = go (by_manual job)
  where
    go : (b : Bool) → Has (elim b [ true ↦ abs_first_word Manual rt | false ↦ abs_first_word Commit rt ]) (elim b [ true ↦ abs_format Manual rt | false ↦ abs_format Commit rt ])
    go true = subst (λ (w : ℕ). Has w (register 0 0 rt $at 31 3)) (abs_manual rt) (sham_register (Func 3) $at rt 31 (lit< tt) h)
    go false = subst (λ (w : ℕ). Has w (immediate 0 0 rt 31)) (abs_commit rt) (has_immediate 0 0 rt 31 (lit< tt) (lit< tt) h (lit< tt))

pub pseudo_words : (job : Job) (p : Pseudo) (x : AskedAll (pseudo_wants p)) → LoadThen (pseudo_loads p x) (pseudo_formats job p x) (words_of (pseudo_pairs job p x))
pseudo_words job Nop x = alone (one (base_register (Func 0)))
pseudo_words job Abs x =
    alone (first (abs_has job (number x.1) (register_lt x.1))
    (first (three_has 38 x.0 x.1 AssemblerTemporary) (one (three_has 35 x.0 x.0 AssemblerTemporary))))
pseudo_words job (BranchCustom greater result unsigned) x =
    value_then x.1 (λ n. compared greater unsigned $at (number x.0) n ∷ immediate (elim result [ true ↦ 5 | false ↦ 4 ]) $at 0 0 ∷ [])
    (λ n. plain (compare_word greater unsigned $at (number x.0) n) ∷ waiting (inputs_word (branch_opcode result) $at 0) BranchKind x.2 ∷ [])
    (λ n k. first (compare_has greater unsigned $at (number x.0) n (lit< tt) (register_lt x.0) k) (one (branch_has result)))
pseudo_words job (SetCustom greater result unsigned) x =
    value_then x.2 (λ n. compared greater unsigned (number x.0) (number x.1) n ∷ turned_formats result (number x.0))
    (λ n. plain (compare_word greater unsigned (number x.0) (number x.1) n) ∷ turned result x.0)
    (λ n k. first (compare_has greater unsigned (number x.0) (number x.1) n (register_lt x.0) (register_lt x.1) k) (turned_has result x.0))
pseudo_words job Beqz x = alone (one (source_branch (Op 4) (number x.0) (register_lt x.0)))
pseudo_words job Bnez x = alone (one (source_branch (Op 5) (number x.0) (register_lt x.0)))
pseudo_words job Seq x =
    let subu : ℕ → InstructionPair = λ n. plain (register_word (Func 35) (number x.0) (number x.1) n) in
    let sltu = plain (register_word (Func 41) (number x.0) 0 (number x.0)) in
    same_pairs (append_assoc (value_pairs x.2) (subu (value_number x.2) ∷ sltu ∷ []) (turned false x.0))
    (value_then x.2 (λ n. different_formats (number x.0) (number x.1) n ++ turned_formats false (number x.0)) (λ n. subu n ∷ sltu ∷ turned false x.0)
    (λ n k. differs x.0 x.1 n k (turned_has false x.0)))
pseudo_words job Sne x =
    value_then x.2 (λ n. different_formats (number x.0) (number x.1) n)
    (λ n. plain (register_word (Func 35) (number x.0) (number x.1) n) ∷ plain (register_word (Func 41) (number x.0) 0 (number x.0)) ∷ [])
    (λ n k. differs x.0 x.1 n k no_words)
pseudo_words job Neg x = alone (one (three_has 34 x.0 Zero x.1))
pseudo_words job Negu x = alone (one (three_has 35 x.0 Zero x.1))
pseudo_words job Not x = alone (one (three_has 39 x.0 x.1 Zero))
pseudo_words job Li x = loaded_alone x.1 x.0
pseudo_words job La x = label_words x.0 x.1
pseudo_words job Move x = alone (one (three_has 33 x.0 x.1 Zero))
pseudo_words job B x = alone (one (inputs_branch (Op 4) 0 0 (lit< tt) (lit< tt)))
pseudo_words job Subi x = immediate_words (Op 8) (number x.0) (number x.1) (with_sign true x.2) (register_lt x.0) (register_lt x.1) (Some (Func 32)) refl
pseudo_words job Subiu x = immediate_words (Op 9) (number x.0) (number x.1) (with_sign true x.2) (register_lt x.0) (register_lt x.1) (Some (Func 33)) refl

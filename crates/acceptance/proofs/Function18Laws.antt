-- If an accepted line of a Release 6 job has a word of opcode 0 and function 18, the line is listed in Function18.antt. The format of each word shows it.
-- Assumes nothing.
use Rattle.std.specs.Prelude.{ℕ, ◌%◌, ◌≡◌, refl, Bool, true, false, ◌||◌, ◌⊎◌, eqb, Err, None, Ok, Some, Option}
use Rattle.std.proofs.Common.{arith, sym, ap, ◌∙◌, inl, inr}
use mathlib.Core.List.Memᴰ
use mathlib.Core.List.{List, [], ◌∷◌, ◌++◌, Memᴰ}
use Rattle.std.proofs.lemmas.Bool.{eqb-false}
use Rattle.field.specs.Field.{get_field}
use Rattle.registers.specs.Numbers.{register_number as number, fp_register_number as fp_number}
use Rattle.instructions.specs.declared.Opcode.{Opcode}
use Rattle.instructions.specs.declared.Opcode.TheVariants.{Op, Func, Special, Algebra, Cop1, Cop1I}
use Rattle.instructions.specs.declared.Encoding.{Encoding}
use Rattle.instructions.specs.declared.Encoding.TheVariants.{Register, RegisterShift, Source, Destination, Inputs, Sham, SpecialBranch, Immediate, LoadImmediate, Jump, Branch, BranchZero, Parameterless, Offset, FPOffset, FP3Register, FP2Register, FPMove, FPCond, FPCrossMove, FPBranch}
use Rattle.jobs.specs.declared.Job.TheVariants.{Manual, Release6}
use Rattle.jobs.specs.Jobs.{is_function, source_opcode}
use Rattle.word.specs.Layout.{base_fields}
use Rattle.pseudo_names.specs.declared.Pseudo.{Pseudo}
use Rattle.pseudo_names.specs.declared.Pseudo.TheVariants.{Nop, Abs, BranchCustom, SetCustom, Beqz, Bnez, Seq, Sne, Neg, Negu, Not, Li, La, Move, B, Subi, Subiu}
use Rattle.loading.specs.Load.{upper_half, lower_half, is_small}
use Rattle.lexer.specs.declared.Token.{Token}
use Rattle.address_label.specs.declared.AddressLabel.{AddressLabel}
use Rattle.address_label.specs.declared.AddressLabel.TheVariants.{Constant, Label}
use Rattle.operand.specs.declared.InstructionValue.{InstructionValue}
use Rattle.operand.specs.declared.OffsetOrLabel.{OffsetOrLabel}
use Rattle.operand.specs.declared.OffsetOrLabel.TheVariants.{Label as Address, Offset as Based}
use Rattle.operand.specs.Answers.{Got}
use Rattle.operand_list.specs.OperandLists.{AskedAll, read_operands}
use Rattle.operands.specs.Operands.{with_sign}
use Rattle.emit_pairs.specs.declared.Fault.TheVariants.{Immediate as ImmediateFault, ShiftAmount, ConditionCode, Dropped}
use Rattle.emit_pairs.specs.Pairs.{is_immediate, Range}
use Rattle.emit_dispatch.specs.LineAnswers.{Made}
use Rattle.emit_dispatch.specs.Wants.{encoding_wants, pseudo_wants}
use Rattle.emit_dispatch.specs.Lines.{is_given, encoding_range, range_answer, encoding_line}
use Rattle.emit_dispatch.proofs.LinesLaws.{within_made}
use Rattle.formats.proofs.Formats.{Format, register, immediate, jump, float, float_move, float_cond, float_cross, float_branch, Has, InFormats, no_words, first}
use Rattle.formats.proofs.EncodingFormats.{$at, value_in, in_register, in_immediate, inputs_formats, immediate_formats, added_formats, offset_formats, encoding_formats}
use Rattle.formats.proofs.PseudoFormats.{compared, turned_formats, address_formats, pseudo_formats}
use Rattle.emit_dispatch.specs.LineLoads.{LoadedConstant}
use Rattle.formats.proofs.LineFormats.{load_formats, loading_formats, own_formats}
use Rattle.formats.specs.Operations.{Operation, encoded, pseudo, wants_of, loads_of, line_of, words_of}
use Rattle.formats.proofs.EveryWord.{every_word}
use Rattle.acceptance.specs.Function18.{IsMflo, Lands, ImmediateHolds, OffsetHolds, EncodingHolds, Holds, HeldBy}
use Rattle.acceptance.specs.Changed.{third_given, is_listed27, dropped_or}
use Rattle.acceptance.proofs.AsManual.{range_as_manual}

-- ---- opcode and function of a format

abbrev opcode_in : Format → ℕ
opcode_in (register opcode rs rt rd sa function) = opcode
opcode_in (immediate opcode rs rt n) = opcode
opcode_in (jump opcode target) = opcode
opcode_in (float opcode fmt ft fs fd function) = opcode
opcode_in (float_move opcode fmt cc tf fs fd function) = opcode
opcode_in (float_cond opcode fmt ft fs cc function) = opcode
opcode_in (float_cross opcode sub rt fs below) = opcode
opcode_in (float_branch opcode sub cc tf offset) = opcode

abbrev low_in : Format → ℕ
low_in (register opcode rs rt rd sa function) = function
low_in (immediate opcode rs rt n) = n
low_in (jump opcode target) = target
low_in (float opcode fmt ft fs fd function) = function
low_in (float_move opcode fmt cc tf fs fd function) = function
low_in (float_cond opcode fmt ft fs cc function) = function
low_in (float_cross opcode sub rt fs below) = below
low_in (float_branch opcode sub cc tf offset) = offset

-- A word of this format has opcode 0 and function 18 only if S holds.
abbrev Only : Type 0 → Format → Type 0
Only S f = opcode_in f ≡ 0 → low_in f % 64 ≡ 18 → S

opcode_has : {w : ℕ} (f : Format) → Has w f → get_field w 26 6 ≡ opcode_in f
opcode_has (register opcode rs rt rd sa function) h = h.reads.opcode_is
opcode_has (immediate opcode rs rt n) h = h.reads.opcode_is
opcode_has (jump opcode target) h = h.reads.opcode_is
opcode_has (float opcode fmt ft fs fd function) h = h.reads.opcode_is
opcode_has (float_move opcode fmt cc tf fs fd function) h = h.reads.opcode_is
opcode_has (float_cond opcode fmt ft fs cc function) h = h.reads.opcode_is
opcode_has (float_cross opcode sub rt fs below) h = h.reads.opcode_is
opcode_has (float_branch opcode sub cc tf offset) h = h.reads.opcode_is

low_has : {w : ℕ} (f : Format) → Has w f → get_field w 0 6 ≡ low_in f % 64
unfolding get_field
low_has (register opcode rs rt rd sa function) h = omega (arith, h.reads.function_is)
low_has (immediate opcode rs rt n) h = omega (arith, h.reads.immediate_is)
low_has (jump opcode target) h = omega (arith, h.reads.target_is)
low_has (float opcode fmt ft fs fd function) h = omega (arith, h.reads.function_is)
low_has (float_move opcode fmt cc tf fs fd function) h = omega (arith, h.reads.function_is)
low_has (float_cond opcode fmt ft fs cc function) h = omega (arith, h.reads.function_is)
low_has (float_cross opcode sub rt fs below) h = omega (arith, h.reads.below_is)
low_has (float_branch opcode sub cc tf offset) h = omega (arith, h.reads.offset_is)

-- ---- of all formats of a line

abbrev Each : Type 0 → List Format → Type 0
Each S [] = Unit {0}
Each S (f ∷ fs) = Only S f × Each S fs

each_append : (S : Type 0) (fs gs : List Format) → Each S fs → Each S gs → Each S (fs ++ gs)
each_append S [] gs a b = b
each_append S (f ∷ fs) gs a b = (a.0, each_append S fs gs a.1 b)

found : (S : Type 0) {w : ℕ} {ws : List ℕ} {fs : List Format} → InFormats ws fs → Each S fs → Memᴰ w ws → IsMflo w → S
found S no_words e m i = absurd (Memᴰ.not-nil m)
found S {w} (first {w = v} {f} {ws} {fs} h t) e m i = go (Memᴰ.cases_cons m) (found S t e.1)
  where
    go : (w ≡ v) ⊎ Memᴰ w ws → (Memᴰ w ws → IsMflo w → S) → S
    go (inl q) ih = e.0 (sym (opcode_has f h) ∙ sym (ap (λ (n : ℕ). get_field n 26 6) q) ∙ i.0) (sym (low_has f h) ∙ sym (ap (λ (n : ℕ). get_field n 0 6) q) ∙ i.1)
    go (inr n) ih = ih n i

-- ---- an opcode that is not dropped

no_18 : (op : Opcode) → is_function 18 op ≡ false → (base_fields op).opcode ≡ 0 → (base_fields op).function % 64 ≡ 18 → ⊥
no_18 (Func key) k o f = eqb-false (key % 64) 18 k (omega (arith, f))
no_18 (Op key) k o f = omega (arith, f)
no_18 (Special key) k o f = omega (arith, o)
no_18 (Algebra key) k o f = omega (arith, o)
no_18 (Cop1 key) k o f = omega (arith, o)
no_18 (Cop1I key) k o f = omega (arith, o)

is_18 : (op : Opcode) → (base_fields op).opcode ≡ 0 → (base_fields op).function % 64 ≡ 18 → is_function 18 op ≡ true
is_18 op o f = go (is_function 18 op) refl
  where
    go : (b : Bool) → is_function 18 op ≡ b → b ≡ true
    go true e = refl
    go false e = absurd (no_18 op e o f)

source_kept : (op : Opcode) → is_function 18 op ≡ false → is_function 18 (source_opcode Release6 op) ≡ false
source_kept op k = go (is_function 8 op)
  where
    go : (b : Bool) → is_function 18 (elim b [ true ↦ Func 9 | false ↦ op ]) ≡ false
    go true = refl
    go false = k

-- ---- the words of an encoding

module _ (op : Opcode) (k : is_function 18 op ≡ false) where
  inputs_each : (a b : ℕ) (v : Option InstructionValue) → is_given v ≡ false → Each ⊥ (inputs_formats op a b v)
  inputs_each a b None h = (no_18 op k, tt)
  inputs_each a b (Some v) h = let z : ◌≡◌ {A = ℕ} 0 1 = cc in absurd (omega arith)

  immediate_each : (alt : Option Opcode) (rt rs c : ℕ) → Each (ImmediateHolds op alt c) (immediate_formats op alt rt rs c)
  immediate_each None rt rs c = (λ o f. (o, omega (arith, f)), tt)
  immediate_each (Some alt) rt rs c = go (is_immediate c)
    where
      go : (b : Bool) → Each (elim b [ true ↦ Lands op c | false ↦ is_function 18 alt ≡ true ]) (elim b [ true ↦ in_immediate op rs rt (c % 65536) ∷ [] | false ↦ in_register alt rs $at rt 0 ∷ [] ])
      go true = (λ o f. (o, omega (arith, f)), tt)
      go false = (is_18 alt, tt)

  offset_each : (rt : ℕ) (o : OffsetOrLabel) → Each (OffsetHolds op o) (offset_formats op rt o)
  offset_each rt (Based (Constant c) base) = go (is_immediate c)
    where
      go : (b : Bool) → Each (elim b [ true ↦ Lands op c | false ↦ ⊥ ]) (elim b [ true ↦ in_immediate op (number base) rt (c % 65536) ∷ [] | false ↦ added_formats op rt (number base) ])
      go true = (λ o f. (o, omega (arith, f)), tt)
      go false = (λ o f. omega (arith, f), (λ o f. omega (arith, f), tt))
  offset_each rt (Based (Label name) base) = (λ o f. omega (arith, o), (λ o f. omega (arith, o), (λ o f. omega (arith, f), (λ o f. omega (arith, f), tt))))
  offset_each rt (Address (Constant c)) = (λ o f. omega (arith, f), tt)
  offset_each rt (Address (Label name)) = (λ o f. omega (arith, o), (λ o f. omega (arith, o), (λ o f. omega (arith, f), tt)))

both_false : (a b : Bool) → (a || b) ≡ false → (a ≡ false) × (b ≡ false)
both_false true b h = let z : ◌≡◌ {A = ℕ} 0 1 = cc in absurd (omega arith)
both_false false b h = (refl, h)

encoding_each : (e : Encoding) (op : Opcode) (x : AskedAll (encoding_wants e)) → is_function 18 op ≡ false → third_given e x ≡ false → Each (EncodingHolds e op x) (encoding_formats Release6 e op x)
encoding_each Register op x k t = (no_18 op k, tt)
encoding_each RegisterShift op x k t = (no_18 op k, tt)
encoding_each Source op x k t = (no_18 (source_opcode Release6 op) (source_kept op k), tt)
encoding_each Destination op x k t = (no_18 op k, tt)
encoding_each Inputs op x k t = inputs_each op k (number x.0) (number x.1) x.2 t
encoding_each Sham op x k t = (no_18 op k, tt)
encoding_each SpecialBranch op x k t = (no_18 op k, tt)
encoding_each (Immediate alt) op x k t = immediate_each op k alt (number x.0) (number x.1) x.2
encoding_each LoadImmediate op x k t = (λ o f. (o, omega (arith, f)), tt)
encoding_each Jump op x k t = (λ o f. no_18 op k o (omega (arith, f)), tt)
encoding_each Branch op x k t = (no_18 op k, tt)
encoding_each BranchZero op x k t = (no_18 op k, tt)
encoding_each Parameterless op x k t = (no_18 op k, tt)
encoding_each Offset op x k t = offset_each op k (number x.0) x.1
encoding_each FPOffset op x k t = offset_each op k (fp_number x.0) x.1
encoding_each (FP3Register fmt) op x k t = (no_18 op k, tt)
encoding_each (FP2Register fmt) op x k t = (no_18 op k, tt)
encoding_each (FPMove fmt flag) op x k t = (no_18 op k, tt)
encoding_each (FPCond fmt) op x k t = (no_18 op k, tt)
encoding_each (FPCrossMove true) op x k t = (no_18 op k, tt)
encoding_each (FPCrossMove false) op x k t = (no_18 op k, tt)
encoding_each (FPBranch flag) op x k t = (no_18 op k, tt)

-- ---- the words of a pseudo-instruction

compared_only : (greater unsigned : Bool) (rd a b : ℕ) → Only ⊥ (compared greater unsigned rd a b)
compared_only true true rd a b o f = omega (arith, f)
compared_only true false rd a b o f = omega (arith, f)
compared_only false true rd a b o f = omega (arith, f)
compared_only false false rd a b o f = omega (arith, f)

turned_each : (result : Bool) (rt : ℕ) → Each ⊥ (turned_formats result rt)
turned_each true rt = tt
turned_each false rt = (λ o f. omega (arith, o), tt)

branch_only : (result : Bool) → Only ⊥ (immediate (elim result [ true ↦ 5 | false ↦ 4 ]) $at 0 0)
branch_only true o f = omega (arith, o)
branch_only false o f = omega (arith, o)

subi_each : (op alt : ℕ) (rt rs c : ℕ) → (op % 64 ≡ 0 → ⊥) → (alt % 64 ≡ 18 → ⊥) → Each ⊥ (immediate_formats (Op op) (Some (Func alt)) rt rs c)
subi_each op alt rt rs c a b = go (is_immediate c)
  where
    go : (t : Bool) → Each ⊥ (elim t [ true ↦ in_immediate (Op op) rs rt (c % 65536) ∷ [] | false ↦ in_register (Func alt) rs $at rt 0 ∷ [] ])
    go true = (λ o f. a o, tt)
    go false = (λ o f. b (omega (arith, f)), tt)

address_each : (rt : ℕ) (label : AddressLabel) → Each ⊥ (address_formats rt label)
address_each rt (Constant c) = tt
address_each rt (Label name) = (λ o f. omega (arith, o), (λ o f. omega (arith, o), tt))

pseudo_each : (p : Pseudo) (x : AskedAll (pseudo_wants p)) → Each ⊥ (pseudo_formats Release6 p x)
pseudo_each Nop x = (λ o f. omega (arith, f), tt)
pseudo_each Abs x = (λ o f. omega (arith, f), (λ o f. omega (arith, f), (λ o f. omega (arith, f), tt)))
pseudo_each (BranchCustom greater result unsigned) x = (compared_only greater unsigned $at (number x.0) (value_in x.1), (branch_only result, tt))
pseudo_each (SetCustom greater result unsigned) x = (compared_only greater unsigned (number x.0) (number x.1) (value_in x.2), turned_each result (number x.0))
pseudo_each Beqz x = (λ o f. omega (arith, o), tt)
pseudo_each Bnez x = (λ o f. omega (arith, o), tt)
pseudo_each Seq x = (λ o f. omega (arith, f), (λ o f. omega (arith, f), (λ o f. omega (arith, o), tt)))
pseudo_each Sne x = (λ o f. omega (arith, f), (λ o f. omega (arith, f), tt))
pseudo_each Neg x = (λ o f. omega (arith, f), tt)
pseudo_each Negu x = (λ o f. omega (arith, f), tt)
pseudo_each Not x = (λ o f. omega (arith, f), tt)
pseudo_each Li x = tt
pseudo_each La x = address_each (number x.0) x.1
pseudo_each Move x = (λ o f. omega (arith, f), tt)
pseudo_each B x = (λ o f. omega (arith, o), tt)
pseudo_each Subi x = subi_each 8 32 (number x.0) (number x.1) (with_sign true x.2) (λ e. omega (arith, e)) (λ e. omega (arith, e))
pseudo_each Subiu x = subi_each 9 33 (number x.0) (number x.1) (with_sign true x.2) (λ e. omega (arith, e)) (λ e. omega (arith, e))

-- ---- the words that load a constant

load_each : (S : Type 0) (c t : ℕ) → Each S (load_formats c t)
load_each S c t = go (is_small c) (eqb (upper_half c) 0) (eqb (lower_half c) 0)
  where
    go : (small upper lower : Bool)
        → Each S
        (elim small [
          | true ↦ immediate 9 0 t (lower_half c) ∷ []
          | false ↦ (elim upper [ true ↦ [] | false ↦ immediate 15 0 t (upper_half c) ∷ [] ])
              ++ (elim lower [ true ↦ [] | false ↦ immediate 13 (elim upper [ true ↦ 0 | false ↦ t ]) t (lower_half c) ∷ [] ])
        ])
    go true upper lower = (λ o f. absurd (omega (arith, o)), tt)
    go false true true = tt
    go false true false = (λ o f. absurd (omega (arith, o)), tt)
    go false false true = (λ o f. absurd (omega (arith, o)), tt)
    go false false false = (λ o f. absurd (omega (arith, o)), (λ o f. absurd (omega (arith, o)), tt))

loading_each : (S : Type 0) (l : Option LoadedConstant) → Each S (loading_formats l)
loading_each S None = tt
loading_each S (Some l) = load_each S l.constant (number l.register)

-- ---- the line

-- a line that was made is not dropped
kept_listed : (listed : Bool) (r : Range) → dropped_or listed r ≡ Ok tt → listed ≡ false
kept_listed false r e = refl
kept_listed true (Ok tt) e = cc
kept_listed true (Err ImmediateFault) e = cc
kept_listed true (Err ShiftAmount) e = cc
kept_listed true (Err ConditionCode) e = cc
kept_listed true (Err Dropped) e = cc

made_kept : (e : Encoding) (op : Opcode) (ts : List Token) (i : ℕ) (x : AskedAll (encoding_wants e)) → (read_operands (encoding_wants e) ts i).answer ≡ Got x
    → (encoding_line Release6 e op ts i).answer ≡ Made → is_listed27 e op x ≡ false
unfolding encoding_line
made_kept e op ts i x r h =
    let m : range_answer (encoding_range Release6 e op x) ≡ Made = rw r at h in
    kept_listed (is_listed27 e op x) (encoding_range Manual e op x) (sym (range_as_manual e op x) ∙ within_made (encoding_range Release6 e op x) m)

own_each : (o : Operation) (ts : List Token) (i : ℕ) (x : AskedAll (wants_of o)) → (read_operands (wants_of o) ts i).answer ≡ Got x → (line_of Release6 o ts i).answer ≡ Made
    → Each (Holds o x) (own_formats Release6 o x)
own_each (encoded e op) ts i x r h =
    let b = both_false (third_given e x) (is_function 18 op) (made_kept e op ts i x r h) in
    encoding_each e op x b.1 b.0
own_each (pseudo p) ts i x r h = pseudo_each p x

-- If an accepted line has such a word, it is a listed one.
pub all_listed : (o : Operation) (ts : List Token) (i w : ℕ) → (line_of Release6 o ts i).answer ≡ Made → Memᴰ w (words_of (line_of Release6 o ts i).pairs) → IsMflo w
    → HeldBy o (read_operands (wants_of o) ts i).answer
all_listed o ts i w made m is =
    let words = every_word Release6 o ts i made in
    let x = words.operands in
    record {
      operands = x;
      operands_are = words.operands_are;
      holds =
          found (Holds o x) words.formats
          (each_append (Holds o x) (loading_formats (loads_of o x)) (own_formats Release6 o x) (loading_each (Holds o x) (loads_of o x)) (own_each o ts i x words.operands_are made)) m is;
    }

-- The registers' bytes and the pc that a call leaves are the state in which its run stopped. If the call is refused, they are the state that was given.
-- So a next call is the dry run from there. Assumes nothing.
use Rattle.std.specs.Prelude.{ℕ, zero, suc, ◌+◌, ◌*◌, ◌^◌, ◌≤◌, ◌<◌, Bool, true, false, ◌≡◌, refl, leb, get_or, drop, replicate, Err, Ok}
use Rattle.std.proofs.Common.{add-zero, arith, sym, ap₂, subst, ◌∙◌, length-append, leb-true, leb-false}
use mathlib.Core.List.{List, [], ◌∷◌, ◌++◌, map, append_assoc}
use Rattle.std.proofs.Math.Path.{ap}
use Rattle.std.proofs.Math.ListN.{length}
use Rattle.std.proofs.lemmas.List.{length-map}
use Rattle.record.specs.Bytes.{le32, all}
use Rattle.record.specs.Stores.{le32_bytes, append}
use Rattle.record.proofs.BehindLaws.{le32_behind, digits32}
use Rattle.input.specs.Input.{word_or_zero}
use Rattle.input.proofs.InputLaws.{word_there, word_missing}
use Rattle.finished_words.specs.Listed.{Bytes}
use Rattle.finished_words.proofs.ListedLaws.{of_bytes, le32_fits}
use Rattle.machine.specs.declared.Machine.{Machine}
use Rattle.machine.specs.declared.Reason.{Reason}
use Rattle.machine.specs.Fits.{Fits}
use Rattle.dry_run_outcome.specs.declared.DryRun.{DryRun}
use Rattle.dry_run_outcome.specs.DryRun.{RunAnswer, stopped, dry_run_outcome}
use Rattle.dry_run_outcome.proofs.Call.{call_refused, call_fits}
use Rattle.emit_pairs.specs.Pairs.{plain}
use Rattle.emit_bytes.specs.Appended.{word_bytes}
use Rattle.emit_bytes.proofs.AppendedLaws.{words_length}
use Rattle.input.specs.RegisterBytes.{words_in}
use Rattle.linked_answer.specs.Words.{answer_bytes, words_as_bytes}
use Rattle.linked_dry_run.specs.LinkedDryRun.{LinkedDryRun, register_bytes, run_words, run_answered, registers_after, machine_of, linked_dry_run}
use Rattle.linked_dry_run.proofs.LinkedDryRunLaws.{run_answered_lem}

-- a number of 32 bits behind some bytes
word_read : (front back : List ℕ) (n : ℕ) → n < 2 ^ 32 → word_or_zero (front ++ (le32_bytes n ++ back)) (length front) ≡ n
word_read front back n h =
    let l = length-append front (le32_bytes n ++ back) in
    word_there (front ++ (le32_bytes n ++ back)) (length front) (omega arith)
    ∙ le32_behind front (le32_bytes n ++ back) 0 (length front) (sym (add-zero (length front)))
    ∙ digits32 n h

-- numbers of 32 bits
words_read : (ns front back : List ℕ) → ((i : ℕ) → i < length ns → get_or ns i 0 < 2 ^ 32) → words_in (length ns) (front ++ (words_as_bytes ns ++ back)) (length front) ≡ ns
unfolding words_in word_bytes
words_read [] front back h = refl
words_read (n ∷ ns) front back h =
    let rest = words_as_bytes ns ++ back in
    let s = append_assoc front (le32_bytes n) rest in
    ap₂ ◌∷◌ (word_read front rest n (h 0 (omega arith)))
    (ap₂ (words_in (length ns)) (sym s) (sym (length-append front (le32_bytes n))) ∙ words_read ns (front ++ le32_bytes n) back (λ i k. h (suc i) (omega arith)))

module _ (m : Machine) (reason : Reason) (steps : ℕ) (registers : List ℕ) where
  pub left_reads_back : length m.registers ≡ 32 → ((i : ℕ) → i < length m.registers → get_or m.registers i 0 < 2 ^ 32)
      → machine_of (registers_after (stopped reason steps) m registers) m.pc ≡ m
  unfolding append
  left_reads_back l h =
      let s = append registers 0 (words_as_bytes m.registers) in
      let r = words_read m.registers [] (drop (0 + length (words_as_bytes m.registers)) registers) h in
      ap (λ (g : List ℕ). record { pc = m.pc; registers = g }) (ap (λ (k : ℕ). words_in k s 0) (sym l) ∙ r)

-- ---- every call

word_fits : (s : List ℕ) → Bytes s → (i : ℕ) → word_or_zero s i < 2 ^ 32
word_fits s bytes i = go (leb (i + 4) (length s)) refl
  where
    go : (b : Bool) → leb (i + 4) (length s) ≡ b → word_or_zero s i < 2 ^ 32
    go true e = rw (word_there s i (leb-true (i + 4) (length s) e)) (le32_fits s bytes i)
    go false e = rw (word_missing s i (leb-false (i + 4) (length s) e)) (omega arith)

words_fit : (s : List ℕ) → Bytes s → (n i r : ℕ) → get_or (words_in n s i) r 0 < 2 ^ 32
unfolding words_in
words_fit s bytes zero i r = omega arith
words_fit s bytes (suc n) i zero = word_fits s bytes i
words_fit s bytes (suc n) i (suc r) = words_fit s bytes n (i + 4) r

machine_fits : (registers : List ℕ) → Bytes registers → (pc : ℕ) → pc < 2 ^ 32 → Fits (machine_of registers pc)
unfolding words_in
machine_fits registers bytes pc h = record { count = refl; held = words_fit registers bytes 32 0; pc_held = h }

-- the last number of an answer
last_read : (answer : RunAnswer) (pc : ℕ) (buffer : List ℕ) → pc < 2 ^ 32 → le32 (append buffer 0 (words_as_bytes (run_words answer pc))) 20 ≡ pc
unfolding append word_bytes
last_read (Ok s) pc buffer h = digits32 pc h
last_read (Err r) pc buffer h = digits32 pc h

-- There are as many bytes of registers as before.
registers_left : (answer : RunAnswer) (m : Machine) (registers : List ℕ) → length m.registers ≡ 32 → register_bytes ≤ length registers → register_bytes ≤ length (registers_after answer m registers)
unfolding append
registers_left (Ok s) m registers l h =
    let n : length (words_as_bytes m.registers) ≡ 128 = words_length (map plain m.registers) ∙ ap (λ (k : ℕ). 4 * k) (length-map m.registers plain ∙ l) in
    omega (arith, n, length-append (words_as_bytes m.registers) (drop (0 + length (words_as_bytes m.registers)) registers))
registers_left (Err r) m registers l h = h

module _ (regions registers : List ℕ) (pc allowance : ℕ) (answer : List ℕ) where
  abbrev pub left : DryRun
  left = dry_run_outcome regions (machine_of registers pc) allowance

  abbrev pub first : LinkedDryRun
  first = linked_dry_run regions registers pc allowance answer

  module _ (room : answer_bytes ≤ length answer) (held : register_bytes ≤ length registers) (bytes : Bytes registers) (fits : pc < 2 ^ 32) where
    answered : first ≡ run_answered left registers answer
    answered = run_answered_lem regions registers pc allowance answer room held refl refl refl refl

    left_fits : Fits left.machine
    left_fits = call_fits regions (machine_of registers pc) allowance (machine_fits registers bytes pc fits)

    same_registers : (a : RunAnswer) → left.answer ≡ a → machine_of (registers_after a left.machine registers) left.machine.pc ≡ left.machine
    same_registers (Ok s) e = left_reads_back left.machine s.reason s.steps registers left_fits.count (λ i h. left_fits.held i)
    same_registers (Err r) e =
        let k = call_refused regions (machine_of registers pc) allowance r e in
        ap (λ (m : Machine). machine_of registers m.pc) k ∙ sym k

    -- the bytes and the pc that a call leaves, refused or not, are its state
    pub state_left : machine_of first.registers (le32 first.answer 20) ≡ left.machine
    state_left =
        ap (λ (l : LinkedDryRun). machine_of l.registers (le32 l.answer 20)) answered
        ∙ ap (machine_of (registers_after left.answer left.machine registers)) (last_read left.answer left.machine.pc answer left_fits.pc_held)
        ∙ same_registers left.answer refl

    -- so a next call is the dry run from there
    pub next_call : (b : ℕ) (answer' : List ℕ) → answer_bytes ≤ length answer'
        → linked_dry_run regions first.registers (le32 first.answer 20) b answer' ≡ run_answered (dry_run_outcome regions left.machine b) first.registers answer'
    next_call b answer' h =
        let k = subst (λ (l : LinkedDryRun). register_bytes ≤ length l.registers) (sym answered) (registers_left left.answer left.machine registers left_fits.count held) in
        run_answered_lem regions first.registers (le32 first.answer 20) b answer' h k refl refl refl refl
        ∙ ap (λ (m : Machine). run_answered (dry_run_outcome regions m b) first.registers answer') state_left

-- an instance: registers and an answer of zeros, and any regions
abbrev zeros : ℕ → List ℕ
zeros n = replicate n 0

pub instance_state_left : (regions : List ℕ) → let call = first regions (zeros 128) 0 0 (zeros 24) in
    machine_of call.registers (le32 call.answer 20) ≡ (left regions (zeros 128) 0 0 (zeros 24)).machine
unfolding all
instance_state_left regions = state_left regions (zeros 128) 0 0 (zeros 24) (omega arith) (omega arith) (of_bytes (zeros 128) refl) (omega arith)

-- Laws of a line's words: none, one more, those that load a constant, and those of an immediate operand. Assumes nothing.
use Rattle.std.specs.Prelude.{◌≡◌, refl, true, false, ℕ, ◌+◌, ◌-◌, ◌^◌, ◌%◌, ◌≤◌, ◌<◌, take, get_or, set, leb, Err, None, Ok, Option, Some}
use Rattle.std.proofs.Math.Path.{sym, ap, subst}
use Rattle.std.proofs.Common.{◌∙◌, add-one, arith, length-append, take-suc-set, length-take-le, lt-ltb, le-ltb}
use mathlib.Core.List.{List, [], ◌∷◌, ◌++◌, map}
use Rattle.std.proofs.Math.ListN.{length}
use Rattle.std.proofs.lemmas.List.{length-map}
use Rattle.instructions.specs.declared.Opcode.{Opcode}
use Rattle.instructions.specs.declared.Opcode.TheVariants.{Op}
use Rattle.loading.specs.declared.LoadForm.{LoadForm}
use Rattle.loading.specs.declared.LoadForm.TheVariants.{Nothing as Unloaded}
use Rattle.loading.specs.Load.{form_of, load_words}
use Rattle.loading.proofs.LoadLaws.{load_length}
use Rattle.loading.specs.Contract.{LoadedIs, padded}
use Rattle.address_label.specs.declared.AddressLabel.{AddressLabel}
use Rattle.address_label.specs.declared.AddressLabel.TheVariants.{Constant, Label}
use Rattle.address_label.specs.declared.NamedLabel.{NamedLabel}
use Rattle.pending.specs.declared.InstructionLabelKind.TheVariants.{Lower, Upper}
use Rattle.emit_pairs.specs.declared.InstructionPair.{InstructionPair}
use Rattle.emit_pairs.specs.declared.emit_instruction.EmitInstruction.{EmitInstruction}
use Rattle.emit_pairs.specs.declared.Fault.TheVariants.{Immediate}
use Rattle.emit_words.specs.Words.{register_word, immediate_word}
use Rattle.emit_pairs.specs.Pairs.{plain, waiting, pairs_of, EmitIs, at_number, load_pairs, label_pairs, label_form, is_immediate, immediate_range, immediate_pairs, immediate_form}

-- ---- the array and its count

-- the same words and the same form, written differently
pub emit_by : {e : EmitInstruction} {ps qs : List InstructionPair} {f g : LoadForm} → EmitIs e ps f → ps ≡ qs → f ≡ g → EmitIs e qs g
emit_by i q h = record { pairs_are = i.pairs_are ∙ q; count_is = i.count_is ∙ ap length q; form_is = i.form_is ∙ h }

pub emit_as : {e : EmitInstruction} {ps qs : List InstructionPair} {f : LoadForm} → EmitIs e ps f → ps ≡ qs → EmitIs e qs f
emit_as i q = emit_by i q refl

-- A pair is put behind those counted.
pub stored : (l : List InstructionPair) (n : ℕ) (f : LoadForm) (p : InstructionPair) → n < length l → (few : n + 1 ≤ 5)
    → EmitIs (record { instructions = set l n p; count = n + 1; loaded = f; few = few }) (take n l ++ p ∷ []) f
stored l n f p h few = record {
  pairs_are = ap (λ (k : ℕ). take k (set l n p)) (add-one n) ∙ take-suc-set l n p h;
  count_is = simp length-append (omega (arith, length-take-le n l (omega arith)));
  form_is = refl;
}

-- What `push` ensures, stated of the pairs before it.
pub emit_push : {e r : EmitInstruction} {ps : List InstructionPair} {f : LoadForm} (p : InstructionPair)
    → EmitIs e ps f → EmitIs r (pairs_of e ++ p ∷ []) e.loaded → EmitIs r (ps ++ p ∷ []) f
emit_push p i j = emit_by j (ap (λ (l : List InstructionPair). l ++ p ∷ []) i.pairs_are) i.form_is

-- ---- the words that load a constant: one or two

pub load_pairs_length : (c t : ℕ) → (1 ≤ length (load_pairs c t)) × (length (load_pairs c t) ≤ 2)
unfolding load_pairs
load_pairs_length c t = simp length-map (load_length c t)

-- One word or two, taken from before the padding.
one_of : (ws : List ℕ) → 1 ≤ length ws → length ws < 2 → map plain ws ≡ plain (get_or (padded ws) 0 0) ∷ []
one_of [] h k = absurd (omega arith)
one_of (w ∷ []) h k = refl
one_of (w ∷ v ∷ ws) h k = absurd (omega arith)

two_of : (ws : List ℕ) → 2 ≤ length ws → length ws ≤ 2 → map plain ws ≡ plain (get_or (padded ws) 0 0) ∷ plain (get_or (padded ws) 1 0) ∷ []
two_of [] h k = absurd (omega arith)
two_of (w ∷ []) h k = absurd (omega arith)
two_of (w ∷ v ∷ []) h k = refl
two_of (w ∷ v ∷ u ∷ ws) h k = absurd (omega arith)

module _ (c t : ℕ) {words : List ℕ} {count : ℕ} {form : LoadForm} (i : LoadedIs c t words count form) where
  pub load_one : count < 2 → plain (get_or words 0 0) ∷ [] ≡ load_pairs c t
  unfolding load_pairs
  load_one h =
      let k = load_length c t in
      let n : length (load_words c t) < 2 = subst (λ (n : ℕ). n < 2) i.count_is h in
      ap (λ (l : List ℕ). plain (get_or l 0 0) ∷ []) i.words_are ∙ sym (one_of (load_words c t) k.0 n)

  pub load_two : 2 ≤ count → plain (get_or words 0 0) ∷ plain (get_or words 1 0) ∷ [] ≡ load_pairs c t
  unfolding load_pairs
  load_two h =
      let k = load_length c t in
      let n : 2 ≤ length (load_words c t) = subst (λ (n : ℕ). 2 ≤ n) i.count_is h in
      ap (λ (l : List ℕ). plain (get_or l 0 0) ∷ plain (get_or l 1 0) ∷ []) i.words_are ∙ sym (two_of (load_words c t) n k.1)

-- ---- a label, case by case, with the words that the code has at hand

module _ {label : AddressLabel} (t : ℕ) where
  pub label_constant : {c : ℕ} → label ≡ Constant c → load_pairs c t ≡ label_pairs label t
  unfolding label_pairs
  label_constant e = rw (e, label_pairs)

  pub label_name : {name : NamedLabel} {lui ori : ℕ} → label ≡ Label name → lui ≡ immediate_word (Op 15) 0 t 0 → ori ≡ immediate_word (Op 13) t t 0
      → waiting lui Upper label ∷ waiting ori Lower label ∷ [] ≡ label_pairs label t
  unfolding label_pairs
  label_name e u l = rw (e, u, l, label_pairs)

pub form_constant : {label : AddressLabel} {c : ℕ} → label ≡ Constant c → label_form label ≡ form_of c
form_constant e = ap label_form e

pub form_name : {label : AddressLabel} {name : NamedLabel} → label ≡ Label name → label_form label ≡ Unloaded
form_name e = ap label_form e

-- ---- an immediate operand

pub immediate_low : (c : ℕ) → c < 32768 → is_immediate c ≡ true
unfolding is_immediate
immediate_low c h = rw (lt-ltb c 32768 h)

pub immediate_high : (c : ℕ) → 32768 ≤ c → is_immediate c ≡ leb (2 ^ 64 - 32768) c
unfolding is_immediate
immediate_high c h = rw (le-ltb c 32768 h)

-- in range: one word, with or without an alternative
pub pairs_taken : (op : Opcode) (alt : Option Opcode) (rt rs c : ℕ) {w : ℕ} → is_immediate c ≡ true → w ≡ immediate_word op rs rt (c % 65536)
    → plain w ∷ [] ≡ immediate_pairs op alt rt rs c
unfolding immediate_pairs
pairs_taken op alt rt rs c e h = rw (e, h, immediate_pairs)

pub range_taken : (alt : Option Opcode) (c : ℕ) → is_immediate c ≡ true → (Ok tt) ≡ immediate_range alt c
range_taken None c e = rw (e, immediate_range)
range_taken (Some alt) c e = refl

-- out of range: refused, or the alternative
module _ (op : Opcode) {alt : (Option Opcode)} (rt rs c : ℕ) (e : is_immediate c ≡ false) where
  pub pairs_refused : alt ≡ None → [] ≡ immediate_pairs op alt rt rs c
  unfolding immediate_pairs
  pairs_refused n = rw (e, n, immediate_pairs)

  pub pairs_alternative : {other : Opcode} {w : ℕ} → alt ≡ Some other → w ≡ register_word other rt rs at_number
      → load_pairs c at_number ++ plain w ∷ [] ≡ immediate_pairs op alt rt rs c
  unfolding immediate_pairs
  pairs_alternative n h = rw (e, n, h, immediate_pairs)

pub form_taken : (alt : Option Opcode) (c : ℕ) → is_immediate c ≡ true → Unloaded ≡ immediate_form alt c
form_taken alt c e = rw (e, immediate_form)

module _ {alt : (Option Opcode)} (c : ℕ) (e : is_immediate c ≡ false) where
  pub form_refused : alt ≡ None → Unloaded ≡ immediate_form alt c
  form_refused n = rw (e, n, immediate_form)

  pub form_alternative : {other : Opcode} → alt ≡ Some other → form_of c ≡ immediate_form alt c
  form_alternative n = rw (e, n, immediate_form)

pub range_refused : {alt : (Option Opcode)} (c : ℕ) → is_immediate c ≡ false → alt ≡ None → Err Immediate ≡ immediate_range alt c
range_refused c e n = rw (n, e, immediate_range)

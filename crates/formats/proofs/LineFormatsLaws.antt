-- Words that load a constant, alone or before other words, and the formats of them all. Assumes nothing.
use Rattle.std.specs.Prelude.{ℕ, ◌<◌, ◌≡◌, refl, Bool, true, false, List, [], ◌∷◌, ◌++◌, map, eqb, Option, None, Some}
use Rattle.std.proofs.Common.{sym, ap, ◌∙◌, subst, append-nil, arith, lit<, eqb-true}
use Rattle.registers.specs.Numbers.{register_number as number}
use Rattle.registers.specs.NumberLaws.{register_lt}
use Rattle.registers.specs.declared.RegisterSlot.{RegisterSlot}
use Rattle.registers.specs.declared.RegisterSlot.TheVariants.{AssemblerTemporary}
use Rattle.instructions.specs.declared.Opcode.TheVariants.{Op}
use Rattle.loading.specs.Load.{upper_half, lower_half, is_small, addiu_word, lui_word, ori_word, load_words}
use Rattle.loading.proofs.LoadLaws.{small_low, form_small, form_ori, form_lui, form_both, words_by}
use Rattle.std.proofs.lemmas.Bool.{eqb-false}
use Rattle.operand.specs.declared.InstructionValue.{InstructionValue}
use Rattle.operand.specs.declared.InstructionValue.TheVariants.{Slot, Literal}
use Rattle.emit_words.specs.Words.{immediate_word}
use Rattle.emit_pairs.specs.declared.InstructionPair.{InstructionPair}
use Rattle.emit_pairs.specs.Pairs.{plain, load_pairs}
use Rattle.emit_pairs.specs.Values.{value_pairs, value_number}
use Rattle.formats.proofs.Formats.{Format, Has, InFormats, no_words, first, immediate}
use Rattle.formats.proofs.FormatsLaws.{has_immediate}
use Rattle.formats.specs.Operations.{words_of}
use Rattle.emit_dispatch.specs.LineLoads.{LoadedConstant, into, value_loads, loading_words}
use Rattle.formats.proofs.EncodingFormats.{$at, value_in, name_formats}
use Rattle.formats.proofs.LineFormats.{load_formats, loading_formats, LoadThen}

-- ---- the words of pairs

words_append : (ps qs : List InstructionPair) → words_of (ps ++ qs) ≡ words_of ps ++ words_of qs
words_append [] qs = refl
words_append (p ∷ ps) qs = ap (λ (ws : List ℕ). p.word ∷ ws) (words_append ps qs)

plain_words : (ws : List ℕ) → words_of (map plain ws) ≡ ws
plain_words [] = refl
plain_words (w ∷ ws) = ap (λ (r : List ℕ). w ∷ r) (plain_words ws)

load_words_lem : (c t : ℕ) → words_of (load_pairs c t) ≡ load_words c t
unfolding load_pairs
load_words_lem c t = plain_words (load_words c t)

pub one : {w : ℕ} {f : Format} → Has w f → InFormats (w ∷ []) (f ∷ [])
one h = first h no_words

-- ---- nothing loaded, a constant loaded, a value in a register

pub alone : {ws : List ℕ} {own : List Format} → InFormats ws own → LoadThen None own ws
alone {ws} h = record { rest = ws; words_are = refl; rest_has = h }

module _ {own : List Format} where
  pub same_pairs : {loaded : Option LoadedConstant} {ps qs : List InstructionPair} → ps ≡ qs → LoadThen loaded own (words_of qs) → LoadThen loaded own (words_of ps)
  same_pairs e h = record { rest = h.rest; words_are = ap words_of e ∙ h.words_are; rest_has = h.rest_has }

  pub loaded_then : (c : ℕ) (r : RegisterSlot) (ps : List InstructionPair) → InFormats (words_of ps) own → LoadThen (into r c) own (words_of (load_pairs c (number r) ++ ps))
  loaded_then c r ps h = record {
    rest = words_of ps;
    words_are = words_append (load_pairs c (number r)) ps ∙ ap (λ (ws : List ℕ). ws ++ words_of ps) (load_words_lem c (number r));
    rest_has = h;
  }

pub loaded_alone : (c : ℕ) (r : RegisterSlot) → LoadThen (into r c) [] (words_of (load_pairs c (number r)))
loaded_alone c r = same_pairs (sym (append-nil (load_pairs c (number r)))) (loaded_then c r [] no_words)

pub value_then : (v : InstructionValue) (own : ℕ → List Format) (ps : ℕ → List InstructionPair) → ((n : ℕ) → n < 32 → InFormats (words_of (ps n)) (own n))
    → LoadThen (value_loads v) (own (value_in v)) (words_of (value_pairs v ++ ps (value_number v)))
value_then (Slot r) own ps h = alone (h (number r) (register_lt r))
value_then (Literal n) own ps h = loaded_then n AssemblerTemporary (ps $at) (h $at (lit< tt))

-- lui and ori that wait for a name
pub named : (r : RegisterSlot) {ws : List ℕ} {own : List Format} → InFormats ws own
    → InFormats (immediate_word (Op 15) 0 (number r) 0 ∷ immediate_word (Op 13) (number r) (number r) 0 ∷ ws) (name_formats (number r) ++ own)
named r h =
    let t = register_lt r in
    first (has_immediate 15 0 (number r) 0 (lit< tt) (lit< tt) t (lit< tt)) (first (has_immediate 13 (number r) (number r) 0 (lit< tt) t t (lit< tt)) h)

-- ---- the formats of the words that load a constant

load_has : (c t : ℕ) → t < 32 → InFormats (load_words c t) (load_formats c t)
load_has c t h = go (is_small c) (eqb (upper_half c) 0) (eqb (lower_half c) 0) refl refl refl
  where
    addiu : InFormats (addiu_word t c ∷ []) (immediate 9 0 t (lower_half c) ∷ [])
    addiu = first (has_immediate 9 0 t (lower_half c) (lit< tt) (lit< tt) h (omega arith)) no_words

    ori : (s : ℕ) → s < 32 → InFormats (ori_word s t c ∷ []) (immediate 13 s t (lower_half c) ∷ [])
    ori s k = first (has_immediate 13 s t (lower_half c) (lit< tt) k h (omega arith)) no_words

    lui : {ws : List ℕ} {fs : List Format} → InFormats ws fs → InFormats (lui_word t c ∷ ws) (immediate 15 0 t (upper_half c) ∷ fs)
    lui r = first (has_immediate 15 0 t (upper_half c) (lit< tt) (lit< tt) h (omega arith)) r

    go : (small upper lower : Bool) → is_small c ≡ small → eqb (upper_half c) 0 ≡ upper → eqb (lower_half c) 0 ≡ lower → InFormats (load_words c t)
        (elim small [
          | true ↦ immediate 9 0 t (lower_half c) ∷ []
          | false ↦ (elim upper [ true ↦ [] | false ↦ immediate 15 0 t (upper_half c) ∷ [] ])
              ++ (elim lower [ true ↦ [] | false ↦ immediate 13 (elim upper [ true ↦ 0 | false ↦ t ]) t (lower_half c) ∷ [] ])
        ])
    go true upper lower e f k = rw (words_by c t (form_small c e)) addiu
    go false true false e f k = rw (words_by c t (form_ori c e (eqb-true (upper_half c) 0 f))) (ori 0 (lit< tt))
    go false false true e f k = rw (words_by c t (form_lui c e (eqb-false (upper_half c) 0 f) (eqb-true (lower_half c) 0 k))) (lui no_words)
    go false false false e f k = rw (words_by c t (form_both c e (eqb-false (upper_half c) 0 f) (eqb-false (lower_half c) 0 k))) (lui (ori t h))
    -- If both halves are 0, the constant is small.
    go false true true e f k =
        let u = eqb-true (upper_half c) 0 f in
        let l = eqb-true (lower_half c) 0 k in
        let z : ◌≡◌ {A = ℕ} 0 1 = cc (small_low c (omega arith)) in
        absurd (omega arith)

loading_has : (l : Option LoadedConstant) → InFormats (loading_words l) (loading_formats l)
loading_has None = no_words
loading_has (Some l) = load_has l.constant (number l.register) (register_lt l.register)

has_append : {ws vs : List ℕ} {fs gs : List Format} → InFormats ws fs → InFormats vs gs → InFormats (ws ++ vs) (fs ++ gs)
has_append no_words k = k
has_append (first h t) k = first h (has_append t k)

-- all words, those that load and those behind them
pub all_have : (loaded : Option LoadedConstant) {own : List Format} {ws : List ℕ} → LoadThen loaded own ws → InFormats ws (loading_formats loaded ++ own)
all_have loaded {own} h = subst (λ (ws : List ℕ). InFormats ws (loading_formats loaded ++ own)) (sym h.words_are) (has_append (loading_has loaded) h.rest_has)

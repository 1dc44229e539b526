-- The tests on the way decide which words the definition has. Each word is the same as there.
use Rattle.std.proofs.Common.{◌≡◌, ℕ, true, List, [], ◌∷◌, refl, ap, ap₂, ◌∙◌}
use Rattle.registers.specs.Numbers.{register_number}
use Rattle.registers.specs.NumberLaws.{register_lt}
use Rattle.loading.specs.Load.{is_small}
use Rattle.loading.specs.declared.LoadForm.TheVariants.{Addiu, Ori, Lui, BothHalves}
use Rattle.loading.proofs.LoadLaws.{small_low, small_high, not_small, form_small, form_ori, form_lui, form_both}
use Rattle.loading.proofs.ContractLaws.{loaded_by}
use Rattle.loading.proofs.load_immediate.Goals as goal
use Rattle.loading.proofs.load_immediate.Goals.{then-low-lt32768-via-then-low-lt32768, then-low-lt32768-via-else-low-lt32768+then-low-ge4294934528}

-- the words of a form that has only one
alone : (w v : ℕ) {words : List ℕ} → words ≡ w ∷ 0 ∷ [] → w ≡ v → words ≡ v ∷ 0 ∷ []
alone w v e h = e ∙ ap (λ (x : ℕ). x ∷ 0 ∷ []) h

pub returns-then-low-lt32768 : goal.returns-then-low-lt32768
returns-then-low-lt32768 c =
    let a = c.args in
    let o = c.one.ensures in
    let small : is_small a.constant ≡ true =
    elim c.then-low-lt32768.branch [
      | then-low-lt32768-via-then-low-lt32768 w ↦ small_low a.constant w.if-low-lt32768.true
      | then-low-lt32768-via-else-low-lt32768+then-low-ge4294934528 w ↦ small_high a.constant w.if-low-ge4294934528.true
    ] in
    loaded_by a.constant (register_number a.into) Addiu (register_lt a.into) (form_small a.constant small) (alone _ _ o.0 c.immediate_word.ensures) o.1 o.2

pub returns-then-top-eq0 : goal.returns-then-top-eq0
returns-then-top-eq0 c =
    let a = c.args in
    let n = not_small a.constant c.if-low-lt32768.false c.if-low-ge4294934528.false in
    let o = c.one-then-top-eq0.ensures in
    loaded_by a.constant (register_number a.into) Ori (register_lt a.into) (form_ori a.constant n c.if-top-eq0.true)
    (alone _ _ o.0 c.immediate_word-then-top-eq0.ensures) o.1 o.2

pub returns-then-bottom-eq0 : goal.returns-then-bottom-eq0
returns-then-bottom-eq0 c =
    let a = c.args in
    let n = not_small a.constant c.if-low-lt32768.false c.if-low-ge4294934528.false in
    let o = c.one-then-bottom-eq0.ensures in
    loaded_by a.constant (register_number a.into) Lui (register_lt a.into) (form_lui a.constant n c.if-top-eq0.false c.if-bottom-eq0.true)
    (alone _ _ o.0 c.immediate_word-lui.ensures) o.1 o.2

pub returns : goal.returns
returns c =
    let a = c.args in
    let n = not_small a.constant c.if-low-lt32768.false c.if-low-ge4294934528.false in
    loaded_by a.constant (register_number a.into) BothHalves (register_lt a.into) (form_both a.constant n c.if-top-eq0.false c.if-bottom-eq0.false)
    (ap₂ (λ (x y : ℕ). x ∷ y ∷ []) c.immediate_word-lui.ensures c.immediate_word-ori.ensures) refl refl

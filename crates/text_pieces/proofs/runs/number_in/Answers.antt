use Rattle.std.proofs.Common.{ℕ, ◌+◌, ◌*◌, ◌^◌, ◌≡◌, ◌<◌, length, sym, ap, ◌∙◌, arith}
use Rattle.text_pieces.proofs.NumbersLaws.{number_from, digits_at, number_start, number_end, number_stop, number_next, number_over}
use Rattle.text_pieces.specs.Numbers.{digit_value}
use Rattle.record.specs.Bytes.{byte_at}
use Rattle.text_pieces.proofs.DigitLaws.{digit_is, no_digit}
use Rattle.text_pieces.proofs.runs.number_in.Goals as goal
use Rattle.text_pieces.proofs.runs.number_in.Goals.{In-Some}

-- The digit is the definition's, and it is below the base.
digit_of : (c : In-Some) → (c.in-Some.digit ≡ digit_value (byte_at c.args.text.now c.loop-i.i)) × (c.in-Some.digit < c.args.base)
digit_of c =
    let below : c.in-Some.digit < c.args.base = omega (arith, c.in-Some.ensures.value) in
    (sym (digit_is _ _ c.requires.1 _ (rw (c.from.ensures) at c.in-Some.ensures.cases) below), below)

pub loop-i-init : goal.loop-i-init
loop-i-init c = (omega arith, sym (number_start _ _))

pub returns-in_default : goal.returns-in_default
returns-in_default c =
    let l = c.loop-i in
    sym (l.invariant.1 ∙ number_stop c.args.base c.args.text.now l.i l.value l.i c.loop-i-test.true (no_digit _ _ c.requires.1 (rw (c.from.ensures) at c.in_default.ensures.value)) l.invariant.0)

pub returns-in_err-checked_mul : goal.returns-in_err-checked_mul
returns-in_err-checked_mul c =
    let l = c.loop-i in
    let digit = digit_of (goal.at.returns-in_err-checked_mul c).In-Some in
    let over : l.value * c.args.base < 2 ^ 64 → ⊥ = c.in_err-checked_mul.ensures in
    c.from_residual.ensures
    ∙ sym
    (l.invariant.1
    ∙ number_over c.args.base c.args.text.now l.i l.value l.i c.loop-i-test.true (omega (arith, digit)) (omega arith) (omega (arith, over)))

pub returns-in_err-value : goal.returns-in_err-value
returns-in_err-value c =
    let l = c.loop-i in
    let digit = digit_of (goal.at.returns-in_err-value c).In-Some in
    let shifted : c.in_ok-checked_mul.field-0 ≡ l.value * c.args.base = c.in_ok-checked_mul.ensures.1 in
    let over : c.in_ok-checked_mul.field-0 + c.from-in-loop-i.result < 2 ^ 64 → ⊥ = c.in_err-value.ensures in
    c.from_residual-in_err-value.ensures
    ∙ sym
    (l.invariant.1
    ∙ number_over c.args.base c.args.text.now l.i l.value l.i c.loop-i-test.true (omega (arith, digit)) (omega arith)
    (omega (arith, digit, c.from-in-loop-i.ensures, shifted, over)))

pub loop-i-preserved : goal.loop-i-preserved
loop-i-preserved c =
    let l = c.loop-i in
    let digit = digit_of (goal.at.loop-i-preserved c).In-Some in
    let shifted : c.in_ok-checked_mul.field-0 ≡ l.value * c.args.base = c.in_ok-checked_mul.ensures.1 in
    let sum : c.in_ok-value.value ≡ c.in_ok-checked_mul.field-0 + c.from-in-loop-i.result = c.in_ok-value.ensures.1 in
    let wide : c.from-in-loop-i.result ≡ c.in-Some.digit = c.from-in-loop-i.ensures in (
      omega (arith, sum, c.in_ok-value.ensures.0),
      l.invariant.1
          ∙ number_next c.args.base c.args.text.now l.i l.value l.i c.loop-i-test.true (omega (arith, digit))
          ∙ ap (λ (k : ℕ). number_from c.args.base k (l.i + 1) (digits_at c.args.base c.args.text.now (l.i + 1))) (omega (arith, digit, wide, shifted, sum)),
    )

pub returns : goal.returns
returns c =
    let l = c.loop-i in
    let e : length c.args.text.now ≡ l.i = omega (arith, l.auto.i-end) in
    rw e (sym (l.invariant.1 ∙ number_end c.args.base c.args.text.now l.i l.value l.i c.loop-i-test.false l.invariant.0))

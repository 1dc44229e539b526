use Rattle.std.proofs.Common.{length-take-le, ap, sym, arith}
use Rattle.text_reader.specs.Outcome.{TextOutcome}
use Rattle.text_reader.proofs.ReadsBack.{fill_within}
use Rattle.token_text.proofs.read_text.Goals as goal

-- the fill is within the buffer
pub slice_bounds-put_tokens-end : goal.slice_bounds-put_tokens-end
slice_bounds-put_tokens-end c =
    let f = fill_within _ _ _ _ (ap (λ (o : TextOutcome). o.answer) c.in-Ok.ensures) in
    sym (length-take-le _ _ (omega (arith, f)))

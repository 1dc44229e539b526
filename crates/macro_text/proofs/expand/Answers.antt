use Rattle.std.proofs.Common.{length-take-le, ap, sym, arith}
use Rattle.written_out.specs.Outcome.{WriteOutOutcome}
use Rattle.written_out.proofs.KeepsLayout.{fill_within}
use Rattle.macro_text.proofs.expand.Goals as goal

-- the fill is within the buffer
pub slice_bounds-put_tokens-end : goal.slice_bounds-put_tokens-end
slice_bounds-put_tokens-end c =
    let f = fill_within _ _ _ _ (ap (λ (o : WriteOutOutcome). o.answer) c.in-Ok.ensures) in
    sym (length-take-le _ _ (omega (arith, f)))

use Rattle.std.proofs.Common.{◌≡◌, ℕ, List, length, refl, sym, ap, ◌∙◌, arith}
use Rattle.std.proofs.lemmas.Result.{err_from_is_err_and}
use Rattle.record.specs.Stores.{append}
use Rattle.text_reader.specs.Reading.{reading}
use Rattle.text_reader.specs.Outcome.{answer_of, answer_from, bytes_of, is_read}
use Rattle.text_reader.proofs.OutcomeLaws.{over_text, over_tokens, within_limits, refused_outcome, read_outcome_lem}
use Rattle.text_reader.proofs.read_text.Goals as goal
use Rattle.text_reader.proofs.read_text.Goals.{After-pass}

pub returns-then-text-gt-LIMIT : goal.returns-then-text-gt-LIMIT
returns-then-text-gt-LIMIT c =
    let a = c.args in
    refused_outcome a.text.now a.source a.tokens.now _ (over_text a.text.now a.source a.tokens.now c.if-text-gt-LIMIT.true) refl

pub returns-then-tokens-gt-LIMIT : goal.returns-then-tokens-gt-LIMIT
returns-then-tokens-gt-LIMIT c =
    let a = c.args in
    refused_outcome a.text.now a.source a.tokens.now _ (over_tokens a.text.now a.source a.tokens.now c.if-text-gt-LIMIT.false c.if-tokens-gt-LIMIT.true) refl

-- The first pass gives the answer.
answer : (c : After-pass) → answer_of c.args.text.now c.args.source (length c.args.tokens.now) ≡ c.pass.result
answer c = within_limits c.args.text.now c.args.source c.args.tokens.now c.if-text-gt-LIMIT.false c.if-tokens-gt-LIMIT.false ∙ sym c.pass.ensures.0

pub returns-in_err-pass : goal.returns-in_err-pass
returns-in_err-pass c =
    let a = c.args in
    let p = err_from_is_err_and c.from_residual.result c.from_residual.ensures.1 in
    let e = answer (goal.at.returns-in_err-pass c).After-pass ∙ c.in_err-pass.was in
    rw (p.1, p.2, c.pass.ensures.1) (refused_outcome a.text.now a.source a.tokens.now _ e refl)

-- The buffer still has its length.
room : (c : After-pass) → answer_from c.args.text.now (length c.pass.new.tokens) 0 (reading c.args.source c.args.text.now) ≡ c.pass.result
room c = ap (λ (k : ℕ). answer_from c.args.text.now k 0 (reading c.args.source c.args.text.now)) (ap length c.pass.ensures.1) ∙ sym c.pass.ensures.0

pub pass-requires-2 : goal.pass-requires-2
pass-requires-2 c =
    let r = room (goal.at.pass-requires-2 c).After-pass in
    record {
      text_len_bound = (c.if-text-gt-LIMIT.false, omega (arith, ap length c.pass.ensures.1));
      accepts = ap is_read (r ∙ c.in_ok-pass.was);
    }

pub returns : goal.returns
returns c =
    let a = c.args in
    let d = c.pass.ensures.1 in
    let first = (goal.at.returns c).After-pass in
    let r : c.pass.result ≡ c.pass-2.result = sym (room first) ∙ sym c.pass-2.ensures.0 in
    read_outcome_lem a.text.now a.source a.tokens.now _ _ (answer first ∙ r) (ap is_read (sym r ∙ c.in_ok-pass.was))
    (c.pass-2.ensures.1 ∙ ap (λ (x : List ℕ). append x 0 (bytes_of a.text.now (reading a.source a.text.now))) d)

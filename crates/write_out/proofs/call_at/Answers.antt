use Rattle.std.proofs.Common.{◌≡◌, ℕ, ◌+◌, ◌≤◌, List, length, sym, ap, ap₂, subst, ◌∙◌, arith}
use Rattle.std.proofs.lemmas.Result.{err_from_is_err_and}
use Rattle.record.specs.Bytes.{location_at}
use Rattle.record.specs.declared.Location.{Location}
use Rattle.macros.specs.Macros.{count_of, macro_ok, body_at, head_of}
use Rattle.macros.proofs.LayoutLaws.{at_whole}
use Rattle.macros.specs.declared.Head.{Head}
use Rattle.written_out.specs.Written.{Step, replaced}
use Rattle.written_out.specs.Above.{macro_at, above}
use Rattle.macro_tokens.specs.Places.{token_record}
use Rattle.macro_tokens.specs.Arguments.{arguments_from}
use Rattle.write_out.specs.Calls.{call_verdict, CallIs}
use Rattle.write_out.proofs.CallsLaws.{bytes_ok, inside, called_of, call_is}
use Rattle.write_out.proofs.call_at.Goals as goal
use Rattle.write_out.proofs.call_at.Goals.{After-call_verdict}
use Rattle.macro_tokens.specs.declared.Body.{Body}
use Rattle.refusal.specs.Verdicts.{Verdict}

pub body_at-requires : goal.body_at-requires
body_at-requires c = at_whole c.args.frame.now.source.macros.now c.args.k c.requires.text_len_bound.2

pub head_of-head-requires : goal.head_of-head-requires
head_of-head-requires c =
    ap macro_ok c.body_at.ensures ∙ bytes_ok c.args.frame.now.source.text.now c.args.frame.now.source.macros.now c.args.k c.requires.text_len_bound.0 c.requires.text_len_bound.1 c.requires.text_len_bound.2

pub overflow_add-result : goal.overflow_add-result
overflow_add-result c =
    omega (arith, c.requires.text_len_bound.0, inside c.args.frame.now.source.text.now c.args.frame.now.source.macros.now c.args.k c.requires.text_len_bound.0 c.requires.text_len_bound.1 c.requires.text_len_bound.2)

pub overflow_add-result-2 : goal.overflow_add-result-2
overflow_add-result-2 c =
    omega (arith, c.requires.text_len_bound.0, inside c.args.frame.now.source.text.now c.args.frame.now.source.macros.now c.args.k c.requires.text_len_bound.0 c.requires.text_len_bound.1 c.requires.text_len_bound.2)

abbrev body_from : After-call_verdict → Body
body_from c =
    let h = c.head_of-head.result in
    record { base = length c.args.frame.now.source.text.now + c.args.k + 4; start = h.body; names = h.names; count = h.count; args = c.arguments_from-taken.result.args }

abbrev all_steps : After-call_verdict → List Step
all_steps c =
    let a = c.args in
    replaced a.frame.now.levels (location_at (token_record a.frame.now.source.text.now a.frame.now.source.macros.now a.met.now.place) 4) (macro_at a.frame.now.source.macros.now a.k) (above a.frame.now.source.macros.now a.k)
    (arguments_from a.frame.now.source.text.now a.frame.now.source.macros.now a.frame.now.reading.list.now a.frame.now.reading.body a.met.now.next)

-- The call, from its verdict.
called : (c : After-call_verdict) → CallIs c.args.frame.now.source.text.now c.args.frame.now.source.macros.now c.args.frame.now.levels c.args.k (all_steps c) (called_of c.call_verdict.result (body_from c))
called c =
    let a = c.args in
    let t = c.arguments_from-taken in
    let hd = c.head_of-head in
    let b = body_at a.frame.now.source.macros.now a.k in
    let m = c.body_at.ensures in
    let h : hd.result ≡ head_of b = hd.ensures.0 ∙ ap head_of m in
    let l = location_at (token_record a.frame.now.source.text.now a.frame.now.source.macros.now a.met.now.place) 4 in
    let given = arguments_from a.frame.now.source.text.now a.frame.now.source.macros.now a.frame.now.reading.list.now a.frame.now.reading.body a.met.now.next in
    let v : c.call_verdict.result ≡ call_verdict l t.result.count (count_of b) a.frame.now.levels =
    c.call_verdict.ensures
    ∙ ap₂ (λ (x : Location) (y : ℕ). call_verdict x t.result.count y a.frame.now.levels) (c.location-location.ensures ∙ ap (λ (r : List ℕ). location_at r 4) c.token_at.ensures) (ap (λ (x : Head). x.count) h) in
    let start : (head_of b).body ≤ length b = omega (arith, hd.ensures.1, ap (λ (x : Head). x.body) h, ap length m) in
    subst (CallIs a.frame.now.source.text.now a.frame.now.source.macros.now a.frame.now.levels a.k (replaced a.frame.now.levels l (macro_at a.frame.now.source.macros.now a.k) (above a.frame.now.source.macros.now a.k) given))
    (sym
    (ap₂ (λ (x : Verdict) (y : Head). called_of x (record { base = length a.frame.now.source.text.now + a.k + 4; start = y.body; names = y.names; count = y.count; args = t.result.args })) v h))
    (call_is a.frame.now.source.text.now a.frame.now.source.macros.now a.frame.now.levels a.k l c.requires.text_len_bound.0 c.requires.text_len_bound.1 c.requires.text_len_bound.2 t.result given t.ensures start)

pub returns-in_err-call_verdict : goal.returns-in_err-call_verdict
returns-in_err-call_verdict c =
    let p = err_from_is_err_and c.from_residual.result c.from_residual.ensures.1 in
    let g = (goal.at.returns-in_err-call_verdict c).After-call_verdict in
    rw (p.1, p.2)
    (subst (CallIs c.args.frame.now.source.text.now c.args.frame.now.source.macros.now c.args.frame.now.levels c.args.k (all_steps g)) (ap (λ (v : Verdict). called_of v (body_from g)) c.in_err-call_verdict.was) (called g))

pub returns : goal.returns
returns c =
    let g = (goal.at.returns c).After-call_verdict in
    subst (CallIs c.args.frame.now.source.text.now c.args.frame.now.source.macros.now c.args.frame.now.levels c.args.k (all_steps g)) (ap (λ (v : Verdict). called_of v (body_from g)) c.in_ok-call_verdict.was) (called g)

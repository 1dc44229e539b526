use Rattle.std.proofs.Common.{◌≡◌, ℕ, ◌<◌, List, [], ◌∷◌, length, sym, ap, subst, ◌∙◌, arith}
use Rattle.std.proofs.lemmas.Result.{err_from_is_err_and}
use Rattle.std.specs.Prelude.{true}
use Rattle.record.specs.Records.{next}
use Rattle.record.specs.Stores.{append}
use Rattle.macros.specs.Macros.{macro_at_ok}
use Rattle.macros.proofs.LayoutLaws.{at_whole}
use Rattle.written_out.specs.declared.Mode.{Mode}
use Rattle.written_out.specs.declared.Mode.TheVariants.{Leading, LeftOut}
use Rattle.written_out.specs.Above.{above}
use Rattle.written_out.specs.Outcome.{answer_from}
use Rattle.written_out.specs.Written.{write}
use Rattle.written_out.specs.Acts.{act_of}
use Rattle.macro_tokens.specs.declared.Act.{Act}
use Rattle.macro_tokens.specs.declared.Act.TheVariants.{Write, Pass, Call}
use Rattle.macro_tokens.specs.declared.Body.{Body}
use Rattle.macro_tokens.specs.Places.{token_record, TokenIn, only, place_of, read_from, ReadableFrom}
use Rattle.macro_tokens.proofs.PlacesLaws.{token, read_on, place_in}
use Rattle.macro_tokens.specs.Meant.{Inside, ActIs}
use Rattle.write_out.specs.Body.{steps_from, Ready, written_from}
use Rattle.write_out.specs.Calls.{act_steps, mode_after, Acting}
use Rattle.write_out.proofs.FillLaws.{stop_left}
use Rattle.write_out.proofs.Same.{Same, same_call, ends_call, ends_all}
use Rattle.write_out.proofs.Turns.{Turn, turn_in, turn_rest, turn_act, turn_end}
use Rattle.write_out.proofs.+write_call_write_body.Goals as goal

-- ---- a call

-- The macro called stands above, and is a good macro.
above_it : {text macros list : List ℕ} {most place n k : ℕ} {b : Body} → Acting text macros most list b place n (Call k) → (k < most) × (macro_at_ok macros k ≡ true)
above_it s = s.inside

pub write_call-body_at-list-requires : goal.write_call-body_at-list-requires
write_call-body_at-list-requires t c = at_whole c.args.frame.now.source.macros.now c.args.k (above_it c.requires.0).1

pub write_call-write_body-requires : goal.write_call-write_body-requires
write_call-write_body-requires t c = (
  omega (arith, c.decreases, (above_it c.requires.0).0),
  (
    subst (λ (x : List ℕ). Ready c.args.frame.now.source.text.now c.args.frame.now.source.macros.now c.args.k x c.in_ok-body.body)
        (sym c.body_at-list.ensures) (c.call_at.ensures.opened _ c.in_ok-body.was).ready,
    c.requires.1,
  ),
)

pub write_call-returns-in_err-body : goal.write_call-returns-in_err-body
write_call-returns-in_err-body t c =
    let p = err_from_is_err_and c.from_residual.result c.from_residual.ensures.1 in
    let a = c.args in
    let s = stop_left a.really a.out.now a.fill _ (act_steps a.frame.now.source.text.now a.frame.now.source.macros.now a.frame.now.levels a.frame.now.reading.list.now a.frame.now.reading.body a.met.now.place a.met.now.next (Call a.k)) (c.call_at.ensures.stopped _ c.in_err-body.was) in
    rw (p.1, p.2) (record { value = s.0; out_after = s.1 })

-- ---- a body

turn : {text macros list : List ℕ} {most at n place : ℕ} {b : Body} {mode : Mode} {act : Act} → ReadableFrom text macros list b at → at < length list → n ≡ next list at → place ≡ place_of list b at
    → ActIs macros most (act_of (above macros most) mode (token_record text macros place) (read_from text macros list b n)) act → Turn text macros most list b mode at n place act
turn r i n p a = record { rest = r; inside = i; next_is = n; place_is = p; act_is = a }

pub write_body-next-next-requires : goal.write_body-next-next-requires
write_body-next-next-requires t c =
    let a = c.args in
    omega (arith, token a.frame.now.source.text.now a.frame.now.source.macros.now a.frame.now.reading.list.now a.frame.now.reading.body c.loop-at.at c.loop-at.invariant.0 c.loop-at-test.true)

pub write_body-place_at-place-requires : goal.write_body-place_at-place-requires
write_body-place_at-place-requires t c =
    let a = c.args in
    (c.loop-at.invariant.0.readable, token a.frame.now.source.text.now a.frame.now.source.macros.now a.frame.now.reading.list.now a.frame.now.reading.body c.loop-at.at c.loop-at.invariant.0 c.loop-at-test.true)

pub write_body-act_at-requires : goal.write_body-act_at-requires
write_body-act_at-requires t c =
    let a = c.args in
    let s = a.frame.now.source in
    let r = a.frame.now.reading in
    let h = c.loop-at-test.true in
    record {
      token_in = subst (TokenIn s.text.now s.macros.now) (sym c.place_at-place.ensures) (place_in s.text.now s.macros.now r.list.now r.body c.loop-at.at c.loop-at.invariant.0 h);
      readable_from = subst (ReadableFrom s.text.now s.macros.now r.list.now r.body) (sym c.next-next.ensures.0) (read_on s.text.now s.macros.now r.list.now r.body c.loop-at.at c.loop-at.invariant.0 h);
    }

pub write_body-token_at-token-requires : goal.write_body-token_at-token-requires
write_body-token_at-token-requires t c = turn_in (turn c.loop-at.invariant.0 c.loop-at-test.true c.next-next.ensures.0 c.place_at-place.ensures c.act_at.ensures)

pub write_body-write_call-requires : goal.write_body-write_call-requires
write_body-write_call-requires t c =
    let l = c.loop-at in
    let a = c.args in
    let g = turn l.invariant.0 c.loop-at-test.true c.next-next.ensures.0 c.place_at-place.ensures c.act_at.ensures in (
      omega (arith, c.decreases),
      (
        record {
          token = turn_in g;
          rest = turn_rest g;
          macros_good = c.requires.0.macros_good;
          text_small = c.requires.0.text_small;
          inside = subst (Inside a.frame.now.source.macros.now a.frame.now.most) c.in-Call.is c.act_at.ensures.inside;
        },
        omega (arith, l.invariant.1.within, l.invariant.1.kept),
      ),
    )

pub write_body-loop-at-preserved-in_ok-fill-in-Write : goal.write_body-loop-at-preserved-in_ok-fill-in-Write
write_body-loop-at-preserved-in_ok-fill-in-Write t c =
    let l = c.loop-at in
    let a = c.args in
    let s = a.frame.now.source in
    let r = a.frame.now.reading in
    let n = c.next-next.result in
    let place = c.place_at-place.result in
    let g = turn l.invariant.0 c.loop-at-test.true c.next-next.ensures.0 c.place_at-place.ensures c.act_at.ensures in
    let steps = steps_from s.text.now s.macros.now a.frame.now.most a.frame.now.levels r.list.now r.body in
    let w = c.write_token in
    let act = Write c.in-Write.after in (
      turn_rest g,
      same_call a.really a.out.now a.from (steps Leading r.body.start) l.out l.fill (steps l.mode l.at) l.invariant.1 (act_steps s.text.now s.macros.now a.frame.now.levels r.list.now r.body place n act) (steps (mode_after act) n) (turn_act g a.frame.now.levels act c.in-Write.is) w.result w.new.out
          (w.ensures.value ∙ ap (λ (x : List ℕ). answer_from (length l.out) l.fill (write x ∷ [])) c.token_at-token.ensures)
          (w.ensures.out_after ∙ ap (λ (x : List ℕ). append l.out l.fill (only a.really (written_from (length l.out) l.fill (write x ∷ [])))) c.token_at-token.ensures) _ c.in_ok-fill-in-Write.was w.auto.out,
    )

pub write_body-loop-at-preserved-in-Pass : goal.write_body-loop-at-preserved-in-Pass
write_body-loop-at-preserved-in-Pass t c =
    let l = c.loop-at in
    let a = c.args in
    let s = a.frame.now.source in
    let r = a.frame.now.reading in
    let g = turn l.invariant.0 c.loop-at-test.true c.next-next.ensures.0 c.place_at-place.ensures c.act_at.ensures in
    (turn_rest g, subst (Same a.really a.out.now a.from (steps_from s.text.now s.macros.now a.frame.now.most a.frame.now.levels r.list.now r.body Leading r.body.start) l.out l.fill) (turn_act g a.frame.now.levels Pass c.in-Pass.is) l.invariant.1)

pub write_body-loop-at-preserved : goal.write_body-loop-at-preserved
write_body-loop-at-preserved t c =
    let l = c.loop-at in
    let a = c.args in
    let s = a.frame.now.source in
    let r = a.frame.now.reading in
    let n = c.next-next.result in
    let place = c.place_at-place.result in
    let g = turn l.invariant.0 c.loop-at-test.true c.next-next.ensures.0 c.place_at-place.ensures c.act_at.ensures in
    let steps = steps_from s.text.now s.macros.now a.frame.now.most a.frame.now.levels r.list.now r.body in
    let w = c.write_call in
    let act = Call c.in-Call.k in (
      turn_rest g,
      same_call a.really a.out.now a.from (steps Leading r.body.start) l.out l.fill (steps l.mode l.at) l.invariant.1 (act_steps s.text.now s.macros.now a.frame.now.levels r.list.now r.body place n act) (steps (mode_after act) n) (turn_act g a.frame.now.levels act c.in-Call.is) w.result w.new.out
          w.ensures.value w.ensures.out_after _ c.in_ok-fill-in-Call.was w.auto.out,
    )

pub write_body-returns-in_err-fill-in-Write : goal.write_body-returns-in_err-fill-in-Write
write_body-returns-in_err-fill-in-Write t c =
    let l = c.loop-at in
    let a = c.args in
    let s = a.frame.now.source in
    let r = a.frame.now.reading in
    let n = c.next-next.result in
    let place = c.place_at-place.result in
    let g = turn l.invariant.0 c.loop-at-test.true c.next-next.ensures.0 c.place_at-place.ensures c.act_at.ensures in
    let steps = steps_from s.text.now s.macros.now a.frame.now.most a.frame.now.levels r.list.now r.body in
    let w = c.write_token in
    let act = Write c.in-Write.after in
    let p = err_from_is_err_and c.from_residual.result c.from_residual.ensures.1 in
    let e = ends_call a.really a.out.now a.from (steps Leading r.body.start) l.out l.fill (steps l.mode l.at) l.invariant.1 (act_steps s.text.now s.macros.now a.frame.now.levels r.list.now r.body place n act) (steps (mode_after act) n) (turn_act g a.frame.now.levels act c.in-Write.is) w.result w.new.out
    (w.ensures.value ∙ ap (λ (x : List ℕ). answer_from (length l.out) l.fill (write x ∷ [])) c.token_at-token.ensures)
    (w.ensures.out_after ∙ ap (λ (x : List ℕ). append l.out l.fill (only a.really (written_from (length l.out) l.fill (write x ∷ [])))) c.token_at-token.ensures) _ c.in_err-fill-in-Write.was in
    rw (p.1, p.2) (record { value = e.answered; out_after = e.left })

pub write_body-returns-in_err-fill-in-Call : goal.write_body-returns-in_err-fill-in-Call
write_body-returns-in_err-fill-in-Call t c =
    let l = c.loop-at in
    let a = c.args in
    let s = a.frame.now.source in
    let r = a.frame.now.reading in
    let n = c.next-next.result in
    let place = c.place_at-place.result in
    let g = turn l.invariant.0 c.loop-at-test.true c.next-next.ensures.0 c.place_at-place.ensures c.act_at.ensures in
    let steps = steps_from s.text.now s.macros.now a.frame.now.most a.frame.now.levels r.list.now r.body in
    let w = c.write_call in
    let act = Call c.in-Call.k in
    let p = err_from_is_err_and c.from_residual-in_err-fill-in-Call.result c.from_residual-in_err-fill-in-Call.ensures.1 in
    let e = ends_call a.really a.out.now a.from (steps Leading r.body.start) l.out l.fill (steps l.mode l.at) l.invariant.1 (act_steps s.text.now s.macros.now a.frame.now.levels r.list.now r.body place n act) (steps (mode_after act) n) (turn_act g a.frame.now.levels act c.in-Call.is) w.result w.new.out
    w.ensures.value w.ensures.out_after _ c.in_err-fill-in-Call.was in
    rw (p.1, p.2) (record { value = e.answered; out_after = e.left })

pub write_body-returns : goal.write_body-returns
write_body-returns t c =
    let l = c.loop-at in
    let a = c.args in
    let steps = steps_from a.frame.now.source.text.now a.frame.now.source.macros.now a.frame.now.most a.frame.now.levels a.frame.now.reading.list.now a.frame.now.reading.body in
    let e = ends_all a.really a.out.now a.from (steps Leading a.frame.now.reading.body.start) l.out l.fill (steps l.mode l.at) l.invariant.1 (turn_end a.frame.now.source.text.now a.frame.now.source.macros.now a.frame.now.most a.frame.now.levels a.frame.now.reading.list.now a.frame.now.reading.body l.mode l.at c.loop-at-test.false) in
    record { value = e.answered; out_after = e.left }

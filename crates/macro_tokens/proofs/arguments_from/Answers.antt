use Rattle.std.proofs.Common.{◌≡◌, ◌<◌, ◌≤◌, ℕ, List, Bool, true, false, refl, [], length, sym, ap, subst, ◌∙◌, arith, ltb, ltb-true, ltb-false}
use Rattle.record.specs.Records.{kind_at, next, whole, places_from}
use Rattle.record.proofs.RecordsLaws.{places_step, places_cons}
use Rattle.macro_tokens.specs.Places.{token_record, TokenIn, place_of}
use Rattle.macro_tokens.proofs.PlacesLaws.{token, place_in}
use Rattle.macro_tokens.specs.Arguments.{with_token}
use Rattle.macro_tokens.proofs.ArgumentsLaws.{Took, took_last, took_line, took_next}
use Rattle.macro_tokens.proofs.arguments_from.Goals as goal
use Rattle.macro_tokens.proofs.arguments_from.Goals.{In-Some, After-kind_of-kind}

-- The walk is at the turn's token, and the other tokens follow it.
turn : (c : In-Some) → let a = c.args in
    Took a.source.now.text.now a.source.now.macros.now a.reading.now.list.now a.reading.now.body a.from c.in-Some.at c.loop-at.taken
    × (c.in-Some.at < length a.reading.now.list.now)
    × (places_from c.next.new.self.list.now c.next.new.self.at ≡ places_from a.reading.now.list.now (next a.reading.now.list.now c.in-Some.at))
turn c =
    let a = c.args in
    let list = a.reading.now.list.now in
    let i = c.loop-at.invariant in
    let e = sym i.left ∙ c.in-Some.ensures.steps in
    let first = places_cons list i.here c.in-Some.at (places_from c.next.new.self.list.now c.next.new.self.at) e in
    let n = places_step list i.here first.0 (token a.source.now.text.now a.source.now.macros.now list a.reading.now.body i.here i.took.rest first.0).whole_at in
    let here = first.1 in
    (rw here i.took, rw here first.0, cc)

pub place_at-place-requires : goal.place_at-place-requires
place_at-place-requires c =
    let a = c.args in
    let t = turn c in
    (t.0.rest.readable, token a.source.now.text.now a.source.now.macros.now a.reading.now.list.now a.reading.now.body c.in-Some.at t.0.rest t.1)

pub kind_of-kind-requires : goal.kind_of-kind-requires
kind_of-kind-requires c =
    let a = c.args in
    let t = turn (goal.at.kind_of-kind-requires c).In-Some in
    subst (TokenIn a.source.now.text.now a.source.now.macros.now) (sym c.place_at-place.ensures) (place_in a.source.now.text.now a.source.now.macros.now a.reading.now.list.now a.reading.now.body c.in-Some.at t.0.rest t.1)

-- The kind read is the token's kind.
kind_is : (c : After-kind_of-kind) → c.kind_of-kind.result ≡ kind_at (token_record c.args.source.now.text.now c.args.source.now.macros.now (place_of c.args.reading.now.list.now c.args.reading.now.body c.in-Some.at)) 0
kind_is c = c.kind_of-kind.ensures ∙ ap (λ (p : ℕ). kind_at (token_record c.args.source.now.text.now c.args.source.now.macros.now p) 0) c.place_at-place.ensures

pub returns-then-kind-eq-NEW_LINE : goal.returns-then-kind-eq-NEW_LINE
returns-then-kind-eq-NEW_LINE c =
    let a = c.args in
    let w = goal.at.returns-then-kind-eq-NEW_LINE c in
    let t = turn w.In-Some in
    took_line a.source.now.text.now a.source.now.macros.now a.reading.now.list.now a.reading.now.body a.from c.in-Some.at c.loop-at.taken t.0 t.1 c.kind_of-kind.result (kind_is w.After-kind_of-kind) c.if-kind-eq-NEW_LINE.true

pub take-requires : goal.take-requires
take-requires c =
    let t = turn (goal.at.take-requires c).In-Some in
    (omega (arith, t.0.few, t.1, t.0.rest.readable), t.0.eight)

pub loop-at-preserved : goal.loop-at-preserved
loop-at-preserved c =
    let a = c.args in
    let w = goal.at.loop-at-preserved c in
    let t = turn w.In-Some in
    record {
      here = next a.reading.now.list.now c.in-Some.at;
      left = t.2;
      took = subst (Took a.source.now.text.now a.source.now.macros.now a.reading.now.list.now a.reading.now.body a.from (next a.reading.now.list.now c.in-Some.at))
          (sym (c.take.ensures ∙ ap (with_token c.loop-at.taken c.kind_of-kind.result) c.place_at-place.ensures))
          (took_next a.source.now.text.now a.source.now.macros.now a.reading.now.list.now a.reading.now.body a.from c.in-Some.at c.loop-at.taken t.0 t.1 c.kind_of-kind.result (kind_is w.After-kind_of-kind) c.if-kind-eq-NEW_LINE.false);
    }

-- A walk with nothing left is at the end.
ended : (s : List ℕ) (at : ℕ) → (at < length s → whole s at ≡ true) → places_from s at ≡ [] → length s ≤ at
ended s at w e = go (ltb at (length s)) refl
  where
    go : (b : Bool) → ltb at (length s) ≡ b → length s ≤ at
    go false k = ltb-false at (length s) k
    go true k =
        let h = ltb-true at (length s) k in
        let n = places_step s at h (w h) in
        absurd cc

pub returns : goal.returns
returns c =
    let a = c.args in
    let list = a.reading.now.list.now in
    let i = c.loop-at.invariant in
    let all_whole : i.here < length list → whole list i.here ≡ true = λ h. (token a.source.now.text.now a.source.now.macros.now list a.reading.now.body i.here i.took.rest h).whole_at in
    took_last a.source.now.text.now a.source.now.macros.now list a.reading.now.body a.from i.here c.loop-at.taken i.took
    (ended list i.here all_whole (sym i.left ∙ c.in-None.ensures.steps.0))

use Rattle.std.proofs.Common.{ℕ, List, sym, ap, ◌∙◌}
use Rattle.record.specs.Bytes.{same_bytes}
use Rattle.macros.specs.Macros.{name_ok}
use Rattle.macro_lookup.proofs.LookupLaws.{met_first, met_turn, met_last, met_found, name_in, name_ok_lem}
use Rattle.macro_lookup.proofs.callee.Goals as goal

pub loop-at-init : goal.loop-at-init
loop-at-init c = record { met = met_first _ _ _ _ c.args.macros.now.good (cc); before = tt }

pub body_at-requires : goal.body_at-requires
body_at-requires c = (met_turn _ c.args.name.now _ _ _ _ _ c.requires c.loop-at.invariant.met c.in-Some.ensures.steps).stands.whole_at

pub is_named-requires : goal.is_named-requires
is_named-requires c =
    let t = met_turn _ c.args.name.now _ _ _ _ _ c.requires c.loop-at.invariant.met c.in-Some.ensures.steps in
    ap (λ (b : List ℕ). name_ok b 0) c.body_at.ensures ∙ name_ok_lem c.args.macros.now.bytes.now c.in-Some.at t.stands

pub loop-at-preserved-then-is_named : goal.loop-at-preserved-then-is_named
loop-at-preserved-then-is_named c =
    let name = c.args.name.now in
    let t = met_turn _ name _ _ _ _ _ c.requires c.loop-at.invariant.met c.in-Some.ensures.steps in
    record {
      met = t.named (sym (ap (λ (x : List ℕ). same_bytes x name) (name_in c.args.macros.now.bytes.now c.in-Some.at _ c.body_at.ensures)) ∙ sym c.if-is_named.ensures);
      before = t.before;
    }

pub loop-at-preserved : goal.loop-at-preserved
loop-at-preserved c =
    let name = c.args.name.now in
    let t = met_turn _ name _ _ _ _ _ c.requires c.loop-at.invariant.met c.in-Some.ensures.steps in
    record {
      met = t.other (sym (ap (λ (x : List ℕ). same_bytes x name) (name_in c.args.macros.now.bytes.now c.in-Some.at _ c.body_at.ensures)) ∙ sym c.if-is_named.ensures);
      before = c.loop-at.invariant.before;
    }

pub returns : goal.returns
returns c = met_found _ _ _ _ (met_last _ _ _ _ _ c.requires c.loop-at.invariant.met c.in-None.ensures.steps.0) c.loop-at.invariant.before

use Rattle.std.proofs.Common.{◌≡◌, ltb, sym, ◌∙◌, ltb-true, ltb-false}
use Rattle.std.specs.Option.{is_some}
use Rattle.macros.proofs.NamesLaws.{index_from, some_below, differ_end}
use Rattle.macros.proofs.WalkLaws.{list_on, differ_first, differ_behind}
use Rattle.macros.proofs.Names.differ.Goals as goal
use Rattle.macros.proofs.Names.differ.Goals.{After-index_of}

-- The search looks for the name among the names behind it.
index : (c : After-index_of) → let t = c.next.new.self in
    is_some c.index_of.result ≡ ltb (index_from c.args.self.now.list.now c.in-Some.name.now t.count t.at) t.count
index c =
    let h = c.in-Some.ensures.steps in
    let l = list_on c.args.self.now.list.now c.loop-name.name-iterator _ c.next.new.self c.loop-name.invariant.list h.1 in
    some_below c.index_of.result _ _ (rw (h.0, l) at c.index_of.ensures)

pub returns-then-is_some : goal.returns-then-is_some
returns-then-is_some c =
    let h = c.in-Some.ensures.steps in
    let t = c.next.new.self in
    let few = ltb-true _ t.count (sym (c.if-is_some.ensures ∙ index (goal.at.returns-then-is_some c).After-index_of)) in
    sym (c.loop-name.invariant.left ∙ differ_first c.args.self.now.list.now c.loop-name.name-iterator _ t c.loop-name.invariant.list h.1 few)

pub loop-name-preserved : goal.loop-name-preserved
loop-name-preserved c =
    let b = c.args.self.now.list.now in
    let s = c.loop-name.name-iterator in
    let t = c.next.new.self in
    let h = c.in-Some.ensures.steps in
    let many = ltb-false _ t.count (sym (c.if-is_some.ensures ∙ index (goal.at.loop-name-preserved c).After-index_of)) in
    record {
      list = list_on b s _ t c.loop-name.invariant.list h.1;
      left = c.loop-name.invariant.left ∙ differ_behind b s _ t c.loop-name.invariant.list h.1 many;
    }

pub returns : goal.returns
returns c =
    sym (c.loop-name.invariant.left ∙ differ_end c.args.self.now.list.now c.loop-name.name-iterator.count c.loop-name.name-iterator.at c.in-None.ensures.steps.0)

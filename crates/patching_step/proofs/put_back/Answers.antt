use Rattle.std.proofs.Common.{◌≡◌, ℕ, ◌+◌, ◌*◌, List, length, take, take_all, length-take-le, ap, ap₂, subst, sym, refl, ◌∙◌, ⊎_elim, arith}
use Rattle.std.specs.Slice.Iter.{rchunks_rest, rchunks_size}
use Rattle.patching_outcome.specs.Step.{put_back}
use Rattle.patching_step.specs.Undo.{back_at}
use Rattle.patching_step.proofs.UndoLaws.{LastOf, last_of, Undoing, undo_start, turn_filled, turn_patch, undo_next, undo_end}
use Rattle.patching_step.proofs.put_back.Goals as goal
use Rattle.patching_step.proofs.put_back.Goals.{In-Some}

-- A turn takes the last of the places and of the kept bytes that are left.
last : (c : In-Some) → LastOf c.args.order.now c.args.kept.now c.loop-at.at-iterator.a.iter.rest.now c.next.new.self.a.iter.rest.now (rchunks_rest c.next.new.self.b) c.in-Some.field-0-0.now c.in-Some.bytes.now
last c =
    let i = c.loop-at.invariant in
    let s = c.in-Some.ensures.steps in
    last_of _ _ _ _ _ _ _ _ c.requires.1.room i.places_left i.words_left s.0 s.1.1.0 (rw i.four at s.1.1.1)

undoing : (c : In-Some) → let a = c.args in
    let r = take a.fill a.regions.now in
    Undoing r a.pending.now a.kept.now a.order.now (put_back r a.pending.now a.kept.now 0 a.order.now a.regions.now) a.fill (length c.next.new.self.a.iter.rest.now + 1) c.loop-at.regions
undoing c =
    let a = c.args in
    let r = take a.fill a.regions.now in
    subst (λ (m : ℕ). Undoing r a.pending.now a.kept.now a.order.now (put_back r a.pending.now a.kept.now 0 a.order.now a.regions.now) a.fill m c.loop-at.regions) (last c).some c.loop-at.invariant.undoing

pub loop-at-init : goal.loop-at-init
loop-at-init c =
    let a = c.args in
    let z = c.zip-at-items in
    let it = c.into_iter-at-iterator.ensures.into_iter_gives in
    let places : c.into_iter-at-iterator.result.a.iter.rest.now ≡ a.order.now =
    ap (λ (x : _). x.a.iter.rest.now) it ∙ ap (λ (x : _). x.iter.rest.now) z.ensures.first ∙ ap (λ (x : _). x.rest.now) c.rev.ensures.source ∙ c.iter.ensures.rest in
    let words : rchunks_rest c.into_iter-at-iterator.result.b ≡ take (4 * length a.order.now) a.kept.now =
    ap (λ (x : _). rchunks_rest x.b) it ∙ ap rchunks_rest z.ensures.second ∙ c.rchunks-words.ensures.rest in
    record {
      four = ap (λ (x : _). rchunks_size x.b) it ∙ ap rchunks_size z.ensures.second ∙ c.rchunks-words.ensures.size;
      places_left = rw places (sym (take_all (length a.order.now) a.order.now (omega arith)));
      words_left = rw places words;
      undoing = rw places (undo_start a.pending.now a.kept.now a.order.now a.regions.now a.fill c.requires.0);
      long = refl;
    }

pub put_back_one-requires : goal.put_back_one-requires
put_back_one-requires c =
    let k = (goal.at.put_back_one-requires c).In-Some in
    let t = last k in
    let u = undoing k in
    (turn_filled _ _ _ _ _ _ _ _ u c.requires.1, rw (c.from.ensures, t.place_is) (turn_patch _ _ _ _ _ _ _ _ u c.requires.1), t.four)

pub loop-at-preserved : goal.loop-at-preserved
loop-at-preserved c =
    let a = c.args in
    let l = c.loop-at in
    let k = (goal.at.loop-at-preserved c).In-Some in
    let t = last k in
    let b = c.put_back_one.ensures
    ∙ ap₂ (λ (at : ℕ) (bytes : List ℕ). back_at (take a.fill l.regions) a.pending.now bytes at l.regions) (c.from.ensures ∙ t.place_is) t.bytes_are in
    record {
      four = c.in-Some.ensures.steps.1.0 ∙ l.invariant.four;
      places_left = t.places_left;
      words_left = t.words_left;
      undoing = undo_next _ _ _ _ _ _ _ _ (undoing k) c.requires.1 _ b;
      long = c.put_back_one.auto.regions ∙ l.invariant.long;
    }

pub returns : goal.returns
returns c =
    let i = c.loop-at.invariant in
    let n = length c.loop-at.at-iterator.a.iter.rest.now in
    let room = c.requires.1.room in
    let few = i.undoing.left_few in
    let none : n ≡ 0 = ⊎_elim
    (λ (p : _). p.1.0)
    (λ (q : _). omega (arith, q.1.1.0, ap length i.words_left, length-take-le (4 * n) c.args.kept.now (omega arith)))
    c.in-None.ensures.steps in
    undo_end _ _ _ _ _ _ _ _ i.undoing (omega (arith, none))

use Rattle.std.proofs.Common.{ℕ, ◌+◌, ◌≡◌, ◌≤◌, List, length, sym, ap, ◌∙◌, subst, arith}
use Rattle.std.specs.declared.iter.Enumerate.{Enumerate}
use Rattle.record.specs.declared.Iter.{Iter}
use Rattle.record.specs.Records.{places, next}
use Rattle.record.specs.Left.{places_left}
use Rattle.record.proofs.RecordsLaws.{places_all}
use Rattle.address_label.specs.declared.AddressLabel.{AddressLabel}
use Rattle.pending.specs.declared.Pending.{Pending}
use Rattle.pending.specs.Pendings.{label_of}
use Rattle.use_adding.specs.Making.{RoomForOne, AddsOneTo, KeepsOwners, Made}
use Rattle.use_adding.proofs.MakingLaws.{Making, MakingTurn, making_start, making_is, making_room, making_next, making_end, left_turn}
use Rattle.use_adding.proofs.AddingLaws.{left_behind, left_none}
use Rattle.use_adding.proofs.fill_index.Goals as goal
use Rattle.use_adding.proofs.fill_index.Goals.{In-Some, After-into_iter-n-iterator}

room : (c : After-into_iter-n-iterator) → length c.pending.inside.bytes.now ≤ length c.args.d.now
room c = omega (arith, c.requires.0, ap length c.pending.view_is)

turn : (c : In-Some) → let l = c.loop-n in MakingTurn c.args.d.now c.args.labels.now c.pending.inside.bytes.now l.d c.in-Some.n l.fill c.in-Some.at (places_left c.next.new.self.iter)
turn c =
    let a = c.args in
    let l = c.loop-n in
    let s = c.in-Some.ensures.steps in
    let list = c.pending.inside.bytes.now in
    subst (λ (n : ℕ). MakingTurn a.d.now a.labels.now list l.d n l.fill c.in-Some.at (places_left c.next.new.self.iter)) (sym s.1)
    (left_turn a.d.now a.labels.now list l.d l.n-iterator.count l.fill c.in-Some.at _ _ l.invariant s.0)

pub loop-n-init : goal.loop-n-init
loop-n-init c =
    let a = c.args in
    let list = c.pending.inside.bytes.now in
    let it = c.into_iter-n-iterator.result in
    let same = c.into_iter-n-iterator.ensures.into_iter_gives in
    let none : it.count ≡ 0 = ap (λ (i : Enumerate Iter). i.count) same ∙ c.enumerate-n-items.ensures.count in
    let all : places_left it.iter ≡ places list =
    ap (λ (i : Enumerate Iter). places_left i.iter) same ∙ ap places_left c.enumerate-n-items.ensures.source ∙ c.places.ensures.value in
    let start = making_start a.d.now a.labels.now list (room c) c.requires.1 c.pending.invariant.0 in
    record { at = 0; making = subst (λ (n : ℕ). Making a.d.now a.labels.now list a.d.now 0 n 0) (sym none) start; left_are = all ∙ places_all list }

pub read_pending-label-requires : goal.read_pending-label-requires
read_pending-label-requires c =
    let a = c.args in
    let l = c.loop-n in
    let k = (goal.at.read_pending-label-requires c).In-Some in
    let t = turn k in
    making_is a.d.now a.labels.now c.pending.inside.bytes.now (room (goal.at.read_pending-label-requires c).After-into_iter-n-iterator) c.requires.1 l.d c.in-Some.at c.in-Some.n l.fill t.making t.within

pub add_label-fill-requires : goal.add_label-fill-requires
add_label-fill-requires c =
    let a = c.args in
    let l = c.loop-n in
    let list = c.pending.inside.bytes.now in
    let t = turn (goal.at.add_label-fill-requires c).In-Some in
    let r = making_room a.d.now a.labels.now list (room (goal.at.add_label-fill-requires c).After-into_iter-n-iterator) c.requires.1 l.d c.in-Some.at c.in-Some.n l.fill t.making t.within in
    subst (λ (x : AddressLabel). RoomForOne l.d a.labels.now list l.fill x c.in-Some.n) (sym (ap (λ (p : Pending). p.label) c.read_pending-label.ensures)) r

pub loop-n-preserved : goal.loop-n-preserved
loop-n-preserved c =
    let a = c.args in
    let l = c.loop-n in
    let list = c.pending.inside.bytes.now in
    let p = c.add_label-fill in
    let at = c.in-Some.at in
    let n = c.in-Some.n in
    let t = turn (goal.at.loop-n-preserved c).In-Some in
    let s = c.in-Some.ensures.steps in
    let h = room (goal.at.loop-n-preserved c).After-into_iter-n-iterator in
    let w = (making_is a.d.now a.labels.now list h c.requires.1 l.d at n l.fill t.making t.within).whole_at in
    let q = ap (λ (x : Pending). x.label) c.read_pending-label.ensures in
    let adds : AddsOneTo l.d p.new.index a.labels.now list l.fill (label_of list at) n p.result =
    subst (λ (x : AddressLabel). AddsOneTo l.d p.new.index a.labels.now list l.fill x n p.result) q p.ensures.adds in
    let owners : KeepsOwners a.labels.now list (label_of list at) n = subst (λ (x : AddressLabel). KeepsOwners a.labels.now list x n) q p.ensures.owners in
    let onward : Making a.d.now a.labels.now list p.new.index (next list at) (n + 1) p.result =
    making_next a.d.now a.labels.now list h c.requires.1 l.d at n l.fill t.making p.new.index p.result t.within p.auto.index adds owners in
    let k : n + 1 ≡ c.next.new.self.count = omega (arith, s.1, s.2) in
    record {
      at = next list at;
      making = subst (λ (m : ℕ). Making a.d.now a.labels.now list p.new.index (next list at) m p.result) k onward;
      left_are = left_behind list at _ t.within w t.first;
    }

pub returns : goal.returns
returns c =
    let a = c.args in
    let l = c.loop-n in
    let i = l.invariant in
    let list = c.pending.inside.bytes.now in
    subst (λ (s : List ℕ). Made a.d.now l.d a.labels.now s l.fill) c.pending.view_is
    (making_end a.d.now a.labels.now list (room (goal.at.returns c).After-into_iter-n-iterator) c.requires.1 l.d i.at l.n-iterator.count l.fill i.making
    (left_none list i.at (sym i.left_are ∙ c.in-None.ensures.steps.0.0)))

use Rattle.std.specs.Prelude.{None}
use Rattle.std.proofs.Common.{ℕ, List, ◌+◌, ◌≡◌, length, sym, ap, ◌∙◌, subst, take, arith}
use Rattle.std.proofs.Math.Seq.{take_all}
use Rattle.record.specs.Bytes.{same_bytes}
use Rattle.record.specs.Records.{next, first_bad}
use Rattle.record.specs.Left.{places_left}
use Rattle.record.proofs.RecordsLaws.{places_all}
use Rattle.pending.specs.Pendings.{pending_ok}
use Rattle.label_uses.specs.UseBytes.{index_of}
use Rattle.label_uses.specs.ReadUse.{count_at}
use Rattle.use_adding.proofs.AddingLaws.{left_none}
use Rattle.index_check.specs.Checks.{ListsIn, Lists, names_in}
use Rattle.index_check.proofs.CheckingLaws.{Checked, CheckedTurn, checked_start, checked_turn, fine_behind, last_read, would_pass, checked_next, end_decides, same_no, names_are}
use Rattle.index_check.proofs.Lists.is_index.Goals as goal
use Rattle.index_check.proofs.Lists.is_index.Goals.{After-into_iter-at-iterator, In-Some}

all : (s : List ℕ) → take (length s) s ≡ s
all s = take_all (length s) s (omega arith)

-- what the lists keep
kept : (c : After-into_iter-at-iterator) → let v = c.args.self.now in Lists v.labels v.pending c.self.inside.places.now
kept c = subst (λ (v : ListsIn). Lists v.labels v.pending c.self.inside.places.now) c.self.view_is c.self.invariant

turn : (c : In-Some) → CheckedTurn c.args.self.now.labels c.args.self.now.pending c.args.index.now c.loop-at.last c.loop-at.sum c.in-Some.at (places_left c.next.new.self)
turn c = checked_turn c.args.self.now.labels c.args.self.now.pending c.args.index.now c.loop-at.last c.loop-at.sum c.in-Some.at _ _ c.loop-at.invariant c.in-Some.ensures.steps

pub loop-at-init : goal.loop-at-init
loop-at-init c =
    let a = c.args in
    record {
      at = 0;
      checked = checked_start a.self.now.labels a.self.now.pending a.index.now (length a.index.now);
      left_are = ap places_left c.into_iter-at-iterator.ensures.into_iter_gives ∙ c.places-at-items.ensures.value ∙ places_all _;
    }

pub record_fine-requires : goal.record_fine-requires
record_fine-requires c =
    let a = c.args in
    let l = c.loop-at in
    let t = turn (goal.at.record_fine-requires c).In-Some in
    (t.within, c.requires, last_read a.self.now.labels a.self.now.pending a.index.now (length a.index.now) c.in-Some.at l.last l.sum t.checked)

pub returns-then-not-record_fine : goal.returns-then-not-record_fine
returns-then-not-record_fine c =
    let v = c.args.self.now in
    let l = c.loop-at in
    let s = c.args.index.now in
    let t = turn (goal.at.returns-then-not-record_fine c).In-Some in
    let k = kept (goal.at.returns-then-not-record_fine c).After-into_iter-at-iterator in
    same_no s (index_of v.labels v.pending)
    (λ h. c.if-not-record_fine.ensures
    (would_pass v.labels v.pending s (length s) c.in-Some.at l.last l.sum t.checked k.label_bytes k.pending_bytes k.kept k.short c.requires (omega arith) t.within (all s ∙ h)))

pub loop-at-preserved : goal.loop-at-preserved
loop-at-preserved c =
    let v = c.args.self.now in
    let l = c.loop-at in
    let s = c.args.index.now in
    let p = c.in-Some.at in
    let t = turn (goal.at.loop-at-preserved c).In-Some in
    let k = kept (goal.at.loop-at-preserved c).After-into_iter-at-iterator in
    let n : Checked v.labels v.pending s (length s) (next s p) p (l.sum + count_at s p) =
    checked_next v.labels v.pending s (length s) p l.last l.sum t.checked k.label_bytes k.pending_bytes k.kept k.short c.requires (omega arith)
    (λ i. omega (arith, c.type_inv.index i)) t.within c.if-not-record_fine.ensures in
    record {
      at = next s p;
      checked = subst (λ (m : ℕ). Checked v.labels v.pending s (length s) (next s p) p (l.sum + m)) (sym c.half_at-sum.ensures.0) n;
      left_are = fine_behind v.labels v.pending s l.last p _ c.if-not-record_fine.ensures t.within t.first;
    }

pub count_names-requires : goal.count_names-requires
count_names-requires c =
    let i = c.self.invariant in
    subst (λ (ps : List ℕ). first_bad (pending_ok 16 c.self.inside.pending.now) ps ≡ None) (sym i.places_are) i.kept

pub returns : goal.returns
returns c =
    let v = c.args.self.now in
    let l = c.loop-at in
    let s = c.args.index.now in
    let i = l.invariant in
    let k = kept (goal.at.returns c).After-into_iter-at-iterator in
    let same = ap (λ (x : ListsIn). x.pending) c.self.view_is in
    end_decides v.labels v.pending s (length s) i.at l.last l.sum i.checked k.label_bytes k.pending_bytes k.kept k.short c.requires (omega arith)
    (left_none s i.at (sym i.left_are ∙ c.in-None.ensures.steps.0)) c.count_names.result
    (c.count_names.ensures ∙ ap (λ (x : List ℕ). names_in x c.self.inside.places.now) same ∙ ap (names_in v.pending) k.places_are ∙ names_are v.labels v.pending)
    ∙ ap (λ (x : List ℕ). same_bytes x (index_of v.labels v.pending)) (all s)

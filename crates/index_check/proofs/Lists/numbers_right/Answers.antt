use Rattle.std.specs.Prelude.{None}
use Rattle.std.proofs.Common.{List, ℕ, ◌+◌, ◌*◌, ◌-◌, ◌≡◌, true, false, get_or, refl, sym, ap, ap₂, ◌∙◌, subst, arith}
use Rattle.std.specs.Option.{is_some, unwrap_or}
use Rattle.record.specs.Records.{places, first_bad}
use Rattle.record.proofs.RecordsLaws.{good_at}
use Rattle.pending.specs.Pendings.{label_of, pending_ok}
use Rattle.pending.proofs.PendingsLaws.{pending_is}
use Rattle.label_uses.specs.ReadUse.{count_at, key_read}
use Rattle.index_check.specs.Checks.{ListsIn, NumbersFrom, source_in}
use Rattle.index_check.proofs.NumbersLaws.{OneRight}
use Rattle.index_check.proofs.RecordLaws.{not_above, not_below, not_named, not_standing, right_one}
use Rattle.index_check.proofs.CountingLaws.{Counting, counting_start, counting_no, counting_next, counting_end, stands_some}
use Rattle.index_check.proofs.Lists.numbers_right.Goals as goal
use Rattle.index_check.proofs.Lists.numbers_right.Goals.{After-half_at-n}

wrong : (c : After-half_at-n) → let a = c.args in let v = a.self.now in
    (OneRight v.labels v.pending c.key_at-key.result a.index.now (a.at + 7 + 2 * c.loop-i.i) c.loop-i.least → ⊥)
    → NumbersFrom v.labels v.pending (key_read a.index.now a.at) a.index.now (count_at a.index.now a.at) (a.at + 7) 0 → ⊥
wrong c =
    let a = c.args in
    let v = a.self.now in
    let l = c.loop-i in
    counting_no v.labels v.pending a.index.now a.at c.key_at-key.result (c.half_at-count.result - l.i) (a.at + 7 + 2 * l.i) l.least (is_some l.last) (unwrap_or l.last 0) l.invariant (omega (arith, c.loop-i-test.true))

same : (c : After-half_at-n) → c.self.inside.pending.now ≡ c.args.self.now.pending
same c = ap (λ (v : ListsIn). v.pending) c.self.view_is

are : (c : After-half_at-n) → c.self.inside.places.now ≡ places c.args.self.now.pending
are c = c.self.invariant.places_are ∙ ap places (same c)

-- The source that was read is the one in the lists.
source_is : (c : After-half_at-n) (name : List ℕ) (place : ℕ) → name ≡ c.key_at-key.result.name
    → source_in c.self.inside.pending.now name (label_of c.self.inside.pending.now place) ≡ source_in c.args.self.now.pending c.key_at-key.result.name (label_of c.args.self.now.pending place)
source_is c name place e = ap₂ (λ (s n : List ℕ). source_in s n (label_of s place)) (same c) e

pub loop-i-init : goal.loop-i-init
loop-i-init c =
    let a = c.args in
    let v = a.self.now in
    let key = c.key_at-key.result in
    let count = c.half_at-count.result in
    let e : count ≡ count - 0 = omega arith in
    let f : a.at + 7 ≡ a.at + 7 + 0 = omega arith in
    subst (λ (x : ℕ). Counting v.labels v.pending a.index.now a.at key x (a.at + 7 + 0) 0 false 0) e
    (subst (λ (x : ℕ). Counting v.labels v.pending a.index.now a.at key count x 0 false 0) f
    (counting_start v.labels v.pending a.index.now a.at key c.half_at-count.result c.requires c.key_at-key.ensures c.half_at-count.ensures.0))

pub returns-then-n-least : goal.returns-then-n-least
returns-then-n-least c =
    let a = c.args in
    let v = a.self.now in
    let l = c.loop-i in
    let k = (goal.at.returns-then-n-least c).After-half_at-n in
    wrong k (not_above v.labels v.pending c.self.inside.places.now (are k) a.index.now (a.at + 7 + 2 * l.i) l.least c.half_at-n.result _ c.half_at-n.ensures.0 refl c.key_at-key.result c.if-n-least.true)

pub returns-then-n-places : goal.returns-then-n-places
returns-then-n-places c =
    let a = c.args in
    let v = a.self.now in
    let l = c.loop-i in
    let k = (goal.at.returns-then-n-places c).After-half_at-n in
    wrong k (not_below v.labels v.pending c.self.inside.places.now (are k) a.index.now (a.at + 7 + 2 * l.i) l.least c.half_at-n.result _ c.half_at-n.ensures.0 refl c.key_at-key.result c.if-n-places.true)

pub source_of-requires : goal.source_of-requires
source_of-requires c =
    let i = c.self.invariant in
    let pending = c.self.inside.pending.now in
    let ps = c.self.inside.places.now in
    rw c.from-place.ensures (pending_is 16 pending (get_or ps c.half_at-n.result 0)
    (good_at (pending_ok 16 pending) ps (subst (λ ps. first_bad (pending_ok 16 pending) ps ≡ None) (sym i.places_are) i.kept) c.half_at-n.result c.if-n-places.false))

pub returns-in_default : goal.returns-in_default
returns-in_default c =
    let a = c.args in
    let v = a.self.now in
    let l = c.loop-i in
    let k = (goal.at.returns-in_default c).After-half_at-n in
    wrong k (not_named v.labels v.pending c.self.inside.places.now (are k) a.index.now (a.at + 7 + 2 * l.i) l.least c.half_at-n.result c.from-place.result c.half_at-n.ensures.0 c.from-place.ensures c.key_at-key.result
    (sym (c.in_default.ensures ∙ source_is k c.name.result.now c.from-place.result c.name.ensures)))

pub returns-then-not-still_stands : goal.returns-then-not-still_stands
returns-then-not-still_stands c =
    let a = c.args in
    let v = a.self.now in
    let l = c.loop-i in
    let k = (goal.at.returns-then-not-still_stands c).After-half_at-n in
    wrong k (not_standing v.labels v.pending c.self.inside.places.now (are k) a.index.now (a.at + 7 + 2 * l.i) l.least c.half_at-n.result c.from-place.result c.half_at-n.ensures.0 c.from-place.ensures c.key_at-key.result c.in-Some.source
    (sym (c.in-Some.ensures ∙ source_is k c.name.result.now c.from-place.result c.name.ensures)) c.if-not-still_stands.ensures)

pub still_stands-requires : goal.still_stands-requires
still_stands-requires c = stands_some c.args.self.now.labels c.key_at-key.result.name c.key_at-key.result c.loop-i.last c.loop-i.invariant.held

pub loop-i-preserved : goal.loop-i-preserved
loop-i-preserved c =
    let a = c.args in
    let v = a.self.now in
    let l = c.loop-i in
    let key = c.key_at-key.result in
    let left = c.half_at-count.result - l.i in
    let from = a.at + 7 + 2 * l.i in
    let k = c.if-not-still_stands.ensures in
    let at = (goal.at.loop-i-preserved c).After-half_at-n in
    let source = c.in-Some.source in
    let n = c.half_at-n.result in
    let next = counting_next v.labels v.pending a.index.now a.at key left from l.least (is_some l.last) (unwrap_or l.last 0) l.invariant n source (omega (arith, c.loop-i-test.true)) c.half_at-n.ensures.0
    (right_one v.labels v.pending c.self.inside.places.now (are at) a.index.now from l.least n c.from-place.result c.half_at-n.ensures.0 c.from-place.ensures key source c.if-n-least.false c.if-n-places.false
    (sym (c.in-Some.ensures ∙ source_is at c.name.result.now c.from-place.result c.name.ensures)) k)
    k in
    let e : left - 1 ≡ c.half_at-count.result - (l.i + 1) = omega arith in
    let f : from + 2 ≡ a.at + 7 + 2 * (l.i + 1) = omega arith in
    subst (λ (x : ℕ). Counting v.labels v.pending a.index.now a.at key x (a.at + 7 + 2 * (l.i + 1)) (n + 1) true source) e
    (subst (λ (x : ℕ). Counting v.labels v.pending a.index.now a.at key (left - 1) x (n + 1) true source) f next)

pub returns : goal.returns
returns c =
    let a = c.args in
    let v = a.self.now in
    let l = c.loop-i in
    counting_end v.labels v.pending a.index.now a.at c.key_at-key.result (c.half_at-count.result - l.i) (a.at + 7 + 2 * l.i) l.least (is_some l.last) (unwrap_or l.last 0) l.invariant (omega (arith, c.loop-i-test.false))

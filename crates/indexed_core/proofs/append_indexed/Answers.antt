use Rattle.std.proofs.Common.{◌≡◌, ℕ, List, length, sym, ap, ◌∙◌, subst, arith, rules}
use Rattle.record.specs.Records.{places}
use Rattle.record.specs.Stores.{append}
use Rattle.emit_outcome.specs.Call.{lent_of, filled_pending}
use Rattle.emit_pairs.specs.Pairs.{pairs_of}
use Rattle.label_uses.specs.Uses.{uses_of}
use Rattle.label_uses.specs.UseBytes.{uses_bytes}
use Rattle.use_adding.specs.Adding.{IndexIn}
use Rattle.line_uses.specs.Line.{LineIn}
use Rattle.line_uses.specs.LineUses.{line_uses}
use Rattle.line_uses.specs.LineIndex.{RoomForLine, AddsLineTo}
use Rattle.indexed_core.proofs.NewUsesLaws.{part_bytes, index_held}
use Rattle.indexed_core.proofs.append_indexed.Goals as goal
use Rattle.indexed_core.proofs.append_indexed.Goals.{After-count-first, After-add_to-filled}

abbrev old : After-count-first → List ℕ
old c = let a = c.args in filled_pending (lent_of a.«data».now a.pending.now a.breakpoints.now) a.numbers.counts

count_is : (c : After-count-first) → c.count-first.result ≡ length (places (old c))
count_is c = c.count-first.ensures.0 ∙ ap (λ (s : List ℕ). length (places s)) c.new.ensures

held : (c : After-count-first) → IndexIn c.args.index.now c.args.fill (uses_of c.args.labels.now (old c))
held c =
    let a = c.args in
    index_held a.labels.now (old c) a.index.now a.fill (λ i. omega (arith, c.type_inv.labels i)) (part_bytes a.numbers.counts.pending a.pending.now (λ i. search rules)) c.requires.ready.index_good

uses_from : (c : After-count-first) → ℕ → List ℕ
uses_from c n = uses_bytes (line_uses c.args.labels.now c.args.tokens.now n (pairs_of c.args.words) (uses_of c.args.labels.now (old c)))

added : (c : After-add_to-filled) (k : After-count-first) → AddsLineTo c.args.labels.now c.args.tokens.now c.args.index.now c.add_to-filled.new.index c.args.fill (pairs_of c.args.words) c.count-first.result c.add_to-filled.result
added c k = subst (λ (w : LineIn). AddsLineTo w.labels w.names c.args.index.now c.add_to-filled.new.index c.args.fill w.pairs c.count-first.result c.add_to-filled.result) c.words_of.ensures c.add_to-filled.ensures

pub words_of-requires : goal.words_of-requires
words_of-requires c = c.requires.ready.labels_good

pub add_to-filled-requires : goal.add_to-filled-requires
unfolding uses_from
add_to-filled-requires c =
    let a = c.args in
    let k = (goal.at.add_to-filled-requires c).After-count-first in
    let first = c.count-first.result in
    let room : RoomForLine a.labels.now a.tokens.now a.index.now a.fill (pairs_of a.words) first =
    record { us = uses_of a.labels.now (old k); index_in = held k; room = omega (arith, c.requires.emit_in_bounds, ap (λ (n : ℕ). length (uses_from k n)) (count_is k)) } in
    (omega (arith, c.count-first.ensures.1), subst (λ (w : LineIn). RoomForLine w.labels w.names a.index.now a.fill w.pairs first) (sym c.words_of.ensures) room)

pub overflow_cast-result : goal.overflow_cast-result
unfolding uses_from
overflow_cast-result c =
    let k = (goal.at.overflow_cast-result c).After-count-first in
    let h = held k in
    omega (
      arith,
      (added (goal.at.overflow_cast-result c).After-add_to-filled k (uses_of c.args.labels.now (old k)) h).filled,
      ap (λ (n : ℕ). length (uses_from k n)) (count_is k),
      c.requires.emit_in_bounds,
      h.limited,
    )

pub returns : goal.returns
unfolding uses_from
returns c =
    let k = (goal.at.returns c).After-count-first in
    let r = added (goal.at.returns c).After-add_to-filled k (uses_of c.args.labels.now (old k)) (held k) in
    record {
      line_is = c.append_line-appended.ensures;
      index_is = r.bytes ∙ ap (λ (n : ℕ). append c.args.index.now 0 (uses_from k n)) (count_is k);
      fill_is = r.filled ∙ ap (λ (n : ℕ). length (uses_from k n)) (count_is k);
    }

use Rattle.std.specs.Prelude.{Ok, Err, Result}
use Rattle.std.proofs.Common.{◌≡◌, List, ℕ, length, sym, ap, ◌∙◌, subst, arith, rules, length-take-le}
use Rattle.std.proofs.lemmas.Result.{err_from_is_err_and}
use Rattle.record.specs.Records.{places}
use Rattle.emit_pairs.specs.declared.emit_instruction.EmitInstruction.{EmitInstruction}
use Rattle.emit_dispatch.specs.declared.Unmade.{Unmade}
use Rattle.emit_outcome.specs.Call.{Lent, lent_of, filled_pending}
use Rattle.emit_outcome.specs.Emit.{line_outcome}
use Rattle.emit_outcome.specs.declared.RefusedLine.{RefusedLine}
use Rattle.emit_pairs.specs.Pairs.{pairs_of}
use Rattle.emit_checks.specs.Made.{answer_line}
use Rattle.emit_made.proofs.MadeLaws.{stopped_ok, stopped_err, words_pass, refused_outcome, WordsPass}
use Rattle.label_uses.specs.Uses.{uses_of}
use Rattle.label_uses.proofs.IndexSays.{index_says}
use Rattle.use_adding.specs.Adding.{IndexIn}
use Rattle.use_adding.proofs.AddingLaws.{part_in}
use Rattle.line_uses.specs.Line.{LineIn}
use Rattle.line_uses.specs.LineIndex.{SizeWithLine}
use Rattle.indexed_outcome.specs.Indexed.{IndexedOutcome, indexed_outcome_of}
use Rattle.indexed_core.specs.Steps.{new_index, with_index}
use Rattle.indexed_core.proofs.NewUsesLaws.{part_bytes, index_held}
use Rattle.indexed_core.proofs.StepsLaws.{with_stopped, with_short, with_room}
use Rattle.indexed_core.proofs.append_or_refuse.Goals as goal
use Rattle.indexed_core.proofs.append_or_refuse.Goals.{In_ok-words, After-size_with-size}

abbrev lent : In_ok-words → Lent
lent c = let a = c.args in lent_of a.«data».now a.pending.now a.breakpoints.now

abbrev old : In_ok-words → List ℕ
old c = filled_pending (lent c) c.args.numbers.counts

held : (c : In_ok-words) → IndexIn c.args.index.now c.args.fill (uses_of c.args.labels.now (old c))
held c =
    let a = c.args in
    index_held a.labels.now (old c) a.index.now a.fill (λ i. search rules) (part_bytes a.numbers.counts.pending a.pending.now (λ i. search rules)) c.requires.index_good

pass : (c : In_ok-words) → WordsPass c.args.tokens.now c.args.numbers (lent c) c.args.read c.in_ok-words.words
pass c =
    let a = c.args in
    words_pass a.tokens.now a.numbers (lent c) a.read c.check_line-passed.ensures c.in_ok-words.words
    (stopped_ok a.read.position c.check_line-passed.result (sym c.at_position.ensures ∙ c.in_ok-words.was))

-- What holds of a line of these words holds of the line that was made.
of_made : (c : In_ok-words) (out : IndexedOutcome) → let a = c.args in
    let by : Result EmitInstruction Unmade → IndexedOutcome = λ (m : Result EmitInstruction Unmade). let o = line_outcome a.tokens.now a.read.line a.numbers (lent c) (answer_line m a.read.position) in
    with_index a.read.line a.numbers (lent c) a.fill a.index.now (new_index a.labels.now a.tokens.now (old c) (answer_line m a.read.position).pairs) o o.answer in
    by (Ok c.in_ok-words.words) ≡ out → by a.read.answer ≡ out
of_made c out e =
    let a = c.args in
    let by : Result EmitInstruction Unmade → IndexedOutcome = λ (m : Result EmitInstruction Unmade). let o = line_outcome a.tokens.now a.read.line a.numbers (lent c) (answer_line m a.read.position) in
    with_index a.read.line a.numbers (lent c) a.fill a.index.now (new_index a.labels.now a.tokens.now (old c) (answer_line m a.read.position).pairs) o o.answer in
    ap by (pass c).answer_is ∙ e

size : (c : After-size_with-size) → let a = c.args in let old = filled_pending (lent_of a.«data».now a.pending.now a.breakpoints.now) a.numbers.counts in
    IndexIn a.index.now a.fill (uses_of a.labels.now old) → c.size_with-size.result ≡ length (new_index a.labels.now a.tokens.now old (pairs_of c.in_ok-words.words))
size c h =
    let a = c.args in
    let old = filled_pending (lent_of a.«data».now a.pending.now a.breakpoints.now) a.numbers.counts in
    let uses = uses_of a.labels.now old in
    let by_words = subst (λ (w : LineIn). SizeWithLine w.labels w.names c.new-uses.result (length c.new-uses.result) w.pairs c.size_with-size.result) c.words_of.ensures c.size_with-size.ensures in
    let in_part = subst (λ (s : List ℕ). IndexIn s (length s) uses) (sym c.new-uses.ensures) (part_in a.index.now a.fill uses h) in
    by_words uses in_part (index_says a.labels.now old).names_rise (length (places old))

pub check_line-passed-requires : goal.check_line-passed-requires
check_line-passed-requires c = c.requires.lists_filled

pub returns-in_err-words : goal.returns-in_err-words
returns-in_err-words c =
    let a = c.args in
    let lent = lent_of a.«data».now a.pending.now a.breakpoints.now in
    let p = err_from_is_err_and c.from_residual.result c.from_residual.ensures.1 in
    let s = stopped_err a.read.position c.check_line-passed.result (sym c.at_position.ensures ∙ c.in_err-words.was) in
    rw (p.1, p.2)
    (with_stopped a.read.line a.numbers lent a.fill a.index.now _ _ s.0 a.read.position (refused_outcome a.tokens.now a.numbers lent a.read c.check_line-passed.ensures s.0 s.1)
    ∙ ap (λ (k : RefusedLine). indexed_outcome_of (Err k) (record { counts = a.numbers.counts; index = a.fill }) lent a.index.now) s.2)

pub slice_bounds-new-end : goal.slice_bounds-new-end
slice_bounds-new-end c = let h = held (goal.at.slice_bounds-new-end c).In_ok-words in omega (arith, h.holds.within)

pub slice_bounds-new-end-2 : goal.slice_bounds-new-end-2
slice_bounds-new-end-2 c = sym (length-take-le _ _ (held (goal.at.slice_bounds-new-end-2 c).In_ok-words).holds.within)

pub new-uses-requires : goal.new-uses-requires
new-uses-requires c =
    let k = (goal.at.new-uses-requires c).In_ok-words in
    let uses = uses_of c.args.labels.now (old k) in
    record { us = uses; index_in = part_in c.args.index.now c.args.fill uses (held k) }

pub words_of-requires : goal.words_of-requires
words_of-requires c = c.requires.labels_good

pub size_with-size-requires : goal.size_with-size-requires
size_with-size-requires c = omega (arith, c.requires.lists_filled.tokens_length, ap (λ (w : LineIn). length w.names) c.words_of.ensures)

pub returns-then-size-index : goal.returns-then-size-index
returns-then-size-index c =
    let a = c.args in
    let k = (goal.at.returns-then-size-index c).In_ok-words in
    of_made k _
    (with_short a.tokens.now a.labels.now a.index.now a.read.line a.numbers (lent k) a.fill c.in_ok-words.words a.read.position (pass k).stop_is
    (omega (arith, size (goal.at.returns-then-size-index c).After-size_with-size (held k), c.if-size-index.true)))

pub append_indexed-requires-clause-ready : goal.append_indexed-requires-clause-ready
append_indexed-requires-clause-ready c = c.requires

pub append_indexed-requires-clause-emit_value : goal.append_indexed-requires-clause-emit_value
append_indexed-requires-clause-emit_value c = (pass (goal.at.append_indexed-requires-clause-emit_value c).In_ok-words).room

pub append_indexed-requires-clause-emit_in_bounds : goal.append_indexed-requires-clause-emit_in_bounds
append_indexed-requires-clause-emit_in_bounds c =
    let k = (goal.at.append_indexed-requires-clause-emit_in_bounds c).In_ok-words in
    omega (arith, size (goal.at.append_indexed-requires-clause-emit_in_bounds c).After-size_with-size (held k), c.if-size-index.false)

pub returns : goal.returns
returns c =
    let a = c.args in
    let k = (goal.at.returns c).In_ok-words in
    of_made k _
    (with_room a.tokens.now a.labels.now a.index.now a.read.line a.numbers (lent k) a.fill c.in_ok-words.words a.read.position (pass k).stop_is _ _ _ _
    (omega (arith, size (goal.at.returns c).After-size_with-size (held k), c.if-size-index.false)) c.append_indexed.ensures)

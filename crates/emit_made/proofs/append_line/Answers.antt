use Rattle.std.proofs.Common.{◌≡◌, ℕ, ◌+◌, ◌^◌, ◌%◌, ◌<◌, ◌≤◌, List, length, sym, ap, ap₂, ◌∙◌, arith, length-take-le}
use Rattle.record.specs.Stores.{append}
use Rattle.breakpoints.specs.BreakpointBytes.{breakpoint_bytes}
use Rattle.breakpoints.proofs.BreakpointBytesLaws.{breakpoint_length}
use Rattle.emit_pairs.specs.declared.emit_instruction.EmitInstruction.{EmitInstruction}
use Rattle.pending.specs.declared.Origin.{Origin}
use Rattle.emit_bytes.specs.Appended.{pendings_len, pendings_bytes}
use Rattle.emit_bytes.proofs.AppendedLaws.{pendings_length}
use Rattle.record.specs.declared.Location.{Location}
use Rattle.emit_outcome.specs.declared.LineNumbers.{LineNumbers}
use Rattle.emit_outcome.specs.Call.{lent_of}
use Rattle.emit_pairs.specs.Pairs.{pairs_of}
use Rattle.emit_checks.specs.Made.{RoomFor}
use Rattle.emit_checks.proofs.RoomLaws.{room_fits}
use Rattle.emit_made.proofs.MadeLaws.{same_pcs, pcs_within, outcome_same}
use Rattle.emit_made.proofs.append_line.Goals as goal
use Rattle.emit_made.proofs.append_line.Goals.{After-size-size, After-put}

abbrev origin : LineNumbers → Location → Origin
origin numbers line = record { region = numbers.place.region; offset = numbers.counts.data_len; location = line }

record Known (c : After-size-size) : Type 0 where
  count_is : c.count_of-n.result ≡ c.args.words.count
  words : c.count_of-n.result ≡ length (pairs_of c.args.words)
  few : c.count_of-n.result ≤ 5
  waits : c.size-size.result ≡ pendings_len c.args.tokens.now (pairs_of c.args.words)
  fits : RoomFor c.args.numbers (lent_of c.args.«data».now c.args.pending.now c.args.breakpoints.now) c.count_of-n.result c.size-size.result
  first_pc_lem : 0 < c.count_of-n.result → (c.args.numbers.place.address + c.args.numbers.counts.data_len) % 2 ^ 32 ≡ c.args.numbers.place.address + c.args.numbers.counts.data_len

waits_are : (c : After-size-size) → c.size-size.result ≡ pendings_len c.args.tokens.now (pairs_of c.args.words)
waits_are c = c.size-size.ensures.0 ∙ ap₂ (λ (t : List ℕ) (e : EmitInstruction). pendings_len t (pairs_of e)) c.new-waits.ensures.0 c.new-waits.ensures.1

known : (c : After-size-size) → Known c
known c =
    let e = c.args.words in
    let n = c.count_of-n.result in
    let few = e.few in
    let k : n ≡ e.count = c.count_of-n.ensures in
    let w : n ≡ length (pairs_of e) = k ∙ sym (length-take-le e.count e.instructions (omega (arith, few))) in
    let z = waits_are c in
    let f = room_fits _ _ _ _ _ w z c.requires.emit_value in
    record { count_is = k; words = w; few = omega (arith, k, few); waits = z; fits = f; first_pc_lem = λ h. omega (arith, f.last_pc h) }

pub put_words-requires : goal.put_words-requires
put_words-requires c = let k = known (goal.at.put_words-requires c).After-size-size in omega (arith, k.count_is, k.fits.data_fits)

pub put-requires-clause-in_bounds : goal.put-requires-clause-in_bounds
put-requires-clause-in_bounds c = let k = known (goal.at.put-requires-clause-in_bounds c).After-size-size in omega (arith, k.waits, k.fits.pending_fits)

pub put_breakpoint-requires : goal.put_breakpoint-requires
put_breakpoint-requires c =
    let k = known (goal.at.put_breakpoint-requires c).After-size-size in
    (k.few, omega (arith, k.fits.breakpoint_fits), pcs_within _ _ _ (omega arith) k.first_pc_lem k.fits.last_pc)

-- the pending list with the records of the line's own words
put : (c : After-put) → c.put.new.d ≡ append c.args.pending.now c.args.numbers.counts.pending (pendings_bytes c.args.tokens.now (origin c.args.numbers c.args.line) (pairs_of c.args.words))
put c = c.put.ensures ∙ ap₂ (λ (t : List ℕ) (e : EmitInstruction). append c.args.pending.now c.args.numbers.counts.pending (pendings_bytes t (origin c.args.numbers c.args.line) (pairs_of e))) c.new-waits.ensures.0 c.new-waits.ensures.1

pub returns : goal.returns
returns c =
    let a = c.args in
    let counts = a.numbers.counts in
    let at = a.numbers.place.address + counts.data_len in
    let pairs = pairs_of a.words in
    let k = known (goal.at.returns c).After-size-size in
    outcome_same a.position a.words.loaded (omega (arith, k.words)) (ap (λ (x : ℕ). counts.pending + x) (pendings_length a.tokens.now (origin a.numbers a.line) pairs ∙ sym k.waits))
    (omega (arith, k.words, breakpoint_length a.line at (length pairs))) (sym c.put_words.ensures) (sym (put (goal.at.returns c).After-put))
    (sym (c.put_breakpoint.ensures ∙ ap (append a.breakpoints.now counts.breakpoints) (same_pcs a.line _ at c.count_of-n.result k.first_pc_lem ∙ ap (breakpoint_bytes a.line at) k.words)))

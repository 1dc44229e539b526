-- Each return is the first check that stops, or the end of them all.
use Rattle.std.specs.Prelude.{Err}
use Rattle.std.proofs.Common.{◌≡◌, List, length, refl, sym, ap, ap₂, ℕ, ◌∙◌, arith, rules, length-take-le, eq-eqb, ne_eqb, le-leb}
use Rattle.std.proofs.lemmas.Bool.{lt-leb}
use Rattle.std.proofs.lemmas.Result.{err_from_is_err_and}
use Rattle.emit_pairs.specs.declared.emit_instruction.EmitInstruction.{EmitInstruction}
use Rattle.emit_pairs.specs.Pairs.{pairs_of}
use Rattle.emit_bytes.specs.Appended.{pendings_len}
use Rattle.emit_checks.proofs.RoomLaws.{room_are}
use Rattle.emit_checks.proofs.check_room.Goals as goal
use Rattle.emit_checks.proofs.check_room.Goals.{After-size-size, then-filled-data-via-then-filled-data, then-filled-data-via-else-filled-data+then-filled-gt-MOST_DATA}

-- the number of words is the line's
words : (c : After-size-size) → c.count_of-n.result ≡ length (pairs_of c.args.e)
words c = let e = c.args.e in let five : length e.instructions ≡ 5 = search rules in c.count_of-n.ensures ∙ sym (length-take-le e.count e.instructions (omega (arith, e.few)))

-- and so is the size of its pending records
waits : (c : After-size-size) → c.size-size.result ≡ pendings_len c.args.tokens.now (pairs_of c.args.e)
waits c = c.size-size.ensures.0 ∙ ap₂ (λ (t : List ℕ) (e : EmitInstruction). pendings_len t (pairs_of e)) c.new.ensures.0 c.new.ensures.1

pub returns-then-numbers-eq-NO_REGION : goal.returns-then-numbers-eq-NO_REGION
returns-then-numbers-eq-NO_REGION c =
    sym (room_are _ _ _ _ _ (words (goal.at.returns-then-numbers-eq-NO_REGION c).After-size-size) (waits (goal.at.returns-then-numbers-eq-NO_REGION c).After-size-size)
    (eq-eqb _ _ c.if-numbers-eq-NO_REGION.true) refl refl refl refl refl)

pub returns-then-filled-data : goal.returns-then-filled-data
returns-then-filled-data c =
    let p = (goal.at.returns-then-filled-data c).After-size-size in
    elim c.then-filled-data.branch [
      | then-filled-data-via-then-filled-data w ↦
          sym (room_are _ _ _ _ _ (words p) (waits p) (ne_eqb _ _ c.if-numbers-eq-NO_REGION.false) (sym c.in_ok-check_edge.ensures) (lt-leb _ _ w.if-filled-data.true) refl refl refl)
      | then-filled-data-via-else-filled-data+then-filled-gt-MOST_DATA w ↦
          sym (room_are _ _ _ _ _ (words p) (waits p) (ne_eqb _ _ c.if-numbers-eq-NO_REGION.false) (sym c.in_ok-check_edge.ensures) (le-leb _ _ w.if-filled-data.false)
          (lt-leb _ _ w.if-filled-gt-MOST_DATA.true) refl refl)
    ]

pub returns-then-counts-size : goal.returns-then-counts-size
returns-then-counts-size c =
    sym (room_are _ _ _ _ _ (words (goal.at.returns-then-counts-size c).After-size-size) (waits (goal.at.returns-then-counts-size c).After-size-size)
    (ne_eqb _ _ c.if-numbers-eq-NO_REGION.false) (sym c.in_ok-check_edge.ensures) (le-leb _ _ c.if-filled-data.false) (le-leb _ _ c.if-filled-gt-MOST_DATA.false) (lt-leb _ _ c.if-counts-size.true) refl)

pub returns-then-counts-n : goal.returns-then-counts-n
returns-then-counts-n c =
    sym (room_are _ _ _ _ _ (words (goal.at.returns-then-counts-n c).After-size-size) (waits (goal.at.returns-then-counts-n c).After-size-size)
    (ne_eqb _ _ c.if-numbers-eq-NO_REGION.false) (sym c.in_ok-check_edge.ensures) (le-leb _ _ c.if-filled-data.false) (le-leb _ _ c.if-filled-gt-MOST_DATA.false) (le-leb _ _ c.if-counts-size.false) (lt-leb _ _ c.if-counts-n.true))

pub returns-in_err-check_edge : goal.returns-in_err-check_edge
returns-in_err-check_edge c =
    let p = err_from_is_err_and _ c.from_residual.ensures.1 in
    p.1 ∙ ap Err p.2
    ∙ sym
    (room_are _ _ _ _ _ (words (goal.at.returns-in_err-check_edge c).After-size-size) (waits (goal.at.returns-in_err-check_edge c).After-size-size)
    (ne_eqb _ _ c.if-numbers-eq-NO_REGION.false) (sym c.in_err-check_edge.ensures) refl refl refl refl)

pub returns : goal.returns
returns c =
    sym (room_are _ _ _ _ _ (words (goal.at.returns c).After-size-size) (waits (goal.at.returns c).After-size-size)
    (ne_eqb _ _ c.if-numbers-eq-NO_REGION.false) (sym c.in_ok-check_edge.ensures) (le-leb _ _ c.if-filled-data.false) (le-leb _ _ c.if-filled-gt-MOST_DATA.false) (le-leb _ _ c.if-counts-size.false) (le-leb _ _ c.if-counts-n.false))

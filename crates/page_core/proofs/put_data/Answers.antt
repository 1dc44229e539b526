use Rattle.std.proofs.Common.{◌≡◌, ◌+◌, ◌*◌, ◌≤◌, ◌<◌, ◌++◌, ◌∙◌, length, length-append, ap, arith}
use Rattle.std.specs.Slice.Iter.{chunks_rest}
use Rattle.field.specs.Wrap.{wrap32}
use Rattle.text.specs.Text.{word_text}
use Rattle.text.proofs.TextLaws.{Left, left_room, left_next, left_none, text_length}
use Rattle.page_outcome.specs.Page.{word_line, label_at}
use Rattle.page_outcome.proofs.LinesLaws.{word_length}
use Rattle.page_core.specs.Texts.{data_text}
use Rattle.page_core.proofs.TextsLaws.{data_next, data_end}
use Rattle.page_core.proofs.put_data.Goals as goal
use Rattle.page_core.proofs.put_data.Goals.{After-name_in-name}

-- The turn's line, and then the others.
turn : (c : After-name_in-name) → let l = c.loop-i in
    let a = c.args in
    let at = 4 * c.in-Some.i in
    (length c.in-Some.bytes.now ≤ 4)
    × Left a.out.now a.at (data_text (label_at a.labels.now) a.address 0 a.«data».now) l.out l.end
    (word_line (wrap32 (a.address + at)) (word_text c.in-Some.bytes.now) c.name_in-name.result.now ++ data_text (label_at a.labels.now) a.address (at + 4) (chunks_rest c.next.new.self.iter))
turn c =
    let l = c.loop-i in
    let a = c.args in
    let i = l.i-iterator.count in
    let s = c.in-Some.ensures.steps in
    let size = rw l.invariant.four at s.0.1.1 in
    let within : 4 * i < length a.«data».now = omega (arith, l.invariant.counted s.0.1.2, s.0.1.2) in
    let e = data_next (label_at a.labels.now) a.address (4 * i) (chunks_rest l.i-iterator.iter) c.in-Some.bytes.now (chunks_rest c.next.new.self.iter) s.0.1.0 size s.0.1.2 in
    let name : c.name_in-name.result.now ≡ label_at a.labels.now (wrap32 (a.address + 4 * i)) = rw (s.1) at c.name_in-name.ensures ∙ c.requires.shows.name_is i within in
    (omega (arith, size), rw (s.1, name) (rw e at l.invariant.left))

pub put_row-end-requires : goal.put_row-end-requires
put_row-end-requires c =
    let l = c.loop-i in
    let a = c.args in
    let at = 4 * c.in-Some.i in
    let t = turn (goal.at.put_row-end-requires c).After-name_in-name in
    let name = c.name_in-name.result.now in
    let word = word_text c.in-Some.bytes.now in
    let pc = wrap32 (a.address + at) in
    let r = left_room l.out l.end (word_line pc word name) (data_text (label_at a.labels.now) a.address (at + 4) (chunks_rest c.next.new.self.iter)) t.1 in
    (omega (arith, r, word_length pc word name (omega (arith, text_length c.in-Some.bytes.now, t.0))), t.0)

pub loop-i-preserved : goal.loop-i-preserved
loop-i-preserved c =
    let l = c.loop-i in
    let s = c.in-Some.ensures.steps in
    let t = turn (goal.at.loop-i-preserved c).After-name_in-name in
    let behind : 4 * c.next.new.self.count ≡ 4 * c.in-Some.i + 4 = omega (arith, s.1, s.2) in
    record {
      four = s.0.0 ∙ l.invariant.four;
      counted = λ h. omega (arith, l.invariant.counted s.0.1.2, rw l.invariant.four at s.0.1.1, ap length s.0.1.0, length-append c.in-Some.bytes.now (chunks_rest c.next.new.self.iter), s.2);
      left = rw behind (left_next l.out l.end _ _ _ _ t.1 c.put_row-end.ensures);
    }

pub returns : goal.returns
returns c =
    let l = c.loop-i in
    left_none l.out l.end (rw (data_end (label_at c.args.labels.now) c.args.address (4 * l.i-iterator.count) (chunks_rest l.i-iterator.iter) c.in-None.ensures.steps.0.1.0) at l.invariant.left)

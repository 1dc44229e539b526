use Rattle.std.proofs.Common.{◌≡◌, ◌+◌, ◌*◌, ◌++◌, ℕ, length, length-append, ap, append-nil, arith, sym, ◌∙◌}
use Rattle.std.proofs.lemmas.Grind.{common_steps}
use Rattle.std.specs.Slice.Iter.{chunks_rest}
use Rattle.field.specs.Wrap.{wrap32}
use Rattle.text.specs.Text.{word_text}
use Rattle.image_text.specs.Image.{word_line, data_lines}
use Rattle.image_text.proofs.ImageLaws.{data_next, data_end}
use Rattle.image_text.proofs.put_data.Goals as goal
use Rattle.image_text.proofs.put_data.Goals.{In-Some}

-- the line of the turn, and then the others
turn : (g : _) (c : In-Some g) → let l = c.loop-i in
    let a = c.args in
    let at = 4 * c.in-Some.i in
    l.out ++ (word_line (wrap32 (a.address + at)) (word_text c.in-Some.bytes.now) ++ data_lines a.address (at + 4) (chunks_rest c.next.new.self.iter))
    ≡ a.out.now ++ data_lines a.address 0 a.«data».now
turn g c =
    let l = c.loop-i in
    let s = c.in-Some.ensures.steps in
    let e = data_next c.args.address (4 * l.i-iterator.count) (chunks_rest l.i-iterator.iter) c.in-Some.bytes.now (chunks_rest c.next.new.self.iter) s.0.1.0 (rw l.invariant.four at s.0.1.1) s.0.1.2 in
    rw s.1 (rw e at l.invariant.left)

pub put_row-requires : goal.put_row-requires
put_row-requires g c = omega (arith, length-append {A = ℕ}, ap length (turn g (goal.at.put_row-requires g c).In-Some), c.requires.data_in_bounds)

pub loop-i-preserved : goal.loop-i-preserved
loop-i-preserved g c =
    let l = c.loop-i in
    let s = c.in-Some.ensures.steps in
    let e = turn g (goal.at.loop-i-preserved g c).In-Some in
    let behind : 4 * c.next.new.self.count ≡ 4 * c.in-Some.i + 4 = omega (arith, s.1, s.2) in
    record {
      four = s.0.0 ∙ l.invariant.four;
      counted = λ h. omega (arith, l.invariant.counted s.0.1.2, rw l.invariant.four at s.0.1.1, ap length s.0.1.0, length-append c.in-Some.bytes.now (chunks_rest c.next.new.self.iter), s.2);
      left = rw behind (grind (arith, common_steps));
    }

pub returns : goal.returns
returns g c =
    let l = c.loop-i in
    let e = data_end c.args.address (4 * l.i-iterator.count) (chunks_rest l.i-iterator.iter) c.in-None.ensures.steps.0.1.0 in
    sym (append-nil l.out) ∙ (rw e at l.invariant.left)

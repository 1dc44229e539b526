use Rattle.std.proofs.Common.{ℕ, ◌-◌, ◌*◌, List, length, sym, subst, arith}
use Rattle.text.specs.Text.{Put}
use Rattle.text.proofs.TextLaws.{put_then, put_length, hex_length}
use Rattle.page_outcome.proofs.LinesLaws.{blanks_length}
use Rattle.page_lines.proofs.PiecesLaws.{part_line}
use Rattle.page_lines.proofs.put_part.Goals as goal

pub put_hex_bytes-fill_at-requires : goal.put_hex_bytes-fill_at-requires
put_hex_bytes-fill_at-requires c =
    let p = c.put_start-word_at.ensures in
    omega (arith, p.ends, put_length _ _ _ _ _ p, hex_length c.args.bytes.now, c.requires.0, c.requires.1)

pub put_blanks-end_at-requires : goal.put_blanks-end_at-requires
put_blanks-end_at-requires c =
    let p = c.put_hex_bytes-fill_at.ensures in
    let q = c.put_start-word_at.ensures in
    (omega arith, omega (arith, p.ends, put_length _ _ _ _ _ p, q.ends, put_length _ _ _ _ _ q, hex_length c.args.bytes.now, c.requires.0, c.requires.1))

pub put_end-requires : goal.put_end-requires
put_end-requires c =
    let p = c.put_hex_bytes-fill_at.ensures in
    let q = c.put_start-word_at.ensures in
    let t = c.put_blanks-end_at.ensures in
    omega (arith, t.ends, put_length _ _ _ _ _ t, p.ends, put_length _ _ _ _ _ p, q.ends, put_length _ _ _ _ _ q, hex_length c.args.bytes.now, blanks_length (8 - 2 * length c.args.bytes.now), c.requires.0, c.requires.1)

pub returns : goal.returns
returns c =
    let w = put_then _ _ _ _ _ c.put_hex_bytes-fill_at.ensures _ _ _ c.put_blanks-end_at.ensures in
    let q = put_then _ _ _ _ _ c.put_start-word_at.ensures _ _ _ w in
    let r = put_then _ _ _ _ _ q _ _ _ c.put_end.ensures in
    subst (λ (text : List ℕ). Put c.args.out.now c.args.at text c.put_end.new.out c.put_end.result)
    (sym (part_line c.args.pc c.args.bytes.now c.args.name.now c.requires.1)) r

use Rattle.std.proofs.Common.{ℕ, List, sym, subst, arith, length-take}
use Rattle.text.proofs.TextLaws.{put_then, put_length}
use Rattle.text.specs.Text.{Put}
use Rattle.page_lines.proofs.PiecesLaws.{label_long, label_whole}
use Rattle.page_lines.proofs.put_label.Goals as goal

pub put_byte-requires : goal.put_byte-requires
put_byte-requires c =
    let p = c.put_text-end.ensures in
    omega (arith, p.ends, put_length _ _ _ _ _ p, length-take 19 c.args.name.now, c.requires)

pub returns-then-name-gt20 : goal.returns-then-name-gt20
returns-then-name-gt20 c =
    let p = put_then _ _ _ _ _ c.put_text-end.ensures _ _ _ c.put_byte.ensures in
    subst (λ (text : List ℕ). Put c.args.out.now c.args.at text c.put_byte.new.out c.put_byte.result)
    (sym (label_long c.args.name.now c.if-name-gt20.true)) p

pub put_blanks-requires : goal.put_blanks-requires
put_blanks-requires c =
    let p = c.put_text-end-2.ensures in
    (omega arith, omega (arith, p.ends, put_length _ _ _ _ _ p, c.requires))

pub returns : goal.returns
returns c =
    let p = put_then _ _ _ _ _ c.put_text-end-2.ensures _ _ _ c.put_blanks.ensures in
    subst (λ (text : List ℕ). Put c.args.out.now c.args.at text c.put_blanks.new.out c.put_blanks.result)
    (sym (label_whole c.args.name.now (omega arith))) p

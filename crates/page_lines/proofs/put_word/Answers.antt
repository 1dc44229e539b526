use Rattle.std.proofs.Common.{ℕ, List, sym, subst}
use Rattle.text.specs.Text.{Put}
use Rattle.text.proofs.TextLaws.{put_then}
use Rattle.page_lines.proofs.PiecesLaws.{full_line}
use Rattle.page_lines.proofs.put_word.Goals as goal

pub returns : goal.returns
returns c =
    let q = put_then _ _ _ _ _ c.put_start-word_at.ensures _ _ _ c.put_hex-end_at.ensures in
    let r = put_then _ _ _ _ _ q _ _ _ c.put_end.ensures in
    subst (λ (text : List ℕ). Put c.args.out.now c.args.at text c.put_end.new.out c.put_end.result)
    (sym (full_line c.args.pc c.args.word c.args.name.now)) r

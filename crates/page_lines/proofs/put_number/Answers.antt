use Rattle.std.proofs.Common.{ℕ, List, sym, subst}
use Rattle.text.specs.Text.{Put}
use Rattle.text.proofs.TextLaws.{put_then}
use Rattle.page_lines.proofs.PiecesLaws.{number_line}
use Rattle.page_lines.proofs.put_number.Goals as goal

pub returns : goal.returns
returns c =
    let p = put_then _ _ _ _ _ c.put_byte-second_at.ensures _ _ _ c.put_byte-rest_at.ensures in
    let q = put_then _ _ _ _ _ p _ _ _ c.put_text.ensures in
    subst (λ (text : List ℕ). Put c.args.out.now c.args.at text c.put_text.new.out c.put_text.result)
    (sym (number_line c.args.number c.requires.1)) q

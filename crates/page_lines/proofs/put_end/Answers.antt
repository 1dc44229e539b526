use Rattle.std.proofs.Common.{arith}
use Rattle.text.proofs.TextLaws.{put_then, put_length}
use Rattle.page_outcome.specs.Page.{cut}
use Rattle.page_outcome.proofs.LinesLaws.{columns_length, cut_most}
use Rattle.page_lines.proofs.put_end.Goals as goal

pub put_text-requires : goal.put_text-requires
put_text-requires c =
    let p = c.put_label-rest_at.ensures in
    let q = c.put_text-label_at.ensures in
    let name = c.args.name.now in
    omega (arith, p.ends, put_length _ _ _ _ _ p, q.ends, put_length _ _ _ _ _ q, columns_length 20 (cut name) (cut_most name), c.requires)

pub returns : goal.returns
returns c =
    let p = put_then _ _ _ _ _ c.put_text-label_at.ensures _ _ _ c.put_label-rest_at.ensures in
    put_then _ _ _ _ _ p _ _ _ c.put_text.ensures

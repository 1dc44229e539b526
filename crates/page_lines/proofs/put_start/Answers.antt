use Rattle.text.proofs.TextLaws.{put_then}
use Rattle.page_lines.proofs.put_start.Goals as goal

pub returns : goal.returns
returns c = put_then _ _ _ _ _ c.put_hex-blank_at.ensures _ _ _ c.put_text.ensures

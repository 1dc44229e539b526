use Rattle.std.proofs.Common.{append_assoc}
use Rattle.image_text.specs.Image.{entry_line}
use Rattle.image_text.proofs.lines.put_entry.Goals as goal

pub returns : goal.returns
unfolding entry_line
returns g c = rw (c.push_byte.ensures, c.push_hex.ensures, c.push.ensures) (simp append_assoc)

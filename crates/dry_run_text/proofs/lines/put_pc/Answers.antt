use Rattle.std.proofs.Common.{append_assoc}
use Rattle.dry_run_text.specs.Lines.{pc_line}
use Rattle.dry_run_text.proofs.lines.put_pc.Goals as goal

pub returns : goal.returns
unfolding pc_line
returns g c = rw (c.push_byte.ensures, c.put_hex_field.ensures, c.push.ensures) (simp append_assoc)

use Rattle.std.proofs.Common.{append_assoc}
use Rattle.find_text.proofs.put_address.Goals as goal

pub returns-in-Some : goal.returns-in-Some
returns-in-Some g c = rw (c.push_byte.ensures, c.push_hex.ensures, c.push.ensures, c.in-Some.is) (simp append_assoc)

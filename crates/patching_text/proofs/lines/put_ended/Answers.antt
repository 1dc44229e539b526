use Rattle.std.proofs.Common.{◌++◌, append_assoc, ◌∙◌}
use Rattle.io.specs.Digits.{last_digits}
use Rattle.record.specs.Texts.{bytes_of}
use Rattle.patching_text.proofs.lines.put_ended.Goals as goal

pub returns : goal.returns
returns g c =
    let out = c.args.out.now in
    let digits = last_digits 16 8 c.args.address in
    rw (c.push_byte.ensures, c.push_hex.ensures, c.push.ensures) (append_assoc (out ++ bytes_of "ended ") digits (bytes_of "\n") ∙ append_assoc out (bytes_of "ended ") (digits ++ bytes_of "\n"))

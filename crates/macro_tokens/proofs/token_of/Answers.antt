use Rattle.std.proofs.Common.{◌≡◌, ℕ, ◌+◌, ◌-◌, List, ap, arith}
use Rattle.record.specs.Bytes.{part}
use Rattle.record.specs.Records.{body_len, next}
use Rattle.line_heads.specs.Lines.{record_at}
use Rattle.macro_tokens.proofs.token_of.Goals as goal

-- The bytes from a record's place to the next place are the record.
cut : (s : List ℕ) (at e : ℕ) → e ≡ next s at → part s at (e - at) ≡ record_at s at
cut s at e h =
    let k : e - at ≡ 4 + body_len s at = omega arith in
    ap (part s at) k

pub returns : goal.returns
returns c = cut _ _ c.next.result c.next.ensures.0

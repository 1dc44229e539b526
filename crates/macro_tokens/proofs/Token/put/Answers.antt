use Rattle.std.proofs.Common.{◌≡◌, ℕ, List, Bool, true, false}
use Rattle.record.specs.Stores.{append}
use Rattle.record.proofs.StoresLaws.{append_none}
use Rattle.macro_tokens.specs.Places.{only}
use Rattle.macro_tokens.proofs.Token.put.Goals as goal

nothing : (really : Bool) (bytes out : List ℕ) (fill : ℕ) → really ≡ false → out ≡ append out fill (only really bytes)
nothing true bytes out fill e = cc
nothing false bytes out fill e = append_none out fill

pub returns-else-really : goal.returns-else-really
returns-else-really c = nothing c.args.really c.args.self.bytes.now c.args.out.now c.args.fill c.if-really.false

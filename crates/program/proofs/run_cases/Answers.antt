use Rattle.std.proofs.Common.{arith}
use Rattle.program.proofs.run_cases.Goals as goal

pub new-out-requires : goal.new-out-requires
new-out-requires g c = omega (arith, g.met.P.TextProgram.fits)

pub put-requires : goal.put-requires
put-requires g c = omega (arith, g.met.P.TextProgram.fits)

use Rattle.line_uses.proofs.LineLaws.{nothing_adds}
use Rattle.line_uses.proofs.Line.add_pair.Goals as goal

pub returns-in-None : goal.returns-in-None
returns-in-None c =
    let a = c.args in
    nothing_adds a.self.now.labels a.self.now.names a.waits c.in-None.is a.index.now a.fill a.n

use Rattle.std.proofs.Common.{arith}
use Rattle.patching_line.proofs.EmitLaws.{inside, refused_listed, grows, done_listed}
use Rattle.patching_line.proofs.emit_listed.Goals as goal

pub emit_found-out-requires : goal.emit_found-out-requires
emit_found-out-requires c =
    let a = c.args in
    let l = a.line.lists in
    inside a.line.job l.tokens.now l.mnemonic.now l.descriptors.now _ _ a.breakpoints.now _ a.line.position _ c.requires.0 c.requires.1 _ (rw (c.new.ensures, c.from.ensures) at c.region-found.ensures)

pub grow-counts-requires : goal.grow-counts-requires
grow-counts-requires c =
    grows _ _ _ _ _ _ _ _ _ _ c.requires.0 c.requires.1 _ (rw (c.new.ensures, c.from.ensures) at c.region-found.ensures) _ _ _ _ _ c.emit_found-out.ensures
    _ _ c.in-Ok.is (omega (arith, c.emit_found-out.auto.regions))

pub returns-in-Err : goal.returns-in-Err
returns-in-Err c =
    refused_listed _ _ _ _ _ _ _ _ _ _ c.requires.0 c.requires.1 _ (rw (c.new.ensures, c.from.ensures) at c.region-found.ensures) _ _ _ _ _ c.emit_found-out.ensures
    _ _ c.in-Err.is

pub returns-in-Ok : goal.returns-in-Ok
returns-in-Ok c =
    done_listed _ _ _ _ _ _ _ _ _ _ c.requires.0 c.requires.1 _ (rw (c.new.ensures, c.from.ensures) at c.region-found.ensures) _ _ _ _ _ c.emit_found-out.ensures
    _ _ c.in-Ok.is _ _ c.grow-counts.ensures

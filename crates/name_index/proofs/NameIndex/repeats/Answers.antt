use Rattle.std.proofs.Common.{◌-◌, ◌≡◌, get_or}
use Rattle.names.specs.Owners.{same_owned}
use Rattle.name_index.proofs.IndexLaws.{repeat_at}
use Rattle.name_index.proofs.NameIndex.repeats.Goals as goal

pub returns : goal.returns
returns g c =
    let s = c.args.self.now.list in
    let l = c.args.self.now.order in
    let p = c.record-named.ensures.value in
    let q = c.record.ensures.value in
    let e : c.is_owned.result ≡ same_owned g.row.SKIP s (get_or l c.args.i 0) (get_or l (c.args.i - 1) 0) =
    rw (c.owner.ensures, c.name.ensures, p.0, p.1, q.0, q.1) at c.is_owned.ensures in
    repeat_at g.row.SKIP s l c.record.ensures.index_of c.args.i c.requires.0 c.requires.1 _ e

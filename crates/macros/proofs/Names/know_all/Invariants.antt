use Rattle.std.proofs.Common.{◌≡◌, map}
use Rattle.record.specs.Left.{places_left}
use Rattle.line_heads.specs.Lines.{record_at, records_of}
use Rattle.macros.specs.Macros.{name_at, name_places, known}
use Rattle.macros.proofs.Names.know_all.Given as goal

abbrev pub invariant-loop-at : goal.invariant-loop-at
invariant-loop-at l =
    let ps = map (name_at l.self.list.now) (name_places l.self.count l.self.list.now l.self.at) in
    known ps (records_of l.body) ≡ known ps (map (record_at l.body) (places_left l.at-iterator))

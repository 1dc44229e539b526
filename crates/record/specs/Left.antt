-- The places that an iterator over a list's records has yet to yield. Assumes nothing.
use Rattle.std.specs.Prelude.{ℕ, List}
use Rattle.record.specs.Records.{places_from}
use Rattle.record.specs.declared.Iter.{Iter}

abbrev pub places_left : Iter → List ℕ
places_left p = places_from p.list.now p.at

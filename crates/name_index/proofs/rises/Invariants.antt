use Rattle.std.specs.Prelude.{None}
use Rattle.std.proofs.Common.{true, ◌∷◌, ◌≡◌}
use Rattle.record.specs.Records.{first_bad}
use Rattle.record.specs.Left.{places_left}
use Rattle.names.specs.Owners.{has_owned_name}
use Rattle.name_sort.specs.Sorting.{in_order}
use Rattle.name_index.specs.Index.{below, names_rise}
use Rattle.name_index.proofs.rises.Given as goal

-- The whole list rises exactly when it rises from `last` on.
abbrev pub invariant-loop-at : goal.invariant-loop-at
invariant-loop-at g l = record {
  last_named : has_owned_name g.row.SKIP l.list l.last ≡ true;
  named : first_bad (has_owned_name g.row.SKIP l.list) (places_left l.at-iterator) ≡ None;
  rest : names_rise g.row.SKIP l.list ≡ in_order (below g.row.SKIP l.list) (l.last ∷ places_left l.at-iterator);
}

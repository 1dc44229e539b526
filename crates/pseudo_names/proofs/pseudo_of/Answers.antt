use Rattle.std.proofs.Common.{refl, ap, rules}
use Rattle.std.specs.Prelude.{map}
use Rattle.std.proofs.lemmas.Iterator.{YieldsList-from_slice}
use Rattle.std.proofs.lemmas.Iterator.Search.{find_from_yields_List}
use Rattle.record.specs.Bytes.{same_bytes}
use Rattle.pseudo_names.proofs.PseudoNamesLaws.{row, found_in, mapped}
use Rattle.pseudo_names.proofs.pseudo_of.Goals as goal

-- The table equals the definition's list; antt computes it.
pub returns : goal.returns
returns c =
    let name = c.args.name.now in
    let rows = c.iter.result.rest.now in
    let found = find_from_yields_List (λ r. same_bytes name r.0.now) _ _ c.find.result c.find.ensures.ran (YieldsList-from_slice rows refl) (λ x b q k. search rules) in
    found_in name rows c.find.result c.map.result (ap (map row) c.iter.ensures.rest) found (mapped (λ y. y.now.1) _ (λ x y p. search rules) c.find.result c.map.result c.map.ensures.cases)

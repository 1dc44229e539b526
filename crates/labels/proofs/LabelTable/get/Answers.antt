use Rattle.std.specs.Prelude.{Some}
use Rattle.std.proofs.Common.{ℕ, ◌≡◌, ◌≤◌, sym, ap, ◌∙◌, rules}
use Rattle.name_index.specs.Ordered.{Ordered}
use Rattle.name_index.specs.declared.Looked.{Looked}
use Rattle.labels.specs.Labels.{labelled, address_of}
use Rattle.labels.proofs.LabelsLaws.{LabelIs, found_label, resolve_is}
use Rattle.labels.specs.Lookup.{Indexed, looked_up}
use Rattle.labels.proofs.LookupLaws.{indexed_as, looked_up_lem, few_compared}
use Rattle.labels.proofs.LabelTable.get.Goals as goal
use Rattle.labels.proofs.LabelTable.get.Goals.{After-bytes-labels}

indexed : (c : After-bytes-labels) → Indexed c.args.self.now.list c.args.self.now.order
indexed c = indexed_as _ _ c.self.view_is c.self.invariant

-- what is found is what the scan finds
scanned : (c : After-bytes-labels) → c.look_up-looked.result.named ≡ labelled c.args.self.now.list c.args.source c.args.name.now
scanned c = ap (λ (l : Looked). l.named) c.look_up-looked.ensures ∙ looked_up_lem _ _ (indexed c) c.args.source c.args.name.now

-- and its count is the lookup's
counted : (c : After-bytes-labels)
    → (c.look_up-looked.result.compared ≡ (looked_up c.args.self.now.list c.args.self.now.order c.args.source c.args.name.now).compared) × (c.look_up-looked.result.compared ≤ 32)
counted c =
    let e = ap (λ (l : Looked). l.compared) c.look_up-looked.ensures in
    (e, rw e (few_compared _ _ (indexed c) c.args.source c.args.name.now))

-- the record that is found is a label
found : (c : After-bytes-labels) (p : ℕ) → c.look_up-looked.result.named ≡ Some p → LabelIs c.args.self.now.list p
found c p e = found_label _ c.args.source c.args.name.now p (indexed c).layout (sym (scanned c) ∙ e)

listed : (c : After-bytes-labels) → c.bytes-labels.result.now ≡ c.args.self.now.list
listed c = c.bytes-labels.ensures.value ∙ ap (λ (x : Ordered). x.list) c.self.view_is

pub map-requires : goal.map-requires
map-requires c = λ x e. let k = (goal.at.map-requires c).After-bytes-labels in let l = found k x e in let s = listed k in search rules

pub returns : goal.returns
returns c =
    let k = (goal.at.returns c).After-bytes-labels in
    let s = listed k in
    let n : c.map.result ≡ address_of c.args.self.now.list c.look_up-looked.result.named = search rules in
    (n ∙ sym (resolve_is _ _ _ _ (scanned k)), (counted k).0, (counted k).1)

use Rattle.std.proofs.Common.{◌≡◌, ℕ, ◌+◌, ap, ap₂, ◌∙◌, arith}
use Rattle.record.specs.Bytes.{byte_at}
use Rattle.macros.specs.Macros.{behind_name, behind_names, count_of}
use Rattle.macros.proofs.NamesLaws.{name_is, all_ok}
use Rattle.macros.proofs.LayoutLaws.{parts_of}
use Rattle.macros.proofs.head_of.Goals as goal

pub behind_name-at-requires : goal.behind_name-at-requires
behind_name-at-requires c = omega (arith, (name_is c.args.list.now 0 (parts_of c.args.list.now c.requires).name_ok_lem).start)

pub bounds-list-at : goal.bounds-list-at
bounds-list-at c = omega (arith, c.behind_name-at.ensures.0, (parts_of c.args.list.now c.requires).counted)

pub behind-body-requires : goal.behind-body-requires
behind-body-requires c =
    let b = c.args.list.now in
    let p = parts_of b c.requires in
    let n = c.behind_name-at.ensures.0 in
    omega (arith, n, p.counted)

pub invariant_of-names : goal.invariant_of-names
invariant_of-names c =
    let b = c.args.list.now in
    let p = parts_of b c.requires in
    let n = c.behind_name-at.ensures.0 in
    record { ok = ap₂ (λ (m i : ℕ). all_ok b m (i + 1)) (c.from-count.ensures ∙ ap (byte_at b) n) n ∙ p.names_ok }

pub returns : goal.returns
returns c =
    let b = c.args.list.now in
    let n = c.behind_name-at.ensures.0 in
    let k = c.from-count.ensures ∙ ap (byte_at b) n in
    let e : c.behind-body.result ≡ behind_names (count_of b) b (behind_name b 0 + 1) =
    c.behind-body.ensures.0 ∙ ap₂ (λ (m i : ℕ). behind_names m b (i + 1)) k n in
    (cc, c.behind-body.ensures.1)

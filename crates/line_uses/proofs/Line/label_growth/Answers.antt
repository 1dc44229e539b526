use Rattle.std.specs.Result.{is_ok}
use Rattle.std.proofs.Common.{◌≡◌, length, sym, ap, ◌∙◌, arith}
use Rattle.address_label.specs.LabelBytes.{name_bytes}
use Rattle.label_uses.specs.Uses.{key_for}
use Rattle.line_uses.specs.Line.{LineIn}
use Rattle.line_uses.specs.LineIndex.{held_by}
use Rattle.line_uses.specs.LineUses.{label_growth}
use Rattle.line_uses.proofs.KeyLaws.{place_of, found_in, grows_found, grows_among, grows_new, name_within}
use Rattle.line_uses.proofs.Line.label_growth.Goals as goal
use Rattle.line_uses.proofs.Line.label_growth.Goals.{After-is_ok, then-is_ok-via-then-is_ok, then-is_ok-via-else-is_ok+then-among}

name_is : (c : After-is_ok) → c.name_of-name.result.now ≡ name_bytes c.args.self.now.names c.args.label
name_is c =
    c.name_of-name.ensures ∙ ap (name_bytes c.self.inside.tokens.now) (sym c.in-Label.is) ∙ ap (λ (v : LineIn). name_bytes v.names c.args.label) c.self.view_is

key_is : (c : After-is_ok) → c.key_of-key.result ≡ key_for c.args.self.now.labels c.in-Label.l.location.source c.name_of-name.result.now
key_is c = c.key_of-key.ensures.0 ∙ ap (λ (v : LineIn). key_for v.labels c.in-Label.l.location.source c.name_of-name.result.now) c.self.view_is

pub returns-in-Constant : goal.returns-in-Constant
returns-in-Constant c =
    let a = c.args in
    let v = a.self.now in
    (omega arith, λ us i r. sym (ap (label_growth v.labels v.names (held_by v.labels v.names us a.before.now)) c.in-Constant.is))

pub returns-then-is_ok : goal.returns-then-is_ok
returns-then-is_ok c =
    let a = c.args in
    let v = a.self.now in
    let l = c.in-Label in
    let k = (goal.at.returns-then-is_ok c).After-is_ok in
    let name = c.name_of-name.result.now in
    let r = c.find.result in (
      omega arith,
      elim c.then-is_ok.branch [
        | then-is_ok-via-then-is_ok w ↦
            grows_found v.labels v.names a.label l.l l.is name (name_is k) c.key_of-key.result (key_is k) a.uses.now (length a.uses.now) a.before.now (place_of r) (is_ok r) (found_in a.uses.now c.key_of-key.result r c.find.ensures) (sym c.is_ok.ensures.value ∙ w.if-is_ok.true)
        | then-is_ok-via-else-is_ok+then-among w ↦
            grows_among v.labels v.names a.label l.l l.is name (name_is k) c.key_of-key.result (key_is k) a.uses.now (length a.uses.now) a.before.now (place_of r) (is_ok r) (found_in a.uses.now c.key_of-key.result r c.find.ensures) (sym w.among.ensures ∙ w.if-among.true)
      ],
    )

pub returns-else-among : goal.returns-else-among
returns-else-among c =
    let a = c.args in
    let v = a.self.now in
    let l = c.in-Label in
    let k = (goal.at.returns-else-among c).After-is_ok in
    let name = c.name_of-name.result.now in
    let r = c.find.result in (
      omega (arith, ap length (name_is k), name_within v.names a.label, c.requires),
      grows_new v.labels v.names a.label l.l l.is name (name_is k) c.key_of-key.result (key_is k) a.uses.now (length a.uses.now) a.before.now (place_of r) (is_ok r) (found_in a.uses.now c.key_of-key.result r c.find.ensures) (sym c.is_ok.ensures.value ∙ c.if-is_ok.false) (sym c.among.ensures ∙ c.if-among.false),
    )

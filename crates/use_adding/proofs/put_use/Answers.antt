use Rattle.std.proofs.Common.{◌+◌, ◌-◌, List, [], ◌∷◌, ℕ, length, ap, ◌∙◌, arith}
use Rattle.record.specs.Bytes.{part}
use Rattle.record.specs.Stores.{append, le32_bytes}
use Rattle.record.proofs.StoresLaws.{one_store}
use Rattle.label_uses.specs.Uses.{UseKey, one_use}
use Rattle.label_uses.specs.UseBytes.{flag_of, use_bytes}
use Rattle.label_uses.specs.ReadUse.{key_with}
use Rattle.use_adding.proofs.AddingLaws.{use_by_lem}
use Rattle.use_adding.proofs.put_use.Goals as goal

pub returns : goal.returns
returns c =
    let a = c.args in
    let k = c.key.inside in
    let name = k.name.now in
    use_by_lem c.move_up.new.d c.put_head.new.d _ c.put16.new.d c.put16-2.new.d c.put32.new.d c.put_all.new.d name a.at a.n k.standing
    (omega (arith, c.move_up.auto.d, ap (λ (x : UseKey). length x.name) c.key.view_is)) c.put_head.ensures
    (one_store c.put_head.new.d (a.at + 4) c.from.result (omega (arith, c.requires.1, c.move_up.auto.d, c.put_head.auto.d)) ∙ ap (λ (x : ℕ). append c.put_head.new.d (a.at + 4) (x ∷ [])) (c.from.ensures ∙ ap flag_of c.is_known.ensures)) c.put16.ensures c.put16-2.ensures
    (c.put32.ensures ∙ ap (λ (x : ℕ). append c.put16-2.new.d (a.at + 9) (le32_bytes x)) c.kept.ensures) c.put_all.ensures
    ∙ ap (λ (x : List ℕ). append x a.at (use_bytes (one_use (key_with name k.standing) a.n))) c.move_up.ensures
    ∙ ap (λ (x : UseKey). append (append a.d.now (a.at + (13 + length x.name)) (part a.d.now a.at (a.fill - a.at))) a.at (use_bytes (one_use x a.n))) c.key.view_is

use Rattle.std.proofs.Common.{sym, ap, ◌∙◌, arith}
use Rattle.record.specs.Stores.{append}
use Rattle.record.proofs.StoresLaws.{append_none, one_store}
use Rattle.token_bytes.specs.declared.Carried.{Carried}
use Rattle.token_bytes.specs.TokenBytes.{carried_bytes, carried_size}
use Rattle.token_bytes.proofs.put_carried.Goals as goal

pub returns-in-Slot : goal.returns-in-Slot
returns-in-Slot c =
    one_store c.args.d.now c.args.at _ (omega (arith, c.requires.carried_in_bounds, ap carried_size c.in-Slot.is))
    ∙ ap (λ (x : Carried). append c.args.d.now c.args.at (carried_bytes c.args.texts.now x)) (sym c.in-Slot.is)

pub returns-in-Nothing : goal.returns-in-Nothing
returns-in-Nothing c =
    append_none c.args.d.now c.args.at ∙ ap (λ (x : Carried). append c.args.d.now c.args.at (carried_bytes c.args.texts.now x)) (sym c.in-Nothing.is)

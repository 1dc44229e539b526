use Rattle.std.proofs.Common.{◌≡◌, ap, ◌∙◌}
use Rattle.input.specs.Input.{list_of, held}
use Rattle.input.proofs.InputLaws.{held_in}
use Rattle.replay_text.specs.Replay.{built_met}
use Rattle.replay_text.proofs.is_build_met.Goals as goal

pub returns : goal.returns
returns c =
    let s = c.args.call.now in
    let h : c.hold_in.result.now ≡ held (list_of 2 s) = (held_in _ _ c.hold_in.ensures).bytes ∙ ap held c.list_of.ensures in
    c.is_built.ensures ∙ ap (built_met s) h

use Rattle.std.proofs.Common.{ℕ, List, ◌≡◌, take, length, replicate, ap, ◌∙◌}
use Rattle.input.specs.Input.{list_of, held}
use Rattle.input.proofs.InputLaws.{held_in}
use Rattle.replay_text.proofs.ReplayLaws.{line_held}
use Rattle.replay_text.proofs.is_line_met.Goals as goal

-- A buffer holds one list of the call.
holds : (n : ℕ) (s : List ℕ) {list e : List ℕ} → e ≡ take (length (replicate {A = ℕ} 65537 0)) list → list ≡ list_of n s → e ≡ held (list_of n s)
holds n s f g = (held_in _ _ f).bytes ∙ ap held g

pub returns : goal.returns
returns c =
    let s = c.args.call.now in
    let d = holds 3 s c.hold_in.ensures c.list_of.ensures in
    let p = holds 4 s c.hold_in-2.ensures c.list_of-2.ensures in
    let b = holds 5 s c.hold_in-3.ensures c.list_of-3.ensures in
    let n = holds 6 s c.hold_in-4.ensures c.list_of-4.ensures in
    line_held s _ _ _ _ _ d p b n c.is_emitted.ensures

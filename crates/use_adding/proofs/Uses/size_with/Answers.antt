use Rattle.std.proofs.Common.{◌+◌, List, ℕ, length, ap, ◌∙◌}
use Rattle.label_uses.specs.Uses.{UseKey}
use Rattle.use_adding.proofs.AddingLaws.{found_size, new_size}
use Rattle.use_adding.proofs.Uses.size_with.Goals as goal

pub returns-in-Ok : goal.returns-in-Ok
returns-in-Ok c us i n =
    let s = c.args.self.now in
    ap (λ (x : List ℕ). length x + 2) c.self.view_is ∙ found_size s (length s) c.args.key.now n us i c.in-Ok.field-0 (c.in-Ok.ensures us i)

pub returns-in-Err : goal.returns-in-Err
returns-in-Err c us i n =
    let s = c.args.self.now in
    ap (λ (x : List ℕ). length x + 13 + length c.key.inside.name.now) c.self.view_is
    ∙ ap (λ (k : UseKey). length s + 13 + length k.name) c.key.view_is
    ∙ new_size s (length s) c.args.key.now n us i c.in-Err.field-0 (c.in-Err.ensures us i)

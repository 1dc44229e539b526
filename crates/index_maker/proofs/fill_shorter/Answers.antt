use Rattle.std.specs.Prelude.{Ok}
use Rattle.std.proofs.Common.{◌≡◌, ℕ, List, take, sym, ap, ap₂, ◌∙◌, arith}
use Rattle.record.specs.Stores.{append}
use Rattle.label_uses.specs.UseBytes.{index_of}
use Rattle.label_uses.proofs.IndexLaws.{written_first}
use Rattle.indexed_outcome.specs.Make.{made_of}
use Rattle.indexed_outcome.proofs.MakeLaws.{room_yes}
use Rattle.index_maker.proofs.fill_shorter.Goals as goal

pub returns : goal.returns
returns c =
    let new = index_of c.args.labels.now c.args.pending.now in
    let index = c.args.index.now in
    let f = c.fill_index-n in
    let bytes : take f.result f.new.d ≡ new = ap₂ take f.ensures.filled f.ensures.bytes ∙ written_first _ new in
    room_yes new index (omega (arith, c.if-n-index.false, f.ensures.filled))
    ∙ ap₂ (λ (n : ℕ) (x : List ℕ). made_of (Ok n) x) (sym f.ensures.filled) (sym (c.put_all.ensures ∙ ap (append index 0) bytes))

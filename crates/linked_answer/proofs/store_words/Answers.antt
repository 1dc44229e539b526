use Rattle.std.proofs.Common.{◌*◌, refl, sym, ap, ◌∙◌, arith, List, map, take, get_or}
use Rattle.std.proofs.lemmas.List.{length-map}
use Rattle.std.proofs.Math.Seq.{take_all}
use Rattle.record.specs.Stores.{le32_bytes, append}
use Rattle.record.proofs.StoresLaws.{append_none, append_then}
use Rattle.emit_pairs.specs.declared.InstructionPair.{InstructionPair}
use Rattle.emit_pairs.specs.Pairs.{plain}
use Rattle.emit_bytes.specs.Appended.{word_bytes}
use Rattle.linked_answer.proofs.WordsLaws.{words_upto, words_next}
use Rattle.linked_answer.proofs.store_words.Goals as goal

pub loop-i-init : goal.loop-i-init
unfolding word_bytes
loop-i-init c = (omega arith, refl, append_none _ _)

pub loop-i-preserved : goal.loop-i-preserved
loop-i-preserved c =
    let d = c.args.d.now in
    let ws = c.args.words.now in
    let i = c.loop-i.i in (
      omega arith,
      omega arith,
      append_then d 0 (word_bytes (take i (map plain ws))) (4 * i) (le32_bytes (get_or ws i 0)) c.loop-i.invariant.2 c.put32.ensures
          (omega (arith, words_upto ws i (omega arith))) (omega arith)
          ∙ ap (append d 0) (sym (words_next ws i (omega arith))),
    )

pub returns : goal.returns
returns c =
    let ws = c.args.words.now in
    c.loop-i.invariant.2
    ∙ ap (λ (ps : List InstructionPair). append c.args.d.now 0 (word_bytes ps)) (take_all c.loop-i.i (map plain ws) (omega (arith, length-map ws plain)))

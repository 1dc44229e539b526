use Rattle.std.proofs.Common.{◌≡◌, ℕ, ◌+◌, ◌*◌, ◌<◌, List, [], ◌++◌, map, length, length-take, get_or, get_or-take, take, sym, ap, ◌∙◌, arith, rules}
use Rattle.record.specs.Stores.{append}
use Rattle.record.proofs.StoresLaws.{append_none, append_then}
use Rattle.emit_pairs.specs.declared.InstructionPair.{InstructionPair}
use Rattle.emit_bytes.specs.Appended.{word_bytes}
use Rattle.emit_bytes.proofs.AppendedLaws.{word_of, word_length, words_upto, words_next}
use Rattle.emit_bytes.proofs.put_words.Goals as goal

module _ (words : List (List ℕ)) (ps : List InstructionPair) (i : ℕ) (e : words ≡ map word_of ps) (h : i < length ps) where
  -- the word that is put has four bytes
  four : length (get_or words i []) ≡ 4
  four = rw e (word_length ps i h)

  next : word_bytes (take (i + 1) ps) ≡ word_bytes (take i ps) ++ get_or words i []
  next = rw e (words_next ps i h)

pub loop-i-init : goal.loop-i-init
unfolding word_bytes
loop-i-init c = (omega arith, append_none _ _)

pub loop-i-preserved : goal.loop-i-preserved
loop-i-preserved c =
    let a = c.args in
    let l = c.loop-i in
    let ps = a.e.instructions in
    let w = c.words_of-words in
    let five : length ps ≡ 5 = search rules in
    let here : l.i < a.e.count = omega (arith, length-take a.e.count w.result) in
    let among : l.i < length ps = omega (arith, a.e.few) in
    let put = rw (get_or-take a.e.count w.result l.i [] here) at c.put_all.ensures in
    let k = four w.result ps l.i w.ensures among in (
      omega arith,
      append_then a.d.now a.at (word_bytes (take l.i ps)) (a.at + 4 * l.i) (get_or w.result l.i []) l.invariant.1 put
          (omega (arith, words_upto ps l.i (omega arith))) (omega arith)
          ∙ ap (append a.d.now a.at) (sym (next w.result ps l.i w.ensures among)),
    )

-- Laws of what a line's operands hold: the values that were read. Assumes nothing.
use Rattle.std.specs.Prelude.{ℕ, ◌≡◌, List, Err, Ok, Result}
use Rattle.std.proofs.Common.{arith, sym, ap, subst, ◌∙◌}
use Rattle.lexer.specs.Tokens.{tokens}
use Rattle.cursor.specs.declared.Cursor.{Cursor}
use Rattle.cursor.specs.Cursors.{At, cursor_at}
use Rattle.cursor.specs.Reads.{Placed, ReadAs, CursorIn, Reads}
use Rattle.cursor.proofs.ReadsLaws.{read_as}
use Rattle.operand.specs.declared.Miss.{Miss}
use Rattle.operand.specs.Answers.{Answer, Got, Missed, Asked, here}
use Rattle.operand.proofs.HeldLaws.{held_given}
use Rattle.operand_list.specs.declared.Wants.{Wants}
use Rattle.operand_list.specs.declared.Operands.{Operands}
use Rattle.operand_list.specs.OperandLists.{AskedAll, read_operands, operands_of, operands_answer, given_all}
use Rattle.operand_list.specs.HeldOperands.{held_values}

-- Operands hold the values that were read, not zeros in their place.
held_all : (w : Wants) (x : AskedAll w) → held_values w (operands_of w x) ≡ x
held_all w x =
    let o = held_values w (operands_of w x) in
    ap (λ (a : Asked w.first). (a, o.1, o.2)) (held_given w.first x.0) ∙ ap (λ (b : Asked w.second). (x.0, b, o.2)) (held_given w.second x.1)
    ∙ ap (λ (c : Asked w.third). (x.0, x.1, c)) (held_given w.third x.2)

all_held : (w : Wants) (a : Answer (AskedAll w)) (o : Operands) → Ok o ≡ operands_answer w a → a ≡ Got (held_values w o)
all_held w (Got x) o e =
    let p : o ≡ operands_of w x = cc in
    ap Got (sym (ap (held_values w) p ∙ held_all w x))
all_held w (Missed m) o e = let z : ◌≡◌ {A = ℕ} 0 1 = cc in absurd (omega arith)

all_missed : (w : Wants) (a : Answer (AskedAll w)) (m : Miss) → Err m ≡ operands_answer w a → a ≡ Missed m
all_missed w (Got x) m e = let z : ◌≡◌ {A = ℕ} 0 1 = cc in absurd (omega arith)
all_missed w (Missed n) m e = cc

module _ (w : Wants) {before after : CursorIn} (x : At (Answer (AskedAll w))) {answer : (Result Operands Miss)} (r : Reads before (given_all w x) answer after) where
  pub all_given : (o : Operands) → answer ≡ Ok o → x ≡ here (Got (held_values w o)) after.index
  all_given o e =
      ap (λ (a : Answer (AskedAll w)). here a x.index) (all_held w x.answer o (sym e ∙ r.answer_is)) ∙ ap (here (Got (held_values w o))) (sym (ap (λ (c : CursorIn). c.index) r.after_is))

  pub none_given : (m : Miss) → answer ≡ Err m → x ≡ here (Missed m) after.index
  none_given m e =
      ap (λ (a : Answer (AskedAll w)). here a x.index) (all_missed w x.answer m (sym e ∙ r.answer_is)) ∙ ap (here (Missed m)) (sym (ap (λ (c : CursorIn). c.index) r.after_is))

-- Equal wants: what was read for one was read for the other.
pub asked_for : {w v : Wants} {before after : CursorIn} {answer : (Result Operands Miss)} → w ≡ v → Reads before (given_all w (read_operands w (tokens before.list) before.index)) answer after
    → Reads before (given_all v (read_operands v (tokens before.list) before.index)) answer after
asked_for {before = before} {after} {answer} e r = subst (λ (u : Wants). Reads before (given_all u (read_operands u (tokens before.list) before.index)) answer after) e r

-- The same for a read that starts at a position.
pub asked_as : {s : List ℕ} {w v : Wants} {before after : CursorIn} {answer : (Result Operands Miss)} {position : Cursor} (i : ℕ) → w ≡ v → before ≡ record { list = s; index = i }
    → Reads before (given_all w (read_operands w (tokens before.list) before.index)) answer after → (position ≡ cursor_at after.list after.index) × Placed after.list position
    → ReadAs s (given_all v (read_operands v (tokens s) i)) answer position
asked_as {s} {w} {v} {before} {after} {answer} {position} i e b r p =
    subst (λ (c : CursorIn). ReadAs c.list (given_all v (read_operands v (tokens c.list) c.index)) answer position) b
    (subst (λ (u : Wants). ReadAs before.list (given_all u (read_operands u (tokens before.list) before.index)) answer position) e (read_as r position p))

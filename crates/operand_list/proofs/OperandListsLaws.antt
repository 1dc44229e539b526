-- Laws of reading a line's operands, one after the other. Assumes nothing.
use Rattle.std.specs.Prelude.{ℕ, ◌≡◌, List, Err, Ok, Result}
use Rattle.std.proofs.Common.{arith, sym, subst, ◌∙◌}
use Rattle.std.proofs.Math.Path.{ap}
use Rattle.lexer.specs.declared.Token.{Token}
use Rattle.lexer.specs.Tokens.{tokens}
use Rattle.cursor.specs.declared.Cursor.{Cursor}
use Rattle.cursor.specs.Cursors.{At}
use Rattle.cursor.specs.Reads.{Placed, ReadAs}
use Rattle.operand.specs.declared.Miss.{Miss}
use Rattle.operand.specs.declared.Want.{Want}
use Rattle.operand.specs.declared.Operand.{Operand}
use Rattle.operand.specs.Answers.{Answer, Got, Missed, Asked, operand_of, answer_of, here, given}
use Rattle.operand.specs.Held.{held}
use Rattle.operand.proofs.HeldLaws.{held_given}
use Rattle.operands.proofs.OperandsLaws.{read_at, reader_is}
use Rattle.operand_list.specs.declared.Wants.{Wants}
use Rattle.operand_list.specs.declared.Operands.{Operands}
use Rattle.operand_list.specs.OperandLists.{read_operand, AskedAll, then_read, third_from, second_from, read_operands, given_all}

-- Equal wants: what was read for one was read for the other.
pub wanted : {s : List ℕ} {want is : Want} {answer : (Result Operand Miss)} {cursor : Cursor} (i : ℕ) → want ≡ is → ReadAs s (given is (read_operand is (tokens s) i)) answer cursor
    → ReadAs s (given want (read_operand want (tokens s) i)) answer cursor
wanted {s} {answer = answer} {cursor} i e r = subst (λ (w : Want). ReadAs s (given w (read_operand w (tokens s) i)) answer cursor) (sym e) r

-- An operand's held value gives the operand back.
operand_held : (w : Want) (o : Operand) (a : Answer (Asked w)) → Ok o ≡ answer_of w a → operand_of w (held w o) ≡ o
operand_held w o (Got x) e =
    let p : o ≡ operand_of w x = cc in
    ap (λ (y : Operand). operand_of w (held w y)) p ∙ ap (operand_of w) (held_given w x) ∙ sym p
operand_held w o (Missed m) e = let z : ◌≡◌ {A = ℕ} 0 1 = cc in absurd (omega arith)

-- What a reader gave, and the operand made of it.
pub record Gives (w : Want) (x : At (Answer (Asked w))) (o : Operand) (i : ℕ) : Type 0 where
  pub read : x ≡ here (Got (held w o)) i
  pub is : operand_of w (held w o) ≡ o

module _ (w : Want) {s : List ℕ} {x : At (Answer (Asked w))} {answer : (Result Operand Miss)} {cursor : Cursor} (r : ReadAs s (given w x) answer cursor) where
  pub gives : (o : Operand) → answer ≡ Ok o → Gives w x o cursor.index
  gives o e = record { read = reader_is w r (Ok o) e; is = operand_held w o x.answer (sym e ∙ r.answer_is) }

  pub misses : (m : Miss) → answer ≡ Err m → x ≡ here (Missed m) cursor.index
  misses m e = reader_is w r (Err m) e

-- ---- the operands of a line, from what each place gives

module _ (w : Wants) (ts : List Token) where
  abbrev next : {A : Type 0} → (A → ℕ → At (Answer (AskedAll w))) → At (Answer A) → At (Answer (AskedAll w))
  next f x = then_read x.answer x.index f

  pub first_is : {x : At (Answer (Asked w.first))} (i : ℕ) → read_operand w.first ts i ≡ x → read_operands w ts i ≡ next (second_from w ts) x
  unfolding read_operands
  first_is i e = ap (next (second_from w ts)) e

  pub second_is : {x : At (Answer (Asked w.second))} (a : Asked w.first) (i : ℕ) → read_operand w.second ts i ≡ x → second_from w ts a i ≡ next (third_from w ts a) x
  second_is a i e = ap (next (third_from w ts a)) e

  pub third_is : {x : At (Answer (Asked w.third))} (a : Asked w.first) (b : Asked w.second) (i : ℕ) → read_operand w.third ts i ≡ x
      → third_from w ts a b i ≡ next (λ c j. here (Got (a, b, c)) j) x
  third_is a b i e = ap (next (λ c j. here (Got (a, b, c)) j)) e

module _ (w : Wants) {s : List ℕ} {x : At (Answer (AskedAll w))} {cursor : Cursor} where
  pub missed_as : {answer : (Result Operands Miss)} {m : Miss} {behind : Cursor} → (answer ≡ Err m) × (cursor ≡ behind) → Placed s behind → x ≡ here (Missed m) behind.index
      → ReadAs s (given_all w x) answer cursor
  missed_as {m = m} {behind} e p q = rw (e.0, e.1) (read_at s (given_all w x) (Err m) behind p (ap (given_all w) q))

  pub operands_as : (o : Operands) → operand_of w.first (held w.first o.first) ≡ o.first → operand_of w.second (held w.second o.second) ≡ o.second
      → operand_of w.third (held w.third o.third) ≡ o.third → Placed s cursor
      → x ≡ here (Got (held w.first o.first, held w.second o.second, held w.third o.third)) cursor.index → ReadAs s (given_all w x) (Ok o) cursor
  operands_as o e₀ e₁ e₂ p q =
      let f : (a b c : Operand) → At (Result Operands Miss) = λ a b c. here (Ok (record { first = a; second = b; third = c })) cursor.index in
      read_at s (given_all w x) (Ok o) cursor p
      (ap (given_all w) q ∙ ap (λ (a : Operand). f a (operand_of w.second (held w.second o.second)) (operand_of w.third (held w.third o.third))) e₀
      ∙ ap (λ (b : Operand). f o.first b (operand_of w.third (held w.third o.third))) e₁ ∙ ap (f o.first o.second) e₂)

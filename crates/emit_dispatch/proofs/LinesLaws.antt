-- Laws of a line: the words for each case of encoding, and the line made of what was read. Assumes nothing.
use Rattle.std.specs.Prelude.{ℕ, ◌≡◌, refl, List, Bool, true, false, Err, Ok, Option, Result}
use Rattle.std.specs.Result.{result_and}
use Rattle.std.proofs.Common.{sym, ap, subst, ◌∙◌, arith}
use Rattle.instructions.specs.declared.Opcode.{Opcode}
use Rattle.jobs.specs.declared.Job.{Job}
use Rattle.jobs.specs.Jobs.{is_dropped}
use Rattle.cursor.specs.Cursors.{At}
use Rattle.cursor.specs.Reads.{CursorIn, Reads}
use Rattle.operand.specs.declared.Miss.{Miss}
use Rattle.operand.specs.Answers.{Answer, here}
use Rattle.operand_list.specs.declared.Wants.{Wants}
use Rattle.operand_list.specs.declared.Operands.{Operands}
use Rattle.operand_list.specs.OperandLists.{AskedAll, given_all}
use Rattle.operand_list.proofs.HeldOperandsLaws.{all_given, none_given}
use Rattle.loading.specs.declared.LoadForm.{LoadForm}
use Rattle.emit_pairs.specs.declared.emit_instruction.EmitInstruction.{EmitInstruction}
use Rattle.emit_pairs.specs.declared.InstructionPair.{InstructionPair}
use Rattle.emit_pairs.specs.declared.Fault.TheVariants.{Dropped}
use Rattle.instructions.specs.declared.Encoding.{Encoding}
use Rattle.instructions.specs.declared.Encoding.TheVariants.{Immediate}
use Rattle.operand.specs.Held.{constant_in}
use Rattle.pseudo_names.specs.declared.Pseudo.{Pseudo}
use Rattle.operand_list.specs.HeldOperands.{held_values}
use Rattle.emit_dispatch.specs.Wants.{encoding_wants, pseudo_wants}
use Rattle.emit_pairs.specs.Pairs.{Range, EmitIs, immediate_range}
use Rattle.emit_dispatch.specs.declared.Unmade.{Unmade}
use Rattle.emit_dispatch.specs.LineAnswers.{Made}
use Rattle.emit_dispatch.specs.Lines.{encoding_range, encoding_pairs, pseudo_pairs, encoding_form, pseudo_form, range_answer, range_then, kept_range, line_by}
use Rattle.emit_dispatch.specs.Contract.{held_answer, MadeAs, LineAs}

-- ---- the line, by what was read

-- ---- words and ranges, once it is known which encoding or pseudo-instruction it is

pub encoding_as : {r : EmitInstruction} (job : Job) {e is : Encoding} (op : Opcode) (o : Operands) → e ≡ is → EmitIs r (encoding_pairs job is op (held_values (encoding_wants is) o)) (encoding_form is (held_values (encoding_wants is) o))
    → EmitIs r (encoding_pairs job e op (held_values (encoding_wants e) o)) (encoding_form e (held_values (encoding_wants e) o))
encoding_as {r} job op o e i = subst (λ (x : Encoding). EmitIs r (encoding_pairs job x op (held_values (encoding_wants x) o)) (encoding_form x (held_values (encoding_wants x) o))) (sym e) i

pub pseudo_as : {r : EmitInstruction} (job : Job) {p is : Pseudo} (o : Operands) → p ≡ is → EmitIs r (pseudo_pairs job is (held_values (pseudo_wants is) o)) (pseudo_form is (held_values (pseudo_wants is) o))
    → EmitIs r (pseudo_pairs job p (held_values (pseudo_wants p) o)) (pseudo_form p (held_values (pseudo_wants p) o))
pseudo_as {r} job o e i = subst (λ (x : Pseudo). EmitIs r (pseudo_pairs job x (held_values (pseudo_wants x) o)) (pseudo_form x (held_values (pseudo_wants x) o))) (sym e) i

pub range_as : {r : Range} (job : Job) {e is : Encoding} (op : Opcode) (o : Operands) → e ≡ is → r ≡ encoding_range job is op (held_values (encoding_wants is) o)
    → r ≡ encoding_range job e op (held_values (encoding_wants e) o)
range_as {r} job op o e i = subst (λ (x : Encoding). r ≡ encoding_range job x op (held_values (encoding_wants x) o)) (sym e) i

-- ---- the line, by what was read

-- If a line is made, its operands lie within their ranges.
pub within_made : (r : Range) → range_answer r ≡ Made → r ≡ Ok tt
within_made (Ok tt) e = refl
within_made (Err fault) e = cc

-- std's `and` of two results is our test of one and then the other.
pub and_then_is : (first next : Range) → result_and first next ≡ range_then first next
and_then_is (Ok tt) next = refl
and_then_is (Err fault) next = refl

-- If both tests together pass, each of them passes.
pub then_within : (first next : Range) → range_then first next ≡ Ok tt → (first ≡ Ok tt) × (next ≡ Ok tt)
then_within (Ok tt) next e = (refl, e)
then_within (Err fault) next e = let z : ◌≡◌ {A = ℕ} 0 1 = cc in absurd (omega arith)

-- If a line is taken, its immediate lies within its range.
pub immediate_taken : (job : Job) {e : Encoding} {alt : Option Opcode} (op : Opcode) (o : Operands) → e ≡ Immediate alt
    → encoding_range job e op (held_values (encoding_wants e) o) ≡ Ok tt → immediate_range alt (constant_in o.third) ≡ Ok tt
immediate_taken job {e} {alt} op o i t =
    let c = constant_in o.third in
    let taken : range_then (kept_range job false op) (immediate_range alt c) ≡ Ok tt =
    subst (λ (x : Encoding). encoding_range job x op (held_values (encoding_wants x) o) ≡ Ok tt) i t in
    (then_within (kept_range job false op) (immediate_range alt c) taken).1

-- a line that is taken is not dropped
pub kept_within : (job : Job) (third : Bool) (op : Opcode) → kept_range job third op ≡ Ok tt → is_dropped job third op ≡ false
kept_within job third op e = go (is_dropped job third op) e
  where
    go : (b : Bool) → ◌≡◌ {A = Range} (elim b [ true ↦ Err Dropped | false ↦ Ok tt ]) (Ok tt) → b ≡ false
    go true h = cc
    go false h = refl

-- The line, from the operands that were read.
module _ (w : Wants) {before after : CursorIn} (x : At (Answer (AskedAll w))) {read : Result Operands Miss} (r : Reads before (given_all w x) read after) where
  read_held : (given : Result Operands Miss) → read ≡ given → x ≡ here (held_answer w given) after.index
  read_held (Ok o) e = all_given w x r o e
  read_held (Err m) e = none_given w x r m e

  module _ (range : AskedAll w → Range) (pairs : AskedAll w → List InstructionPair) (form : AskedAll w → LoadForm) where
    made_at : (given : Result Operands Miss) (made : Result EmitInstruction Unmade) (i : ℕ) → MadeAs (line_by (held_answer w given) 0 range pairs form) made
        → MadeAs (line_by (held_answer w given) i range pairs form) made
    made_at (Ok o) (Ok emit) i m = m
    made_at (Ok o) (Err u) i m = m
    made_at (Err miss) (Ok emit) i m = m
    made_at (Err miss) (Err u) i m = m

    index_at : (given : Result Operands Miss) (i : ℕ) → (line_by (held_answer w given) i range pairs form).index ≡ i
    index_at (Ok o) i = refl
    index_at (Err miss) i = refl

    abbrev at : ℕ → CursorIn
    at i = record { list = before.list; index = i }

    same_list : after ≡ at after.index
    same_list = r.after_is ∙ ap at (sym (ap (λ (c : CursorIn). c.index) r.after_is))

    pub line_held : (made : Result EmitInstruction Unmade) → MadeAs (line_by (held_answer w read) 0 range pairs form) made → LineAs before (line_by x.answer x.index range pairs form) made after
    line_held made m =
        subst (λ (y : At (Answer (AskedAll w))). LineAs before (line_by y.answer y.index range pairs form) made after) (sym (read_held read refl))
        (record { made_as = made_at read made after.index m; after_is = same_list ∙ ap at (sym (index_at read after.index)) })

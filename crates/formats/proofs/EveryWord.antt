-- Every emitted word: "proved against the MIPS32 field layouts". Each word of an accepted line has the manual's format with the numbers of the
-- operands that were read, whatever the encoding, its opcode, the pseudo-instruction and the operands. Assumes nothing.
use Rattle.std.specs.Prelude.{ℕ, ◌≡◌, refl, List, [], ◌∷◌, Ok, Some}
use Rattle.std.proofs.Common.{subst, arith}
use Rattle.jobs.specs.declared.Job.{Job}
use Rattle.jobs.specs.declared.Job.TheVariants.{Commit}
use Rattle.registers.specs.declared.RegisterSlot.TheVariants.{Temporary0, Temporary1, Temporary2}
use Rattle.instructions.specs.declared.Opcode.TheVariants.{Op, Func}
use Rattle.instructions.specs.declared.Encoding.TheVariants.{RegisterShift, Immediate}
use Rattle.loading.specs.Load.{is_small, form_of}
use Rattle.lexer.specs.declared.Token.{Token}
use Rattle.lexer.specs.declared.TokenKind.{TokenKind}
use Rattle.lexer.specs.declared.TokenKind.TheVariants.{Register as RegisterToken, IntegerLiteral}
use Rattle.operand.specs.Answers.{Answer, Got, Missed}
use Rattle.operand_list.specs.OperandLists.{AskedAll, read_operands}
use Rattle.emit_pairs.specs.declared.InstructionPair.{InstructionPair}
use Rattle.emit_pairs.specs.Pairs.{is_immediate, Range}
use Rattle.emit_dispatch.specs.LineAnswers.{Made}
use Rattle.emit_dispatch.specs.Wants.{encoding_wants, pseudo_wants}
use Rattle.loading.specs.declared.LoadForm.{LoadForm}
use Rattle.emit_dispatch.proofs.LinesLaws.{within_made}
use Rattle.emit_dispatch.specs.Lines.{encoding_range, encoding_pairs, encoding_form, pseudo_pairs, pseudo_form, line_by, encoding_line, pseudo_line}
use Rattle.formats.proofs.Formats.{InFormats, register, immediate}
use Rattle.formats.specs.Operations.{Operation, encoded, pseudo, wants_of, loads_of, line_of, words_of}
use Rattle.formats.proofs.LineFormats.{own_formats, line_formats, LoadThen, LineWords}
use Rattle.formats.proofs.LineFormatsLaws.{all_have}
use Rattle.formats.proofs.EncodingFormatsLaws.{encoding_words}
use Rattle.formats.proofs.PseudoFormatsLaws.{pseudo_words}

module _ (job : Job) (o : Operation) (i : ℕ) (range : AskedAll (wants_of o) → Range) (pairs : AskedAll (wants_of o) → List InstructionPair)
    (form : AskedAll (wants_of o) → LoadForm) (words : (x : AskedAll (wants_of o)) → range x ≡ Ok tt → LoadThen (loads_of o x) (own_formats job o x) (words_of (pairs x))) where
  made_words : (read : Answer (AskedAll (wants_of o))) → (line_by read i range pairs form).answer ≡ Made → LineWords job o read (words_of (line_by read i range pairs form).pairs)
  made_words (Got x) h =
      let ws = words x (within_made (range x) h) in
      record { operands = x; operands_are = refl; loads = ws; formats = all_have (loads_of o x) ws }
  made_words (Missed m) h = let z : ◌≡◌ {A = ℕ} 0 1 = cc in absurd (omega arith)

pub every_word : (job : Job) (o : Operation) (ts : List Token) (i : ℕ) → (line_of job o ts i).answer ≡ Made
    → LineWords job o (read_operands (wants_of o) ts i).answer (words_of (line_of job o ts i).pairs)
unfolding encoding_line pseudo_line
every_word job (encoded e op) ts i h =
    let read = read_operands (encoding_wants e) ts i in
    made_words job (encoded e op) read.index (encoding_range job e op) (encoding_pairs job e op) (encoding_form e) (encoding_words job e op) read.answer h
every_word job (pseudo p) ts i h =
    let read = read_operands (pseudo_wants p) ts i in
    made_words job (pseudo p) read.index (λ x. Ok tt) (pseudo_pairs job p) (pseudo_form p) (λ x w. pseudo_words job p x) read.answer h

-- the formats of a line whose operands are known
known : {job : Job} {o : Operation} {x : AskedAll (wants_of o)} {ws : List ℕ} → LineWords job o (Got x) ws → InFormats ws (line_formats job o x)
known {job} {o} {x} {ws} w = subst (λ (y : AskedAll (wants_of o)). InFormats ws (line_formats job o y)) (cc w.operands_are) w.formats

-- such lines: sllv $t0,$t1,$t2 (Func 4) and addi $t0,$t1,32768 (Op 8, alternative Func 32)
abbrev token : TokenKind → Token
token kind = record { location = record { source = 0; index = 0 }; kind = kind }

pub met :
    let sllv = token (RegisterToken Temporary0) ∷ token (RegisterToken Temporary1) ∷ token (RegisterToken Temporary2) ∷ [] in
    let addi = token (RegisterToken Temporary0) ∷ token (RegisterToken Temporary1) ∷ token (IntegerLiteral 32768) ∷ [] in
    InFormats (words_of (encoding_line Commit RegisterShift (Func 4) sllv 0).pairs) (register 0 10 9 8 0 4 ∷ [])
    × InFormats (words_of (encoding_line Commit (Immediate (Some (Func 32))) (Op 8) addi 0).pairs) (immediate 13 0 1 32768 ∷ register 0 9 1 8 0 32 ∷ [])
unfolding encoding_line is_immediate is_small form_of
met =
    let sllv = token (RegisterToken Temporary0) ∷ token (RegisterToken Temporary1) ∷ token (RegisterToken Temporary2) ∷ [] in
    let addi = token (RegisterToken Temporary0) ∷ token (RegisterToken Temporary1) ∷ token (IntegerLiteral 32768) ∷ [] in
    (known (every_word Commit (encoded RegisterShift (Func 4)) sllv 0 refl), known (every_word Commit (encoded (Immediate (Some (Func 32))) (Op 8)) addi 0 refl))

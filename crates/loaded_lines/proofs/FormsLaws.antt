-- The form of each line is the form of the constant that its operands load. Assumes nothing.
use Rattle.std.specs.Prelude.{ℕ, ◌≡◌, refl, List, ◌++◌, None, Ok, Some, Option}
use Rattle.std.proofs.Common.{arith, sym, ap, ◌∙◌}
use Rattle.jobs.specs.declared.Job.{Job}
use Rattle.registers.specs.Numbers.{register_number}
use Rattle.operand.specs.Answers.{Answer, Got, Missed}
use Rattle.operand_list.specs.OperandLists.{AskedAll, read_operands}
use Rattle.lexer.specs.declared.Token.{Token}
use Rattle.loading.specs.declared.LoadForm.{LoadForm}
use Rattle.loading.specs.Load.{form_words, load_words}
use Rattle.loading.proofs.LoadLaws.{words_by}
use Rattle.emit_pairs.specs.declared.InstructionPair.{InstructionPair}
use Rattle.emit_pairs.specs.Pairs.{Range}
use Rattle.emit_dispatch.specs.LineAnswers.{Made}
use Rattle.emit_dispatch.specs.Wants.{encoding_wants, pseudo_wants}
use Rattle.emit_dispatch.proofs.LinesLaws.{within_made}
use Rattle.emit_dispatch.specs.Lines.{encoding_range, encoding_pairs, encoding_form, pseudo_pairs, pseudo_form, line_by, encoding_line, pseudo_line}
use Rattle.formats.proofs.Formats.{Format}
use Rattle.emit_dispatch.specs.LineLoads.{LoadedConstant, form_from}
use Rattle.formats.specs.Operations.{Operation, encoded, pseudo, wants_of, line_of}
use Rattle.loaded_lines.proofs.Loaded.{LoadedFirst, read_loads}
use Rattle.loaded_lines.proofs.Forms.{Formed}

module _ (o : Operation) (i : ℕ) (range : AskedAll (wants_of o) → Range) (pairs : AskedAll (wants_of o) → List InstructionPair) (form : AskedAll (wants_of o) → LoadForm)
    (forms : (x : AskedAll (wants_of o)) → range x ≡ Ok tt → form x ≡ form_from (read_loads o (Got x))) where
  made_form : (read : Answer (AskedAll (wants_of o))) → (line_by read i range pairs form).answer ≡ Made → (line_by read i range pairs form).form ≡ form_from (read_loads o read)
  made_form (Got x) h = forms x (within_made (range x) h)
  made_form (Missed m) h = let z : ◌≡◌ {A = ℕ} 0 1 = cc in absurd (omega arith)

pub line_form : (job : Job) (o : Operation) (ts : List Token) (i : ℕ) → (line_of job o ts i).answer ≡ Made → (line_of job o ts i).form ≡ form_from (read_loads o (read_operands (wants_of o) ts i).answer)
unfolding encoding_line pseudo_line
line_form job (encoded e op) ts i h =
    let read = read_operands (encoding_wants e) ts i in
    made_form (encoded e op) read.index (encoding_range job e op) (encoding_pairs job e op) (encoding_form e) (λ x w. refl) read.answer h
line_form job (pseudo p) ts i h =
    let read = read_operands (pseudo_wants p) ts i in
    made_form (pseudo p) read.index (λ x. Ok tt) (pseudo_pairs job p) (pseudo_form p) (λ x w. refl) read.answer h

-- ---- the words of a form

pub formed : (loaded : Option LoadedConstant) {form : LoadForm} (own : List Format) (ws : List ℕ) → form ≡ form_from loaded → LoadedFirst loaded own ws → Formed form loaded own ws
formed None own ws e h = h
formed (Some l) {form} own ws e h =
    let t = register_number l.register in
    let w : load_words l.constant t ≡ form_words form l.constant t = words_by l.constant t refl ∙ ap (λ (f : LoadForm). form_words f l.constant t) (sym e) in
    record { rest = h.rest; words_are = h.words_are ∙ ap (λ (x : List ℕ). x ++ h.rest) w; rest_has = h.rest_has }

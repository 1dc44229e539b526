-- The form that a line reports, compared with the constant that it loads (document 02, P2). Assumes nothing.
use Rattle.std.specs.Prelude.{ℕ, ◌≡◌, List, ◌++◌, Option, None, Some}
use Rattle.jobs.specs.declared.Job.{Job}
use Rattle.registers.specs.Numbers.{register_number}
use Rattle.loading.specs.declared.LoadForm.{LoadForm}
use Rattle.loading.specs.Load.{form_words}
use Rattle.formats.proofs.Formats.{Format, InFormats}
use Rattle.emit_dispatch.specs.LineLoads.{LoadedConstant, form_from}
use Rattle.formats.specs.Operations.{loads_of, line_of, words_of}
use Rattle.formats.proofs.LineFormats.{own_formats}
use Rattle.lexer.specs.Tokens.{tokens}
use Rattle.emit_outcome.specs.Call.{Call}
use Rattle.emit_outcome.specs.Emit.{start_of}
use Rattle.loaded_lines.proofs.Loaded.{LoadedCall, call_loads}

-- Words that begin with the loading words of a form: one word for the first three forms, two for both halves. The line's own instructions follow.
pub record FormFirst (form : LoadForm) (l : LoadedConstant) (own : List Format) (ws : List ℕ) : Type 0 where
  pub rest : List ℕ
  pub words_are : ws ≡ form_words form l.constant (register_number l.register) ++ rest
  pub rest_has : InFormats rest own

-- If no form is reported, there are only the line's own instructions.
abbrev pub Formed : LoadForm → Option LoadedConstant → List Format → List ℕ → Type 0
Formed form None own ws = InFormats ws own
Formed form (Some l) own ws = FormFirst form l own ws

pub record Reported (job : Job) (c : Call) (form : LoadForm) : Type 0 where
  pub form_is : form ≡ form_from (call_loads c)
  pub call : LoadedCall job c
  pub words : Formed form (loads_of call.operation call.line.operands) (own_formats job call.operation call.line.operands)
      (words_of (line_of job call.operation (tokens c.token_list) (start_of c)).pairs)

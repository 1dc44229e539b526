-- Every accepted call reports the form of the constant that its line loads, and its words begin with exactly the loading words of that form. A call that
-- reports no form loads no constant (document 02, P2). Assumes nothing.
use Rattle.std.specs.Prelude.{ℕ, ◌≡◌}
use Rattle.std.proofs.Common.{sym, ap, ◌∙◌}
use Rattle.jobs.specs.declared.Job.{Job}
use Rattle.loading.specs.declared.LoadForm.{LoadForm}
use Rattle.formats.specs.Operations.{loads_of}
use Rattle.lexer.specs.Tokens.{tokens}
use Rattle.emit_outcome.specs.Answer.{done_at}
use Rattle.emit_outcome.specs.Call.{Call}
use Rattle.emit_outcome.specs.Emit.{start_of, emit_outcome}
use Rattle.loaded_lines.proofs.Loaded.{read_loads, meant_loads, call_loads}
use Rattle.loaded_lines.proofs.CallsLaws.{accepted_call}
use Rattle.loaded_lines.proofs.LinesLoad.{line_loads}
use Rattle.emit_dispatch.specs.LineLoads.{form_from}
use Rattle.loaded_lines.proofs.Forms.{Reported}
use Rattle.loaded_lines.proofs.FormsLaws.{line_form, formed}

pub reported : (job : Job) (c : Call) (position : ℕ) (form : LoadForm) → (emit_outcome job c).answer ≡ done_at position form → Reported job c form
reported job c position form h =
    let a = accepted_call job c position form h in
    let line = line_loads job a.operation (tokens c.token_list) (start_of c) a.made in
    let f : form ≡ form_from (loads_of a.operation line.operands) =
    sym a.form_is ∙ line_form job a.operation (tokens c.token_list) (start_of c) a.made ∙ ap (λ r. form_from (read_loads a.operation r)) line.operands_are in
    let k : call_loads c ≡ loads_of a.operation line.operands = ap (meant_loads c) a.means ∙ ap (read_loads a.operation) line.operands_are in
    record {
      form_is = f ∙ sym (ap form_from k);
      call = record { operation = a.operation; means = a.means; made = a.made; line = line; appended = a.appended };
      words = formed (loads_of a.operation line.operands) _ _ f line.loaded;
    }

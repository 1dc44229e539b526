-- Demand 3 of emitted words: "whatever the constant, the register chosen and what the registers held, the words emitted to load the constant, run as
-- document 01 says, leave its low 32 bits in the chosen register, unless that is $zero, and alter no other." Assumes nothing.
use Rattle.std.specs.Prelude.{ℕ, ◌≡◌, List, ◌++◌, Option, None, Some}
use Rattle.std.proofs.Common.{sym, ap, ◌∙◌, subst}
use Rattle.jobs.specs.declared.Job.{Job}
use Rattle.registers.specs.Numbers.{register_number}
use Rattle.registers.specs.NumberLaws.{register_lt}
use Rattle.loading.specs.Load.{load_words}
use Rattle.loading.proofs.Loading.{loads}
use Rattle.lexer.specs.declared.Token.{Token}
use Rattle.lexer.specs.Tokens.{tokens}
use Rattle.emit_dispatch.specs.LineAnswers.{Made}
use Rattle.formats.proofs.Formats.{Format, InFormats}
use Rattle.formats.specs.Operations.{Operation, loads_of, line_of, words_of}
use Rattle.emit_dispatch.specs.LineLoads.{LoadedConstant}
use Rattle.formats.proofs.LineFormats.{own_formats, LoadThen}
use Rattle.formats.proofs.EveryWord.{every_word}
use Rattle.loading.specs.declared.LoadForm.{LoadForm}
use Rattle.emit_outcome.specs.Answer.{done_at}
use Rattle.emit_outcome.specs.Call.{Call, filled_data}
use Rattle.emit_outcome.specs.Emit.{start_of, emit_outcome}
use Rattle.loaded_lines.proofs.Loaded.{LoadsFirst, LoadedFirst, LoadedLine, bytes_of, LoadedCall, read_loads, meant_loads, call_loads, ConstantAppended}
use Rattle.loaded_lines.proofs.CallsLaws.{bytes_append, accepted_call}

loaded_first : (loaded : Option LoadedConstant) {own : List Format} {ws : List ℕ} → LoadThen loaded own ws → LoadedFirst loaded own ws
loaded_first None {own} h = subst (λ (l : List ℕ). InFormats l own) (sym h.words_are) h.rest_has
loaded_first (Some l) h = record {
  rest = h.rest;
  words_are = h.words_are;
  does = λ g k. loads l.constant (register_number l.register) g (register_lt l.register) k;
  rest_has = h.rest_has;
}

-- every accepted line
pub line_loads : (job : Job) (o : Operation) (ts : List Token) (i : ℕ) → (line_of job o ts i).answer ≡ Made → LoadedLine job o ts i
line_loads job o ts i h =
    let w = every_word job o ts i h in
    record { operands = w.operands; operands_are = w.operands_are; loaded = loaded_first (loads_of o w.operands) w.loads }

-- every accepted call
pub call_loads_lem : (job : Job) (c : Call) (position : ℕ) (loaded : LoadForm) → (emit_outcome job c).answer ≡ done_at position loaded → LoadedCall job c
call_loads_lem job c position loaded h =
    let a = accepted_call job c position loaded h in
    record { operation = a.operation; means = a.means; made = a.made; line = line_loads job a.operation _ _ a.made; appended = a.appended }

-- every accepted call whose line loads a constant
pub constant_appended : (job : Job) (c : Call) (position : ℕ) (loaded : LoadForm) → (emit_outcome job c).answer ≡ done_at position loaded → (l : LoadedConstant)
    → call_loads c ≡ Some l → ConstantAppended job c l
constant_appended job c position loaded h l e =
    let r = call_loads_lem job c position loaded h in
    let own = own_formats job r.operation r.line.operands in
    let ws = words_of (line_of job r.operation (tokens c.token_list) (start_of c)).pairs in
    let k : loads_of r.operation r.line.operands ≡ Some l = sym (ap (meant_loads c) r.means ∙ ap (read_loads r.operation) r.line.operands_are) ∙ e in
    let f : LoadsFirst l own ws = subst (λ (x : Option LoadedConstant). LoadedFirst x own ws) k r.line.loaded in
    record {
      rest = f.rest;
      data_is =
          r.appended.data_is
          ∙ ap (λ (bs : List ℕ). filled_data c.lent c.numbers.counts ++ bs)
          (ap bytes_of f.words_are ∙ bytes_append (load_words l.constant (register_number l.register)) f.rest);
      does = f.does;
    }

-- A line that is accepted, and one that is refused (document 02, P12). Assumes nothing.
use Rattle.std.specs.Prelude.{ℕ, Bool, ◌≡◌, Err, Ok}
use Rattle.std.proofs.Common.{arith, ◌∙◌}
use Rattle.std.proofs.Math.Bool.{true, false}
use Rattle.std.proofs.Math.Path.{refl, ap, ap₂}
use Rattle.std.proofs.Math.Dec.{eqb}
use Rattle.jobs.specs.declared.Job.{Job}
use Rattle.refusal.specs.declared.Refusal.{Refusal}
use Rattle.emit_outcome.specs.Room.{no_region}
use Rattle.emit_outcome.specs.Call.{EmitOutcome}
use Rattle.emit_outcome.specs.Emit.{emit_outcome}
use Rattle.emit_outcome.specs.Answer.{EmitAnswer, done_at, refused_at}
use Rattle.finished_words.specs.Listed.{Bytes}
use Rattle.loading.specs.declared.LoadForm.{LoadForm}
use Rattle.routine.proofs.LineFits.{line_fits}
use Rattle.patching_outcome.specs.Patching.{Patching}
use Rattle.patching_outcome.specs.Line.{LineGiven, line_layouts, emit_call, none_call, is_late, late_answer, LineOutcome, lined, lined_by, line_by, line_outcome}
use Rattle.refusal.specs.Verdicts.{Verdict}

module _ (job : Job) (g : LineGiven) (p : Patching) where
  abbrev pub emitted : EmitOutcome
  emitted = emit_outcome job (emit_call g p)

  abbrev none : EmitAnswer
  none = (emit_outcome job (none_call g p)).answer

  -- The outcome when the layouts pass: is no region selected, and is the line late?
  abbrev chosen : Bool → Bool → LineOutcome
  chosen nowhere late =
      elim nowhere [
        | true ↦ record { answer = none; after = p }
        | false ↦ elim late [ true ↦ record { answer = late_answer none; after = p } | false ↦ lined_by p g.region emitted emitted.answer ]
      ]

  pub record LineDone (position : ℕ) (loaded : LoadForm) : Type 0 where
    pub lists_pass : line_layouts g p ≡ Ok tt
    pub selected : eqb g.region no_region ≡ false
    pub timely : is_late p g.region ≡ false
    pub answers : emitted.answer ≡ done_at position loaded

  pub line_from : (position : ℕ) (loaded : LoadForm) → LineDone position loaded → line_outcome job g p ≡ (record { answer = done_at position loaded; after = lined p g.region emitted })
  unfolding line_outcome
  line_from position loaded d = ap (line_by job g p) d.lists_pass ∙ ap₂ chosen d.selected d.timely ∙ ap (lined_by p g.region emitted) d.answers

  -- A late line answers as if no region were selected, but with 29 for 10; nothing changes.
  pub line_late : line_layouts g p ≡ Ok tt → eqb g.region no_region ≡ false → is_late p g.region ≡ true
      → line_outcome job g p ≡ (record { answer = late_answer (emit_outcome job (none_call g p)).answer; after = p })
  unfolding line_outcome
  line_late v n l = ap (line_by job g p) v ∙ ap₂ chosen n l

  lined_done : (o : EmitOutcome) (a : EmitAnswer) (position : ℕ) (loaded : LoadForm) → (lined_by p g.region o a).answer ≡ done_at position loaded → a ≡ done_at position loaded
  lined_done o (Ok done) position loaded e = e
  lined_done o (Err refused) position loaded e = e

  lined_refused : (o : EmitOutcome) (a : EmitAnswer) (r : Refusal) (position : ℕ) → (lined_by p g.region o a).answer ≡ refused_at r position → (lined_by p g.region o a).after ≡ p
  lined_refused o (Ok done) r position e = let z : ◌≡◌ {A = ℕ} 0 1 = cc in absurd (omega arith)
  lined_refused o (Err refused) r position e = refl

  late_done : (a : EmitAnswer) (position : ℕ) (loaded : LoadForm) → late_answer a ≡ done_at position loaded → a ≡ done_at position loaded
  late_done (Ok done) position loaded e = e
  late_done (Err refused) position loaded e = let z : ◌≡◌ {A = ℕ} 0 1 = cc in absurd (omega arith)

  -- the answer, by case
  pub answer_stopped : (r : Refusal) → line_layouts g p ≡ Err r → (line_outcome job g p).answer ≡ refused_at r g.position
  unfolding line_outcome
  answer_stopped r v = ap (λ (x : Verdict). (line_by job g p x).answer) v

  pub answer_none : line_layouts g p ≡ Ok tt → eqb g.region no_region ≡ true → (line_outcome job g p).answer ≡ (emit_outcome job (none_call g p)).answer
  unfolding line_outcome
  answer_none v n = ap (λ (x : Verdict). (line_by job g p x).answer) v ∙ ap (λ (x : Bool). (chosen x (is_late p g.region)).answer) n

  lined_answer : (o : EmitOutcome) (a : EmitAnswer) → (lined_by p g.region o a).answer ≡ a
  lined_answer o (Ok done) = refl
  lined_answer o (Err refused) = refl

  pub answer_timely : line_layouts g p ≡ Ok tt → eqb g.region no_region ≡ false → is_late p g.region ≡ false → (line_outcome job g p).answer ≡ (emit_outcome job (emit_call g p)).answer
  unfolding line_outcome
  answer_timely v n l =
      ap (λ (x : Verdict). (line_by job g p x).answer) v ∙ ap₂ (λ (x y : Bool). (chosen x y).answer) n l ∙ lined_answer emitted emitted.answer

  -- a refused line changes nothing
  pub line_refused : (r : Refusal) (position : ℕ) → (line_outcome job g p).answer ≡ refused_at r position → (line_outcome job g p).after ≡ p
  unfolding line_outcome
  line_refused r position e = by_lists (line_layouts g p) e
    where
      by_choice : (nowhere late : Bool) → (chosen nowhere late).answer ≡ refused_at r position → (chosen nowhere late).after ≡ p
      by_choice true late x = refl
      by_choice false true x = refl
      by_choice false false x = lined_refused emitted emitted.answer r position x

      by_lists : (v : Verdict) → (line_by job g p v).answer ≡ refused_at r position → (line_by job g p v).after ≡ p
      by_lists (Err s) x = refl
      by_lists (Ok tt) x = by_choice (eqb g.region no_region) (is_late p g.region) x

  module _ (tokens : Bytes g.token_list) (mnemonic : Bytes g.mnemonic) where
    -- Without a selected region no line is accepted.
    none_refused : (position : ℕ) (loaded : LoadForm) → none ≡ done_at position loaded → ⊥
    none_refused position loaded e = let h = (line_fits job (none_call g p) position loaded tokens mnemonic e).region_below in omega (arith, h)

    pub line_done : (position : ℕ) (loaded : LoadForm) → (line_outcome job g p).answer ≡ done_at position loaded → LineDone position loaded
    unfolding line_outcome
    line_done position loaded e = by_lists (line_layouts g p) refl e
      where
        by_choice : line_layouts g p ≡ Ok tt → (nowhere : Bool) → eqb g.region no_region ≡ nowhere → (late : Bool) → is_late p g.region ≡ late → (chosen nowhere late).answer ≡ done_at position loaded → LineDone position loaded
        by_choice v true n late l x = absurd (none_refused position loaded x)
        by_choice v false n true l x = absurd (none_refused position loaded (late_done none position loaded x))
        by_choice v false n false l x = record { lists_pass = v; selected = n; timely = l; answers = lined_done emitted emitted.answer position loaded x }

        by_lists : (v : Verdict) → line_layouts g p ≡ v → (line_by job g p v).answer ≡ done_at position loaded → LineDone position loaded
        by_lists (Err s) v x = let z : ◌≡◌ {A = ℕ} 0 1 = cc in absurd (omega arith)
        by_lists (Ok tt) v x = by_choice v (eqb g.region no_region) refl (is_late p g.region) refl x

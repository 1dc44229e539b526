-- A line by its cases: a list that breaks its layout, no region selected, late, timely. Assumes nothing.
use Rattle.std.specs.Prelude.{ℕ, Bool, ◌≡◌, eqb, Err, Ok}
use Rattle.std.proofs.Math.Bool.{true, false}
use mathlib.Core.List.{List, []}
use Rattle.std.proofs.Math.Path.{refl, ap, ap₂}
use Rattle.std.proofs.Common.{sym, ◌∙◌}
use Rattle.jobs.specs.declared.Job.{Job}
use Rattle.refusal.specs.declared.Refusal.{Refusal}
use Rattle.emit_outcome.specs.Answer.{EmitAnswer, refused_at}
use Rattle.emit_outcome.specs.Room.{no_region}
use Rattle.emit_outcome.specs.Emit.{emit_outcome}
use Rattle.patching_outcome.specs.declared.PatchCounts.{PatchCounts}
use Rattle.patching_outcome.specs.Patching.{patching_of}
use Rattle.patching_outcome.specs.Line.{LineOutcome, is_late, late_answer, line_by, line_outcome}
use Rattle.patching_line.specs.Contract.{given_of, LinesTo, LineIs}
use Rattle.patching_line.specs.Lists.{LayoutsAre, timely, nowhere}

module _ (job : Job) (tokens mnemonic descriptors : List ℕ) (position region : ℕ) (regions pending breakpoints : List ℕ) (counts : PatchCounts) where
  pub line_stops : (r : Refusal) → LayoutsAre tokens mnemonic descriptors region regions pending breakpoints counts (Err r)
      → LineIs job (given_of tokens mnemonic descriptors position region) regions pending breakpoints counts (refused_at r position) counts regions pending breakpoints
  unfolding line_outcome
  line_stops r e kept = ap (line_by job (given_of tokens mnemonic descriptors position region) (patching_of regions pending breakpoints kept counts)) (e position kept)

  module _ (pass : LayoutsAre tokens mnemonic descriptors region regions pending breakpoints counts (Ok tt)) where
    abbrev none : EmitAnswer
    none = (emit_outcome job (nowhere tokens mnemonic descriptors pending breakpoints counts position)).answer

    chosen : List ℕ → (selected late : Bool) → LineOutcome
    chosen kept a b =
        let p = patching_of regions pending breakpoints kept counts in
        elim a [
          | true ↦ record { answer = none; after = p }
          | false ↦ elim b [ true ↦ record { answer = late_answer none; after = p } | false ↦ timely job (given_of tokens mnemonic descriptors position region) p ]
        ]

    by_tests : (kept : List ℕ) (a b : Bool) → eqb region no_region ≡ a → is_late (patching_of regions pending [] [] counts) region ≡ b
        → line_outcome job (given_of tokens mnemonic descriptors position region) (patching_of regions pending breakpoints kept counts) ≡ chosen kept a b
    unfolding line_outcome chosen
    by_tests kept a b s l =
        ap (line_by job (given_of tokens mnemonic descriptors position region) (patching_of regions pending breakpoints kept counts)) (pass position kept) ∙ ap₂ (chosen kept) s l

    unchanged : (answer known : EmitAnswer) (pending_after breakpoints_after kept : List ℕ) → answer ≡ known → pending_after ≡ pending → breakpoints_after ≡ breakpoints
        → ◌≡◌ {A = LineOutcome} (record { answer = known; after = patching_of regions pending breakpoints kept counts }) (record { answer = answer; after = patching_of regions pending_after breakpoints_after kept counts })
    unchanged answer known pa ba kept e p b =
        sym (ap (λ (x : EmitAnswer). record { answer = x; after = patching_of regions pa ba kept counts }) e
        ∙ ap₂ (λ (x y : List ℕ). record { answer = known; after = patching_of regions x y kept counts }) p b)

    module _ (answer : EmitAnswer) (pending_after breakpoints_after : List ℕ) (p : pending_after ≡ pending) (b : breakpoints_after ≡ breakpoints) where
      pub line_nowhere : eqb region no_region ≡ true → answer ≡ (emit_outcome job (nowhere tokens mnemonic descriptors pending breakpoints counts position)).answer
          → LineIs job (given_of tokens mnemonic descriptors position region) regions pending breakpoints counts answer counts regions pending_after breakpoints_after
      unfolding chosen
      line_nowhere s e kept =
          by_tests kept true (is_late (patching_of regions pending [] [] counts) region) s refl ∙ unchanged answer none pending_after breakpoints_after kept e p b

      pub line_late : eqb region no_region ≡ false → is_late (patching_of regions pending [] [] counts) region ≡ true
          → answer ≡ late_answer (emit_outcome job (nowhere tokens mnemonic descriptors pending breakpoints counts position)).answer
          → LineIs job (given_of tokens mnemonic descriptors position region) regions pending breakpoints counts answer counts regions pending_after breakpoints_after
      unfolding chosen
      line_late s l e kept = by_tests kept false true s l ∙ unchanged answer (late_answer none) pending_after breakpoints_after kept e p b

    pub line_timely : eqb region no_region ≡ false → is_late (patching_of regions pending [] [] counts) region ≡ false
        → (answer : EmitAnswer) (c : PatchCounts) (ra pa ba : List ℕ)
        → LinesTo (timely job (given_of tokens mnemonic descriptors position region)) regions pending breakpoints counts answer c ra pa ba
        → LineIs job (given_of tokens mnemonic descriptors position region) regions pending breakpoints counts answer c ra pa ba
    unfolding chosen
    line_timely s l answer c ra pa ba f kept = by_tests kept false false s l ∙ f kept

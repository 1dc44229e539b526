-- The claim of P11 for abs in jobs by the manual. Assumes nothing.
use Rattle.std.specs.Prelude.{ℕ, ◌+◌, ◌*◌, ◌%◌, ◌^◌, ◌<◌, ◌≡◌, refl, true, List, [], ◌∷◌, nat_abs, length, None}
use Rattle.std.proofs.Common.{arith, ap, ◌∙◌, subst}
use Rattle.field.specs.Wrap.{wrap32}
use Rattle.jobs.specs.declared.Job.{Job}
use Rattle.jobs.specs.declared.Job.TheVariants.{Commit, Manual, Release6}
use Rattle.jobs.specs.Jobs.{by_manual}
use Rattle.registers.specs.Numbers.{register_number}
use Rattle.registers.specs.NumberLaws.{register_lt}
use Rattle.pseudo_names.specs.declared.Pseudo.TheVariants.{Abs}
use Rattle.reading.specs.Reading.{Image, image_of}
use Rattle.loading.specs.Run.{Registers, read_register}
use Rattle.machine.specs.Numbers.{signed}
use Rattle.machine.specs.Effects.{next_pc}
use Rattle.machine.specs.Step.{at}
use Rattle.machine.specs.declared.Reason.TheVariants.{Allowance}
use Rattle.dry_run_outcome.specs.Run.{ran_for}
use Rattle.dry_run_outcome.proofs.StandingLaws.{Standing}
use Rattle.formats.proofs.Formats.{Format, InFormats, no_words, first, register}
use Rattle.formats.proofs.PseudoFormats.{abs_format}
use Rattle.formats.proofs.PseudoFormatsLaws.{pseudo_words}
use Rattle.routine.specs.PatchValues.{patches_from}
use Rattle.pseudo_meaning.proofs.LineRunsLaws.{abs_runs}
use Rattle.pseudo_meaning.proofs.WholeLineLaws.{LeavesIn}
use Rattle.pseudo_meaning.specs.Lines.{LineInBuild, line_pc}
use Rattle.pseudo_meaning.specs.Meaning.{held_by, AbsMeans}
use Rattle.pseudo_meaning.proofs.ExitLaws.{patched}
use Rattle.pseudo_meaning.proofs.StartLaws.{given, given_length, given_reads}
use Rattle.pseudo_meaning.proofs.PlainLineLaws.{plain_line, leaves, some_words}

manual_format : (job : Job) (rt : ℕ) → by_manual job ≡ true → abs_format job rt ≡ register 0 0 rt 1 31 3
manual_format Commit rt e = let z : ◌≡◌ {A = ℕ} 0 1 = cc in absurd (omega arith)
manual_format Manual rt e = refl
manual_format Release6 rt e = refl

-- SRA $at, s, 31; XOR d, s, $at; SUBU d, d, $at
abbrev abs_formats : (d s : ℕ) → List Format
abs_formats d s = register 0 0 s 1 31 3 ∷ register 0 s 1 d 0 38 ∷ register 0 d 1 d 0 35 ∷ []

module _ (image : Image) (pc : ℕ) (hp : pc < 2 ^ 32) (g : Registers) (hg : length g ≡ 32) (d s : ℕ) (hd : d < 32) (nd : d ≡ 0 → ⊥) (md : d ≡ 1 → ⊥) (ns : s ≡ 1 → ⊥) (hv : read_register g s < 2 ^ 32) where
  abs_words : {ws : List ℕ} → InFormats ws (abs_formats d s) → Standing image pc ws → LeavesIn image pc (length ws) g d (wrap32 (nat_abs (signed (read_register g s))))
  abs_words (first {w = w} i (first {w = x} j (first {w = y} k no_words))) st =
      let r = abs_runs image pc g hg w x y d s hd nd md ns hv st i.reads j.reads k.reads in
      let p : next_pc (next_pc (next_pc pc)) ≡ (pc + 4 * 3) % 2 ^ 32 = omega arith in
      record { after = r.0; runs = r.1 ∙ ap (λ (z : ℕ). ran_for 3 (at z r.0) Allowance) p; result = r.2; others = r.3 }

pub abs_means : (site : LineInBuild) → AbsMeans site
unfolding patches_from
abs_means site x m by em pl nz na ns rd h32 =
    let d = register_number x.0 in
    let s = register_number x.1 in
    let t = plain_line site pl Abs x None em (pseudo_words site.job Abs x) refl in
    let fs : InFormats t.rest (abs_formats d s) =
    subst (λ (f : Format). InFormats t.rest (f ∷ register 0 s 1 d 0 38 ∷ register 0 d 1 d 0 35 ∷ [])) (manual_format site.job s by) t.rest_has in
    let same : read_register (given m rd.all_32) s ≡ held_by m x.1 = given_reads m rd.all_32 s in
    let r = abs_words (image_of (patched site)) (line_pc site) (omega arith) (given m rd.all_32) (given_length m rd.all_32) d s (register_lt x.0) nz na ns (rw same h32) fs t.standing in
    leaves site pl m rd t.rest (some_words [] t.rest_has) t.count t.standing x.0 (wrap32 (nat_abs (signed (held_by m x.1)))) (rw same at r)

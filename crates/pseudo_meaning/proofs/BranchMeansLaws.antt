-- The claim of P11 for blt, bgt, ble and bge. Assumes nothing.
use Rattle.std.specs.Prelude.{ℕ, ◌+◌, ◌*◌, ◌%◌, ◌^◌, ◌<◌, ◌≡◌, refl, Bool, true, false, cond, List, [], ◌∷◌, ◌++◌, length}
use Rattle.std.proofs.Common.{arith, ap₂, ◌∙◌, subst, length-append}
use Rattle.registers.specs.Numbers.{register_number}
use Rattle.pending.specs.declared.InstructionLabelKind.TheVariants.{Branch}
use Rattle.patch.specs.Patches.{distance_bits}
use Rattle.finished_words.specs.Words.{finished_word}
use Rattle.reading.specs.Reading.{image_of}
use Rattle.loading.specs.Run.{read_register}
use Rattle.machine.specs.Effects.{branch_target}
use Rattle.machine.specs.Step.{at}
use Rattle.machine.specs.declared.Machine.{Machine}
use Rattle.machine.specs.declared.Reason.TheVariants.{Allowance}
use Rattle.dry_run_outcome.specs.Run.{run, ran_for}
use Rattle.dry_run_outcome.proofs.StandingLaws.{Standing}
use Rattle.emit_dispatch.specs.LineLoads.{value_loads, loading_words}
use Rattle.pseudo_meaning.specs.Comparisons.{compares}
use Rattle.pseudo_meaning.proofs.LineRunsLaws.{value_held}
use Rattle.pseudo_meaning.proofs.WholeLineLaws.{GoesBy, branch_line}
use Rattle.pseudo_meaning.proofs.TargetLaws.{finished_reads, goes_there}
use Rattle.pseudo_meaning.specs.Lines.{LineInBuild, line_words, line_pc, after_pc}
use Rattle.pseudo_meaning.specs.Premises.{Placed, Ready}
use Rattle.pseudo_meaning.specs.Meaning.{held_by, value_of, Branches, line_run, BranchMeans}
use Rattle.pseudo_meaning.proofs.ExitLaws.{patched, exit_standing}
use Rattle.pseudo_meaning.proofs.StartLaws.{given, given_length, given_reads, value_same, first_kept, line_runs}
use Rattle.pseudo_meaning.proofs.BranchLineLaws.{branch_line_is, branch_pc, near, in_32, exit_words}

opcode_lt : (result : Bool) → ◌<◌ (elim result [ true ↦ 5 | false ↦ 4 ]) 64
opcode_lt true = omega arith
opcode_lt false = omega arith

module _ (site : LineInBuild) where
  -- The whole dry run does what a run of the words does.
  branches : (pl : Placed site) (m : Machine) (rd : Ready (line_pc site) m) (ws : List ℕ) (n w dest : ℕ) (holds : Bool)
      → length ws ≡ n + 2 → line_words site ≡ n + 2 → Standing (image_of (patched site)) (line_pc site) ws
      → GoesBy (image_of (patched site)) (line_pc site) n w (given m rd.all_32) holds → branch_target ((line_pc site + 4 * n + 4) % 2 ^ 32) w ≡ dest
      → Branches holds dest (after_pc site) (line_words site) m (line_run site m)
  branches pl m rd ws n w dest holds l words s x t =
      let e : run (line_words site) (image_of (patched site)) (at (line_pc site) (given m rd.all_32))
      ≡ ran_for (line_words site) (at (cond holds dest (after_pc site)) x.after) Allowance =
      rw (words, ← t) x.runs in
      rw (line_runs site pl m rd ws (omega arith) s, e) record {
        ran_all = refl;
        pc_is = refl;
        only_at = λ r k. x.others r k ∙ given_reads m rd.all_32 r;
      }

  pub branch_means : (greater result : Bool) → BranchMeans site greater result
  branch_means greater result x dest m em pl rc fs rd =
      let v = x.1 in
      let loads = loading_words (value_loads v) in
      let g = given m rd.all_32 in
      let image = image_of (patched site) in
      let line = branch_line_is site greater result false x em in
      let at_branch : ℕ = branch_pc site pl v x.2 _ _ line in
      let f : ℕ = finished_word Branch at_branch dest line.jump in
      let ws = loads ++ line.compare ∷ f ∷ [] in
      let l : length ws ≡ length loads + 2 = length-append loads (line.compare ∷ f ∷ []) in
      let s : Standing image (line_pc site) ws =
      exit_standing site pl ws (omega (arith, l, line.count)) (λ j h. exit_words site pl v x.2 _ _ line dest rc j (omega (arith, l))) in
      let o : ℕ = elim result [ true ↦ 5 | false ↦ 4 ] in
      let reads = finished_reads at_branch dest line.jump o 1 0 (opcode_lt result) (omega arith) (omega arith) line.has_jump.reads in
      let go = branch_line image (line_pc site) (omega arith) g (given_length m rd.all_32) v greater result (register_number x.0) (distance_bits at_branch dest) line.compare f
      (first_kept x.0 v fs) s line.has_compare.reads reads in
      let Near-by = near site pl v x.2 _ _ line dest rc in
      let there : branch_target at_branch f ≡ dest =
      goes_there at_branch dest line.jump o 1 0 (opcode_lt result) (omega arith) (omega arith) line.has_jump.reads (omega (arith, pl.aligned)) rc.multiple
      (in_32 site pl v x.2 _ _ line dest rc) Near-by.0 Near-by.1 in
      let same : compares greater result (read_register g (register_number x.0)) (value_held g v) ≡ compares greater result (held_by m x.0) (value_of m v) =
      ap₂ (compares greater result) (given_reads m rd.all_32 (register_number x.0)) (value_same m rd.all_32 v) in
      branches pl m rd ws (length loads) f dest (compares greater result (held_by m x.0) (value_of m v)) l line.count s
      (subst (GoesBy image (line_pc site) (length loads) f g) same go) there

-- A line whose words wait for no label: they stand in the finished image as they were emitted. Assumes nothing.
use Rattle.std.specs.Prelude.{ℕ, ◌<◌, ◌≡◌, refl, List, [], ◌∷◌, ◌++◌, length, Option}
use Rattle.std.proofs.Common.{arith, sym, ap, ◌∙◌, length-append}
use Rattle.registers.specs.Numbers.{register_number}
use Rattle.registers.specs.declared.RegisterSlot.{RegisterSlot}
use Rattle.pseudo_names.specs.declared.Pseudo.{Pseudo}
use Rattle.operand_list.specs.OperandLists.{AskedAll}
use Rattle.emit_pairs.specs.declared.InstructionPair.{InstructionPair}
use Rattle.emit_dispatch.specs.Wants.{pseudo_wants}
use Rattle.emit_dispatch.specs.Lines.{pseudo_pairs}
use Rattle.reading.specs.Reading.{image_of}
use Rattle.machine.specs.declared.Machine.{Machine}
use Rattle.dry_run_outcome.proofs.StandingLaws.{Standing}
use Rattle.formats.proofs.Formats.{Format, InFormats, first}
use Rattle.formats.specs.Operations.{words_of}
use Rattle.emit_dispatch.specs.LineLoads.{LoadedConstant, loading_words}
use Rattle.formats.proofs.LineFormats.{LoadThen}
use Rattle.formats.proofs.LineFormatsLaws.{all_have}
use Rattle.routine.specs.CallValues.{call_pairs, call_origin, call_patches}
use Rattle.routine.specs.PatchValues.{patches_from}
use Rattle.pseudo_meaning.proofs.WordsThereLaws.{Words32}
use Rattle.pseudo_meaning.proofs.WholeLineLaws.{LeavesIn}
use Rattle.pseudo_meaning.specs.Lines.{Emitted, LineInBuild, line_words, line_pc, after_pc}
use Rattle.pseudo_meaning.specs.Premises.{Placed, Ready}
use Rattle.pseudo_meaning.specs.Meaning.{Leaves, line_run}
use Rattle.pseudo_meaning.proofs.OwnPatchesLaws.{pairs_are, formats_32}
use Rattle.pseudo_meaning.proofs.ExitLaws.{emitted_words, patched, words_count, plain_standing}
use Rattle.pseudo_meaning.proofs.StartLaws.{given, given_reads, line_runs}

-- The words that load a constant, if there is one, and then words in the formats fs.
pub record PlainLine (site : LineInBuild) (loads : Option LoadedConstant) (fs : List Format) : Type 0 where
  pub rest : List ℕ
  pub rest_has : InFormats rest fs
  pub standing : Standing (image_of (patched site)) (line_pc site) (loading_words loads ++ rest)
  pub count : length (loading_words loads ++ rest) ≡ line_words site

module _ (site : LineInBuild) (pl : Placed site) where
  pub plain_line : (p : Pseudo) (x : AskedAll (pseudo_wants p)) (loads : Option LoadedConstant) {fs : List Format} → Emitted site.job site.call p x
      → LoadThen loads fs (words_of (pseudo_pairs site.job p x)) → patches_from site.call.token_list (call_origin site.call) 0 (pseudo_pairs site.job p x) ≡ []
      → PlainLine site loads fs
  plain_line p x loads em t ps =
      let e : call_pairs site.job site.call ≡ pseudo_pairs site.job p x = pairs_are site.job site.call p x em in
      let es : emitted_words site ≡ loading_words loads ++ t.rest = ap words_of e ∙ t.words_are in
      let w32 : Words32 (emitted_words site) = rw e (formats_32 (all_have loads t)) in
      let none : call_patches site.job site.call ≡ [] = ap (λ (l : List InstructionPair). patches_from site.call.token_list (call_origin site.call) 0 l) e ∙ ps in
      record { rest = t.rest; rest_has = t.rest_has; standing = rw es at (plain_standing site pl none w32); count = sym (ap length es) ∙ words_count site }

  -- The whole dry run leaves what a run of the words leaves.
  pub leaves : (m : Machine) (rd : Ready (line_pc site) m) (ws : List ℕ) → 0 < length ws → length ws ≡ line_words site
      → Standing (image_of (patched site)) (line_pc site) ws → (r : RegisterSlot) (v : ℕ) → LeavesIn (image_of (patched site)) (line_pc site) (length ws) (given m rd.all_32) (register_number r) v
      → Leaves v r (after_pc site) (line_words site) m (line_run site m)
  leaves m rd ws h n s r v x =
      let l : LeavesIn (image_of (patched site)) (line_pc site) (line_words site) (given m rd.all_32) (register_number r) v = rw n at x in
      rw (line_runs site pl m rd ws h s, l.runs) record {
        ran_all = refl;
        pc_is = refl;
        result = l.result;
        others = λ q i j. l.others q i j ∙ given_reads m rd.all_32 q;
      }

pub some_words : {rest : List ℕ} {f : Format} {fs : List Format} (ws : List ℕ) → InFormats rest (f ∷ fs) → 0 < length (ws ++ rest)
some_words {rest} ws (first h i) = omega (arith, length-append ws rest)

-- The claim of P11 for sge, sgt and sle. Assumes nothing.
use Rattle.std.specs.Prelude.{ℕ, ◌^◌, ◌<◌, ◌≡◌, Bool, true, false, List, [], ◌∷◌, ◌++◌, length}
use Rattle.std.proofs.Common.{arith, ap₂, length-append}
use Rattle.field.specs.Bit.{bit}
use Rattle.registers.specs.Numbers.{register_number}
use Rattle.registers.specs.NumberLaws.{register_lt}
use Rattle.pseudo_names.specs.declared.Pseudo.TheVariants.{SetCustom}
use Rattle.operand.specs.declared.InstructionValue.{InstructionValue}
use Rattle.reading.specs.Reading.{Image, image_of}
use Rattle.loading.specs.Run.{Registers, read_register}
use Rattle.dry_run_outcome.proofs.StandingLaws.{Standing}
use Rattle.formats.proofs.Formats.{InFormats, no_words, first}
use Rattle.formats.proofs.EncodingFormats.{value_in}
use Rattle.emit_dispatch.specs.LineLoads.{value_loads, loading_words}
use Rattle.formats.proofs.PseudoFormats.{compared, turned_formats}
use Rattle.formats.proofs.PseudoFormatsLaws.{pseudo_words}
use Rattle.routine.specs.CallValues.{call_origin}
use Rattle.pseudo_meaning.specs.Comparisons.{compares}
use Rattle.pseudo_meaning.proofs.LineRunsLaws.{FirstKept, value_held}
use Rattle.pseudo_meaning.proofs.WholeLineLaws.{LeavesIn, set_line, turned_line}
use Rattle.pseudo_meaning.specs.Lines.{LineInBuild, line_pc}
use Rattle.pseudo_meaning.specs.Meaning.{held_by, value_of, SetMeans}
use Rattle.pseudo_meaning.proofs.OwnPatchesLaws.{set_patches}
use Rattle.pseudo_meaning.proofs.ExitLaws.{patched}
use Rattle.pseudo_meaning.proofs.StartLaws.{given, given_length, given_reads, value_same, first_kept}
use Rattle.pseudo_meaning.proofs.PlainLineLaws.{plain_line, leaves, some_words}

module _ (image : Image) (pc : ℕ) (hp : pc < 2 ^ 32) (g : Registers) (hg : length g ≡ 32) (v : InstructionValue) (greater : Bool) (d a : ℕ) (hd : d < 32) (nd : d ≡ 0 → ⊥) (k : FirstKept a v) where
  set_rest : (result : Bool) {rest : List ℕ} → InFormats rest (compared greater false d a (value_in v) ∷ turned_formats result d) → Standing image pc (loading_words (value_loads v) ++ rest)
      → LeavesIn image pc (length (loading_words (value_loads v) ++ rest)) g d (bit (compares greater result (read_register g a) (value_held g v)))
  set_rest true (first {w = w} h no_words) s =
      rw (length-append (loading_words (value_loads v)) (w ∷ [])) (set_line image pc hp g hg v greater d a w hd nd k s h.reads)
  set_rest false (first {w = w} h (first {w = y} i no_words)) s =
      rw (length-append (loading_words (value_loads v)) (w ∷ y ∷ [])) (turned_line image pc hp g hg v greater d a w y hd nd k s h.reads i.reads)

pub set_means : (site : LineInBuild) (greater result : Bool) → SetMeans site greater result
set_means site greater result x m em pl fs nz rd =
    let v = x.2 in
    let g = given m rd.all_32 in
    let p = SetCustom greater result false in
    let t = plain_line site pl p x (value_loads v) em (pseudo_words site.job p x) (set_patches site.call.token_list (call_origin site.call) v _ result x.0) in
    let r = set_rest (image_of (patched site)) (line_pc site) (omega arith) g (given_length m rd.all_32) v greater (register_number x.0) (register_number x.1) (register_lt x.0) nz
    (first_kept x.1 v fs) result t.rest_has t.standing in
    let same : bit (compares greater result (read_register g (register_number x.1)) (value_held g v)) ≡ bit (compares greater result (held_by m x.1) (value_of m v)) =
    ap₂ (λ (p q : ℕ). bit (compares greater result p q)) (given_reads m rd.all_32 (register_number x.1)) (value_same m rd.all_32 v) in
    leaves site pl m rd (loading_words (value_loads v) ++ t.rest) (some_words (loading_words (value_loads v)) t.rest_has) t.count t.standing x.0 _ (rw same at r)

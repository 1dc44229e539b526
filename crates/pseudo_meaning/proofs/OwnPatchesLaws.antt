-- What the pairs of a line become: its words, its patches, and its branch's pending record. Assumes nothing.
use Rattle.std.specs.Prelude.{ℕ, suc, ◌+◌, ◌≡◌, refl, Bool, true, false, List, [], ◌∷◌, ◌++◌, map, length, Ok}
use Rattle.std.proofs.Common.{add-zero, zero-add, arith, sym, ap, ◌∙◌, append_assoc}
use Rattle.jobs.specs.declared.Job.{Job}
use Rattle.address_label.specs.declared.AddressLabel.{AddressLabel}
use Rattle.address_label.specs.LabelBytes.{name_bytes}
use Rattle.pseudo_names.specs.declared.Pseudo.{Pseudo}
use Rattle.lexer.specs.Tokens.{tokens}
use Rattle.pending.specs.declared.Origin.{Origin}
use Rattle.pending.specs.declared.InstructionLabelKind.TheVariants.{Branch}
use Rattle.operand.specs.Answers.{Answer}
use Rattle.operand.specs.declared.InstructionValue.{InstructionValue}
use Rattle.operand.specs.declared.InstructionValue.TheVariants.{Slot, Literal}
use Rattle.operand_list.specs.OperandLists.{AskedAll, read_operands}
use Rattle.emit_pairs.specs.declared.InstructionPair.{InstructionPair}
use Rattle.emit_pairs.specs.Pairs.{plain, waiting, load_pairs}
use Rattle.emit_pairs.specs.Values.{value_pairs}
use Rattle.emit_pseudo.specs.PseudoWords.{turned}
use Rattle.registers.specs.declared.RegisterSlot.{RegisterSlot}
use Rattle.emit_dispatch.specs.Wants.{pseudo_wants}
use Rattle.emit_dispatch.specs.Lines.{line_by, pseudo_pairs, pseudo_form, pseudo_line}
use Rattle.emit_outcome.specs.Call.{Call}
use Rattle.emit_outcome.specs.Dispatch.{meaning_line}
use Rattle.emit_outcome.specs.declared.Meaning.{Meaning}
use Rattle.emit_outcome.specs.Emit.{start_of}
use Rattle.formats.proofs.Formats.{Format, InFormats, no_words, first}
use Rattle.emit_dispatch.specs.LineLoads.{value_loads, loading_words}
use Rattle.routine.specs.PatchValues.{Patch, target_of, patch_at, origin_at, patch_to, patches_from}
use Rattle.routine.specs.CallValues.{line_pairs, call_pairs}
use Rattle.pseudo_meaning.proofs.WordsThereLaws.{Words32}
use Rattle.pseudo_meaning.specs.Lines.{Emitted}

-- An accepted line's pairs are the pairs of its operands.
pub pairs_are : (job : Job) (c : Call) (p : Pseudo) (x : AskedAll (pseudo_wants p)) → Emitted job c p x → call_pairs job c ≡ pseudo_pairs job p x
unfolding call_pairs pseudo_line
pairs_are job c p x e =
    let i = (read_operands (pseudo_wants p) (tokens c.token_list) (start_of c)).index in
    ap (λ (m : Meaning). line_pairs (meaning_line job c.descriptors m (tokens c.token_list) (start_of c))) e.means
    ∙ ap (λ (a : Answer (AskedAll (pseudo_wants p))). (line_by a i (λ y. Ok tt) (pseudo_pairs job p) (pseudo_form p)).pairs) e.operands_are

-- words in formats have 32 bits
pub formats_32 : {ws : List ℕ} {fs : List Format} → InFormats ws fs → Words32 ws
formats_32 no_words = tt
formats_32 (first h r) = (h.word, formats_32 r)

-- the loading pairs wait for nothing
pub value_plain : (v : InstructionValue) → value_pairs v ≡ map plain (loading_words (value_loads v))
unfolding load_pairs
value_plain (Slot r) = refl
value_plain (Literal n) = refl

pub plain_patches : (tl : List ℕ) (origin : Origin) (i : ℕ) (ws : List ℕ) (ps : List InstructionPair) → patches_from tl origin i (map plain ws ++ ps) ≡ patches_from tl origin (i + length ws) ps
unfolding patches_from
plain_patches tl origin i [] ps = ap (λ (k : ℕ). patches_from tl origin k ps) (sym (add-zero i))
plain_patches tl origin i (w ∷ ws) ps =
    let e : i + 1 + length ws ≡ i + suc (length ws) = omega arith in
    plain_patches tl origin (i + 1) ws ps ∙ ap (λ (k : ℕ). patches_from tl origin k ps) e

-- Loading words, a comparison and its branch have one patch, at the last word.
pub branch_patches : (tl : List ℕ) (origin : Origin) (ws : List ℕ) (w b : ℕ) (label : AddressLabel)
    → patches_from tl origin 0 (map plain ws ++ plain w ∷ waiting b Branch label ∷ []) ≡ patch_to (origin_at origin (length ws + 1)) Branch (target_of label (name_bytes tl label)) ∷ []
unfolding patches_from
branch_patches tl origin ws w b label =
    plain_patches tl origin 0 ws (plain w ∷ waiting b Branch label ∷ [])
    ∙ ap (λ (k : ℕ). patch_to (origin_at origin (k + 1)) Branch (target_of label (name_bytes tl label)) ∷ []) (zero-add (length ws))

-- So there is one place.
pub record OneOwn (pending own : List ℕ) (patch : Patch) : Type 0 where
  pub place : ℕ
  pub own_is : own ≡ place ∷ []
  pub patch_is : patch_at pending place ≡ patch

pub one_own : (pending own : List ℕ) (patch : Patch) → map (patch_at pending) own ≡ patch ∷ [] → OneOwn pending own patch
one_own pending [] patch e = let z : ◌≡◌ {A = ℕ} 0 1 = cc in absurd (omega arith)
one_own pending (p ∷ []) patch e = record { place = p; own_is = refl; patch_is = cc }
one_own pending (p ∷ q ∷ ps) patch e = let z : ◌≡◌ {A = ℕ} 0 1 = cc in absurd (omega arith)

pub no_own : (pending own : List ℕ) → map (patch_at pending) own ≡ [] → own ≡ []
no_own pending [] e = refl
no_own pending (p ∷ ps) e = let z : ◌≡◌ {A = ℕ} 0 1 = cc in absurd (omega arith)

-- Loading words with a set, and abs, have no patch.
turned_patches : (tl : List ℕ) (origin : Origin) (i w : ℕ) (result : Bool) (dest : RegisterSlot) → patches_from tl origin i (plain w ∷ turned result dest) ≡ []
unfolding patches_from
turned_patches tl origin i w true dest = refl
turned_patches tl origin i w false dest = refl

pub set_patches : (tl : List ℕ) (origin : Origin) (v : InstructionValue) (w : ℕ) (result : Bool) (dest : RegisterSlot) → patches_from tl origin 0 (value_pairs v ++ plain w ∷ turned result dest) ≡ []
set_patches tl origin v w result dest =
    ap (λ (ps : List InstructionPair). patches_from tl origin 0 (ps ++ plain w ∷ turned result dest)) (value_plain v)
    ∙ plain_patches tl origin 0 (loading_words (value_loads v)) (plain w ∷ turned result dest)
    ∙ turned_patches tl origin (0 + length (loading_words (value_loads v))) w result dest

-- Loading words with seq or sne have no patch.
pub equal_patches : (tl : List ℕ) (origin : Origin) (v : InstructionValue) (w y : ℕ) → patches_from tl origin 0 (value_pairs v ++ plain w ∷ plain y ∷ []) ≡ []
unfolding patches_from
equal_patches tl origin v w y =
    ap (λ (ps : List InstructionPair). patches_from tl origin 0 (ps ++ plain w ∷ plain y ∷ [])) (value_plain v)
    ∙ plain_patches tl origin 0 (loading_words (value_loads v)) (plain w ∷ plain y ∷ [])

pub turned_equal_patches : (tl : List ℕ) (origin : Origin) (v : InstructionValue) (w y : ℕ) (dest : RegisterSlot) → patches_from tl origin 0 ((value_pairs v ++ plain w ∷ plain y ∷ []) ++ turned false dest) ≡ []
unfolding patches_from
turned_equal_patches tl origin v w y dest =
    ap (λ (ps : List InstructionPair). patches_from tl origin 0 ps) (append_assoc (value_pairs v) (plain w ∷ plain y ∷ []) (turned false dest))
    ∙ ap (λ (ps : List InstructionPair). patches_from tl origin 0 (ps ++ plain w ∷ plain y ∷ turned false dest)) (value_plain v)
    ∙ plain_patches tl origin 0 (loading_words (value_loads v)) (plain w ∷ plain y ∷ turned false dest)

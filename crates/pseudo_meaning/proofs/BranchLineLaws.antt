-- A comparison and its branch: the words of the line, its one patch, and the branch's finished word. Assumes nothing.
use Rattle.std.specs.Prelude.{ℕ, zero, suc, ◌+◌, ◌*◌, ◌/◌, ◌%◌, ◌^◌, ◌<◌, ◌≤◌, ◌≡◌, refl, Bool, true, false, ◌⊎◌, eqb, length, get_or}
use Rattle.std.proofs.Common.{arith, sym, ap, ap₂, ◌∙◌, subst, inl, inr, ⊎_elim, length-append, get_or-append-add, eqb-true}
use mathlib.Core.List.Memᴰ
use mathlib.Core.List.{List, [], ◌∷◌, ◌++◌, Memᴰ}
use Rattle.std.proofs.lemmas.Bool.{eqb-false}
use Rattle.field.specs.Wrap.{wrap32}
use Rattle.jobs.specs.declared.Job.{Job}
use Rattle.jobs.specs.declared.Job.TheVariants.{Commit, Manual, Release6}
use Rattle.jobs.specs.Jobs.{by_manual}
use Rattle.record.specs.Bytes.{le32}
use Rattle.registers.specs.Numbers.{register_number}
use Rattle.regions.specs.Regions.{region_place, region_at}
use Rattle.address_label.specs.LabelBytes.{name_bytes}
use Rattle.address_label.specs.declared.AddressLabel.{AddressLabel}
use Rattle.pending.specs.declared.InstructionLabelKind.{InstructionLabelKind}
use Rattle.pending.specs.declared.InstructionLabelKind.TheVariants.{Branch}
use Rattle.pending.specs.Pendings.{pending_at}
use Rattle.patch.specs.Patches.{after, address_or}
use Rattle.patch.proofs.PatchesLaws.{manual_near}
use Rattle.pseudo_names.specs.declared.Pseudo.TheVariants.{BranchCustom}
use Rattle.operand.specs.declared.InstructionValue.{InstructionValue}
use Rattle.operand_list.specs.OperandLists.{AskedAll}
use Rattle.emit_words.specs.Words.{inputs_word}
use Rattle.emit_pairs.specs.declared.InstructionPair.{InstructionPair}
use Rattle.emit_pairs.specs.Pairs.{plain, waiting, at_number}
use Rattle.emit_pairs.specs.Values.{value_number}
use Rattle.emit_pseudo.specs.PseudoWords.{compare_word, branch_opcode}
use Rattle.emit_dispatch.specs.Wants.{pseudo_wants}
use Rattle.emit_dispatch.specs.Lines.{pseudo_pairs}
use Rattle.finished_words.specs.Listed.{In, kind_of, pc_at, destination_at, slot_at}
use Rattle.finished_words.specs.Words.{finished_word}
use Rattle.finished_words.proofs.AcceptedLaws.{dest_lt, in_range_lem, apart_in_list}
use Rattle.finished_words.proofs.FinishedLaws.{word_finished}
use Rattle.reading.proofs.ImageLaws.{part_word}
use Rattle.formats.proofs.Formats.{Format, Has, InFormats, no_words, first, immediate}
use Rattle.formats.specs.Operations.{words_of}
use Rattle.formats.proofs.EncodingFormats.{value_in}
use Rattle.emit_dispatch.specs.LineLoads.{value_loads, loading_words}
use Rattle.formats.proofs.LineFormatsLaws.{all_have}
use Rattle.formats.proofs.PseudoFormats.{compared}
use Rattle.formats.proofs.PseudoFormatsLaws.{pseudo_words}
use Rattle.routine.specs.PatchValues.{Patch, target_of, target_address, origin_at, patch_to, patches_from}
use Rattle.routine.proofs.PatchValuesLaws.{destination_is}
use Rattle.routine.specs.CallValues.{call_pairs, call_origin, call_patches}
use Rattle.pseudo_meaning.proofs.WordsThereLaws.{Words32, words_there}
use Rattle.pseudo_meaning.specs.Lines.{Emitted, LineInBuild, line_region, line_data, line_offset, line_words, line_pc, after_pc}
use Rattle.pseudo_meaning.specs.Premises.{Placed, Reached}
use Rattle.pseudo_meaning.proofs.OwnPatchesLaws.{pairs_are, formats_32, value_plain, branch_patches, OneOwn, one_own}
use Rattle.pseudo_meaning.proofs.ExitLaws.{emitted_words, patched, words_count, plain_word}

-- ---- lists that differ only in their last word

last_only : (ws : List ℕ) (w b f j : ℕ) → j < length ws + 1 → get_or (ws ++ w ∷ b ∷ []) j 0 ≡ get_or (ws ++ w ∷ f ∷ []) j 0
last_only [] w b f zero h = refl
last_only [] w b f (suc j) h = absurd (omega arith)
last_only (x ∷ ws) w b f zero h = refl
last_only (x ∷ ws) w b f (suc j) h = last_only ws w b f j (omega arith)

last_is : (ws : List ℕ) (w b : ℕ) → get_or (ws ++ w ∷ b ∷ []) (length ws + 1) 0 ≡ b
last_is ws w b = get_or-append-add ws (w ∷ b ∷ []) 1 0

record TwoWords (rest : List ℕ) (f h : Format) : Type 0 where
  pub one : ℕ
  pub two : ℕ
  pub rest_is : rest ≡ one ∷ two ∷ []
  pub has_one : Has one f
  pub has_two : Has two h

two_words : {rest : List ℕ} {f h : Format} → InFormats rest (f ∷ h ∷ []) → TwoWords rest f h
two_words (first {w = w} i (first {w = b} j no_words)) = record { one = w; two = b; rest_is = refl; has_one = i; has_two = j }

-- ---- the words of the line as it is emitted

abbrev pub branch_format : (result : Bool) → Format
branch_format result = immediate (elim result [ true ↦ 5 | false ↦ 4 ]) 1 0 0

pub record BranchLine (site : LineInBuild) (v : InstructionValue) (label : AddressLabel) (comparison branch : Format) : Type 0 where
  pub compare : ℕ
  pub jump : ℕ
  pub has_compare : Has compare comparison
  pub has_jump : Has jump branch
  pub words_are : emitted_words site ≡ loading_words (value_loads v) ++ compare ∷ jump ∷ []
  pub words_32 : Words32 (emitted_words site)
  pub count : line_words site ≡ length (loading_words (value_loads v)) + 2
  pub own_patch : call_patches site.job site.call
      ≡ patch_to (origin_at (call_origin site.call) (length (loading_words (value_loads v)) + 1)) Branch (target_of label (name_bytes site.call.token_list label)) ∷ []

pub branch_line_is : (site : LineInBuild) (greater result unsigned : Bool) (x : AskedAll (pseudo_wants (BranchCustom greater result unsigned)))
    → Emitted site.job site.call (BranchCustom greater result unsigned) x
    → BranchLine site x.1 x.2 (compared greater unsigned 1 (register_number x.0) (value_in x.1)) (branch_format result)
branch_line_is site greater result unsigned x em =
    let v = x.1 in
    let loads = loading_words (value_loads v) in
    let e : call_pairs site.job site.call ≡ pseudo_pairs site.job (BranchCustom greater result unsigned) x = pairs_are site.job site.call (BranchCustom greater result unsigned) x em in
    let t = pseudo_words site.job (BranchCustom greater result unsigned) x in
    let two = two_words t.rest_has in
    let es : emitted_words site ≡ loads ++ two.one ∷ two.two ∷ [] = ap words_of e ∙ t.words_are ∙ ap (λ (l : List ℕ). loads ++ l) two.rest_is in
    let cw : ℕ = compare_word greater unsigned at_number (register_number x.0) (value_number v) in
    let bw : ℕ = inputs_word (branch_opcode result) at_number 0 in
    record {
      compare = two.one;
      jump = two.two;
      has_compare = two.has_one;
      has_jump = two.has_two;
      words_are = es;
      words_32 = rw e (formats_32 (all_have (value_loads v) t));
      count = sym (words_count site) ∙ ap length es ∙ length-append loads (two.one ∷ two.two ∷ []);
      own_patch =
          ap (λ (l : List InstructionPair). patches_from site.call.token_list (call_origin site.call) 0 l)
          (e ∙ ap (λ (l : List InstructionPair). l ++ plain cw ∷ waiting bw Branch x.2 ∷ []) (value_plain v))
          ∙ branch_patches site.call.token_list (call_origin site.call) loads cw bw x.2;
    }

-- ---- its pending record, and its words in the finished list

module _ (site : LineInBuild) (pl : Placed site) (v : InstructionValue) (label : AddressLabel) (comparison branch : Format) (line : BranchLine site v label comparison branch) where
  abbrev loads : List ℕ
  loads = loading_words (value_loads v)

  -- the offset and the pc of the branch
  abbrev o : ℕ
  o = line_offset site + 4 * (length loads + 1)

  abbrev pub branch_pc : ℕ
  branch_pc = (line_pc site + 4 * length loads + 4) % 2 ^ 32

  mine : OneOwn site.pending site.own (patch_to (origin_at (call_origin site.call) (length loads + 1)) Branch (target_of label (name_bytes site.call.token_list label)))
  mine = one_own site.pending site.own _ (pl.stands.own_are ∙ line.own_patch)

  abbrev p : ℕ
  p = mine.place

  in_list : In site.pending p
  in_list = pl.stands.own_listed p (subst (λ (l : List ℕ). Memᴰ p l) (sym mine.own_is) (Memᴰ.head refl))

  region_is : (pending_at site.pending p).region ≡ site.call.numbers.place.region
  region_is = ap (λ (x : Patch). x.region) mine.patch_is

  offset_is : (pending_at site.pending p).offset ≡ o
  offset_is = ap (λ (x : Patch). x.offset) mine.patch_is

  kind_is : kind_of site.pending p ≡ Branch
  kind_is = ap (λ (x : Patch). x.kind) mine.patch_is

  pc_is : pc_at site.regions site.pending p ≡ branch_pc
  pc_is =
      ap₂ (λ (r x : ℕ). wrap32 ((region_at site.regions (region_place site.regions r)).address + x)) region_is offset_is
      ∙ omega arith

  slot_is : slot_at site.regions site.pending p ≡ (line_region site).start + o
  slot_is = ap₂ (λ (r x : ℕ). (region_at site.regions (region_place site.regions r)).start + x) region_is offset_is

  not_mine : (q : ℕ) → (q ≡ p → ⊥) → Memᴰ q site.own → ⊥
  not_mine q k m = k (Memᴰ.eq_of_singleton (rw mine.own_is at m))

  -- the words before the branch are as they were emitted
  pub word_kept : (j : ℕ) → j < length loads + 1 → le32 (patched site) ((line_region site).start + (line_offset site + 4 * j)) ≡ get_or (emitted_words site) j 0
  word_kept j h =
      plain_word site pl line.words_32 j (omega (arith, line.count))
      (λ q m. let e : q ≡ p = Memᴰ.eq_of_singleton (rw mine.own_is at m) in inr (rw (e, offset_is) (omega arith)))
      (λ q i. either q (eqb q p) refl)
    where
      either : (q : ℕ) (t : Bool) → eqb q p ≡ t → Memᴰ q site.own ⊎ (Memᴰ q site.own → ⊥)
      either q true e = inl (subst (λ (l : List ℕ). Memᴰ q l) (sym mine.own_is) (Memᴰ.head (eqb-true q p e)))
      either q false e = inr (not_mine q (eqb-false q p e))

  module _ (dest : ℕ) (rc : Reached site label dest) where
    dest_is : destination_at site.labels site.pending p ≡ dest
    dest_is = ap (address_or 0) (destination_is site.labels site.pending (pending_at site.pending p).label ∙ ap (λ (x : Patch). target_address site.labels x.target) mine.patch_is ∙ rc.known)

    branch_word : le32 site.regions ((line_region site).start + o) ≡ line.jump → le32 (patched site) ((line_region site).start + o) ≡ finished_word Branch branch_pc dest line.jump
    branch_word e =
        ap (le32 (patched site)) (sym slot_is)
        ∙ word_finished site.build site.labels site.entry site.regions site.pending pl.built p in_list
        (λ q m k. rw slot_is (apart_in_list site.build site.labels site.entry site.regions site.pending pl.built site.call.numbers.place.region o q pl.stands.region_listed
        (omega (arith, line.count, pl.stands.within)) m
        (λ g. ⊎_elim (λ h. inl (omega arith)) (λ h. inr (omega (arith, line.count))) (pl.stands.untouched q m (not_mine q k) g))))
        ∙ ap (λ (t : InstructionLabelKind). finished_word t (pc_at site.regions site.pending p) (destination_at site.labels site.pending p) (le32 site.regions (slot_at site.regions site.pending p))) kind_is
        ∙ ap₂ (λ (x y : ℕ). finished_word Branch x y (le32 site.regions (slot_at site.regions site.pending p))) pc_is dest_is
        ∙ ap (finished_word Branch branch_pc dest) (ap (le32 site.regions) slot_is ∙ e)

    -- The branch is near: by the premise, or because a manual build accepted it.
    pub near : (after branch_pc / 4 ≤ dest / 4 + 32768) × (dest / 4 ≤ after branch_pc / 4 + 32767)
    near = go site.build refl
      where
        behind : after_pc site ≡ after branch_pc
        behind = omega (arith, line.count)

        taken : by_manual site.build ≡ true → (after branch_pc / 4 ≤ dest / 4 + 32768) × (dest / 4 ≤ after branch_pc / 4 + 32767)
        taken b =
            manual_near site.build b branch_pc dest (rw (kind_is, pc_is, dest_is) at (in_range_lem site.build site.labels site.entry site.regions site.pending pl.built p in_list))

        go : (j : Job) → site.build ≡ j → (after branch_pc / 4 ≤ dest / 4 + 32768) × (dest / 4 ≤ after branch_pc / 4 + 32767)
        go Commit q = (rw (← behind) (rc.back q), rw (← behind) (rc.ahead q))
        go Manual q = taken (ap by_manual q)
        go Release6 q = taken (ap by_manual q)

    pub in_32 : dest < 2 ^ 32
    in_32 = rw dest_is at (dest_lt site.build site.labels site.entry site.regions site.pending pl.built p in_list)

    -- So all words of the line are as emitted, except the last, which is finished.
    pub exit_words : (j : ℕ) → j < length loads + 2
        → le32 (patched site) ((line_region site).start + (line_offset site + 4 * j)) ≡ get_or (loads ++ line.compare ∷ finished_word Branch branch_pc dest line.jump ∷ []) j 0
    exit_words j h = go (eqb j (length loads + 1)) refl
      where
        emitted : le32 site.regions ((line_region site).start + o) ≡ line.jump
        emitted =
            sym (part_word site.regions (line_region site).start (line_region site).size o (omega (arith, line.count, pl.stands.within)))
            ∙ words_there (line_data site) (line_offset site) (call_pairs site.job site.call) line.words_32 pl.stands.words_there (length loads + 1) (omega (arith, line.count))
            ∙ ap (λ (ws : List ℕ). get_or ws (length loads + 1) 0) line.words_are ∙ last_is loads line.compare line.jump

        go : (t : Bool) → eqb j (length loads + 1) ≡ t
            → le32 (patched site) ((line_region site).start + (line_offset site + 4 * j)) ≡ get_or (loads ++ line.compare ∷ finished_word Branch branch_pc dest line.jump ∷ []) j 0
        go true e =
            let i : j ≡ length loads + 1 = eqb-true j (length loads + 1) e in
            ap (λ (k : ℕ). le32 (patched site) ((line_region site).start + (line_offset site + 4 * k))) i ∙ branch_word emitted
            ∙ sym (ap (λ (k : ℕ). get_or (loads ++ line.compare ∷ finished_word Branch branch_pc dest line.jump ∷ []) k 0) i ∙ last_is loads line.compare (finished_word Branch branch_pc dest line.jump))
        go false e =
            let k : j < length loads + 1 = lower (eqb-false j (length loads + 1) e) in
            word_kept j k ∙ ap (λ (ws : List ℕ). get_or ws j 0) line.words_are ∙ last_only loads line.compare line.jump (finished_word Branch branch_pc dest line.jump) j k
          where
            lower : (j ≡ length loads + 1 → ⊥) → j < length loads + 1
            lower i = omega arith

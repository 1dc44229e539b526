-- The forms that fail P11 stop at their comparison in every run. Assumes nothing.
use Rattle.std.specs.Prelude.{ℕ, zero, suc, ◌+◌, ◌-◌, ◌*◌, ◌%◌, ◌^◌, ◌<◌, ◌≡◌, refl, Bool, true, false, List, [], ◌∷◌, ◌++◌, length, get_or, Some}
use Rattle.std.proofs.Common.{add-zero, arith, ap, ◌∙◌, length-append}
use Rattle.field.specs.Wrap.{wrap32}
use Rattle.registers.specs.Numbers.{register_number}
use Rattle.registers.specs.declared.RegisterSlot.{RegisterSlot}
use Rattle.pseudo_names.specs.declared.Pseudo.{Pseudo}
use Rattle.pseudo_names.specs.declared.Pseudo.TheVariants.{SetCustom, Seq, Sne}
use Rattle.operand.specs.declared.InstructionValue.{InstructionValue}
use Rattle.operand_list.specs.OperandLists.{AskedAll}
use Rattle.emit_dispatch.specs.Wants.{pseudo_wants}
use Rattle.emit_dispatch.specs.Lines.{pseudo_pairs}
use Rattle.reading.specs.Reading.{Image, image_of}
use Rattle.loading.specs.Run.{Registers}
use Rattle.machine.specs.Instructions.{rs, rt, rd}
use Rattle.machine.specs.Effects.{next_pc}
use Rattle.machine.specs.Step.{at, stops, step_word}
use Rattle.machine.proofs.WordStepsLaws.{setting, held, subu_step, no_sltu}
use Rattle.machine.specs.declared.Machine.{Machine}
use Rattle.machine.specs.declared.Reason.TheVariants.{Word}
use Rattle.dry_run_outcome.specs.Fetch.{fetch}
use Rattle.dry_run_outcome.specs.Run.{later, run, ran_for}
use Rattle.dry_run_outcome.proofs.StandingLaws.{Standing, next, pc_behind, behind_is, standing_right, word_goes, word_stops}
use Rattle.formats.proofs.Formats.{Format, Reads, InFormats, first, register}
use Rattle.formats.specs.Operations.{words_of}
use Rattle.formats.proofs.EncodingFormats.{value_in}
use Rattle.emit_dispatch.specs.LineLoads.{value_loads, loading_words}
use Rattle.formats.proofs.LineFormats.{LoadThen}
use Rattle.formats.proofs.PseudoFormats.{less_than, compared}
use Rattle.formats.proofs.PseudoFormatsLaws.{pseudo_words}
use Rattle.routine.specs.CallValues.{call_origin}
use Rattle.routine.specs.PatchValues.{patches_from}
use Rattle.pseudo_meaning.proofs.LineRunsLaws.{loaded_into, value_then}
use Rattle.pseudo_meaning.specs.Lines.{Emitted, LineInBuild, line_words, line_pc}
use Rattle.pseudo_meaning.specs.Premises.{Placed, Ready}
use Rattle.pseudo_meaning.specs.Meaning.{line_run}
use Rattle.pseudo_meaning.specs.Stops.{StopsAfter, load_steps, BranchStops, SetStops, SeqStops, SneStops}
use Rattle.pseudo_meaning.proofs.OwnPatchesLaws.{set_patches, equal_patches, turned_equal_patches}
use Rattle.pseudo_meaning.proofs.ExitLaws.{patched, exit_standing}
use Rattle.pseudo_meaning.proofs.StartLaws.{given, given_length, line_runs}
use Rattle.pseudo_meaning.proofs.PlainLineLaws.{plain_line, some_words}
use Rattle.pseudo_meaning.proofs.BranchLineLaws.{branch_line_is, word_kept}

compare_stops : (greater : Bool) (w d a b : ℕ) (m : Machine) → Reads w (compared greater true d a b) → step_word w m ≡ stops Word
compare_stops true w d a b m r = no_sltu w m r.opcode_is r.function_is
compare_stops false w d a b m r = no_sltu w m r.opcode_is r.function_is

head_fetched : {image : Image} {pc w : ℕ} {ws : List ℕ} → Standing image pc (w ∷ ws) → fetch image pc ≡ Some w
head_fetched (next f s) = f

tail_standing : {image : Image} {pc w : ℕ} {ws : List ℕ} → Standing image pc (w ∷ ws) → Standing image (next_pc pc) ws
tail_standing (next f s) = s

-- ---- a run that passes the loading words, and stops right behind them or one word later

-- A run of n words that stops after `steps` steps.
abbrev StopsIn : Image → (pc : ℕ) → Registers → (n steps : ℕ) → Type 0
StopsIn image pc g n steps = (h : Registers) × (run n image (at pc g) ≡ ran_for steps (at ((pc + 4 * steps) % 2 ^ 32) h) Word)

module _ (image : Image) (pc : ℕ) (hp : pc < 2 ^ 32) (g : Registers) (hg : length g ≡ 32) (v : InstructionValue) where
  abbrev loads : List ℕ
  loads = loading_words (value_loads v)

  at_comparison : (w : ℕ) (rest : List ℕ) → Standing image pc (loads ++ w ∷ rest) → ((m : Machine) → step_word w m ≡ stops Word) → (n : ℕ)
      → StopsIn image pc g (length loads + suc n) (length loads)
  at_comparison w rest s h n =
      let m = at (pc_behind loads pc) (loaded_into g v) in (
        loaded_into g v,
        value_then image pc g hg (w ∷ rest) v (suc n) s
            ∙ ap (later (length loads)) (word_stops image w m (head_fetched (standing_right loads (w ∷ rest) s)) n Word (h m))
            ∙ ap (λ (k : ℕ). ran_for k m Word) (add-zero (length loads))
            ∙ ap (λ (p : ℕ). ran_for (length loads) (at p (loaded_into g v)) Word) (behind_is loads pc hp),
      )

  -- The run stops behind subu.
  behind_difference : (d a w y : ℕ) (rest : List ℕ) → Standing image pc (loads ++ w ∷ y ∷ rest) → Reads w (register 0 a (value_in v) d 0 35) → Reads y (less_than true d 0 d) → (n : ℕ)
      → StopsIn image pc g (length loads + suc (suc n)) (length loads + 1)
  behind_difference d a w y rest s rw₁ ry n =
      let m = at (pc_behind loads pc) (loaded_into g v) in
      let m' = setting m (rd w) (wrap32 (held m (rs w) + 2 ^ 32 - held m (rt w))) in
      let s' = standing_right loads (w ∷ y ∷ rest) s in
      let p : next_pc (pc_behind loads pc) ≡ (pc + 4 * (length loads + 1)) % 2 ^ 32 = omega (arith, behind_is loads pc hp) in (
        m'.registers,
        value_then image pc g hg (w ∷ y ∷ rest) v (suc (suc n)) s
            ∙ ap (later (length loads)) (word_goes image w m (head_fetched s') (suc n) m' (subu_step w m rw₁.opcode_is rw₁.function_is rw₁.sa_is)
            ∙ ap (later 1) (word_stops image y m' (head_fetched (tail_standing s')) n Word (no_sltu y m' ry.opcode_is ry.function_is)))
            ∙ ap (λ (q : ℕ). ran_for (length loads + 1) (at q m'.registers) Word) p,
      )

  compared_rest : (greater : Bool) (d a : ℕ) {rest : List ℕ} {fs : List Format} → InFormats rest (compared greater true d a (value_in v) ∷ fs) → Standing image pc (loads ++ rest)
      → StopsIn image pc g (length (loads ++ rest)) (length loads)
  compared_rest greater d a (first {w = w} {ws = ws} h i) s =
      rw (length-append loads (w ∷ ws)) (at_comparison w ws s (λ m. compare_stops greater w d a (value_in v) m h.reads) (length ws))

  equal_rest : (d a : ℕ) {rest : List ℕ} {fs : List Format} → InFormats rest (register 0 a (value_in v) d 0 35 ∷ less_than true d 0 d ∷ fs) → Standing image pc (loads ++ rest)
      → StopsIn image pc g (length (loads ++ rest)) (length loads + 1)
  equal_rest d a (first {w = w} i (first {w = y} {ws = ws} j k)) s =
      rw (length-append loads (w ∷ y ∷ ws)) (behind_difference d a w y ws s i.reads j.reads (length ws))

-- ---- the whole line

module _ (site : LineInBuild) where
  -- If a run of the words stops, the whole dry run stops.
  stopped : (pl : Placed site) (m : Machine) (rd : Ready (line_pc site) m) (ws : List ℕ) (steps : ℕ) → 0 < length ws → Standing (image_of (patched site)) (line_pc site) ws
      → StopsIn (image_of (patched site)) (line_pc site) (given m rd.all_32) (line_words site) steps → StopsAfter steps (line_pc site) (line_run site m)
  stopped pl m rd ws steps h s r = rw (line_runs site pl m rd ws h s, r.1) record { answer_is = refl; pc_is = refl }

  pub set_stops : (greater result : Bool) → SetStops site greater result
  set_stops greater result x m em pl rd =
      let v = x.2 in
      let p = SetCustom greater result true in
      let t = plain_line site pl p x (value_loads v) em (pseudo_words site.job p x) (set_patches site.call.token_list (call_origin site.call) v _ result x.0) in
      stopped pl m rd (loading_words (value_loads v) ++ t.rest) (load_steps v) (some_words (loading_words (value_loads v)) t.rest_has) t.standing
      (rw t.count at (compared_rest (image_of (patched site)) (line_pc site) (omega arith) (given m rd.all_32) (given_length m rd.all_32) v greater (register_number x.0) (register_number x.1) t.rest_has t.standing))

  -- The words before the last one.
  first_part : (ws : List ℕ) (w b j : ℕ) → j < length ws + 1 → get_or (ws ++ w ∷ b ∷ []) j 0 ≡ get_or (ws ++ w ∷ []) j 0
  first_part [] w b zero h = refl
  first_part [] w b (suc j) h = absurd (omega arith)
  first_part (x ∷ ws) w b zero h = refl
  first_part (x ∷ ws) w b (suc j) h = first_part ws w b j (omega arith)

  pub branch_stops : (greater result : Bool) → BranchStops site greater result
  branch_stops greater result x m em pl rd =
      let v = x.1 in
      let loads = loading_words (value_loads v) in
      let line = branch_line_is site greater result true x em in
      let ws = loads ++ line.compare ∷ [] in
      let l : length ws ≡ length loads + 1 = length-append loads (line.compare ∷ []) in
      let s : Standing (image_of (patched site)) (line_pc site) ws =
      exit_standing site pl ws (omega (arith, l, line.count))
      (λ j h. word_kept site pl v x.2 _ _ line j (omega (arith, l)) ∙ ap (λ (k : List ℕ). get_or k j 0) line.words_are ∙ first_part loads line.compare line.jump j (omega (arith, l))) in
      stopped pl m rd ws (load_steps v) (omega (arith, l)) s
      (rw line.count (at_comparison (image_of (patched site)) (line_pc site) (omega arith) (given m rd.all_32) (given_length m rd.all_32) v line.compare [] s
      (λ k. compare_stops greater line.compare 1 (register_number x.0) (value_in v) k line.has_compare.reads) 1))

  -- seq or sne, with the operands d, a and v
  equal_stops : (p : Pseudo) (x : AskedAll (pseudo_wants p)) (d a : RegisterSlot) (v : InstructionValue) (fs : List Format)
      → LoadThen (value_loads v) (register 0 (register_number a) (value_in v) (register_number d) 0 35 ∷ less_than true (register_number d) 0 (register_number d) ∷ fs) (words_of (pseudo_pairs site.job p x))
      → patches_from site.call.token_list (call_origin site.call) 0 (pseudo_pairs site.job p x) ≡ []
      → (m : Machine) → Emitted site.job site.call p x → Placed site → Ready (line_pc site) m → StopsAfter (load_steps v + 1) (line_pc site) (line_run site m)
  equal_stops p x d a v fs lt ps m em pl rd =
      let t = plain_line site pl p x (value_loads v) em lt ps in
      stopped pl m rd (loading_words (value_loads v) ++ t.rest) (load_steps v + 1) (some_words (loading_words (value_loads v)) t.rest_has) t.standing
      (rw t.count at (equal_rest (image_of (patched site)) (line_pc site) (omega arith) (given m rd.all_32) (given_length m rd.all_32) v (register_number d) (register_number a) t.rest_has t.standing))

  pub seq_stops : SeqStops site
  seq_stops x = equal_stops Seq x x.0 x.1 x.2 _ (pseudo_words site.job Seq x) (turned_equal_patches site.call.token_list (call_origin site.call) x.2 _ _ x.0)

  pub sne_stops : SneStops site
  sne_stops x = equal_stops Sne x x.0 x.1 x.2 _ (pseudo_words site.job Sne x) (equal_patches site.call.token_list (call_origin site.call) x.2 _ _)

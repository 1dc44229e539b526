-- Where the words and the patches of a routine's line stand in what the routine leaves. Assumes nothing.
use Rattle.std.specs.Prelude.{ℕ, ◌+◌, ◌*◌, ◌<◌, ◌≤◌, ◌≡◌, refl, Bool, cond, ◌⊎◌, length, drop}
use Rattle.std.proofs.Common.{arith, sym, ◌∙◌, subst, inl, inr, length-take, length-append, take_all, eq-eqb}
use Rattle.std.proofs.Math.Path.{ap}
use mathlib.Core.List.Memᴰ
use mathlib.Core.List.{List, [], ◌∷◌, ◌++◌, map, Memᴰ}
use Rattle.jobs.specs.declared.Job.{Job}
use Rattle.record.specs.Bytes.{part}
use Rattle.record.specs.Records.{places}
use Rattle.record.proofs.BehindLaws.{part_before, part_behind}
use Rattle.labels.specs.Labels.{Table}
use Rattle.regions.specs.Regions.{region_count, region_place, region_at}
use Rattle.pending.specs.Pendings.{pending_at}
use Rattle.breakpoints.proofs.BreakpointsLaws.{data_good}
use Rattle.emit_bytes.specs.Appended.{word_bytes}
use Rattle.emit_bytes.proofs.AppendedLaws.{words_length}
use Rattle.emit_outcome.specs.Call.{Call}
use Rattle.routine.specs.PatchValues.{Patch, patch_at, patches_in}
use Rattle.routine.specs.CallValues.{call_pairs, call_patches}
use Rattle.routine.specs.Run.{filled, Buffers, RoutineLine, call_on, after_line, run, AllAccepted, next, Each, OfBytes, AllEmpty, routine_words, routine_patches, Inside}
use Rattle.routine.proofs.InsideLaws.{each_mem}
use Rattle.routine.proofs.RoutineLaws.{empty_sound, no_patches, RunFits, run_fits}
use Rattle.routine.proofs.LineFits.{line_fits}
use Rattle.routine.proofs.ChainsLaws.{From}
use Rattle.routine.proofs.RunChainLaws.{lengths_of, line_appends, run_chained}
use Rattle.pseudo_meaning.specs.Lines.{Stands}
use Rattle.pseudo_meaning.specs.RoutineLines.{filled_region, in_build}

-- ---- a mapped list that was joined from two

record Split {A : Type 0} (f : ℕ → A) (xs : List ℕ) (us vs : List A) : Type 0 where
  left : List ℕ
  right : List ℕ
  joined : xs ≡ left ++ right
  left_is : map f left ≡ us
  right_is : map f right ≡ vs

split : {A : Type 0} (f : ℕ → A) (xs : List ℕ) (us vs : List A) → map f xs ≡ us ++ vs → Split f xs us vs
split f xs [] vs e = record { left = []; right = xs; joined = refl; left_is = refl; right_is = e }
split f [] (u ∷ us) vs e = let z : ◌≡◌ {A = ℕ} 0 1 = cc in absurd (omega arith)
split f (x ∷ xs) (u ∷ us) vs e =
    let s = split f xs us vs cc in
    record { left = x ∷ s.left; right = s.right; joined = ap (λ (l : List ℕ). x ∷ l) s.joined; left_is = cc s.left_is; right_is = s.right_is }

-- lines before, the line, and lines after it, on empty buffers
module _ (before after : List RoutineLine) (l : RoutineLine) (start : Buffers) (empty : AllEmpty start) (bytes_before : Each OfBytes before) (bytes_then : Each OfBytes (l ∷ after))
    (accepted_before : AllAccepted before start) (accepted_then : AllAccepted (l ∷ after) (run before start)) where
  abbrev b₁ : Buffers
  b₁ = run before start

  abbrev c : Call
  c = call_on l b₁

  abbrev b₃ : Buffers
  b₃ = run (l ∷ after) b₁

  abbrev r : ℕ
  r = l.place.region

  abbrev line_fill : ℕ
  line_fill = c.numbers.counts.data_len

  abbrev line_count : ℕ
  line_count = length (call_pairs l.job c)

  abbrev pending : List ℕ
  pending = filled b₃.pending

  first_fits : RunFits before start
  first_fits = run_fits before start bytes_before accepted_before (empty_sound start empty)

  then_fits : RunFits (l ∷ after) b₁
  then_fits = run_fits (l ∷ after) b₁ bytes_then accepted_then first_fits.sound

  -- The patches of the lines before, of the line, and of the lines after.
  abbrev earlier : List Patch
  earlier = patches_in (filled b₁.pending)

  abbrev later : List Patch
  later = routine_patches after (after_line l b₁)

  all_patches : map (patch_at pending) (places pending) ≡ earlier ++ (call_patches l.job c ++ later)
  unfolding patches_in routine_patches
  all_patches = then_fits.patches_are

  earlier_end : Each (Inside b₁) earlier
  earlier_end = rw (first_fits.patches_are, no_patches start.pending empty.pending_empty) first_fits.inside

  later_begin : Each (From (lengths_of (after_line l b₁))) later
  later_begin = go accepted_then
    where
      go : AllAccepted (l ∷ after) b₁ → Each (From (lengths_of (after_line l b₁))) later
      go (next position loaded e a) = (run_chained after (after_line l b₁) bytes_then.1 a).from

  line_end : ((after_line l b₁).region_data r).fill ≡ line_fill + 4 * line_count
  line_end = go accepted_then
    where
      go : AllAccepted (l ∷ after) b₁ → ((after_line l b₁).region_data r).fill ≡ line_fill + 4 * line_count
      go (next position loaded e a) = (line_appends l b₁ (line_fits l.job c position loaded bytes_then.0.0 bytes_then.0.1 e)).ends

  -- The data of the lines before, the line's words, and the words of the lines after.
  all_words : filled (b₃.region_data r) ≡ filled (b₁.region_data r) ++ (word_bytes (call_pairs l.job c) ++ routine_words r after (after_line l b₁))
  unfolding routine_words
  all_words = then_fits.words_are r ∙ ap (λ (t : Bool). filled (b₁.region_data r) ++ (cond t (word_bytes (call_pairs l.job c)) [] ++ routine_words r after (after_line l b₁))) (eq-eqb r r refl)

  filled_length : length (filled (b₁.region_data r)) ≡ line_fill
  filled_length =
      let within : line_fill ≤ length (b₁.region_data r).bytes = (data_good (line_fill) (b₁.region_data r).bytes 0 (first_fits.sound.data_good r 0 refl)).2 in
      length-take (line_fill) (b₁.region_data r).bytes ∙ omega arith

  abbrev words : List ℕ
  words = word_bytes (call_pairs l.job c)

  abbrev rest : List ℕ
  rest = routine_words r after (after_line l b₁)

  places_split : Split (patch_at pending) (places pending) earlier (call_patches l.job c ++ later)
  places_split = split (patch_at pending) (places pending) earlier (call_patches l.job c ++ later) all_patches

  own_split : Split (patch_at pending) places_split.right (call_patches l.job c) later
  own_split = split (patch_at pending) places_split.right (call_patches l.job c) later places_split.right_is

  -- the places of the line's own patches
  abbrev own_places : List ℕ
  own_places = own_split.left

  placed_as : places pending ≡ places_split.left ++ (own_places ++ own_split.right)
  placed_as = places_split.joined ∙ ap (λ (ps : List ℕ). places_split.left ++ ps) own_split.joined

  abbrev Apart : ℕ → Type 0
  Apart q = ((pending_at pending q).offset + 4 ≤ line_fill) ⊎ (line_fill + 4 * line_count ≤ (pending_at pending q).offset)

  by_place : (q : ℕ) → (Memᴰ q own_places → ⊥) → (pending_at pending q).region ≡ r → Memᴰ q places_split.left ⊎ Memᴰ q (own_places ++ own_split.right) → Apart q
  by_place q n g (inl m) =
      let h : Inside b₁ (patch_at pending q) = each_mem (Inside b₁) (patch_at pending) places_split.left q (subst (Each (Inside b₁)) (sym places_split.left_is) earlier_end) m in
      inl (omega (arith, h, ap (λ (x : ℕ). (b₁.region_data x).fill) g))
  by_place q n g (inr m) = go (Memᴰ.append_cases own_places m)
    where
      go : Memᴰ q own_places ⊎ Memᴰ q own_split.right → Apart q
      go (inl k) = absurd (n k)
      go (inr k) =
          let h : From (lengths_of (after_line l b₁)) (patch_at pending q) =
          each_mem (From (lengths_of (after_line l b₁))) (patch_at pending) own_split.right q (subst (Each (From (lengths_of (after_line l b₁)))) (sym own_split.right_is) later_begin) k in
          inr (omega (arith, h, line_end, ap (λ (x : ℕ). ((after_line l b₁).region_data x).fill) g))

  pub stands : (build : Job) (labels : Table) (entry regions : List ℕ) → r < region_count regions → filled_region regions r ≡ filled (b₃.region_data r)
      → (own : List ℕ) × Stands (in_build l b₁ b₃ build labels entry regions own)
  stands build labels entry regions h e =
      let n = words_length (call_pairs l.job c) in
      let all : filled_region regions r ≡ filled (b₁.region_data r) ++ (words ++ rest) = e ∙ all_words in
      let long : length (filled_region regions r) ≡ length (filled (b₁.region_data r)) + (length words + length rest) = ap length all ∙ simp length-append in (
        own_places,
        record {
          region_listed = h;
          within = omega (arith, long, n, filled_length, length-take (region_at regions (region_place regions r)).size (drop (region_at regions (region_place regions r)).start regions));
          words_there =
              ap (λ (s : List ℕ). part s line_fill (4 * line_count)) all
              ∙ part_behind (filled (b₁.region_data r)) (words ++ rest) 0 line_fill (4 * line_count) (omega (arith, filled_length))
              ∙ part_before words rest 0 (4 * line_count) (omega (arith, n))
              ∙ take_all (4 * line_count) words (omega (arith, n));
          own_listed = λ p m. subst (Memᴰ p) (sym placed_as) (Memᴰ.append_right places_split.left (Memᴰ.append_left own_split.right m));
          own_are = own_split.left_is;
          untouched = λ q m k g. by_place q k g (Memᴰ.append_cases places_split.left (subst (Memᴰ q) placed_as m));
        },
      )

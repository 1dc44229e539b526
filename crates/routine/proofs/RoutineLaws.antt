-- Laws of a routine: one line leaves buffers that keep their layouts, and so does one line after the other. Assumes nothing.
use Rattle.std.specs.Prelude.{ℕ, ◌≤◌, ◌<◌, ◌≡◌, refl, List, [], ◌∷◌, ◌++◌, Bool, true, false, cond, length, take, eqb, None}
use Rattle.std.proofs.Common.{arith, sym, subst, ◌∙◌, append_assoc, append-nil, eqb-true}
use Rattle.std.proofs.Math.Path.{ap}
use Rattle.record.specs.Records.{places_f, places_from, places, first_bad}
use Rattle.pending.specs.Pendings.{pending_ok, pending_layout}
use Rattle.breakpoints.specs.Breakpoints.{breakpoint_ok, region_number_ok, data_buffer_layout, pending_buffer_layout, breakpoint_buffer_layout}
use Rattle.emit_bytes.specs.Appended.{word_bytes}
use Rattle.emit_outcome.specs.Emit.{emit_outcome}
use Rattle.routine.specs.PatchValues.{Patch, patches_in}
use Rattle.routine.specs.BreakpointValues.{Breakpoint, breakpoints_in}
use Rattle.routine.specs.CallValues.{call_pairs, call_patches, call_breakpoint}
use Rattle.routine.specs.Run.{Buffer, filled, Buffers, RoutineLine, call_on, selected_after, after_line, run, AllAccepted, next, Each, OfBytes, Empty, AllEmpty, words_in, routine_words, routine_patches, routine_breakpoints, Inside}
use Rattle.routine.proofs.FilledLaws.{data_passes, pending_passes, breakpoints_pass, build_passes}
use Rattle.routine.proofs.LineFits.{LineFits, line_fits}
use Rattle.routine.proofs.RunChainLaws.{run_chained}

-- buffers that keep their layouts
pub record Sound (b : Buffers) : Type 0 where
  pub data_good : (r region : ℕ) → region_number_ok region ≡ true → data_buffer_layout region (b.region_data r).fill (b.region_data r).bytes ≡ None
  pub pending_good : pending_buffer_layout b.pending.fill b.pending.bytes ≡ None
  pub breakpoints_good : breakpoint_buffer_layout b.breakpoints.fill b.breakpoints.bytes ≡ None

abbrev Taken : ℕ → Buffers → Type 0
Taken regions b = pending_layout regions (filled b.pending) ≡ None

-- What holds for both buffers holds for the one that a test picks.
one_of : (P : Buffer → Type 0) {x y : Buffer} (t : Bool) → P x → P y → P (cond t x y)
one_of P true p q = p
one_of P false p q = q

pub after_sound : (l : RoutineLine) (b : Buffers) → Sound b → LineFits l.job (call_on l b) (emit_outcome l.job (call_on l b)) → Sound (after_line l b)
after_sound l b s f = record {
  data_good = λ r region e.
      one_of (λ (d : Buffer). data_buffer_layout region d.fill d.bytes ≡ None) (eqb r l.place.region) (f.data_good region e) (s.data_good r region e);
  pending_good = f.pending_good;
  breakpoints_good = f.breakpoints_good;
}

-- The region's data: what it held, and then the line's words.
after_words : (l : RoutineLine) (b : Buffers) → LineFits l.job (call_on l b) (emit_outcome l.job (call_on l b)) → (region : ℕ)
    → filled ((after_line l b).region_data region) ≡ filled (b.region_data region) ++ words_in region l b
after_words l b f region = go (eqb region l.place.region) refl
  where
    words : List ℕ
    words = word_bytes (call_pairs l.job (call_on l b))

    go : (t : Bool) → eqb region l.place.region ≡ t → filled (cond t (selected_after l b) (b.region_data region)) ≡ filled (b.region_data region) ++ cond t words []
    go true e = f.words_are ∙ ap (λ (r : ℕ). filled (b.region_data r) ++ words) (sym (eqb-true region l.place.region e))
    go false e = sym (append-nil (filled (b.region_data region)))

-- Nothing of an empty buffer is filled.
pub empty_filled : (b : Buffer) → Empty b → filled b ≡ []
empty_filled b e = ap (λ (n : ℕ). take n b.bytes) e.none_filled

none_bad : (ok : ℕ → Bool) → first_bad ok (places []) ≡ None
unfolding places places_from places_f first_bad
none_bad ok = refl

module _ (b : Buffer) (e : Empty b) where
  filled_within : b.fill ≤ length b.bytes
  filled_within = omega (arith, e.none_filled)

  pub empty_data : (region : ℕ) → region_number_ok region ≡ true → data_buffer_layout region b.fill b.bytes ≡ None
  empty_data region h = data_passes b.fill b.bytes e.within filled_within region h

  pub empty_pending : pending_buffer_layout b.fill b.bytes ≡ None
  empty_pending =
      pending_passes b.fill b.bytes e.within filled_within
      (subst (λ (s : List ℕ). first_bad (pending_ok 16 s) (places s) ≡ None) (sym (empty_filled b e)) (none_bad (pending_ok 16 [])))

  pub empty_taken : (regions : ℕ) → pending_layout regions (filled b) ≡ None
  empty_taken regions =
      build_passes b.fill b.bytes e.within filled_within regions
      (subst (λ (s : List ℕ). first_bad (pending_ok regions s) (places s) ≡ None) (sym (empty_filled b e)) (none_bad (pending_ok regions [])))

  pub empty_breakpoints : breakpoint_buffer_layout b.fill b.bytes ≡ None
  empty_breakpoints =
      breakpoints_pass b.fill b.bytes e.within filled_within
      (subst (λ (s : List ℕ). first_bad (breakpoint_ok s) (places s) ≡ None) (sym (empty_filled b e)) (none_bad (breakpoint_ok [])))

  -- An empty buffer holds no record.
  pub no_patches : patches_in (filled b) ≡ []
  unfolding patches_in places places_from places_f
  no_patches = ap patches_in (empty_filled b e)

  pub no_breakpoints : breakpoints_in (filled b) ≡ []
  unfolding breakpoints_in places places_from places_f
  no_breakpoints = ap breakpoints_in (empty_filled b e)

pub empty_sound : (b : Buffers) → AllEmpty b → Sound b
empty_sound b e = record {
  data_good = λ r. empty_data (b.region_data r) (e.data_empty r);
  pending_good = empty_pending b.pending e.pending_empty;
  breakpoints_good = empty_breakpoints b.breakpoints e.breakpoints_empty;
}

-- ---- the lines one after the other

pub record RunFits (lines : List RoutineLine) (b : Buffers) : Type 0 where
  pub sound : Sound (run lines b)
  pub selected : Each (λ l. l.place.region < 16) lines
  pub taken : (regions : ℕ) → Each (λ l. l.place.region < regions) lines → Taken regions b → Taken regions (run lines b)
  pub words_are : (region : ℕ) → filled ((run lines b).region_data region) ≡ filled (b.region_data region) ++ routine_words region lines b
  pub patches_are : patches_in (filled (run lines b).pending) ≡ patches_in (filled b.pending) ++ routine_patches lines b
  pub breakpoints_are : breakpoints_in (filled (run lines b).breakpoints) ≡ breakpoints_in (filled b.breakpoints) ++ routine_breakpoints lines b
  pub inside : Each (Inside (run lines b)) (routine_patches lines b)

pub run_fits : (lines : List RoutineLine) (b : Buffers) → Each OfBytes lines → AllAccepted lines b → Sound b → RunFits lines b
unfolding run routine_words routine_patches routine_breakpoints
run_fits [] b bytes a s = record {
  sound = s;
  selected = tt;
  taken = λ regions e t. t;
  words_are = λ region. sym (append-nil (filled (b.region_data region)));
  patches_are = sym (append-nil (patches_in (filled b.pending)));
  breakpoints_are = sym (append-nil (breakpoints_in (filled b.breakpoints)));
  inside = tt;
}
run_fits (l ∷ ls) b bytes (next position loaded e a) s =
    let c = call_on l b in
    let f = line_fits l.job c position loaded bytes.0.0 bytes.0.1 e in
    let r = run_fits ls (after_line l b) bytes.1 a (after_sound l b s f) in
    record {
      sound = r.sound;
      selected = (f.region_below, r.selected);
      taken = λ regions h t. r.taken regions h.1 (f.build_takes regions h.0 t);
      words_are = λ region.
          r.words_are region ∙ ap (λ (bs : List ℕ). bs ++ routine_words region ls (after_line l b)) (after_words l b f region)
          ∙ append_assoc (filled (b.region_data region)) (words_in region l b) (routine_words region ls (after_line l b));
      patches_are =
          r.patches_are ∙ ap (λ (ps : List Patch). ps ++ routine_patches ls (after_line l b)) f.patches_are
          ∙ append_assoc (patches_in (filled b.pending)) (call_patches l.job c) (routine_patches ls (after_line l b));
      breakpoints_are =
          r.breakpoints_are ∙ ap (λ (xs : List Breakpoint). xs ++ routine_breakpoints ls (after_line l b)) f.breakpoints_are
          ∙ append_assoc (breakpoints_in (filled b.breakpoints)) (call_breakpoint l.job c ∷ []) (routine_breakpoints ls (after_line l b));
      inside = (run_chained (l ∷ ls) b bytes (next position loaded e a)).within;
    }

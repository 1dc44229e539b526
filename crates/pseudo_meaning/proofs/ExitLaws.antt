-- The words of a line in the image of an accepted build. Assumes nothing.
use Rattle.std.specs.Prelude.{ℕ, ◌+◌, ◌*◌, ◌^◌, ◌<◌, ◌≤◌, ◌⊎◌, ◌≡◌, length, get_or}
use Rattle.std.proofs.Common.{arith, inl, inr, ⊎_elim, sym, ◌∙◌, subst}
use mathlib.Core.List.Memᴰ
use mathlib.Core.List.{List, [], Memᴰ}
use Rattle.std.proofs.lemmas.List.{length-map}
use Rattle.field.specs.Wrap.{wrap32}
use Rattle.record.specs.Bytes.{le32}
use Rattle.regions.specs.Regions.{region_place}
use Rattle.pending.specs.Pendings.{pending_at}
use Rattle.build_outcome.proofs.KeptLaws.{Kept}
use Rattle.build_outcome.specs.Build.{patched_regions}
use Rattle.build_outcome.proofs.BuildLaws.{outcome_accepted}
use Rattle.finished_words.specs.Listed.{In}
use Rattle.finished_words.proofs.ListedLaws.{le32_fits, body_fits}
use Rattle.finished_words.proofs.AcceptedLaws.{apart_in_list, finished_kept}
use Rattle.finished_words.proofs.FinishedLaws.{word_same}
use Rattle.reading.specs.Reading.{image_of, region_in}
use Rattle.reading.proofs.ImageLaws.{part_word, image_listed, image_address, image_size, image_word}
use Rattle.formats.specs.Operations.{words_of}
use Rattle.routine.specs.CallValues.{call_pairs, call_patches}
use Rattle.dry_run_outcome.proofs.StandingLaws.{Standing}
use Rattle.pseudo_meaning.specs.Overlap.{Alone}
use Rattle.pseudo_meaning.proofs.FetchLaws.{standing_words}
use Rattle.pseudo_meaning.proofs.WordsThereLaws.{Words32, words_there}
use Rattle.pseudo_meaning.specs.Lines.{LineInBuild, line_region, line_data, line_offset, line_words, line_pc}
use Rattle.pseudo_meaning.specs.Premises.{Placed, finished_regions}
use Rattle.pseudo_meaning.proofs.OwnPatchesLaws.{no_own}

-- the words that the call appended
abbrev pub emitted_words : LineInBuild → List ℕ
emitted_words site = words_of (call_pairs site.job site.call)

-- the region list with all patches written
abbrev pub patched : LineInBuild → List ℕ
patched site = patched_regions site.labels site.regions site.pending

pub words_count : (site : LineInBuild) → length (emitted_words site) ≡ line_words site
words_count site = simp length-map

module _ (site : LineInBuild) (pl : Placed site) where
  abbrev r : ℕ
  r = site.call.numbers.place.region

  pub is_finished : finished_regions site ≡ patched site
  is_finished = (outcome_accepted site.build site.labels site.entry site.regions site.pending pl.built).1

  pub kept : Kept site.regions (patched site)
  kept = finished_kept site.build site.labels site.entry site.regions site.pending pl.built

  -- Words read from the finished list at the line's place also stand in the image, from the line's pc on.
  pub exit_standing : (ws : List ℕ) → length ws ≤ line_words site
      → ((j : ℕ) → j < length ws → le32 (patched site) ((line_region site).start + (line_offset site + 4 * j)) ≡ get_or ws j 0)
      → Standing (image_of (patched site)) (line_pc site) ws
  exit_standing ws n f =
      let d = patched site in
      let s = pl.stands in
      let l = s.region_listed in
      let a : (region_in (image_of d) r).address ≡ (line_region site).address = image_address site.regions d kept r l in
      let z : length (region_in (image_of d) r).bytes ≡ (line_region site).size = image_size site.regions d kept r l in
      let al : (region_in (image_of d) r).address < 2 ^ 32 = rw a (le32_fits site.regions pl.of_bytes (region_place site.regions r + 4)) in
      let zl : length (region_in (image_of d) r).bytes ≤ 2 ^ 32 = rw z (omega (arith, body_fits site.regions pl.of_bytes (region_place site.regions r))) in
      let alone = subst (λ (g : List ℕ). Alone (image_of g) r) is_finished pl.alone in
      subst (λ (x : ℕ). Standing (image_of d) (wrap32 (x + line_offset site)) ws) a
      (standing_words (image_of d) r (image_listed site.regions d kept r l) al zl alone ws (line_offset site) (omega (arith, z, n, s.within))
      (λ j k. image_word site.regions d kept r l (line_offset site + 4 * j) (omega (arith, n, s.within)) ∙ f j k))

  -- A word that none of the line's own patches touches is as it was emitted.
  pub plain_word : Words32 (emitted_words site) → (j : ℕ) → j < line_words site
      → ((q : ℕ) → Memᴰ q site.own → ((pending_at site.pending q).offset + 4 ≤ line_offset site + 4 * j) ⊎ (line_offset site + 4 * j + 4 ≤ (pending_at site.pending q).offset))
      → (or_other : (q : ℕ) → In site.pending q → Memᴰ q site.own ⊎ (Memᴰ q site.own → ⊥))
      → le32 (patched site) ((line_region site).start + (line_offset site + 4 * j)) ≡ get_or (emitted_words site) j 0
  plain_word w j h away or_other =
      let s = pl.stands in
      word_same site.build site.labels site.entry site.regions site.pending pl.built ((line_region site).start + (line_offset site + 4 * j))
      (λ q m. apart_in_list site.build site.labels site.entry site.regions site.pending pl.built r (line_offset site + 4 * j) q s.region_listed (omega (arith, s.within)) m
      (λ g. ⊎_elim (λ t. away q t) (λ t. ⊎_elim (λ k. inl (omega arith)) (λ k. inr (omega arith)) (s.untouched q m t g)) (or_other q m)))
      ∙ sym (part_word site.regions (line_region site).start (line_region site).size (line_offset site + 4 * j) (omega (arith, s.within)))
      ∙ words_there (line_data site) (line_offset site) (call_pairs site.job site.call) w s.words_there j h

  -- A line without patches of its own stands in the image as it was emitted.
  pub plain_standing : call_patches site.job site.call ≡ [] → Words32 (emitted_words site) → Standing (image_of (patched site)) (line_pc site) (emitted_words site)
  plain_standing ps w =
      let none_own : site.own ≡ [] = no_own site.pending site.own (pl.stands.own_are ∙ ps) in
      let out : (q : ℕ) → Memᴰ q site.own → ⊥ = λ q y. Memᴰ.not-nil (rw none_own at y) in
      let ln = words_count site in
      exit_standing (emitted_words site) (omega arith) (λ j h. plain_word w j (omega arith) (λ q y. absurd (out q y)) (λ q i. inr (out q)))

-- What the patches of an accepted build leave: each byte outside every patch, and the word of each patch that overlaps no other. Assumes nothing.
use Rattle.std.specs.Prelude.{ℕ, ◌+◌, ◌<◌, ◌≤◌, ◌⊎◌, Bool, true, false, ◌≡◌, eqb, Ok}
use Rattle.std.proofs.Common.{arith, inl, inr, ⊎_elim, ap, ap₂, ◌∙◌, eqb-true}
use mathlib.Core.List.{List, [], ◌∷◌, map, Memᴰ}
use Rattle.std.proofs.Math.Path.{refl}
use Rattle.std.proofs.lemmas.Bool.{eqb-false}
use Rattle.jobs.specs.declared.Job.{Job}
use Rattle.record.specs.Bytes.{byte_at, le32}
use Rattle.record.specs.Records.{places}
use Rattle.labels.specs.Labels.{Table}
use Rattle.patch.specs.Patches.{write_pending}
use Rattle.patch.proofs.WordLaws.{byte_out, read_same, read_other}
use Rattle.build_outcome.proofs.KeptLaws.{Kept}
use Rattle.build_outcome.specs.Build.{build_verdict, patched_regions}
use Rattle.finished_words.specs.Listed.{In, kind_of, pc_at, destination_at, slot_at, Apart, OutsidePatches}
use Rattle.finished_words.specs.Words.{finished_word, finished_at, words_in, finished_words}
use Rattle.finished_words.proofs.WordsLaws.{finished_is, finished_again}
use Rattle.finished_words.proofs.AcceptedLaws.{written, dest_lt, has_room, slots_apart, at_exit, from_turn}

-- two functions that agree on a list's elements
pub map_same : {A : Type 0} {f g : ℕ → A} (ps : List ℕ) → ((p : ℕ) → Memᴰ p ps → f p ≡ g p) → map f ps ≡ map g ps
map_same [] h = refl
map_same {A} (p ∷ ps) h = ap₂ (λ (x : A) (xs : List A). x ∷ xs) (h p (Memᴰ.head refl)) (map_same ps (λ q m. h q (Memᴰ.tail m)))

module _ (job : Job) (labels : Table) (entry regions pending : List ℕ) (pass : build_verdict job labels entry regions pending ≡ Ok tt) where
  pub bytes_same : (i : ℕ) → OutsidePatches regions pending i → byte_at (patched_regions labels regions pending) i ≡ byte_at regions i
  unfolding write_pending
  bytes_same i out =
      at_exit job labels entry regions pending pass (λ (d : List ℕ). byte_at d i ≡ byte_at regions i)
      (λ q d m k h. byte_out d (slot_at regions pending q) _ (has_room job labels entry regions pending pass q d m k) i (out q m) ∙ h) refl

  -- a word that no patch touches is as at entry
  pub word_same : (i : ℕ) → ((q : ℕ) → In pending q → (slot_at regions pending q + 4 ≤ i) ⊎ (i + 4 ≤ slot_at regions pending q))
      → le32 (patched_regions labels regions pending) i ≡ le32 regions i
  word_same i out =
      let b : (j : ℕ) → j < 4 → byte_at (patched_regions labels regions pending) (i + j) ≡ byte_at regions (i + j) =
      λ j h. bytes_same (i + j) (λ q m. ⊎_elim (λ k. inr (omega arith)) (λ k. inl (omega arith)) (out q m)) in
      let b₀ : byte_at (patched_regions labels regions pending) i ≡ byte_at regions i = bytes_same i (λ q m. ⊎_elim (λ k. inr (omega arith)) (λ k. inl (omega arith)) (out q m)) in
      omega (arith, b₀, b 1 (omega arith), b 2 (omega arith), b 3 (omega arith))

  -- A patch that no other patch touches. The others may overlap each other.
  module _ (p : ℕ) (m : In pending p)
      (apart : (q : ℕ) → In pending q → (q ≡ p → ⊥) → (slot_at regions pending q + 4 ≤ slot_at regions pending p) ⊎ (slot_at regions pending p + 4 ≤ slot_at regions pending q)) where
    -- The patch's word in a list, and what the patch makes of a word.
    abbrev word_of : List ℕ → ℕ
    word_of d = le32 d (slot_at regions pending p)

    abbrev made : ℕ → ℕ
    made word = finished_word (kind_of pending p) (pc_at regions pending p) (destination_at labels pending p) word

    again : (word : ℕ) → made (made word) ≡ made word
    again word = finished_again (kind_of pending p) (pc_at regions pending p) (destination_at labels pending p) word (dest_lt job labels entry regions pending pass p m)

    -- The patch makes its word. Every other patch leaves that word alone.
    own : (d : List ℕ) → Kept regions d → word_of (written labels regions pending p d) ≡ made (word_of d)
    unfolding write_pending
    own d k =
        read_same d (slot_at regions pending p) _ (has_room job labels entry regions pending pass p d m k)
        ∙ finished_is (kind_of pending p) (pc_at regions pending p) (destination_at labels pending p) (word_of d) (dest_lt job labels entry regions pending pass p m)

    other : (q : ℕ) (d : List ℕ) → In pending q → Kept regions d → (q ≡ p → ⊥) → word_of (written labels regions pending q d) ≡ word_of d
    unfolding write_pending
    other q d mq k n =
        read_other d (slot_at regions pending q) _ (has_room job labels entry regions pending pass q d mq k) (slot_at regions pending p)
        (apart q mq n)

    each : (q : ℕ) (d : List ℕ) → In pending q → Kept regions d
        → (word_of (written labels regions pending q d) ≡ word_of d) ⊎ (word_of (written labels regions pending q d) ≡ made (word_of d))
    each q d mq k = go (eqb q p) refl
      where
        go : (b : Bool) → eqb q p ≡ b → (word_of (written labels regions pending q d) ≡ word_of d) ⊎ (word_of (written labels regions pending q d) ≡ made (word_of d))
        go true e = inr (rw (eqb-true q p e) (own d k))
        go false e = inl (other q d mq k (eqb-false q p e))

    -- Until its turn comes, the patch would still make the same word. After its turn, that word stands there.
    pub word_finished : word_of (patched_regions labels regions pending) ≡ finished_at labels regions pending p
    word_finished =
        from_turn job labels entry regions pending pass (λ (d : List ℕ). made (word_of d) ≡ made (word_of regions)) (λ (d : List ℕ). word_of d ≡ made (word_of regions)) p m
        (λ q d mq k h. ⊎_elim (λ e. ap made e ∙ h) (λ e. ap made e ∙ again (word_of d) ∙ h) (each q d mq k))
        (λ d k h. own d k ∙ h)
        (λ q d mq k h. ⊎_elim (λ e. e ∙ h) (λ e. e ∙ ap made h ∙ again (word_of regions)) (each q d mq k))
        refl

  pub words_finished : Apart pending → words_in (patched_regions labels regions pending) regions pending ≡ finished_words labels regions pending
  unfolding words_in finished_words
  words_finished apart = map_same (places pending) (λ p m. word_finished p m (λ q. slots_apart job labels entry regions pending pass apart p q m))

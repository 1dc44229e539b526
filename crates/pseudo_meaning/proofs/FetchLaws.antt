-- In a region that overlaps no other, a dry run reads the region's own word. Assumes nothing.
use Rattle.std.specs.Prelude.{ℕ, zero, suc, ◌+◌, ◌*◌, ◌%◌, ◌^◌, ◌<◌, ◌≤◌, ◌≡◌, refl, Bool, true, false, List, [], ◌∷◌, leb, length, get_or, Some}
use Rattle.std.proofs.Common.{arith, sym, ap, ◌∙◌, subst, le-leb, leb-true}
use Rattle.record.specs.Bytes.{le32}
use Rattle.reading.specs.Reading.{ImageRegion, Image, region_in, word_in}
use Rattle.machine.specs.Effects.{next_pc}
use Rattle.dry_run_outcome.specs.Fetch.{offset_in, fetch}
use Rattle.dry_run_outcome.proofs.StandingLaws.{Standing, none, next}
use Rattle.pseudo_meaning.specs.Overlap.{HasByte, Alone}

fetch_on : (r : ImageRegion) (image : Image) (pc : ℕ) → (HasByte r pc → ⊥) → fetch (r ∷ image) pc ≡ fetch image pc
unfolding fetch
fetch_on r image pc n = go (leb (offset_in r.address pc + 4) (length r.bytes)) refl
  where
    go : (b : Bool) → leb (offset_in r.address pc + 4) (length r.bytes) ≡ b → fetch (r ∷ image) pc ≡ fetch image pc
    go true e = let h = leb-true (offset_in r.address pc + 4) (length r.bytes) e in absurd (n (omega arith))
    go false e = rw (e, fetch)

fetch_here : (r : ImageRegion) (image : Image) (pc : ℕ) → offset_in r.address pc + 4 ≤ length r.bytes → fetch (r ∷ image) pc ≡ Some (le32 r.bytes (offset_in r.address pc))
unfolding fetch
fetch_here r image pc k = rw (le-leb (offset_in r.address pc + 4) (length r.bytes) k, fetch)

pub fetch_alone : (image : Image) (n o : ℕ) → n < length image → (region_in image n).address < 2 ^ 32 → o + 4 ≤ length (region_in image n).bytes
    → length (region_in image n).bytes ≤ 2 ^ 32 → Alone image n → fetch image (((region_in image n).address + o) % 2 ^ 32) ≡ Some (word_in image n o)
unfolding fetch
fetch_alone [] n o h a i l x = absurd (omega arith)
fetch_alone (r ∷ image) zero o h a i l x =
    let pc = (r.address + o) % 2 ^ 32 in
    let e : offset_in r.address pc ≡ o = omega arith in
    fetch_here r image pc (omega arith) ∙ ap (λ (y : ℕ). Some (le32 r.bytes y)) e
fetch_alone (r ∷ image) (suc n) o h a i l x =
    let pc = ((region_in image n).address + o) % 2 ^ 32 in
    let e : offset_in (region_in image n).address pc ≡ o = omega arith in
    fetch_on r image pc (λ y. x 0 (omega arith) (λ z. omega arith) pc (omega arith) (omega arith) y)
    ∙ fetch_alone image n o (omega arith) a i l (λ k hk nk b hb p q. x (suc k) (omega arith) (λ z. nk (omega arith)) b hb p q)

-- ---- words one after the other in a region that overlaps no other

module _ (image : Image) (n : ℕ) (listed : n < length image) (address : (region_in image n).address < 2 ^ 32) (size : length (region_in image n).bytes ≤ 2 ^ 32) (alone : Alone image n) where
  pub standing_words : (ws : List ℕ) (o : ℕ) → o + 4 * length ws ≤ length (region_in image n).bytes
      → ((j : ℕ) → j < length ws → word_in image n (o + 4 * j) ≡ get_or ws j 0) → Standing image (((region_in image n).address + o) % 2 ^ 32) ws
  standing_words [] o h f = none
  standing_words (w ∷ ws) o h f =
      let z : o + 4 * 0 ≡ o = omega arith in
      let here : word_in image n o ≡ w = sym (ap (word_in image n) z) ∙ f 0 (omega arith) in
      let on : ((region_in image n).address + (o + 4)) % 2 ^ 32 ≡ next_pc (((region_in image n).address + o) % 2 ^ 32) = omega arith in
      next (fetch_alone image n o listed address (omega arith) size alone ∙ ap Some here)
      (subst (λ (pc : ℕ). Standing image pc ws) on
      (standing_words ws (o + 4) (omega arith) (λ j k. let e : o + 4 + 4 * j ≡ o + 4 * suc j = omega arith in ap (word_in image n) e ∙ f (suc j) (omega arith))))

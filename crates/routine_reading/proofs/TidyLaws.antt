-- A pending list is tidy if it reads as the patches of calls one after the other. Assumes nothing.
use Rattle.std.specs.Prelude.{ℕ, ◌+◌, ◌≤◌, ◌≡◌, ◌⊎◌, true, None}
use Rattle.std.proofs.Common.{sym, subst, inl, inr}
use mathlib.Core.List.{List, map, Memᴰ}
use Rattle.record.specs.Records.{places}
use Rattle.record.proofs.OneMoreLaws.{good_each}
use Rattle.pending.specs.Pendings.{pending_ok, pending_layout}
use Rattle.pending.proofs.PendingsLaws.{pending_good}
use Rattle.finished_words.specs.Listed.{In}
use Rattle.reading.specs.Premises.{SharedTarget, Pair}
use Rattle.routine.specs.PatchValues.{Patch, patch_at, patches_in}
use Rattle.routine.specs.Run.{Each}
use Rattle.routine.proofs.InsideLaws.{each_mem}
use Rattle.routine_reading.proofs.LinePatchesLaws.{OnWord, Beyond, Spaced, Mates, Mated}
use Rattle.routine_reading.proofs.ListedLaws.{Listed}
use Rattle.routine_reading.proofs.PlacesLaws.{PlaceOf, place_of, spaced_at, shared_target}
use Rattle.routine_reading.specs.Tidy.{Tidy}

-- A pending list that keeps its layout, for some number of regions, and reads as these patches.
pub record Left (pending : List ℕ) (patches : List Patch) : Type 0 where
  pub regions : ℕ
  pub takes : pending_layout regions pending ≡ None
  pub patches_are : patches_in pending ≡ patches
  pub listed : Listed patches

module _ (pending : List ℕ) (patches : List Patch) (left : Left pending patches) where
  abbrev at : ℕ → Patch
  at = patch_at pending

  -- the list's records are the patches
  placed_are : map at (places pending) ≡ patches
  unfolding patches_in
  placed_are = left.patches_are

  -- A claim on each patch holds for each record.
  pub of_each : (P : Patch → Type 0) → Each P patches → (p : ℕ) → In pending p → P (at p)
  of_each P h p m = each_mem P at (places pending) p (subst (Each P) (sym placed_are) h) m

  ok_each : (p : ℕ) → In pending p → pending_ok left.regions pending p ≡ true
  ok_each p m = good_each (pending_ok left.regions pending) (places pending) (pending_good left.regions pending left.takes).1 p m

  mated : (p : ℕ) → In pending p → Mated patches (at p)
  mated p m = of_each (Mated patches) left.listed.mated p m

  -- the place of a patch
  pub found : (y : Patch) → Memᴰ y patches → PlaceOf at (places pending) y
  found y m = place_of at (places pending) y (subst (Memᴰ y) (sym placed_are) m)

  pair_at : (p q : ℕ) → In pending p → In pending q → Mates (at p) (at q) → Pair SharedTarget pending p q
  pair_at p q mp mq x = record {
    upper_in = mp;
    lower_in = mq;
    upper_kind = x.upper_kind;
    lower_kind = x.lower_kind;
    region = x.region;
    later = x.later;
    target = shared_target left.regions pending p q x.name x.location x.added (ok_each p mp) (ok_each q mq) x.upper_target x.lower_target;
  }

  spaced : Spaced (map at (places pending))
  spaced = subst Spaced (sym placed_are) left.listed.spaced

  pub left_tidy : Tidy pending
  left_tidy = record {
    on_words = of_each OnWord left.listed.on_words;
    apart = λ p q mp mq n same. go p q same (spaced_at at (places pending) spaced p q mp mq n);
    upper_paired = λ p m e.
        let h = (mated p m).has_lower e in
        let f = found h.lower h.listed in
        (f.place, pair_at p f.place m f.listed (subst (Mates (at p)) (sym f.is) h.mates));
    lower_paired = λ q m e.
        let h = (mated q m).has_upper e in
        let f = found h.upper h.listed in
        (f.place, pair_at f.place q f.listed m (subst (λ (u : Patch). Mates u (at q)) (sym f.is) h.mates));
    none_full = λ p m. (mated p m).not_full;
  }
    where
      go : (p q : ℕ) → (at p).region ≡ (at q).region → Beyond (at p) (at q) ⊎ Beyond (at q) (at p) → ((at p).offset + 4 ≤ (at q).offset) ⊎ ((at q).offset + 4 ≤ (at p).offset)
      go p q same (inl h) = inl (h same)
      go p q same (inr h) = inr (h (sym same))

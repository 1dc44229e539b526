-- An accepted line's pendings stand behind the list and belong to its region; the others read as before (document 02, P12). Assumes nothing.
use Rattle.std.specs.Prelude.{ℕ, ◌+◌, ◌*◌, ◌^◌, ◌≤◌, ◌<◌, ◌≡◌, refl, length, None, Option, Some}
use Rattle.std.proofs.Common.{arith, ⊎_elim, sym, ap, ◌∙◌}
use mathlib.Core.List.Memᴰ
use mathlib.Core.List.{List, [], ◌∷◌, ◌++◌, append_assoc, append-nil, Memᴰ}
use Rattle.std.proofs.Math.Path.{subst}
use Rattle.record.specs.Records.{places, first_bad}
use Rattle.address_label.specs.LabelBytes.{name_bytes}
use Rattle.pending.specs.Pendings.{region_of, pending_ok, pending_at}
use Rattle.pending.specs.PendingBytes.{pending_bytes}
use Rattle.pending.proofs.Written.{written_behind}
use Rattle.pending.specs.declared.Origin.{Origin}
use Rattle.pending.specs.declared.Pending.{Pending}
use Rattle.emit_pairs.specs.declared.InstructionPair.{InstructionPair}
use Rattle.emit_bytes.specs.Appended.{onward, pair_bytes, pendings_bytes}
use Rattle.routine.proofs.BehindLaws.{OriginFits}
use Rattle.routine.proofs.WordLaws.{PairFits, PairsFit}
use Rattle.patching_laws.proofs.OrderLaws.{Added}
use Rattle.pending.specs.declared.InstructionLabel.{InstructionLabel}

module _ (regions : ℕ) where
  abbrev pub Keeps : List ℕ → Type 0
  Keeps s = first_bad (pending_ok regions s) (places s) ≡ None

  -- `new` is `old` with pendings of region r behind it.
  pub record More (old new : List ℕ) (r : ℕ) : Type 0 where
    pub added : List ℕ
    pub adds : Added old new r added
    pub keeps : first_bad (pending_ok regions new) (places new) ≡ None
    pub others : (at : ℕ) → Memᴰ at (places old)
        → (pending_at new at ≡ pending_at old at) × (name_bytes new (pending_at new at).label ≡ name_bytes old (pending_at old at).label)

  none_more : (old : List ℕ) (r : ℕ) → Keeps old → More old (old ++ []) r
  none_more old r kept = subst (λ (new : List ℕ). More old new r) (sym (append-nil old)) (record {
    added = [];
    adds = record { places_are = sym (append-nil (places old)); regions_same = λ p m. refl; regions_new = λ p m. elim m [ ] };
    keeps = kept;
    others = λ at m. (refl, refl);
  })

  two_more : (old mid new : List ℕ) (r : ℕ) → More old mid r → More mid new r → More old new r
  two_more old mid new r a b = record {
    added = a.added ++ b.added;
    adds = record {
      places_are = b.adds.places_are ∙ ap (λ (l : List ℕ). l ++ b.added) a.adds.places_are ∙ append_assoc (places old) a.added b.added;
      regions_same = λ p m. b.adds.regions_same p (first p m) ∙ a.adds.regions_same p m;
      regions_new = λ p m. ⊎_elim (λ x. b.adds.regions_same p (second p x) ∙ a.adds.regions_new p x) (λ x. b.adds.regions_new p x) (Memᴰ.append_cases a.added m);
    };
    keeps = b.keeps;
    others = λ at m. ((b.others at (first at m)).0 ∙ (a.others at m).0, (b.others at (first at m)).1 ∙ (a.others at m).1);
  }
    where
      first : (p : ℕ) → Memᴰ p (places old) → Memᴰ p (places mid)
      first p m = subst (Memᴰ p) (sym a.adds.places_are) (Memᴰ.append_left a.added m)

      second : (p : ℕ) → Memᴰ p a.added → Memᴰ p (places mid)
      second p m = subst (Memᴰ p) (sym a.adds.places_are) (Memᴰ.append_right (places old) m)

  module _ (names : List ℕ) where
    one_more : (old : List ℕ) (origin : Origin) (waits : Option InstructionLabel) → Keeps old → OriginFits regions origin → origin.offset < 2 ^ 32 → PairFits names waits
        → More old (old ++ pair_bytes names origin waits) origin.region
    one_more old origin None kept fits o h = none_more old origin.region kept
    one_more old origin (Some waits) kept fits o h =
        let w = written_behind regions old names origin waits kept fits.region_ok (record { region_fits = fits.region_fits; offset_fits = o; location_fits = fits.location_fits; label_fits = h }) in
        let new = old ++ pending_bytes names origin waits in
        record {
          added = length old ∷ [];
          adds = record {
            places_are = w.places_are;
            regions_same = λ p m. ap (λ (x : Pending). x.region) (w.others p m).0;
            regions_new = λ p m. ⊎_elim (λ (e : p ≡ length old). ap (region_of new) e ∙ ap (λ (x : Pending). x.region) w.reads) (λ x. elim x [ ]) (Memᴰ.cases_cons m);
          };
          keeps = w.keeps;
          others = w.others;
        }

    -- the pending records of a line
    pub pairs_more : (old : List ℕ) (origin : Origin) (ps : List InstructionPair) → Keeps old → OriginFits regions origin → origin.offset + 4 * length ps ≤ 2 ^ 32 → PairsFit names ps
        → More old (old ++ pendings_bytes names origin ps) origin.region
    unfolding pendings_bytes
    pairs_more old origin [] kept fits o h = none_more old origin.region kept
    pairs_more old origin (p ∷ ps) kept fits o h =
        let bytes = pair_bytes names origin p.label in
        let w = one_more old origin p.label kept fits (omega arith) h.0 in
        let next_fits : OriginFits regions (onward origin) = record { region_ok = fits.region_ok; region_fits = fits.region_fits; location_fits = fits.location_fits } in
        let r = pairs_more (old ++ bytes) (onward origin) ps w.keeps next_fits (omega arith) h.1 in
        subst (λ (new : List ℕ). More old new origin.region) (append_assoc old bytes (pendings_bytes names (onward origin) ps))
        (two_more old (old ++ bytes) ((old ++ bytes) ++ pendings_bytes names (onward origin) ps) origin.region w r)

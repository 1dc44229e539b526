-- Two label tables. If their builds of the same regions, entry record and pending list are accepted and share image and entry, the tables agree
-- on every used address. Assumes nothing.
use Rattle.std.specs.Prelude.{ℕ, ◌+◌, ◌-◌, ◌%◌, ◌^◌, ◌<◌, ◌≤◌, ◌⊎◌, ◌≡◌, refl, length, None, Ok, Option, Some}
use Rattle.std.proofs.Common.{arith, inl, inr, ⊎_elim, ap, ◌∙◌}
use mathlib.Core.List.Memᴰ
use mathlib.Core.List.{List, [], ◌∷◌, map, Memᴰ}
use Rattle.std.proofs.Math.Path.{sym}
use Rattle.jobs.specs.declared.Job.{Job}
use Rattle.record.specs.Bytes.{byte_at, le32, le64}
use Rattle.record.specs.Records.{body_len, next, places}
use Rattle.labels.specs.Labels.{labelled, address_of, resolve, Table, table_of}
use Rattle.address_label.specs.AddressLabels.{address_label_at}
use Rattle.address_label.specs.Entries.{entry_of}
use Rattle.address_label.proofs.EntriesLaws.{entry_good}
use Rattle.pending.specs.Pendings.{pending_at, label_of}
use Rattle.patch.specs.Patches.{destination, plus_offset, address_or}
use Rattle.build_outcome.specs.Build.{patched_regions, entry_address, reach_entry}
use Rattle.build_outcome.proofs.BuildLaws.{accepted_is}
use Rattle.finished_words.specs.Listed.{In, Bytes, destination_at}
use Rattle.finished_words.proofs.AcceptedLaws.{known}
use Rattle.reading.specs.Reading.{image_of, readings, destinations}
use Rattle.reading.specs.Premises.{PremisesBy}
use Rattle.reading.specs.Used.{pending_name, entry_name, pending_source, entry_source, used_by, used_by_entry, SameUsed}
use Rattle.reading.proofs.ReadBackLaws.{label_is, named_is, read_back}

-- If mapping f and g over a list gives the same values, f and g agree on its members.
map_at : (f g : ℕ → Option ℕ) (ps : List ℕ) → map f ps ≡ map g ps → (p : ℕ) → Memᴰ p ps → f p ≡ g p
map_at f g [] e p m = elim m [ ]
map_at f g (q ∷ ps) e p m = go (Memᴰ.cases_cons m) (map_at f g ps (cc))
  where
    go : (p ≡ q) ⊎ Memᴰ p ps → ((p : ℕ) → Memᴰ p ps → f p ≡ g p) → f p ≡ g p
    go (inl s) ih = let h : f q ≡ g q = cc in ap f s ∙ h ∙ ap g (sym s)
    go (inr t) ih = ih p t

-- a label's address is a number of 32 bits
pub resolve_lt : (labels : List ℕ) (source : ℕ) (name : List ℕ) (a : ℕ) → Bytes labels → resolve labels source name ≡ Some a → a < 2 ^ 32
unfolding resolve
resolve_lt labels source name a b e = go (labelled labels source name) e
  where
    go : (n : Option ℕ) → address_of labels n ≡ Some a → a < 2 ^ 32
    go (Some p) k =
        let z : le32 labels (p + 4) ≡ a = cc in
        omega (arith, b (p + 4), b (p + 4 + 1), b (p + 4 + 2), b (p + 4 + 3))
    go None k = let z : ◌≡◌ {A = ℕ} 0 1 = cc in absurd (omega arith)

-- An address plus an offset, modulo 2^32, determines the address.
offset_same : (labels₁ labels₂ : List ℕ) (source : ℕ) (name : List ℕ) (v d : ℕ) → Bytes labels₁ → Bytes labels₂
    → plus_offset (resolve labels₁ source name) v ≡ Some d → plus_offset (resolve labels₂ source name) v ≡ Some d
    → resolve labels₁ source name ≡ resolve labels₂ source name
offset_same labels₁ labels₂ source name v d b₁ b₂ e₁ e₂ = go (resolve labels₁ source name) refl (resolve labels₂ source name) refl
  where
    go : (x : Option ℕ) → resolve labels₁ source name ≡ x → (y : Option ℕ) → resolve labels₂ source name ≡ y
        → resolve labels₁ source name ≡ resolve labels₂ source name
    go (Some a) f (Some c) g =
        let l₁ = resolve_lt labels₁ source name a b₁ f in
        let l₂ = resolve_lt labels₂ source name c b₂ g in
        let z₁ : (a + v) % 2 ^ 32 ≡ d = cc in
        let z₂ : (c + v) % 2 ^ 32 ≡ d = cc in
        let s : a ≡ c = omega arith in
        cc
    go (Some a) f None g = let z : ◌≡◌ {A = ℕ} 0 1 = cc in absurd (omega arith)
    go None f y g = let z : ◌≡◌ {A = ℕ} 0 1 = cc in absurd (omega arith)

module _ {Shared : (pending : List ℕ) (p q : ℕ) → Type 0} (job : Job) (labels₁ labels₂ entry regions pending : List ℕ) (b₁ : Bytes labels₁) (b₂ : Bytes labels₂)
    (pr₁ : PremisesBy Shared job (table_of labels₁) entry regions pending) (pr₂ : PremisesBy Shared job (table_of labels₂) entry regions pending)
    (one₁ : (p q : ℕ) → Shared pending p q → destination_at (table_of labels₁) pending p ≡ destination_at (table_of labels₁) pending q)
    (one₂ : (p q : ℕ) → Shared pending p q → destination_at (table_of labels₂) pending p ≡ destination_at (table_of labels₂) pending q) where
  -- equal images have equal destinations
  same_destinations : image_of (patched_regions (table_of labels₁) regions pending) ≡ image_of (patched_regions (table_of labels₂) regions pending)
      → destinations (table_of labels₁) pending ≡ destinations (table_of labels₂) pending
  same_destinations i =
      sym (read_back job (table_of labels₁) entry regions pending pr₁ one₁) ∙ ap (λ (x : _). readings x pending) i ∙ read_back job (table_of labels₂) entry regions pending pr₂ one₂

  pending_used : image_of (patched_regions (table_of labels₁) regions pending) ≡ image_of (patched_regions (table_of labels₂) regions pending)
      → (p : ℕ) → In pending p → (byte_at pending (p + 19) ≡ 0 → ⊥) → used_by (table_of labels₁) pending p ≡ used_by (table_of labels₂) pending p
  unfolding destinations
  pending_used i p m n =
      let d : destination (table_of labels₁) pending (label_of pending p) ≡ destination (table_of labels₂) pending (label_of pending p) = map_at
      (λ (at : ℕ). destination (table_of labels₁) pending (pending_at pending at).label) (λ (at : ℕ). destination (table_of labels₂) pending (pending_at pending at).label)
      (places pending) (same_destinations i) p m in
      let k = known job (table_of labels₁) entry regions pending pr₁.accepted p m in
      offset_same labels₁ labels₂ (pending_source pending p) (pending_name pending p) (le64 pending (p + 20)) _ b₁ b₂
      (sym (named_is (table_of labels₁) pending p n) ∙ k) (sym (named_is (table_of labels₂) pending p n) ∙ sym d ∙ k)

  -- the entry
  entry_known : (labels : Table) → PremisesBy Shared job labels entry regions pending → (p : ℕ) → places entry ≡ p ∷ []
      → destination labels entry (address_label_at entry (p + 4) (next entry p)) ≡ Some (entry_address labels entry (entry_of entry (places entry)))
  entry_known labels pr p e =
      go (destination labels entry (address_label_at entry (p + 4) (next entry p))) refl
    where
      passes : reach_entry (address_label_at entry (p + 4) (next entry p)) (destination labels entry (address_label_at entry (p + 4) (next entry p))) ≡ Ok tt
      passes = rw e at (accepted_is job labels entry regions pending pr.accepted).entry_passes

      go : (a : Option ℕ) → destination labels entry (address_label_at entry (p + 4) (next entry p)) ≡ a
          → destination labels entry (address_label_at entry (p + 4) (next entry p)) ≡ Some (entry_address labels entry (entry_of entry (places entry)))
      go (Some d) k = rw e (k ∙ ap Some (sym (ap (address_or 0) k)))
      go None k =
          let h = rw k at passes in
          let z : ◌≡◌ {A = ℕ} 0 1 = cc in
          absurd (omega arith)

  entry_used : entry_address (table_of labels₁) entry (entry_of entry (places entry)) ≡ entry_address (table_of labels₂) entry (entry_of entry (places entry))
      → (p : ℕ) → In entry p → (byte_at entry (p + 4) ≡ 0 → ⊥) → used_by_entry (table_of labels₁) entry p ≡ used_by_entry (table_of labels₂) entry p
  entry_used same p m n = alone (places entry) refl (entry_good entry (accepted_is job (table_of labels₁) entry regions pending pr₁.accepted).entry_good).2 m
    where
      by_name : (labels : Table) → destination labels entry (address_label_at entry (p + 4) (next entry p)) ≡ plus_offset (used_by_entry labels entry p) (le64 entry (p + 5))
      by_name labels = label_is labels entry (p + 4) (next entry p) (p + 21) (body_len entry p - 17) (p + 5) (p + 13) n (omega arith) (omega arith) (omega arith) (omega arith)

      first : places entry ≡ p ∷ [] → used_by_entry (table_of labels₁) entry p ≡ used_by_entry (table_of labels₂) entry p
      first e =
          offset_same labels₁ labels₂ (entry_source entry p) (entry_name entry p) (le64 entry (p + 5)) _ b₁ b₂
          (sym (by_name (table_of labels₁)) ∙ entry_known (table_of labels₁) pr₁ p e)
          (sym (by_name (table_of labels₂)) ∙ entry_known (table_of labels₂) pr₂ p e ∙ ap Some (sym same))

      -- the list has no other record
      alone : (ps : List ℕ) → places entry ≡ ps → length ps ≤ 1 → Memᴰ p ps → used_by_entry (table_of labels₁) entry p ≡ used_by_entry (table_of labels₂) entry p
      alone [] e l k = elim k [ ]
      alone (q ∷ []) e l k = ⊎_elim (λ s. first (e ∙ ap (λ (x : ℕ). x ∷ []) (sym s))) (λ t. absurd (Memᴰ.not-nil t)) (Memᴰ.cases_cons k)
      alone (q ∷ (r ∷ ps)) e l k = absurd (omega arith)

  -- Equal image and equal entry: every used address is equal.
  pub same_used : image_of (patched_regions (table_of labels₁) regions pending) ≡ image_of (patched_regions (table_of labels₂) regions pending)
      → entry_address (table_of labels₁) entry (entry_of entry (places entry)) ≡ entry_address (table_of labels₂) entry (entry_of entry (places entry)) → SameUsed (table_of labels₁) (table_of labels₂) entry pending
  same_used i e = record { by_pending = pending_used i; by_entry = λ p m n. let h = entry_used e p m n in cc }

-- Laws of a build's checks: an accepted build has passed them all, and a build that passes them all is accepted. Assumes nothing.
use Rattle.std.specs.Prelude.{ℕ, zero, suc, ◌+◌, ◌<◌, ◌≤◌, ◌⊎◌, Bool, true, false, ◌≡◌, refl, eqb, Err, None, Ok}
use Rattle.std.proofs.Common.{arith, inl, inr, sym, ap, ◌∙◌, eq-eqb, ne_eqb, eqb-true}
use mathlib.Core.List.Memᴰ
use mathlib.Core.List.{List, [], ◌∷◌, ◌++◌, Memᴰ}
use Rattle.std.proofs.lemmas.Bool.{eqb-false}
use Rattle.jobs.specs.declared.Job.{Job}
use Rattle.record.specs.Records.{places}
use Rattle.refusal.specs.Verdicts.{and_then, first_stop, layout_verdict, name_verdict, Verdict}
use Rattle.refusal.proofs.VerdictsLaws.{both_pass, layout_pass, name_pass}
use Rattle.refusal.specs.declared.Refusal.{Refusal}
use Rattle.labels.specs.Labels.{Table}
use Rattle.regions.specs.Regions.{region_layout, region_count}
use Rattle.address_label.specs.Entries.{entry_layout, entry_of}
use Rattle.pending.specs.Pendings.{region_of, pending_layout}
use Rattle.build_outcome.specs.Build.{keep, order_from, patch_order, patch_verdict, entry_verdict, layout_verdicts, build_verdict, entry_address, patched_regions, build_outcome}

-- Two checks pass if each of them passes.
pub then_pass : (a b : Verdict) → a ≡ Ok tt → b ≡ Ok tt → and_then a b ≡ Ok tt
then_pass a b e f = ap (λ (v : Verdict). and_then v b) e ∙ f

-- If the whole list passes, every element passes.
pub each_pass : (check : ℕ → Verdict) (ps : List ℕ) → first_stop check ps ≡ Ok tt → (p : ℕ) → Memᴰ p ps → check p ≡ Ok tt
unfolding first_stop
each_pass check [] e p m = elim m [ ]
each_pass check (q ∷ ps) e p m = go (both_pass (check q) (first_stop check ps) e) (Memᴰ.cases_cons m) (each_pass check ps)
  where
    go : (check q ≡ Ok tt) × (first_stop check ps ≡ Ok tt) → (p ≡ q) ⊎ Memᴰ p ps
        → (first_stop check ps ≡ Ok tt → (p : ℕ) → Memᴰ p ps → check p ≡ Ok tt) → check p ≡ Ok tt
    go h (inl s) ih = ap check s ∙ h.0
    go h (inr t) ih = ih h.1 p t

-- If every element passes, the whole list passes.
pub all_pass : (check : ℕ → Verdict) (ps : List ℕ) → ((p : ℕ) → Memᴰ p ps → check p ≡ Ok tt) → first_stop check ps ≡ Ok tt
unfolding first_stop
all_pass check [] a = refl
all_pass check (p ∷ ps) a = rw (a p (Memᴰ.head refl)) (all_pass check ps (λ q m. a q (Memᴰ.tail m)))

-- ---- patch order
pub keep_here : (pending : List ℕ) (r p : ℕ) (ps : List ℕ) → region_of pending p ≡ r → keep pending r (p ∷ ps) ≡ p ∷ keep pending r ps
unfolding keep
keep_here pending r p ps e = rw (eq-eqb (region_of pending p) r e, keep)

pub keep_other : (pending : List ℕ) (r p : ℕ) (ps : List ℕ) → (region_of pending p ≡ r → ⊥) → keep pending r (p ∷ ps) ≡ keep pending r ps
unfolding keep
keep_other pending r p ps e = rw (ne_eqb (region_of pending p) r e, keep)

-- a pending of region r is among those kept for r
keep_mem : (pending : List ℕ) (r p : ℕ) (ps : List ℕ) → region_of pending p ≡ r → Memᴰ p ps → Memᴰ p (keep pending r ps)
unfolding keep
keep_mem pending r p [] e m = elim m [ ]
keep_mem pending r p (q ∷ ps) e m = go (eqb (region_of pending q) r) refl (Memᴰ.cases_cons m) (keep_mem pending r p ps e)
  where
    go : (b : Bool) → eqb (region_of pending q) r ≡ b → (p ≡ q) ⊎ Memᴰ p ps → (Memᴰ p ps → Memᴰ p (keep pending r ps))
        → Memᴰ p (keep pending r (q ∷ ps))
    go true f (inl s) ih = rw (f, keep) (Memᴰ.head s)
    go true f (inr t) ih = rw (f, keep) (Memᴰ.tail (ih t))
    go false f (inl s) ih =
        let g : eqb (region_of pending q) r ≡ true = eq-eqb (region_of pending q) r (sym (ap (region_of pending) s) ∙ e) in
        let z : ◌≡◌ {A = ℕ} 0 1 = cc in
        absurd (omega arith)
    go false f (inr t) ih = rw (f, keep) (ih t)

-- The order of the n regions from r on contains every pending of these regions.
order_mem : (n : ℕ) (pending : List ℕ) (r p : ℕ) → r ≤ region_of pending p → region_of pending p < r + n → Memᴰ p (places pending) → Memᴰ p (order_from n pending r)
unfolding order_from
order_mem zero pending r p h k m = absurd (omega arith)
order_mem (suc n) pending r p h k m = go (eqb (region_of pending p) r) refl (order_mem n pending (r + 1) p)
  where
    go : (b : Bool) → eqb (region_of pending p) r ≡ b
        → (r + 1 ≤ region_of pending p → region_of pending p < r + 1 + n → Memᴰ p (places pending) → Memᴰ p (order_from n pending (r + 1)))
        → Memᴰ p (keep pending r (places pending) ++ order_from n pending (r + 1))
    go true e ih = Memᴰ.append_left (order_from n pending (r + 1)) (keep_mem pending r p (places pending) (eqb-true (region_of pending p) r e) m)
    go false e ih =
        let d : region_of pending p ≡ r → ⊥ = eqb-false (region_of pending p) r e in
        Memᴰ.append_right (keep pending r (places pending)) (ih (omega arith) (omega arith) m)

pub in_order : (regions pending : List ℕ) (p : ℕ) → region_of pending p < region_count regions → Memᴰ p (places pending) → Memᴰ p (patch_order regions pending)
in_order regions pending p h m = order_mem (region_count regions) pending 0 p (omega arith) (omega arith) m

-- ---- an accepted build
pub record Accepted (job : Job) (labels : Table) (entry regions pending : List ℕ) : Type 0 where
  pub labels_good : labels.layout ≡ None
  pub entry_good : entry_layout entry ≡ None
  pub regions_good : region_layout regions ≡ None
  pub pending_good : pending_layout (region_count regions) pending ≡ None
  pub names_good : labels.repeat ≡ None
  pub entry_passes : entry_verdict labels entry (entry_of entry (places entry)) ≡ Ok tt
  pub patches_pass : first_stop (patch_verdict job labels regions pending) (patch_order regions pending) ≡ Ok tt

pub accepted_is : (job : Job) (labels : Table) (entry regions pending : List ℕ) → build_verdict job labels entry regions pending ≡ Ok tt → Accepted job labels entry regions pending
unfolding build_verdict layout_verdicts
accepted_is job labels entry regions pending e =
    let b₁ = both_pass (layout_verdicts labels entry regions pending) _ e in
    let b₂ = both_pass (name_verdict 0 labels.repeat) _ b₁.1 in
    let b₃ = both_pass (entry_verdict labels entry (entry_of entry (places entry))) _ b₂.1 in
    let l₁ = both_pass (layout_verdict 0 labels.layout) _ b₁.0 in
    let l₂ = both_pass (layout_verdict 1 (entry_layout entry)) _ l₁.1 in
    let l₃ = both_pass (layout_verdict 2 (region_layout regions)) _ l₂.1 in
    record {
      labels_good = layout_pass 0 labels.layout l₁.0;
      entry_good = layout_pass 1 (entry_layout entry) l₂.0;
      regions_good = layout_pass 2 (region_layout regions) l₃.0;
      pending_good = layout_pass 3 (pending_layout (region_count regions) pending) l₃.1;
      names_good = name_pass 0 labels.repeat b₂.0;
      entry_passes = b₃.0;
      patches_pass = b₃.1;
    }

-- A build that passes all of these is accepted.
pub is_accepted : (job : Job) (labels : Table) (entry regions pending : List ℕ) → Accepted job labels entry regions pending → build_verdict job labels entry regions pending ≡ Ok tt
unfolding build_verdict layout_verdicts
is_accepted job labels entry regions pending a =
    then_pass (layout_verdicts labels entry regions pending) _
    (then_pass (layout_verdict 0 labels.layout) _ (ap (layout_verdict 0) a.labels_good)
    (then_pass (layout_verdict 1 (entry_layout entry)) _ (ap (layout_verdict 1) a.entry_good)
    (then_pass (layout_verdict 2 (region_layout regions)) _ (ap (layout_verdict 2) a.regions_good) (ap (layout_verdict 3) a.pending_good))))
    (then_pass (name_verdict 0 labels.repeat) _ (ap (name_verdict 0) a.names_good)
    (then_pass (entry_verdict labels entry (entry_of entry (places entry))) _ a.entry_passes a.patches_pass))

-- ---- patch order names pendings of the list only
keep_in : (pending : List ℕ) (r p : ℕ) (ps : List ℕ) → Memᴰ p (keep pending r ps) → Memᴰ p ps
unfolding keep
keep_in pending r p [] m = m
keep_in pending r p (q ∷ ps) m = go (eqb (region_of pending q) r) refl (keep_in pending r p ps)
  where
    go : (b : Bool) → eqb (region_of pending q) r ≡ b → (Memᴰ p (keep pending r ps) → Memᴰ p ps) → Memᴰ p (q ∷ ps)
    go true e ih = below (Memᴰ.cases_cons (rw (keep_here pending r q ps (eqb-true (region_of pending q) r e)) at m))
      where
        below : (p ≡ q) ⊎ Memᴰ p (keep pending r ps) → Memᴰ p (q ∷ ps)
        below (inl s) = Memᴰ.head s
        below (inr t) = Memᴰ.tail (ih t)
    go false e ih = Memᴰ.tail (ih (rw (keep_other pending r q ps (eqb-false (region_of pending q) r e)) at m))

pub order_in : (n : ℕ) (pending : List ℕ) (r p : ℕ) → Memᴰ p (order_from n pending r) → Memᴰ p (places pending)
unfolding order_from
order_in zero pending r p m = elim m [ ]
order_in (suc n) pending r p m = go (Memᴰ.append_cases (keep pending r (places pending)) m) (order_in n pending (r + 1) p)
  where
    go : Memᴰ p (keep pending r (places pending)) ⊎ Memᴰ p (order_from n pending (r + 1))
        → (Memᴰ p (order_from n pending (r + 1)) → Memᴰ p (places pending)) → Memᴰ p (places pending)
    go (inl k) ih = keep_in pending r p (places pending) k
    go (inr o) ih = ih o

pub ordered_in : (regions pending : List ℕ) (p : ℕ) → Memᴰ p (patch_order regions pending) → Memᴰ p (places pending)
ordered_in regions pending p m = order_in (region_count regions) pending 0 p m

-- ---- the outcome
pub outcome_accepted : (job : Job) (labels : Table) (entry regions pending : List ℕ) → build_verdict job labels entry regions pending ≡ Ok tt
    → ((build_outcome job labels entry regions pending).answer ≡ Ok (entry_address labels entry (entry_of entry (places entry))))
    × ((build_outcome job labels entry regions pending).regions ≡ patched_regions labels regions pending)
unfolding build_outcome
outcome_accepted job labels entry regions pending e = (rw e, rw e)

pub outcome_refused : (job : Job) (labels : Table) (entry regions pending : List ℕ) (r : Refusal) → build_verdict job labels entry regions pending ≡ Err r
    → ((build_outcome job labels entry regions pending).answer ≡ Err r) × ((build_outcome job labels entry regions pending).regions ≡ regions)
unfolding build_outcome
outcome_refused job labels entry regions pending r e = (rw e, rw e)

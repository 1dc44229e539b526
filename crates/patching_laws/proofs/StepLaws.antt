-- A step keeps what holds, and answers accordingly: one more, the end, or a build's refusal (document 02, P12). Assumes nothing.
use Rattle.std.specs.Prelude.{ℕ, zero, suc, ◌+◌, ◌*◌, ◌≤◌, ◌<◌, Bool, true, false, ◌≡◌, refl, length, get_or, take, drop, ltb, eqb, Err, None, Ok}
use Rattle.std.proofs.Common.{add-one, arith, ⊎_elim, sym, ap₂, subst, ◌∙◌, length-take, length-drop, length-take-le, take-suc, ltb-true, ltb-false, eq-eqb, ne_eqb}
use mathlib.Core.List.Memᴰ
use mathlib.Core.List.{List, [], ◌∷◌, ◌++◌, Memᴰ}
use Rattle.std.proofs.Math.Path.{ap}
use Rattle.jobs.specs.declared.Job.{Job}
use Rattle.record.specs.Bytes.{part}
use Rattle.record.specs.Records.{places}
use Rattle.record.specs.Stores.{append}
use Rattle.refusal.specs.Verdicts.{and_then, first_stop, layout_verdict, name_verdict, Verdict}
use Rattle.refusal.specs.declared.Refusal.{Refusal}
use Rattle.record_growth.proofs.PutLaws.{put_length}
use Rattle.labels.specs.Labels.{Table}
use Rattle.regions.specs.declared.Region.{Region}
use Rattle.regions.specs.Regions.{region_count}
use Rattle.address_label.specs.Entries.{entry_layout, entry_of}
use Rattle.pending.specs.Pendings.{pending_layout, pending_at}
use Rattle.patch.specs.Patches.{region_for, slot_of, write_pending}
use Rattle.patch.proofs.PatchesLaws.{reached}
use Rattle.build_outcome.specs.Build.{patch_verdict, patches_verdict, entry_verdict, entry_address, write_patches}
use Rattle.build_outcome.proofs.BuildLaws.{then_pass}
use Rattle.build_outcome.proofs.KeptLaws.{InData, in_data}
use Rattle.patching_outcome.specs.declared.Progress.TheVariants.{Patched, Ended}
use Rattle.patching_outcome.specs.Patching.{Patching, regions_of, pendings_of, order_of, regions_layout, pendings_layout, kept_layout}
use Rattle.patching_outcome.specs.Step.{StepAnswer, step_layouts, step_checks, StepOutcome, patched, put_back, unpatched, next_by, running_step, ended_by, stopped_step, step_by, step_outcome, now_at}
use Rattle.patching_laws.proofs.OrderLaws.{order_few}
use Rattle.patching_outcome.proofs.LayoutLaws.{Within, regions_is, pendings_is, kept_is, few}
use Rattle.patching_laws.proofs.UndoLaws.{write_append, write_one, undo_one, back_regions}
use Rattle.patching_laws.proofs.HeldLaws.{Held, done_in, take_member, pendings_same, listed, fitting, image_kept, count_same, region_is, order_same, done_same, verdict_same, wrote_all}

-- ---- checks one by one

stop_at : (check : ℕ → Verdict) (ps : List ℕ) (n : ℕ) (r : Refusal) → n < length ps → ((p : ℕ) → Memᴰ p (take n ps) → check p ≡ Ok tt) → check (get_or ps n 0) ≡ Err r → first_stop check ps ≡ Err r
unfolding first_stop
stop_at check [] n r h a e = absurd (omega arith)
stop_at check (p ∷ ps) zero r h a e = rw e
stop_at check (p ∷ ps) (suc n) r h a e = rw (a p (Memᴰ.head refl)) (stop_at check ps n r (omega arith) (λ q m. a q (Memᴰ.tail m)) e)

same_checks : (f g : ℕ → Verdict) (ps : List ℕ) → ((p : ℕ) → Memᴰ p ps → f p ≡ g p) → first_stop f ps ≡ first_stop g ps
unfolding first_stop
same_checks f g [] a = refl
same_checks f g (p ∷ ps) a = ap₂ and_then (a p (Memᴰ.head refl)) (same_checks f g ps (λ q m. a q (Memᴰ.tail m)))

member : (ps : List ℕ) (n : ℕ) → n < length ps → Memᴰ (get_or ps n 0) ps
member [] n h = absurd (omega arith)
member (p ∷ ps) zero h = Memᴰ.head refl
member (p ∷ ps) (suc n) h = Memᴰ.tail (member ps n (omega arith))

module _ (job : Job) (labels : Table) (entry : List ℕ) where
  abbrev pub the_entry : ℕ
  the_entry = entry_address labels entry (entry_of entry (places entry))

  -- A build's checks that read neither the regions nor the pendings.
  pub record Opened : Type 0 where
    pub labels_good : labels.layout ≡ None
    pub entry_good : entry_layout entry ≡ None
    pub names_pass : name_verdict 0 labels.repeat ≡ Ok tt
    pub entry_passes : entry_verdict labels entry (entry_of entry (places entry)) ≡ Ok tt

  pub data Mode (q b : Patching) : Type 0 where
    running : q.counts.state ≡ 0 → Mode q b
    ended : q.counts.state ≡ 1 → q.counts.patches ≡ length (order_of b) → Mode q b
    refused : (r : Refusal) → q.counts.state ≡ 2 → q.counts.patches ≡ 0 → patches_verdict job labels (regions_of b) (pendings_of b) ≡ Err r → Mode q b

  -- What a step may say: one more patch, the end, or a refusal.
  pub data Says (q b : Patching) (o : StepOutcome) : Type 0 where
    more : o.answer ≡ Ok (Patched (q.counts.patches + 1)) → o.after.counts.patches ≡ q.counts.patches + 1 → Says q b o
    ends : o.answer ≡ Ok (Ended the_entry) → o.after.counts.patches ≡ length (order_of b) → o.after.counts.patches ≡ q.counts.patches → o.after.regions ≡ q.regions → o.after.counts.regions ≡ q.counts.regions → o.after.counts.state ≡ 1 → Says q b o
    stops : (r : Refusal) → o.answer ≡ Err r → patches_verdict job labels (regions_of b) (pendings_of b) ≡ Err r → o.after.counts.state ≡ 2 → Says q b o

  pub record StepKeeps (q b : Patching) (o : StepOutcome) : Type 0 where
    pub held : Held job labels entry o.after b
    pub mode : Mode o.after b
    pub says : Says q b o

  module _ (q b : Patching) (h : Held job labels entry q b) where
    abbrev order : List ℕ
    order = order_of b

    abbrev base : List ℕ
    base = regions_of b

    abbrev waiting : List ℕ
    waiting = pendings_of b

    within_regions : Within q.counts.regions q.regions
    within_regions = let l = (wrote_all job labels entry q b h).length_same in let f = h.regions_fill in let w = h.regions_within in (omega arith, omega arith)

    within_pending : Within q.counts.pending q.pending
    within_pending = let l = ap length h.pending_is in let f = h.pending_fill in let w = h.pending_within in (omega arith, omega arith)

    few_pendings : 36 * length (places (pendings_of b)) ≤ length b.pending
    few_pendings = let w = h.pending_within in omega (arith, few (region_count base) waiting h.pendings_good, length-take b.counts.pending b.pending)

    short_order : length (order_of b) ≤ length (places (pendings_of b))
    short_order = order_few (region_count base) waiting

    pub regions_pass : regions_layout q ≡ None
    regions_pass = regions_is q within_regions ∙ (image_kept job labels entry q b h).layout_good

    pub pendings_pass : pendings_layout q ≡ None
    pendings_pass =
        let e = ap (λ (s : List ℕ). length (places s)) (pendings_same job labels entry q b h) in
        pendings_is q within_pending (omega (arith, h.count, short_order))
        ∙ ap₂ (λ (n : ℕ) (s : List ℕ). pending_layout n s) (count_same job labels entry q b h) (pendings_same job labels entry q b h) ∙ h.pendings_good

    pub kept_pass : kept_layout q ≡ None
    kept_pass =
        let e = ap (λ (s : List ℕ). length (places s)) (pendings_same job labels entry q b h) in
        kept_is q (h.kept_within.0, omega (arith, few_pendings, h.kept_within.1))

    pub checks_pass : Opened → step_checks labels entry q ≡ Ok tt
    unfolding step_checks step_layouts
    checks_pass o =
        then_pass (step_layouts labels entry q) _
        (then_pass (layout_verdict 0 labels.layout) _ (ap (layout_verdict 0) o.labels_good)
        (then_pass (layout_verdict 1 (entry_layout entry)) _ (ap (layout_verdict 1) o.entry_good)
        (then_pass (layout_verdict 2 (regions_layout q)) _ (ap (layout_verdict 2) regions_pass)
        (then_pass (layout_verdict 3 (pendings_layout q)) _ (ap (layout_verdict 3) pendings_pass) (ap (layout_verdict 4) kept_pass)))))
        (then_pass (name_verdict 0 labels.repeat) _ o.names_pass o.entry_passes)

    -- ---- the next pending
    module _ (next : q.counts.patches < length (order_of b)) where
      abbrev n : ℕ
      n = q.counts.patches

      abbrev at : ℕ
      at = get_or (order_of b) q.counts.patches 0

      in_order : Memᴰ at (order_of b)
      in_order = member order n next

      one_more : take (q.counts.patches + 1) (order_of b) ≡ done_in job labels entry q b ++ at ∷ []
      one_more = rw add-one (take-suc order n 0 next)

      done_length : length (done_in job labels entry q b) ≡ q.counts.patches
      done_length = length-take-le n order h.count

      region_here : region_for (regions_of q) (pending_at (pendings_of b) at) ≡ region_for (regions_of b) (pending_at (pendings_of b) at)
      region_here = region_is job labels entry q b h (pending_at waiting at).region (listed job labels entry q b h at in_order).1

      -- refused: all is put back
      put_back_lem : (unpatched q).regions ≡ b.regions
      put_back_lem =
          ap₂ (λ (s ps : List ℕ). put_back (regions_of q) s q.kept 0 ps q.regions) (pendings_same job labels entry q b h) (done_same job labels entry q b h)
          ∙ back_regions base (regions_of q) waiting q.kept 0 (done_in job labels entry q b) q.regions
          (λ p m. region_is job labels entry q b h (pending_at waiting p).region (listed job labels entry q b h p (take_member n order p m)).1)
          ∙ h.undo

      held_back : Held job labels entry (unpatched q) b
      unfolding write_patches put_back
      held_back = record {
        none_patched = h.none_patched;
        base_runs = h.base_runs;
        pending_is = h.pending_is;
        breakpoints_are = h.breakpoints_are;
        regions_fill = h.regions_fill;
        pending_fill = h.pending_fill;
        breakpoints_fill = h.breakpoints_fill;
        regions_within = h.regions_within;
        pending_within = h.pending_within;
        kept_within = h.kept_within;
        good = h.good;
        pendings_good = h.pendings_good;
        count = omega arith;
        passed = λ p m. elim m [ ];
        image = put_back_lem;
        undo = put_back_lem;
      }

      -- Accepted: the patch is written.
      module _ (pass : patch_verdict job labels (regions_of b) (pendings_of b) at ≡ Ok tt) where
        fits : (pending_at (pendings_of b) at).offset + 4 ≤ (region_for (regions_of b) (pending_at (pendings_of b) at)).size
        fits = let p = pending_at waiting at in (reached job labels waiting (region_for base p) p pass).inside

        data_at : InData (regions_of b) (pending_at (pendings_of b) at).region (slot_of (regions_of b) (pending_at (pendings_of b) at))
        data_at = in_data base (pending_at waiting at).region (pending_at waiting at).offset h.good (listed job labels entry q b h at in_order).1 fits

        room : slot_of (regions_of b) (pending_at (pendings_of b) at) + 4 ≤ length q.regions
        room =
            let w = h.regions_within in
            let l = (wrote_all job labels entry q b h).length_same in
            omega (arith, data_at.within, length-take b.counts.regions b.regions)

        space : 4 * length (done_in job labels entry q b) + 4 ≤ length q.kept
        space = omega (arith, done_length, next, short_order, few_pendings, h.kept_within.1)

        written : (patched labels q at).regions ≡ write_pending labels (pendings_of b) (region_for (regions_of b) (pending_at (pendings_of b) at)) (pending_at (pendings_of b) at) q.regions
        written =
            ap (λ (s : List ℕ). write_pending labels s (region_for (regions_of q) (pending_at s at)) (pending_at s at) q.regions) (pendings_same job labels entry q b h)
            ∙ ap (λ (g : Region). write_pending labels waiting g (pending_at waiting at) q.regions) region_here

        kept_then : (patched labels q at).kept ≡ append q.kept (4 * length (done_in job labels entry q b)) (part q.regions (slot_of (regions_of b) (pending_at (pendings_of b) at)) 4)
        kept_then =
            ap₂ (λ (m : ℕ) (s : List ℕ). append q.kept (4 * m) (part q.regions (slot_of (regions_of q) (pending_at s at)) 4)) (sym done_length) (pendings_same job labels entry q b h)
            ∙ ap (λ (g : Region). append q.kept (4 * length (done_in job labels entry q b)) (part q.regions (g.start + (pending_at waiting at).offset) 4)) region_here

        kept_long : length (patched labels q at).kept ≡ length q.kept
        kept_long =
            let slot = slot_of base (pending_at waiting at) in
            let l : length (part q.regions slot 4) ≡ 4 = length-take-le 4 (drop slot q.regions) (omega (arith, length-drop slot q.regions, room)) in
            ap length kept_then ∙ put_length q.kept (4 * length (done_in job labels entry q b)) (part q.regions slot 4) (omega (arith, l, space))

        held_more : Held job labels entry (patched labels q at) b
        held_more = record {
          none_patched = h.none_patched;
          base_runs = h.base_runs;
          pending_is = h.pending_is;
          breakpoints_are = h.breakpoints_are;
          regions_fill = h.regions_fill;
          pending_fill = h.pending_fill;
          breakpoints_fill = h.breakpoints_fill;
          regions_within = h.regions_within;
          pending_within = h.pending_within;
          kept_within = (omega (arith, kept_long, h.kept_within.0), omega (arith, kept_long, h.kept_within.1));
          good = h.good;
          pendings_good = h.pendings_good;
          count = omega (arith, next);
          passed = λ p m. ⊎_elim (λ x. h.passed p x) (λ x. ⊎_elim (λ (e : p ≡ at). ap (patch_verdict job labels base waiting) e ∙ pass) (λ y. elim y [ ]) (Memᴰ.cases_cons x)) (Memᴰ.append_cases (done_in job labels entry q b) (subst (Memᴰ p) one_more m));
          image =
              written ∙ ap (λ (d : List ℕ). write_pending labels waiting (region_for base (pending_at waiting at)) (pending_at waiting at) d) h.image
              ∙ sym (ap (λ (ps : List ℕ). write_patches labels base waiting ps b.regions) one_more ∙ write_append labels base waiting (done_in job labels entry q b) (at ∷ []) b.regions
              ∙ write_one labels base waiting at (write_patches labels base waiting (done_in job labels entry q b) b.regions));
          undo =
              ap₂ (λ (k d : List ℕ). put_back base waiting k 0 (take (n + 1) order) d) kept_then written
              ∙ ap (λ (ps : List ℕ). put_back base waiting (append q.kept (4 * length (done_in job labels entry q b)) (part q.regions (slot_of base (pending_at waiting at)) 4)) 0 ps (write_pending labels waiting (region_for base (pending_at waiting at)) (pending_at waiting at) q.regions)) one_more
              ∙ undo_one labels base waiting q.kept (done_in job labels entry q b) at q.regions b.regions (fitting job labels entry q b h) fits room space h.undo;
        }

    -- ---- the step

    -- the same with another state
    held_at : (state : ℕ) → Held job labels entry (record { regions = q.regions; pending = q.pending; breakpoints = q.breakpoints; kept = q.kept; counts = now_at q.counts q.counts.patches state }) b
    held_at state = record {
      none_patched = h.none_patched;
      base_runs = h.base_runs;
      pending_is = h.pending_is;
      breakpoints_are = h.breakpoints_are;
      regions_fill = h.regions_fill;
      pending_fill = h.pending_fill;
      breakpoints_fill = h.breakpoints_fill;
      regions_within = h.regions_within;
      pending_within = h.pending_within;
      kept_within = h.kept_within;
      good = h.good;
      pendings_good = h.pendings_good;
      count = h.count;
      passed = h.passed;
      image = h.image;
      undo = h.undo;
    }

    by_verdict : (l : q.counts.patches < length (order_of b)) → q.counts.state ≡ 0 → (v : Verdict) → patch_verdict job labels (regions_of b) (pendings_of b) (get_or (order_of b) q.counts.patches 0) ≡ v
        → StepKeeps q b (next_by labels q (get_or (order_of b) q.counts.patches 0) v)
    by_verdict l s (Ok tt) e = record { held = held_more l e; mode = running s; says = more refl refl }
    by_verdict l s (Err r) e =
        let v = stop_at (patch_verdict job labels base waiting) order q.counts.patches r l h.passed e in
        record { held = held_back l; mode = refused r refl refl v; says = stops r refl v refl }

    -- What a running step does, depending on whether a pending is left.
    abbrev ran_on : Bool → StepOutcome
    ran_on left =
        elim left [
          | true ↦ next_by labels q (get_or (order_of q) q.counts.patches 0) (patch_verdict job labels (regions_of q) (pendings_of q) (get_or (order_of q) q.counts.patches 0))
          | false ↦ record { answer = Ok (Ended the_entry); after = record { regions = q.regions; pending = q.pending; breakpoints = q.breakpoints; kept = q.kept; counts = now_at q.counts q.counts.patches 1 } }
        ]

    run_on : q.counts.state ≡ 0 → (left : Bool) → ltb q.counts.patches (length (order_of q)) ≡ left → StepKeeps q b (ran_on left)
    run_on s true e =
        let at = get_or order q.counts.patches 0 in
        let l : q.counts.patches < length order = omega (arith, ltb-true q.counts.patches (length (order_of q)) e, ap length (order_same job labels entry q b h)) in
        let here : get_or (order_of q) q.counts.patches 0 ≡ at = ap (λ (ps : List ℕ). get_or ps q.counts.patches 0) (order_same job labels entry q b h) in
        subst (StepKeeps q b)
        (sym (ap (λ (p : ℕ). next_by labels q p (patch_verdict job labels (regions_of q) (pendings_of q) p)) here ∙ ap (next_by labels q at) (verdict_same job labels entry q b h at (member order q.counts.patches l))))
        (by_verdict l s (patch_verdict job labels base waiting at) refl)
    run_on s false e =
        let l : q.counts.patches ≡ length order = omega (arith, ltb-false q.counts.patches (length (order_of q)) e, ap length (order_same job labels entry q b h), h.count) in
        record { held = held_at 1; mode = ended refl l; says = ends refl l refl refl refl refl }

    abbrev by_state : Bool → StepOutcome
    by_state runs = elim runs [ true ↦ running_step job labels the_entry q | false ↦ stopped_step job labels the_entry q ]

    step_checked : Opened → step_outcome job labels entry q ≡ by_state (eqb q.counts.state 0)
    unfolding step_outcome
    step_checked o = ap (step_by job labels the_entry q) (checks_pass o)

    abbrev stopped : Bool → StepOutcome
    stopped is_end =
        elim is_end [
          | true ↦ record { answer = Ok (Ended the_entry); after = q }
          | false ↦ record { answer = ended_by the_entry (patches_verdict job labels (regions_of q) (pendings_of q)); after = q }
        ]

    patches_same : patches_verdict job labels (regions_of q) (pendings_of q) ≡ patches_verdict job labels (regions_of b) (pendings_of b)
    patches_same =
        ap (first_stop (patch_verdict job labels (regions_of q) (pendings_of q))) (order_same job labels entry q b h)
        ∙ same_checks (patch_verdict job labels (regions_of q) (pendings_of q)) (patch_verdict job labels base waiting) order (λ p m. verdict_same job labels entry q b h p m)

    pub step_held : Opened → Mode q b → StepKeeps q b (step_outcome job labels entry q)
    step_held o (running s) =
        subst (StepKeeps q b) (sym (step_checked o ∙ ap by_state (eq-eqb q.counts.state 0 s))) (run_on s (ltb q.counts.patches (length (order_of q))) refl)
    step_held o (ended s l) =
        let e : eqb q.counts.state 0 ≡ false = ne_eqb q.counts.state 0 (λ x. omega arith) in
        subst (StepKeeps q b) (sym (step_checked o ∙ ap by_state e ∙ ap stopped (eq-eqb q.counts.state 1 s)))
        (record { held = h; mode = ended s l; says = ends refl l refl refl refl s })
    step_held o (refused r s n v) =
        let e : eqb q.counts.state 0 ≡ false = ne_eqb q.counts.state 0 (λ x. omega arith) in
        let f : eqb q.counts.state 1 ≡ false = ne_eqb q.counts.state 1 (λ x. omega arith) in
        subst (StepKeeps q b) (sym (step_checked o ∙ ap by_state e ∙ ap stopped f))
        (record { held = h; mode = refused r s n v; says = stops r (ap (ended_by the_entry) (patches_same ∙ v)) v s })

    -- After a refusal 14, 15 or 16: the same answer again, and nothing changes.
    pub step_refused : Opened → (r : Refusal) → q.counts.state ≡ 2 → patches_verdict job labels (regions_of b) (pendings_of b) ≡ Err r → step_outcome job labels entry q ≡ (record { answer = Err r; after = q })
    step_refused o r s v =
        let e : eqb q.counts.state 0 ≡ false = ne_eqb q.counts.state 0 (λ x. omega arith) in
        let f : eqb q.counts.state 1 ≡ false = ne_eqb q.counts.state 1 (λ x. omega arith) in
        step_checked o ∙ ap by_state e ∙ ap stopped f ∙ ap (λ (a : StepAnswer). record { answer = a; after = q }) (ap (ended_by the_entry) (patches_same ∙ v))

    -- after the end: the same too
    pub step_ended : Opened → q.counts.state ≡ 1 → step_outcome job labels entry q ≡ (record { answer = Ok (Ended the_entry); after = q })
    step_ended o s =
        let e : eqb q.counts.state 0 ≡ false = ne_eqb q.counts.state 0 (λ x. omega arith) in
        step_checked o ∙ ap by_state e ∙ ap stopped (eq-eqb q.counts.state 1 s)

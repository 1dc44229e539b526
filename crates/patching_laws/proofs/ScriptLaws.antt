-- P12's claims on every script, proved (document 02). After each call the image is that of the accepted lines, with the patches so far. A line
-- accepted is also accepted if all lines come first. The finished image or the first refusal is a whole build's after them. Assumes nothing.
use Rattle.std.specs.Prelude.{ℕ, ◌+◌, ◌<◌, ◌⊎◌, Bool, ◌≡◌, length, take, Err, Ok, Result}
use native.Mathlib.Omega.{arith}
use mathlib.Core.List.{List, [], ◌∷◌, ◌++◌, append_assoc, append-nil, Memᴰ}
use Rattle.std.proofs.Common.{inl, inr, ⊎_elim, ◌∙◌, take_all, lt-ltb, eq-eqb}
use Rattle.std.proofs.Math.Bool.{true, false}
use Rattle.std.proofs.Math.Path.{refl, sym, ap, ap₂, subst}
use Rattle.std.proofs.Math.ListN.{get_or}
use Rattle.jobs.specs.declared.Job.{Job}
use Rattle.refusal.specs.declared.Refusal.{Refusal}
use Rattle.labels.specs.Labels.{Table}
use Rattle.build_outcome.specs.Build.{patch_verdict, patches_verdict, write_patches, build_verdict, BuildOutcome, build_outcome}
use Rattle.build_outcome.proofs.BuildLaws.{all_pass, outcome_accepted, outcome_refused}
use Rattle.emit_outcome.specs.Answer.{EmitAnswer, refused_at}
use Rattle.finished_words.specs.Listed.{Bytes}
use Rattle.loading.specs.declared.LoadForm.{LoadForm}
use Rattle.patching_outcome.specs.declared.Progress.TheVariants.{Patched, Ended}
use Rattle.patching_outcome.specs.Patching.{Patching, regions_of, pendings_of, order_of}
use Rattle.patching_outcome.specs.Step.{StepAnswer, step_checks, StepOutcome, next_by, running_step, stopped_step, step_by, step_outcome, now_at}
use Rattle.patching_outcome.specs.Line.{LineGiven, is_late, LineOutcome, lined, line_outcome}
use Rattle.patching_laws.specs.Script.{Turn, Step, Line, turn, run, if_done, accepted_turn, accepted_lines, lines_first}
use Rattle.patching_laws.specs.Claims.{Start, OfBytes, AllOfBytes, JoinsEnd, JoinsAfter, SameAnswers, ImageIs, ImageAfter, AcceptedFirst, OneMore, patched_by, patched_turn, patched_steps, Counted, AllFinish, AsRequested}
use Rattle.patching_outcome.proofs.LayoutLaws.{line_lists}
use Rattle.patching_laws.proofs.LineLaws.{emitted, LineDone, line_from, line_refused, line_done}
use Rattle.patching_laws.proofs.HeldLaws.{Held, held_image, image_is, done_same}
use Rattle.patching_laws.proofs.StepLaws.{the_entry, Opened, Mode, running, ended, refused, Says, more, ends, stops, StepKeeps, step_held, step_refused, step_ended}
use Rattle.patching_laws.proofs.FreshLaws.{checks_same, checks_stop, checks_passed, fresh_held, held_start, build_is}
use Rattle.patching_laws.proofs.AnswerLaws.{answers_same}
use Rattle.patching_laws.proofs.HeldLineLaws.{timely_state, base_done, held_line, line_joins}
use Rattle.refusal.specs.Verdicts.{Verdict}

module _ (job : Job) (labels : Table) (entry : List ℕ) where
  -- ---- scripts one behind another

  pub run_append : (ts us : List Turn) (p : Patching) → run job labels entry (ts ++ us) p ≡ run job labels entry us (run job labels entry ts p)
  unfolding run
  run_append [] us p = refl
  run_append (t ∷ ts) us p = run_append ts us (turn job labels entry t p)

  accepted_append : (ts us : List Turn) (p : Patching) → accepted_lines job labels entry (ts ++ us) p ≡ accepted_lines job labels entry ts p ++ accepted_lines job labels entry us (run job labels entry ts p)
  unfolding accepted_lines run
  accepted_append [] us p = refl
  accepted_append (t ∷ ts) us p =
      let xs = accepted_turn job labels entry t p in
      let q = turn job labels entry t p in
      ap (λ (l : List Turn). xs ++ l) (accepted_append ts us q)
      ∙ sym (append_assoc xs (accepted_lines job labels entry ts q) (accepted_lines job labels entry us (run job labels entry ts q)))

  -- ---- what holds between the script's state and the state of its accepted lines alone

  pub data Between (q b : Patching) : Type 0 where
    fresh : q ≡ b → Start q → Between q b
    going : Held job labels entry q b → Opened job labels entry → Mode job labels entry q b → Between q b

  -- A step's checks pass, or they refuse before anything is patched.
  pub data Open (q b : Patching) : Type 0 where
    shut : (r : Refusal) → step_checks labels entry q ≡ Err r → q ≡ b → Start q → Open q b
    passes : Held job labels entry q b → Opened job labels entry → Mode job labels entry q b → Open q b

  opening : (q b : Patching) → Between q b → Open q b
  opening q b (going h o m) = passes h o m
  opening q b (fresh e s) = by (step_checks labels entry q) refl
    where
      by : (v : Verdict) → step_checks labels entry q ≡ v → Open q b
      by (Err r) c = shut r c e s
      by (Ok tt) c =
          let p = checks_passed job labels entry q s c in
          subst (λ (x : Patching). Open q x) e (passes (fresh_held job labels entry q s p.good p.pendings_good) p.opened (running s.running))

  shut_step : (q : Patching) (r : Refusal) → step_checks labels entry q ≡ Err r → step_outcome job labels entry q ≡ (record { answer = Err r; after = q })
  unfolding step_outcome
  shut_step q r c = ap (step_by job labels (the_entry job labels entry) q) c

  -- ---- one turn

  step_turn : (q b : Patching) → Between q b → Between (step_outcome job labels entry q).after b
  step_turn q b i = by (opening q b i)
    where
      by : Open q b → Between (step_outcome job labels entry q).after b
      by (shut r c e s) = subst (λ (o : StepOutcome). Between o.after b) (sym (shut_step q r c)) (fresh e s)
      by (passes h o m) = let x = step_held job labels entry q b h o m in going x.held o x.mode

  -- an accepted line, from the start
  fresh_line : (of : Job) (g : LineGiven) (tokens : Bytes g.token_list) (mnemonic : Bytes g.mnemonic) (q : Patching) → Start q → (position : ℕ) (loaded : LoadForm) → LineDone of g q position loaded
      → Held job labels entry (lined q g.region (emitted of g q)) (lined q g.region (emitted of g q))
  fresh_line of g tokens mnemonic q s position loaded d =
      let l = line_lists g q d.lists_pass in
      held_line job labels entry of g tokens mnemonic q q (fresh_held job labels entry q s l.regions_listed.good l.pendings_good.good) position loaded d

  -- A line is refused and changes nothing, or the accepted lines alone accept it too.
  pub record Lines (of : Job) (g : LineGiven) (q b : Patching) : Type 0 where
    pub between : Between (line_outcome of g q).after (run job labels entry (accepted_turn job labels entry (Line of g) q) b)
    pub again : accepted_lines job labels entry (accepted_turn job labels entry (Line of g) q) b ≡ accepted_turn job labels entry (Line of g) q

  line_turn : (of : Job) (g : LineGiven) → Bytes g.token_list → Bytes g.mnemonic → (q b : Patching) → Between q b → Lines of g q b
  unfolding run accepted_lines
  line_turn of g tokens mnemonic q b i = by (line_outcome of g q).answer refl
    where
      no_line : (r : Refusal) (position : ℕ) → (line_outcome of g q).answer ≡ refused_at r position → Lines of g q b
      no_line r position e =
          let none : accepted_turn job labels entry (Line of g) q ≡ [] = ap (λ (a : EmitAnswer). if_done job labels entry a (Line of g)) e in
          record {
            between =
                subst (λ (xs : List Turn). Between (line_outcome of g q).after (run job labels entry xs b)) (sym none)
                (subst (λ (x : Patching). Between x b) (sym (line_refused of g q r position e)) i);
            again = subst (λ (xs : List Turn). accepted_lines job labels entry xs b ≡ xs) (sym none) refl;
          }

      both : (position : ℕ) (loaded : LoadForm) → LineDone of g q position loaded → LineDone of g b position loaded
          → Between (lined q g.region (emitted of g q)) (lined b g.region (emitted of g b)) → Lines of g q b
      both position loaded d c x =
          let eq = line_from of g q position loaded d in
          let eb = line_from of g b position loaded c in
          let one : accepted_turn job labels entry (Line of g) q ≡ Line of g ∷ [] = ap (λ (o : LineOutcome). if_done job labels entry o.answer (Line of g)) eq in
          let too : accepted_turn job labels entry (Line of g) b ≡ Line of g ∷ [] = ap (λ (o : LineOutcome). if_done job labels entry o.answer (Line of g)) eb in
          record {
            between =
                subst (λ (xs : List Turn). Between (line_outcome of g q).after (run job labels entry xs b)) (sym one)
                (subst (λ (o : LineOutcome). Between o.after (line_outcome of g b).after) (sym eq)
                (subst (λ (o : LineOutcome). Between (lined q g.region (emitted of g q)) o.after) (sym eb) x));
            again =
                subst (λ (xs : List Turn). accepted_lines job labels entry xs b ≡ xs) (sym one)
                (append-nil (accepted_turn job labels entry (Line of g) b) ∙ too);
          }

      done : (position : ℕ) (loaded : LoadForm) → LineDone of g q position loaded → Between q b → Lines of g q b
      done position loaded d (fresh e s) =
          both position loaded d (subst (λ (x : Patching). LineDone of g x position loaded) e d)
          (fresh (ap (λ (x : Patching). lined x g.region (emitted of g x)) e) (held_start job labels entry (lined q g.region (emitted of g q)) (fresh_line of g tokens mnemonic q s position loaded d)))
      done position loaded d (going h o m) =
          both position loaded d (base_done job labels entry of g tokens mnemonic q b h position loaded d)
          (going (held_line job labels entry of g tokens mnemonic q b h position loaded d) o (running (timely_state q g.region d.timely)))

      by : (a : EmitAnswer) → (line_outcome of g q).answer ≡ a → Lines of g q b
      by (Err k) e = no_line k.refusal k.position e
      by (Ok d) e = done d.position d.loaded (line_done of g q tokens mnemonic d.position d.loaded e) i

  -- ---- a script

  pub record Runs (ts : List Turn) (q b : Patching) : Type 0 where
    pub between : Between (run job labels entry ts q) (run job labels entry (accepted_lines job labels entry ts q) b)
    pub again : accepted_lines job labels entry (accepted_lines job labels entry ts q) b ≡ accepted_lines job labels entry ts q

  one_turn : (t : Turn) → OfBytes t → (q b : Patching) → Between q b
      → Between (turn job labels entry t q) (run job labels entry (accepted_turn job labels entry t q) b) × (accepted_lines job labels entry (accepted_turn job labels entry t q) b ≡ accepted_turn job labels entry t q)
  unfolding run accepted_lines
  one_turn Step bytes q b i = (step_turn q b i, refl)
  one_turn (Line of g) bytes q b i = let x = line_turn of g bytes.0 bytes.1 q b i in (x.between, x.again)

  pub runs : (ts : List Turn) → AllOfBytes ts → (q b : Patching) → Between q b → Runs ts q b
  unfolding run accepted_lines
  runs [] bytes q b i = record { between = i; again = refl }
  runs (t ∷ ts) bytes q b i =
      let q₁ = turn job labels entry t q in
      let xs = accepted_turn job labels entry t q in
      let ys = accepted_lines job labels entry ts q₁ in
      let x = one_turn t bytes.0 q b i in
      let y = runs ts bytes.1 q₁ (run job labels entry xs b) x.0 in
      record {
        between = subst (Between (run job labels entry ts q₁)) (sym (run_append xs ys b)) y.between;
        again = accepted_append xs ys b ∙ ap₂ (λ (k l : List Turn). k ++ l) x.1 y.again;
      }

  comes : (ts : List Turn) (p : Patching) → AllOfBytes ts → Start p → Between (run job labels entry ts p) (lines_first job labels entry ts p)
  unfolding lines_first
  comes ts p bytes s = (runs ts bytes p p (fresh refl s)).between

  -- ---- the claims

  fresh_image : (q : Patching) → Start q → ImageIs job labels entry q q
  unfolding write_patches
  fresh_image q s = record {
    image_is = sym (ap (λ (n : ℕ). write_patches labels (regions_of q) (pendings_of q) (take n (order_of q)) (regions_of q)) s.none_patched);
    order_is = refl;
    behind = refl;
    pending_is = refl;
    breakpoints_are = refl;
    fills_are = (refl, refl, refl);
  }

  between_image : (q b : Patching) → Between q b → ImageIs job labels entry q b
  between_image q b (fresh e s) = subst (ImageIs job labels entry q) e (fresh_image q s)
  between_image q b (going h o m) = held_image job labels entry q b h

  -- 1.
  pub image_after : ImageAfter job labels entry
  image_after ts p bytes s = between_image (run job labels entry ts p) (lines_first job labels entry ts p) (comes ts p bytes s)

  line_joined : (of : Job) (g : LineGiven) (tokens : Bytes g.token_list) (mnemonic : Bytes g.mnemonic) (q b : Patching) → Between q b → (position : ℕ) (loaded : LoadForm)
      → LineDone of g q position loaded → JoinsEnd q (lined q g.region (emitted of g q)) g.region
  line_joined of g tokens mnemonic q b (fresh e s) position loaded d =
      let l = line_lists g q d.lists_pass in
      line_joins job labels entry of g tokens mnemonic q q (fresh_held job labels entry q s l.regions_listed.good l.pendings_good.good) position loaded d
  line_joined of g tokens mnemonic q b (going h o m) position loaded d = line_joins job labels entry of g tokens mnemonic q b h position loaded d

  between_answers : (q b : Patching) → Between q b → (of : Job) (g : LineGiven) → is_late q g.region ≡ false → (line_outcome of g q).answer ≡ (line_outcome of g b).answer
  between_answers q b (fresh e s) of g l = ap (λ (x : Patching). (line_outcome of g x).answer) e
  between_answers q b (going h o m) of g l = answers_same job labels entry of g q b h l

  pub same_answers : SameAnswers job labels entry
  same_answers ts p bytes s of g l = between_answers (run job labels entry ts p) (lines_first job labels entry ts p) (comes ts p bytes s) of g l

  pub joins_after : JoinsAfter job labels entry
  joins_after ts p bytes s of g tokens mnemonic position loaded e =
      let q = run job labels entry ts p in
      let d = line_done of g q tokens mnemonic position loaded e in
      subst (λ (o : LineOutcome). JoinsEnd q o.after g.region) (sym (line_from of g q position loaded d))
      (line_joined of g tokens mnemonic q (lines_first job labels entry ts p) (comes ts p bytes s) position loaded d)

  pub accepted_first : AcceptedFirst job labels entry
  accepted_first ts p bytes s = (runs ts bytes p p (fresh refl s)).again

  -- 2. A step that finds a pending does what the checks 14 to 16 say.
  pub step_next : (p : Patching) → step_checks labels entry p ≡ Ok tt → p.counts.state ≡ 0 → p.counts.patches < length (order_of p)
      → step_outcome job labels entry p
      ≡ next_by labels p (get_or (order_of p) p.counts.patches 0) (patch_verdict job labels (regions_of p) (pendings_of p) (get_or (order_of p) p.counts.patches 0))
  unfolding step_outcome
  step_next p c s l =
      let at = get_or (order_of p) p.counts.patches 0 in
      ap (step_by job labels (the_entry job labels entry) p) c
      ∙ ap (λ (t : Bool). elim t [ true ↦ running_step job labels (the_entry job labels entry) p | false ↦ stopped_step job labels (the_entry job labels entry) p ]) (eq-eqb p.counts.state 0 s)
      ∙ ap (λ (t : Bool).
      elim t [
        | true ↦ next_by labels p at (patch_verdict job labels (regions_of p) (pendings_of p) at)
        | false ↦ record { answer = Ok (Ended (the_entry job labels entry)); after = record { regions = p.regions; pending = p.pending; breakpoints = p.breakpoints; kept = p.kept; counts = now_at p.counts p.counts.patches 1 } }
      ]) (lt-ltb p.counts.patches (length (order_of p)) l)

  next_more : (p : Patching) (at n : ℕ) (v : Verdict) → (next_by labels p at v).answer ≡ Ok (Patched n) → (n ≡ p.counts.patches + 1) × ((next_by labels p at v).after.counts.patches ≡ n)
  next_more p at n (Ok tt) e = let z : p.counts.patches + 1 ≡ n = cc in (sym z, z)
  next_more p at n (Err r) e = let z : ◌≡◌ {A = ℕ} 0 1 = cc in absurd (omega arith)

  pub one_more : OneMore job labels entry
  one_more p c s l n e =
      let at = get_or (order_of p) p.counts.patches 0 in
      let v = patch_verdict job labels (regions_of p) (pendings_of p) at in
      subst (λ (o : StepOutcome). o.answer ≡ Ok (Patched n) → (n ≡ p.counts.patches + 1) × (o.after.counts.patches ≡ n)) (sym (step_next p c s l)) (next_more p at n v) e

  outcome_is : (o : BuildOutcome) (a : Result ℕ Refusal) (d : List ℕ) → o.answer ≡ a → o.regions ≡ d → o ≡ (record { answer = a; regions = d })
  outcome_is o a d e f = λ i. record { answer = e i; regions = f i }

  -- 3.
  module _ (q b : Patching) where
    abbrev built : BuildOutcome
    built = build_outcome job labels entry (regions_of b) (pendings_of b)

    ended_by : (a : ℕ) → Open q b → (step_outcome job labels entry q).answer ≡ Ok (Ended a) → build_outcome job labels entry (regions_of b) (pendings_of b) ≡ (record { answer = Ok a; regions = regions_of q })
    ended_by a (shut r c e s) x = let y = ap (λ (o : StepOutcome). o.answer) (shut_step q r c) in let z : ◌≡◌ {A = ℕ} 0 1 = cc in absurd (omega arith)
    ended_by a (passes h o m) x = said t.says
      where
        t : StepKeeps job labels entry q b (step_outcome job labels entry q)
        t = step_held job labels entry q b h o m

        said : Says job labels entry q b (step_outcome job labels entry q) → build_outcome job labels entry (regions_of b) (pendings_of b) ≡ (record { answer = Ok a; regions = regions_of q })
        said (more y n) = let z : ◌≡◌ {A = ℕ} 0 1 = cc in absurd (omega arith)
        said (stops r y v n) = let z : ◌≡◌ {A = ℕ} 0 1 = cc in absurd (omega arith)
        said (ends y n k same fill one) =
            let z : the_entry job labels entry ≡ a = cc in
            let w = (step_outcome job labels entry q).after in
            let all : take w.counts.patches (order_of b) ≡ order_of b = take_all w.counts.patches (order_of b) (omega (arith, n)) in
            let v : patches_verdict job labels (regions_of b) (pendings_of b) ≡ Ok tt =
            all_pass (patch_verdict job labels (regions_of b) (pendings_of b)) (order_of b) (λ p k. t.held.passed p (subst (Memᴰ p) (sym all) k)) in
            let u = outcome_accepted job labels entry (regions_of b) (pendings_of b) (build_is job labels entry q b h o ∙ v) in
            let there : regions_of w ≡ regions_of q = ap₂ (λ (k : ℕ) (d : List ℕ). take k d) fill same in
            let image : regions_of w ≡ write_patches labels (regions_of b) (pendings_of b) (order_of b) (regions_of b) =
            image_is job labels entry w b t.held ∙ ap (λ (ps : List ℕ). write_patches labels (regions_of b) (pendings_of b) ps (regions_of b)) (done_same job labels entry w b t.held ∙ all) in
            outcome_is built (Ok a) (regions_of q) (u.0 ∙ ap Ok z) (u.1 ∙ sym image ∙ there)

    refused_by : (r : Refusal) → Open q b → (step_outcome job labels entry q).answer ≡ Err r
        → build_outcome job labels entry (regions_of b) (pendings_of b) ≡ (record { answer = Err r; regions = regions_of (step_outcome job labels entry q).after })
    unfolding write_patches
    refused_by r (shut s c e start) x =
        let y = shut_step q s c in
        let z : s ≡ r = cc (ap (λ (o : StepOutcome). o.answer) y) in
        let v : build_verdict job labels entry (regions_of b) (pendings_of b) ≡ Err s = subst (λ (p : Patching). build_verdict job labels entry (regions_of p) (pendings_of p) ≡ Err s) e (checks_stop job labels entry q start s c) in
        let u = outcome_refused job labels entry (regions_of b) (pendings_of b) s v in
        outcome_is built (Err r) (regions_of (step_outcome job labels entry q).after) (u.0 ∙ ap Err z)
        (u.1 ∙ sym (ap regions_of e) ∙ sym (ap (λ (o : StepOutcome). regions_of o.after) y))
    refused_by r (passes h o m) x = said t.says t.mode
      where
        t : StepKeeps job labels entry q b (step_outcome job labels entry q)
        t = step_held job labels entry q b h o m

        back : (step_outcome job labels entry q).after.counts.patches ≡ 0 → regions_of (step_outcome job labels entry q).after ≡ regions_of b
        back n =
            image_is job labels entry (step_outcome job labels entry q).after b t.held
            ∙ ap (λ (k : ℕ). write_patches labels (regions_of b) (pendings_of b) (take k (order_of (step_outcome job labels entry q).after)) (regions_of b)) n

        said : Says job labels entry q b (step_outcome job labels entry q) → Mode job labels entry (step_outcome job labels entry q).after b
            → build_outcome job labels entry (regions_of b) (pendings_of b) ≡ (record { answer = Err r; regions = regions_of (step_outcome job labels entry q).after })
        said (more y n) k = let z : ◌≡◌ {A = ℕ} 0 1 = cc in absurd (omega arith)
        said (ends y n k same fill one) u = let z : ◌≡◌ {A = ℕ} 0 1 = cc in absurd (omega arith)
        said (stops s y v n) (running f) = absurd (omega (arith, n, f))
        said (stops s y v n) (ended f l) = absurd (omega (arith, n, f))
        said (stops s y v n) (refused s' f l v') =
            let z : s ≡ r = cc in
            let u = outcome_refused job labels entry (regions_of b) (pendings_of b) s (build_is job labels entry q b h o ∙ v) in
            outcome_is built (Err r) (regions_of (step_outcome job labels entry q).after) (u.0 ∙ ap Err z) (u.1 ∙ sym (back l))

  -- ---- later steps answer the same

  -- A step is refused by its checks: an accepted line does not change that.
  pub record Shut (r : Refusal) (q : Patching) : Type 0 where
    pub start : Start q
    pub stop : step_checks labels entry q ≡ Err r

  shut_turn : (r : Refusal) (t : Turn) → OfBytes t → (q : Patching) → Shut r q → Shut r (turn job labels entry t q)
  shut_turn r Step bytes q s = subst (λ (o : StepOutcome). Shut r o.after) (sym (shut_step q r s.stop)) s
  shut_turn r (Line of g) bytes q s = by (line_outcome of g q).answer refl
    where
      by : (a : EmitAnswer) → (line_outcome of g q).answer ≡ a → Shut r (line_outcome of g q).after
      by (Err k) e = subst (Shut r) (sym (line_refused of g q k.refusal k.position e)) s
      by (Ok done) e =
          let d = line_done of g q bytes.0 bytes.1 done.position done.loaded e in
          let l = line_lists g q d.lists_pass in
          let now = fresh_held job labels entry q s.start l.regions_listed.good l.pendings_good.good in
          let w = lined q g.region (emitted of g q) in
          let then = fresh_line of g bytes.0 bytes.1 q s.start done.position done.loaded d in
          subst (λ (o : LineOutcome). Shut r o.after) (sym (line_from of g q done.position done.loaded d))
          (record { start = held_start job labels entry w then; stop = checks_same job labels entry w w then ∙ sym (checks_same job labels entry q q now) ∙ s.stop })

  shut_run : (r : Refusal) (us : List Turn) → AllOfBytes us → (q : Patching) → Shut r q → Shut r (run job labels entry us q)
  unfolding run
  shut_run r [] bytes q s = s
  shut_run r (t ∷ us) bytes q s = shut_run r us bytes.1 (turn job labels entry t q) (shut_turn r t bytes.0 q s)

  -- ended, or refused by 14 to 16: nothing changes any more
  module _ (q : Patching) (over : q.counts.state ≡ 0 → ⊥) (stays : (step_outcome job labels entry q).after ≡ q) where
    still : (t : Turn) → OfBytes t → turn job labels entry t q ≡ q
    still Step bytes = stays
    still (Line of g) bytes = by (line_outcome of g q).answer refl
      where
        by : (a : EmitAnswer) → (line_outcome of g q).answer ≡ a → (line_outcome of g q).after ≡ q
        by (Err k) e = line_refused of g q k.refusal k.position e
        by (Ok done) e =
            let d = line_done of g q bytes.0 bytes.1 done.position done.loaded e in
            absurd (over (timely_state q g.region d.timely))

    still_run : (us : List Turn) → AllOfBytes us → run job labels entry us q ≡ q
    unfolding run
    still_run [] bytes = refl
    still_run (t ∷ us) bytes = ap (run job labels entry us) (still t bytes.0) ∙ still_run us bytes.1

  same_by : (q b : Patching) → Open q b → (r : Refusal) (us : List Turn) → AllOfBytes us → (step_outcome job labels entry q).answer ≡ Err r
      → (step_outcome job labels entry (run job labels entry us (step_outcome job labels entry q).after)).answer ≡ Err r
  same_by q b (shut s c e start) r us bytes x =
      let y = shut_step q s c in
      let z : s ≡ r = cc (ap (λ (o : StepOutcome). o.answer) y) in
      let k = shut_run s us bytes q (record { start = start; stop = c }) in
      ap (λ (o : StepOutcome). (step_outcome job labels entry (run job labels entry us o.after)).answer) y
      ∙ ap (λ (o : StepOutcome). o.answer) (shut_step (run job labels entry us q) s k.stop) ∙ ap Err z
  same_by q b (passes h o m) r us bytes x = said t.says
    where
      t : StepKeeps job labels entry q b (step_outcome job labels entry q)
      t = step_held job labels entry q b h o m

      said : Says job labels entry q b (step_outcome job labels entry q) → (step_outcome job labels entry (run job labels entry us (step_outcome job labels entry q).after)).answer ≡ Err r
      said (more y n) = let z : ◌≡◌ {A = ℕ} 0 1 = cc in absurd (omega arith)
      said (ends y n k same fill one) = let z : ◌≡◌ {A = ℕ} 0 1 = cc in absurd (omega arith)
      said (stops s y v n) =
          let z : s ≡ r = cc in
          let w = (step_outcome job labels entry q).after in
          ap (λ (p : Patching). (step_outcome job labels entry p).answer) (still_run w (λ x. omega (arith, x, n)) (ap (λ (k : StepOutcome). k.after) (step_refused job labels entry w b t.held o s n v)) us bytes)
          ∙ ap (λ (k : StepOutcome). k.answer) (step_refused job labels entry w b t.held o s n v) ∙ ap Err z

  ended_on : (q b : Patching) → Open q b → (a : ℕ) (us : List Turn) → AllOfBytes us → (step_outcome job labels entry q).answer ≡ Ok (Ended a)
      → (step_outcome job labels entry (run job labels entry us (step_outcome job labels entry q).after)).answer ≡ Ok (Ended a)
  ended_on q b (shut s c e start) a us bytes x = let y = ap (λ (o : StepOutcome). o.answer) (shut_step q s c) in let z : ◌≡◌ {A = ℕ} 0 1 = cc in absurd (omega arith)
  ended_on q b (passes h o m) a us bytes x = said t.says t.mode
    where
      t : StepKeeps job labels entry q b (step_outcome job labels entry q)
      t = step_held job labels entry q b h o m

      said : Says job labels entry q b (step_outcome job labels entry q) → Mode job labels entry (step_outcome job labels entry q).after b
          → (step_outcome job labels entry (run job labels entry us (step_outcome job labels entry q).after)).answer ≡ Ok (Ended a)
      said (more y n) f = let z : ◌≡◌ {A = ℕ} 0 1 = cc in absurd (omega arith)
      said (stops s y v n) f = let z : ◌≡◌ {A = ℕ} 0 1 = cc in absurd (omega arith)
      said (ends y n k same fill one) f =
          let z : the_entry job labels entry ≡ a = cc in
          let w = (step_outcome job labels entry q).after in
          let e = step_ended job labels entry w b t.held o one in
          ap (λ (p : Patching). (step_outcome job labels entry p).answer) (still_run w (λ u. omega (arith, u, one)) (ap (λ (v : StepOutcome). v.after) e) us bytes)
          ∙ ap (λ (v : StepOutcome). v.answer) e ∙ ap (λ (n : ℕ). Ok (Ended n)) z

  pub all_finish : AllFinish job labels entry
  unfolding run lines_first
  all_finish ts p bytes s =
      let q = run job labels entry ts p in
      let b = lines_first job labels entry ts p in
      let i = opening q b (comes ts p bytes s) in
      record {
        ended = λ a x. ended_by q b a i x;
        ended_later = λ a us of_bytes x. ap (λ (w : Patching). (step_outcome job labels entry w).answer) (run_append ts (Step ∷ us) p) ∙ ended_on q b i a us of_bytes x;
        refused = λ r x. refused_by q b r i x;
        same_later = λ r us of_bytes x. ap (λ (w : Patching). (step_outcome job labels entry w).answer) (run_append ts (Step ∷ us) p) ∙ same_by q b i r us of_bytes x;
      }

  -- the request's own sentence
  pub as_requested : AsRequested job labels entry
  as_requested ts p bytes s inside =
      let f = all_finish ts p bytes s in
      record {
        finished_image = λ a x. (ap (λ (o : BuildOutcome). o.answer) (f.ended a x), ap (λ (o : BuildOutcome). o.regions) (f.ended a x));
        first_refusal = λ r x. ap (λ (o : BuildOutcome). o.answer) (f.refused r x);
      }

  -- ---- the count of patches grows by one for each step that finds a pending

  abbrev Counts : Patching → ℕ → Type 0
  Counts q m = (q.counts.state ≡ 2) ⊎ (q.counts.patches ≡ m)

  step_counts : (q b : Patching) (m : ℕ) → Between q b → Counts q m → Counts (step_outcome job labels entry q).after (m + patched_by job labels entry (step_outcome job labels entry q).answer)
  step_counts q b m i c = by (opening q b i) c
    where
      same : (a : StepAnswer) → (step_outcome job labels entry q).answer ≡ a → patched_by job labels entry a ≡ 0 → (step_outcome job labels entry q).after.counts.patches ≡ q.counts.patches → q.counts.patches ≡ m
          → Counts (step_outcome job labels entry q).after (m + patched_by job labels entry (step_outcome job labels entry q).answer)
      same a y z n x = inr (omega (arith, n, x, ap (patched_by job labels entry) y, z))

      by : Open q b → Counts q m → Counts (step_outcome job labels entry q).after (m + patched_by job labels entry (step_outcome job labels entry q).answer)
      by (shut r k e s) (inl x) = absurd (omega (arith, x, s.running))
      by (shut r k e s) (inr x) =
          let y = shut_step q r k in
          same (Err r) (ap (λ (o : StepOutcome). o.answer) y) refl (ap (λ (o : StepOutcome). o.after.counts.patches) y) x
      by (passes h o (running z)) (inl x) = absurd (omega (arith, x, z))
      by (passes h o (ended z l)) (inl x) = absurd (omega (arith, x, z))
      by (passes h o (refused r z n v)) (inl x) = inl (ap (λ (w : StepOutcome). w.after.counts.state) (step_refused job labels entry q b h o r z v) ∙ x)
      by (passes h o k) (inr x) = said (step_held job labels entry q b h o k).says
        where
          said : Says job labels entry q b (step_outcome job labels entry q) → Counts (step_outcome job labels entry q).after (m + patched_by job labels entry (step_outcome job labels entry q).answer)
          said (more y n) = inr (omega (arith, n, x, ap (patched_by job labels entry) y))
          said (ends y n w d f one) = same (Ok (Ended (the_entry job labels entry))) y refl w x
          said (stops r y v n) = inl n

  line_counts : (of : Job) (g : LineGiven) → Bytes g.token_list → Bytes g.mnemonic → (q : Patching) (m : ℕ) → Counts q m → Counts (line_outcome of g q).after (m + 0)
  line_counts of g tokens mnemonic q m c = by (line_outcome of g q).answer refl
    where
      z : m ≡ m + 0
      z = omega arith

      by : (a : EmitAnswer) → (line_outcome of g q).answer ≡ a → Counts (line_outcome of g q).after (m + 0)
      by (Err k) e = subst (λ (x : Patching). Counts x (m + 0)) (sym (line_refused of g q k.refusal k.position e)) (subst (Counts q) z c)
      by (Ok done) e =
          let d = line_done of g q tokens mnemonic done.position done.loaded e in
          subst (λ (o : LineOutcome). Counts o.after (m + 0)) (sym (line_from of g q done.position done.loaded d)) (subst (Counts q) z c)

  turn_counts : (t : Turn) → OfBytes t → (q b : Patching) (m : ℕ) → Between q b → Counts q m → Counts (turn job labels entry t q) (m + patched_turn job labels entry t q)
  turn_counts Step bytes q b m i c = step_counts q b m i c
  turn_counts (Line of g) bytes q b m i c = line_counts of g bytes.0 bytes.1 q m c

  counts : (ts : List Turn) → AllOfBytes ts → (q b : Patching) (m : ℕ) → Between q b → Counts q m → Counts (run job labels entry ts q) (m + patched_steps job labels entry ts q)
  unfolding run patched_steps
  counts [] bytes q b m i c = let z : m ≡ m + 0 = omega arith in subst (Counts q) z c
  counts (t ∷ ts) bytes q b m i c =
      let w = turn job labels entry t q in
      let k = patched_turn job labels entry t q in
      let z : m + k + patched_steps job labels entry ts w ≡ m + (k + patched_steps job labels entry ts w) = omega arith in
      subst (Counts (run job labels entry ts w)) z
      (counts ts bytes.1 w (run job labels entry (accepted_turn job labels entry t q) b) (m + k) (one_turn t bytes.0 q b i).0 (turn_counts t bytes.0 q b m i c))

  pub patches_counted : Counted job labels entry
  patches_counted ts p bytes s = let e = counts ts bytes p p 0 (fresh refl s) (inr s.none_patched) in ⊎_elim (λ x. inl x) (λ x. inr (x ∙ z (patched_steps job labels entry ts p))) e
    where
      z : (n : ℕ) → 0 + n ≡ n
      z n = omega arith

-- A line that is not late gets the answer that the accepted lines alone give: patching adds only 29 (document 02, P12). Assumes nothing.
use Rattle.std.specs.Prelude.{ℕ, ◌+◌, ◌≤◌, ◌<◌, Bool, ◌||◌, ◌≡◌, refl, length, take, drop, Err, Ok, Option, Some}
use Rattle.std.proofs.Common.{arith, ◌∙◌, length-append, length-drop, length-take-le}
use mathlib.Core.List.{List, []}
use Rattle.std.proofs.Math.Bool.{true, false}
use Rattle.std.proofs.Math.Path.{sym, ap, ap₂}
use Rattle.std.proofs.Math.Dec.{ltb, eqb}
use Rattle.jobs.specs.declared.Job.{Job}
use Rattle.record.specs.Bytes.{part}
use Rattle.refusal.specs.Verdicts.{and_then, layout_verdict, Verdict}
use Rattle.lexer.specs.Tokens.{token_layout}
use Rattle.descriptors.specs.Mnemonics.{mnemonic_layout}
use Rattle.descriptors.specs.Descriptors.{descriptor_layout}
use Rattle.labels.specs.Labels.{Table}
use Rattle.regions.specs.declared.Region.{Region}
use Rattle.regions.specs.Regions.{region_layout, region_count, region_place}
use Rattle.regions.proofs.RegionsLaws.{RegionIs, region_is as region_facts, region_place_ok}
use Rattle.breakpoints.specs.Breakpoints.{region_number_ok, breakpoint_buffer_layout}
use Rattle.breakpoints.proofs.BreakpointsLaws.{filled_kept}
use Rattle.emit_outcome.specs.Room.{no_region}
use Rattle.emit_outcome.specs.Call.{Call, call_of, lent_of}
use Rattle.emit_outcome.specs.Emit.{emit_outcome}
use Rattle.patching_outcome.specs.Patching.{Patching, regions_of, pendings_layout}
use Rattle.patching_outcome.specs.Line.{LineGiven, is_listed, only_listed, listed_layout, line_layouts, region_on, data_on, emit_call, none_call, is_late, line_outcome}
use Rattle.patching_outcome.proofs.LayoutLaws.{listed_below, line_lists, pendings_is}
use Rattle.patching_laws.proofs.BlindLaws.{with_data, emit_blind}
use Rattle.patching_laws.proofs.LineLaws.{answer_stopped, answer_none, answer_timely}
use Rattle.patching_laws.proofs.HeldLaws.{Held, image_kept, count_same, region_is, wrote_all}
use Rattle.patching_laws.proofs.StepLaws.{pendings_pass}
use Rattle.patching_laws.proofs.HeldLineLaws.{fresh_timely}

module _ (job : Job) (labels : Table) (entry : List ℕ) (of : Job) (g : LineGiven) (q b : Patching) (h : Held job labels entry q b) where
  abbrev r : ℕ
  r = g.region

  -- ---- refusal 1

  listed_same : listed_layout g.region q ≡ listed_layout g.region b
  unfolding listed_layout
  listed_same =
      let l = (wrote_all job labels entry q b h).length_same in
      let f = h.regions_fill in
      let w = h.regions_within in
      let n : is_listed (regions_of q) r ≡ is_listed (regions_of b) r = ap (λ (n : ℕ). eqb r no_region || ltb r n) (count_same job labels entry q b h) in
      ap (λ (x : Option ℕ). elim (region_number_ok r) [ true ↦ x | false ↦ Some 0 ])
      (filled_kept q.counts.regions q.regions (only_listed (is_listed (regions_of q) r) (region_layout (regions_of q))) (omega arith) (omega arith)
      ∙ ap₂ only_listed n ((image_kept job labels entry q b h).layout_good ∙ sym h.good)
      ∙ sym (filled_kept b.counts.regions b.regions (only_listed (is_listed (regions_of b) r) (region_layout (regions_of b))) w.0 w.1))

  pendings_both : pendings_layout q ≡ pendings_layout b
  pendings_both =
      pendings_pass job labels entry q b h ∙ sym (pendings_is b h.pending_within (omega (arith, h.none_patched)) ∙ h.pendings_good)

  lists_same : line_layouts g q ≡ line_layouts g b
  unfolding line_layouts
  lists_same =
      ap₂ (λ (x y : Option ℕ).
      and_then (layout_verdict 0 (token_layout g.token_list))
      (and_then (layout_verdict 1 (mnemonic_layout g.mnemonic))
      (and_then (layout_verdict 2 (descriptor_layout g.descriptors))
      (and_then (layout_verdict 3 x)
      (and_then (layout_verdict 4 y) (layout_verdict 5 (breakpoint_buffer_layout q.counts.breakpoints q.breakpoints))))))) listed_same pendings_both
      ∙ ap₂ (λ (n : ℕ) (s : List ℕ).
      and_then (layout_verdict 0 (token_layout g.token_list))
      (and_then (layout_verdict 1 (mnemonic_layout g.mnemonic))
      (and_then (layout_verdict 2 (descriptor_layout g.descriptors))
      (and_then (layout_verdict 3 (listed_layout g.region b))
      (and_then (layout_verdict 4 (pendings_layout b)) (layout_verdict 5 (breakpoint_buffer_layout n s))))))) h.breakpoints_fill h.breakpoints_are

  -- ---- the calls

  none_same : none_call g q ≡ none_call g b
  none_same = λ i.
      call_of g.token_list g.mnemonic g.descriptors (lent_of [] (h.pending_is i) (h.breakpoints_are i))
      (record { data_len = 0; pending = h.pending_fill i; breakpoints = h.breakpoints_fill i })
      (record { position = g.position; region = no_region; address = 0 })

  part_length : (s : List ℕ) (i n : ℕ) → i + n ≤ length s → length (part s i n) ≡ n
  part_length s i n l = length-take-le n (drop i s) (omega (arith, length-drop i s))

  emit_same : g.region < region_count (regions_of b) → (emit_outcome of (emit_call g q)).answer ≡ (emit_outcome of (emit_call g b)).answer
  emit_same below =
      let on : region_on q r ≡ region_on b r = region_is job labels entry q b h r below in
      let x = region_on b r in
      let facts : RegionIs (regions_of b) (region_place (regions_of b) r) = region_facts (regions_of b) (region_place (regions_of b) r) (region_place_ok (regions_of b) r h.good below) in
      let w = h.regions_within in
      let full : length (regions_of b) ≡ b.counts.regions = length-take-le b.counts.regions b.regions w.1 in
      let l = (wrote_all job labels entry q b h).length_same in
      let rest : drop q.counts.regions q.regions ≡ drop b.counts.regions b.regions = ap (λ (n : ℕ). drop n q.regions) h.regions_fill ∙ (wrote_all job labels entry q b h).rest_same in
      let e : length (part q.regions x.start x.size) ≡ length (part b.regions x.start x.size) =
      part_length q.regions x.start x.size (omega (arith, facts, full)) ∙ sym (part_length b.regions x.start x.size (omega (arith, facts, full))) in
      let room : length (data_on q (region_on q r)) ≡ length (data_on b (region_on b r)) =
      ap (λ (y : Region). length (data_on q y)) on
      ∙ length-append (part q.regions x.start x.size) (take 20 (drop q.counts.regions q.regions))
      ∙ ap₂ (λ (m : ℕ) (s : List ℕ). m + length (take 20 s)) e rest
      ∙ sym (length-append (part b.regions x.start x.size) (take 20 (drop b.counts.regions b.regions))) in
      ap (λ (c : Call). (emit_outcome of c).answer) (calls on) ∙ emit_blind (emit_call g b) (data_on q (region_on q r)) room of
    where
      calls : region_on q g.region ≡ region_on b g.region → emit_call g q ≡ with_data (emit_call g b) (data_on q (region_on q g.region))
      calls on = λ i.
          call_of g.token_list g.mnemonic g.descriptors (lent_of (data_on q (region_on q g.region)) (h.pending_is i) (h.breakpoints_are i))
          (record { data_len = (on i).size; pending = h.pending_fill i; breakpoints = h.breakpoints_fill i })
          (record { position = g.position; region = g.region; address = (on i).address })

  -- the law
  pub answers_same : is_late q g.region ≡ false → (line_outcome of g q).answer ≡ (line_outcome of g b).answer
  answers_same timely = by (line_layouts g b) refl
    where
      selected : line_layouts g b ≡ Ok tt → (n : Bool) → eqb g.region no_region ≡ n → (line_outcome of g q).answer ≡ (line_outcome of g b).answer
      selected v true n =
          answer_none of g q (lists_same ∙ v) n ∙ ap (λ (c : Call). (emit_outcome of c).answer) none_same ∙ sym (answer_none of g b v n)
      selected v false n =
          answer_timely of g q (lists_same ∙ v) n timely
          ∙ emit_same (listed_below (regions_of b) g.region (line_lists g b v).regions_listed.listed n)
          ∙ sym (answer_timely of g b v n (fresh_timely b g.region h.none_patched h.base_runs))

      by : (v : Verdict) → line_layouts g b ≡ v → (line_outcome of g q).answer ≡ (line_outcome of g b).answer
      by (Err s) v = answer_stopped of g q s (lists_same ∙ v) ∙ sym (answer_stopped of g b s v)
      by (Ok tt) v = selected v (eqb g.region no_region) refl

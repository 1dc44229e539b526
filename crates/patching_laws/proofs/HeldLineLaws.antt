-- A line that the script accepts is accepted by the accepted lines alone too; it appends the same, and what holds stays (document 02, P12). Assumes nothing.
use Rattle.std.specs.Prelude.{ℕ, ◌+◌, ◌-◌, ◌*◌, ◌/◌, ◌≤◌, ◌<◌, Bool, true, false, ◌&&◌, ◌||◌, not, ◌≡◌, refl, length, get_or, take, drop, ltb, eqb, None}
use Rattle.std.proofs.Common.{arith, inl, inr, sym, ap, ap₂, subst, ◌∙◌, length-append, length-take, length-drop, length-take-le, ltb-true, ltb-false, lt-ltb, eq-eqb, eqb-true}
use mathlib.Core.List.{List, ◌++◌, Memᴰ}
use Rattle.std.proofs.lemmas.List.{take-append-le}
use Rattle.jobs.specs.declared.Job.{Job}
use Rattle.record.specs.Bytes.{part}
use Rattle.record.specs.Records.{body_len, next, places}
use Rattle.record.specs.Stores.{append}
use Rattle.record.proofs.StoresLaws.{filled_append}
use Rattle.labels.specs.Labels.{Table}
use Rattle.regions.specs.declared.Region.{Region}
use Rattle.regions.specs.Regions.{region_count, region_place}
use Rattle.regions.proofs.RegionsLaws.{RegionIs, region_place_ok, places_apart, region_is as region_facts}
use Rattle.pending.specs.Pendings.{region_of, pending_layout, pending_at}
use Rattle.pending.proofs.PendingsLaws.{pending_good}
use Rattle.breakpoints.specs.Breakpoints.{breakpoint_buffer_layout}
use Rattle.patch.specs.Patches.{slot_of}
use Rattle.build_outcome.specs.Build.{order_from, write_patches}
use Rattle.build_outcome.proofs.KeptLaws.{InData}
use Rattle.emit_bytes.specs.Appended.{word_bytes}
use Rattle.emit_bytes.proofs.AppendedLaws.{words_length}
use Rattle.emit_outcome.specs.Room.{new_pending, new_breakpoint}
use Rattle.descriptors.specs.Mnemonics.{mnemonic_location}
use Rattle.pending.specs.declared.Pending.{Pending}
use Rattle.record_growth.proofs.ChainLaws.{Grows}
use Rattle.record_growth.proofs.PutLaws.{put_length}
use Rattle.emit_outcome.specs.Call.{Call, EmitOutcome, call_of, lent_of}
use Rattle.emit_outcome.specs.Emit.{emit_outcome}
use Rattle.emit_outcome.specs.Answer.{done_at}
use Rattle.finished_words.specs.Listed.{Bytes}
use Rattle.loading.specs.declared.LoadForm.{LoadForm}
use Rattle.routine.specs.CallValues.{call_pairs}
use Rattle.routine.proofs.FilledLaws.{build_passes, still_short, filled_within}
use Rattle.patching_outcome.specs.Patching.{Patching, regions_of, pendings_of, order_of}
use Rattle.patching_outcome.specs.Step.{put_back}
use Rattle.patching_outcome.specs.Grown.{grown}
use Rattle.patching_outcome.specs.Line.{LineGiven, region_on, data_on, emit_call, is_below, is_late, new_words, lined}
use Rattle.patching_laws.specs.Claims.{JoinsEnd}
use Rattle.patching_laws.proofs.GrownLaws.{GrownList, grown_grows, grown_list, region_in}
use Rattle.patching_laws.proofs.OrderLaws.{up_to, order_region, order_old, order_grown, done_within, done_stays}
use Rattle.patching_laws.proofs.WriteLaws.{Fits, grow, grow_length}
use Rattle.patching_laws.proofs.PatchedLaws.{Steady, verdict_stays, write_grown, put_back_grown}
use Rattle.patching_laws.proofs.MoreLaws.{Keeps, More}
use Rattle.patching_laws.proofs.BlindLaws.{with_data, emit_blind, pairs_blind, waits_of, pcs_of, CallDone, call_done}
use Rattle.patching_outcome.proofs.LayoutLaws.{listed_below, below_listed, LineListsPass, line_lists, lists_line}
use Rattle.patching_laws.proofs.LineLaws.{emitted, LineDone}
use Rattle.patching_laws.proofs.HeldLaws.{Held, done_in, take_member, pendings_same, listed, fitting, inside, count_same, place_same, region_is, order_same, wrote_all}

-- ---- not late

or_false : (a b : Bool) → (a || b) ≡ false → (a ≡ false) × (b ≡ false)
or_false true b e = (e, cc)
or_false false b e = (refl, e)

pub fresh_timely : (p : Patching) (region : ℕ) → p.counts.patches ≡ 0 → p.counts.state ≡ 0 → is_late p region ≡ false
fresh_timely p region n s =
    let a : eqb p.counts.state 0 ≡ true = eq-eqb p.counts.state 0 s in
    let b : ltb 0 p.counts.patches ≡ false = ap (ltb 0) n in
    ap₂ (λ (x y : Bool). not x || (y && ltb region (region_of (pendings_of p) (get_or (order_of p) (p.counts.patches - 1) 0)))) a b

pub timely_region : (p : Patching) (region : ℕ) → is_late p region ≡ false → 0 < p.counts.patches → region_of (pendings_of p) (get_or (order_of p) (p.counts.patches - 1) 0) ≤ region
timely_region p region e h =
    let last = region_of (pendings_of p) (get_or (order_of p) (p.counts.patches - 1) 0) in
    let b = (or_false (not (eqb p.counts.state 0)) (is_below p region) e).1 in
    let t : ltb 0 p.counts.patches ≡ true = lt-ltb 0 p.counts.patches h in
    ltb-false region last (sym (ap (λ (x : Bool). x && ltb region last) t) ∙ b)

pub timely_state : (p : Patching) (region : ℕ) → is_late p region ≡ false → p.counts.state ≡ 0
timely_state p region e = go (eqb p.counts.state 0) refl (or_false (not (eqb p.counts.state 0)) (is_below p region) e).0
  where
    go : (b : Bool) → eqb p.counts.state 0 ≡ b → not b ≡ false → p.counts.state ≡ 0
    go true b x = eqb-true p.counts.state 0 b
    go false b x = let z : ◌≡◌ {A = ℕ} 0 1 = cc in absurd (omega arith)

module _ (job : Job) (labels : Table) (entry : List ℕ) (of : Job) (g : LineGiven) (tokens : Bytes g.token_list) (mnemonic : Bytes g.mnemonic)
    (q b : Patching) (h : Held job labels entry q b) (position : ℕ) (loaded : LoadForm) (d : LineDone of g q position loaded) where
  abbrev r : ℕ
  r = g.region

  abbrev base : List ℕ
  base = regions_of b

  abbrev waiting : List ℕ
  waiting = pendings_of b

  abbrev f : ℕ
  f = b.counts.regions

  lists_q : LineListsPass g q
  lists_q = line_lists g q d.lists_pass

  -- the region
  below : g.region < region_count (regions_of b)
  below = let l = listed_below (regions_of q) r lists_q.regions_listed.listed d.selected in omega (arith, l, count_same job labels entry q b h)

  abbrev from : ℕ
  from = region_place (regions_of b) g.region

  abbrev body : ℕ
  body = body_len (regions_of b) (region_place (regions_of b) g.region)

  facts : RegionIs (regions_of b) (region_place (regions_of b) g.region)
  facts = region_facts base from (region_place_ok base r h.good below)

  base_length : length (regions_of b) ≡ b.counts.regions
  base_length = length-take-le f b.regions h.regions_within.1

  inner : region_place (regions_of b) g.region + 4 + body_len (regions_of b) (region_place (regions_of b) g.region) ≤ b.counts.regions
  inner = omega (arith, facts.body, base_length)

  lists_b : LineListsPass g b
  lists_b = record {
    tokens_good = lists_q.tokens_good;
    mnemonic_good = lists_q.mnemonic_good;
    descriptors_good = lists_q.descriptors_good;
    regions_listed = record { number_ok = lists_q.regions_listed.number_ok; within = h.regions_within; good = h.good; listed = below_listed base r below };
    pendings_good = record { within = h.pending_within; good = h.pendings_good; patched = omega (arith, h.none_patched) };
    breakpoints_good = sym (ap₂ (λ (n : ℕ) (s : List ℕ). breakpoint_buffer_layout n s) h.breakpoints_fill h.breakpoints_are) ∙ lists_q.breakpoints_good;
  }

  -- The two calls differ only in data bytes.
  abbrev on : Call
  on = emit_call g b

  abbrev other : List ℕ
  other = data_on q (region_on q g.region)

  region_on_lem : region_on q g.region ≡ region_on b g.region
  region_on_lem = region_is job labels entry q b h r below

  calls : emit_call g q ≡ with_data (emit_call g b) (data_on q (region_on q g.region))
  calls = λ i.
      call_of g.token_list g.mnemonic g.descriptors (lent_of (data_on q (region_on q g.region)) (h.pending_is i) (h.breakpoints_are i))
      (record { data_len = (region_on_lem i).size; pending = h.pending_fill i; breakpoints = h.breakpoints_fill i })
      (record { position = g.position; region = g.region; address = (region_on_lem i).address })

  rest_same : drop q.counts.regions q.regions ≡ drop b.counts.regions b.regions
  rest_same = ap (λ (n : ℕ). drop n q.regions) h.regions_fill ∙ (wrote_all job labels entry q b h).rest_same

  part_length : (s : List ℕ) (i n : ℕ) → i + n ≤ length s → length (part s i n) ≡ n
  part_length s i n l = length-take-le n (drop i s) (omega (arith, length-drop i s))

  same_room : length (data_on q (region_on q g.region)) ≡ length (data_on b (region_on b g.region))
  same_room =
      let g' = region_on b r in
      let w = h.regions_within in
      let l = (wrote_all job labels entry q b h).length_same in
      let e : length (part q.regions g'.start g'.size) ≡ length (part b.regions g'.start g'.size) =
      part_length q.regions g'.start g'.size (omega (arith, facts, base_length)) ∙ sym (part_length b.regions g'.start g'.size (omega (arith, facts, base_length))) in
      ap (λ (x : Region). length (data_on q x)) region_on_lem
      ∙ length-append (part q.regions g'.start g'.size) (take 20 (drop q.counts.regions q.regions))
      ∙ ap₂ (λ (m : ℕ) (s : List ℕ). m + length (take 20 s)) e rest_same
      ∙ sym (length-append (part b.regions g'.start g'.size) (take 20 (drop b.counts.regions b.regions)))

  answers_b : (emit_outcome of (emit_call g b)).answer ≡ done_at position loaded
  answers_b = sym (ap (λ (c : Call). (emit_outcome of c).answer) calls ∙ emit_blind on other same_room of) ∙ d.answers

  -- 1. it is accepted
  pub base_done : LineDone of g b position loaded
  base_done = record {
    lists_pass = lists_line g b lists_b;
    selected = d.selected;
    timely = fresh_timely b r h.none_patched h.base_runs;
    answers = answers_b;
  }

  -- what both append
  abbrev ws : List ℕ
  ws = word_bytes (call_pairs of (emit_call g b))

  abbrev waits : List ℕ
  waits = waits_of of (emit_call g b)

  abbrev pcs : List ℕ
  pcs = pcs_of of (emit_call g b)

  done_b : CallDone of (emit_call g b) (emitted of g b)
  done_b = call_done of on position loaded tokens mnemonic answers_b

  done_q : CallDone of (with_data (emit_call g b) (data_on q (region_on q g.region))) (emit_outcome of (with_data (emit_call g b) (data_on q (region_on q g.region))))
  done_q = call_done of (with_data on other) position loaded tokens mnemonic (emit_blind on other same_room of ∙ answers_b)

  same_outcome : emitted of g q ≡ emit_outcome of (with_data (emit_call g b) (data_on q (region_on q g.region)))
  same_outcome = ap (emit_outcome of) calls

  -- The lists with the line appended, and the counts.
  abbrev target : Patching → Patching
  target p = record {
    regions = append p.regions 0 (grown (take b.counts.regions p.regions) (region_place (regions_of b) g.region) (word_bytes (call_pairs of (emit_call g b))));
    pending = append b.pending b.counts.pending (waits_of of (emit_call g b));
    breakpoints = append b.breakpoints b.counts.breakpoints (pcs_of of (emit_call g b));
    kept = p.kept;
    counts = record {
      regions = b.counts.regions + length (word_bytes (call_pairs of (emit_call g b)));
      pending = b.counts.pending + length (waits_of of (emit_call g b));
      breakpoints = b.counts.breakpoints + length (pcs_of of (emit_call g b));
      patches = p.counts.patches;
      state = p.counts.state;
    };
  }

  lined_b : lined b g.region (emitted of g b) ≡ target b
  lined_b = λ i. record {
    regions = append b.regions 0 (grown (take b.counts.regions b.regions) (region_place (regions_of b) g.region) (done_b.words_are i));
    pending = done_b.pending_is i;
    breakpoints = done_b.breakpoints_are i;
    kept = b.kept;
    counts = record {
      regions = b.counts.regions + length (done_b.words_are i);
      pending = done_b.pending_count i;
      breakpoints = done_b.breakpoints_count i;
      patches = b.counts.patches;
      state = b.counts.state;
    };
  }

  pairs_same : call_pairs of (with_data (emit_call g b) (data_on q (region_on q g.region))) ≡ call_pairs of (emit_call g b)
  pairs_same = pairs_blind on other same_room of

  words_q : new_words (region_on q g.region).size (emitted of g q) ≡ word_bytes (call_pairs of (emit_call g b))
  words_q =
      ap₂ (λ (x : Region) (o : EmitOutcome). new_words x.size o) region_on_lem same_outcome ∙ done_q.words_are ∙ ap word_bytes pairs_same

  waits_same : waits_of of (with_data (emit_call g b) (data_on q (region_on q g.region))) ≡ waits_of of (emit_call g b)
  waits_same = ap (new_pending g.token_list (mnemonic_location g.mnemonic) (emit_call g b).numbers) pairs_same

  pcs_same : pcs_of of (with_data (emit_call g b) (data_on q (region_on q g.region))) ≡ pcs_of of (emit_call g b)
  pcs_same = ap (new_breakpoint (mnemonic_location g.mnemonic) (emit_call g b).numbers) pairs_same

  pending_q : (emitted of g q).lent.pending ≡ append b.pending b.counts.pending (waits_of of (emit_call g b))
  pending_q = ap (λ (o : EmitOutcome). o.lent.pending) same_outcome ∙ done_q.pending_is ∙ ap (append b.pending b.counts.pending) waits_same

  breakpoints_q : (emitted of g q).lent.breakpoints ≡ append b.breakpoints b.counts.breakpoints (pcs_of of (emit_call g b))
  breakpoints_q = ap (λ (o : EmitOutcome). o.lent.breakpoints) same_outcome ∙ done_q.breakpoints_are ∙ ap (append b.breakpoints b.counts.breakpoints) pcs_same

  pending_count_q : (emitted of g q).counts.pending ≡ b.counts.pending + length (waits_of of (emit_call g b))
  pending_count_q = ap (λ (o : EmitOutcome). o.counts.pending) same_outcome ∙ done_q.pending_count ∙ ap (λ (s : List ℕ). b.counts.pending + length s) waits_same

  breakpoints_count_q : (emitted of g q).counts.breakpoints ≡ b.counts.breakpoints + length (pcs_of of (emit_call g b))
  breakpoints_count_q = ap (λ (o : EmitOutcome). o.counts.breakpoints) same_outcome ∙ done_q.breakpoints_count ∙ ap (λ (s : List ℕ). b.counts.breakpoints + length s) pcs_same

  lined_q : lined q g.region (emitted of g q) ≡ target q
  lined_q = λ i. record {
    regions = append q.regions 0 (grown (take (h.regions_fill i) q.regions) (place_same job labels entry q b h g.region i) (words_q i));
    pending = pending_q i;
    breakpoints = breakpoints_q i;
    kept = q.kept;
    counts = record {
      regions = h.regions_fill i + length (words_q i);
      pending = pending_count_q i;
      breakpoints = breakpoints_count_q i;
      patches = q.counts.patches;
      state = q.counts.state;
    };
  }

  -- ---- the region list after the line

  room : b.counts.regions + length (word_bytes (call_pairs of (emit_call g b))) ≤ length b.regions
  room =
      let g' = region_on b r in
      let w = h.regions_within in
      let l : length (part b.regions g'.start g'.size) ≡ g'.size = part_length b.regions g'.start g'.size (omega (arith, facts, base_length)) in
      omega (
        arith,
        done_b.data_room,
        length-append (part b.regions g'.start g'.size) (take 20 (drop b.counts.regions b.regions)),
        length-take 20 (drop b.counts.regions b.regions),
        length-drop b.counts.regions b.regions,
        words_length (call_pairs of (emit_call g b)),
      )

  fits_b : Fits f from body ws inner b.regions
  fits_b = record { room = room; body = refl }

  fits_q : Fits f from body ws inner q.regions
  fits_q =
      let k = (wrote_all job labels entry q b h).holds.heads.heads r below in
      record {
        room = omega (arith, room, (wrote_all job labels entry q b h).length_same);
        body = omega (arith, k from (omega arith) (omega arith), k (from + 1) (omega arith) (omega arith));
      }

  abbrev big : List ℕ
  big = grown (regions_of b) (region_place (regions_of b) g.region) (word_bytes (call_pairs of (emit_call g b)))

  grows_big : Grows (regions_of b) big from (length ws)
  grows_big = let w = h.regions_within in grown_grows base from ws facts.whole_at (omega (arith, room, inner))

  big_length : length big ≡ b.counts.regions + length ws
  big_length = grows_big.longer ∙ ap (λ (n : ℕ). n + length ws) base_length

  new_is : regions_of (target b) ≡ big
  new_is =
      let z : b.counts.regions + length ws ≡ 0 + length big = omega (arith, big_length) in
      ap (λ (n : ℕ). take n (append b.regions 0 big)) z ∙ filled_append b.regions 0 big (omega arith)

  list_then : GrownList (regions_of b) (regions_of (target b)) g.region (length ws)
  list_then =
      let w = h.regions_within in
      subst (λ (t : List ℕ). GrownList base t r (length ws)) (sym new_is) (grown_list base big r (length ws) h.good below grows_big (omega (arith, big_length, room)))

  -- ---- the pendings after the line

  keeps_old : Keeps (region_count (regions_of b)) (pendings_of b)
  keeps_old = (pending_good (region_count base) waiting h.pendings_good).1

  more : More (region_count (regions_of b)) (pendings_of b) (pendings_of (target b)) g.region
  more = done_b.more (region_count base) below keeps_old

  pendings_then : pending_layout (region_count (regions_of (target b))) (pendings_of (target b)) ≡ None
  pendings_then =
      let w = h.pending_within in
      ap (λ (n : ℕ). pending_layout n (pendings_of (target b))) list_then.count_same
      ∙ build_passes (b.counts.pending + length waits) (append b.pending b.counts.pending waits)
      (still_short b.pending b.counts.pending waits done_b.pending_room w.0) (filled_within b.pending b.counts.pending waits done_b.pending_room) (region_count base) more.keeps

  -- ---- patch order after the line

  abbrev n : ℕ
  n = q.counts.patches

  abbrev count : ℕ
  count = region_count (regions_of b)

  early : q.counts.patches ≤ length (up_to (pendings_of b) (pendings_of (target b)) g.region more.added more.adds (pendings_of b))
  early = go (ltb 0 n) refl
    where
      go : (t : Bool) → ltb 0 q.counts.patches ≡ t → q.counts.patches ≤ length (up_to (pendings_of b) (pendings_of (target b)) g.region more.added more.adds (pendings_of b))
      go false t = omega (arith, ltb-false 0 n t)
      go true t =
          let p = ltb-true 0 n t in
          let last = timely_region q r d.timely p in
          let e : region_of (pendings_of q) (get_or (order_of q) (n - 1) 0) ≡ region_of waiting (get_or (order_of b) (n - 1) 0) =
          ap₂ (λ (s ps : List ℕ). region_of s (get_or ps (n - 1) 0)) (pendings_same job labels entry q b h) (order_same job labels entry q b h) in
          omega (arith, p, done_within waiting (pendings_of (target b)) r more.added more.adds count (n - 1) below (omega (arith, h.count, p)) (omega (arith, last, e)))

  done_then : done_in job labels entry (target q) (target b) ≡ done_in job labels entry q b
  done_then =
      ap (λ (m : ℕ). take n (order_from m (pendings_of (target b)) 0)) list_then.count_same
      ∙ done_stays waiting (pendings_of (target b)) r more.added more.adds count n below early

  count_then : q.counts.patches ≤ length (order_of (target b))
  count_then = omega (arith, ap length done_then, length-take n (order_of (target b)), length-take n (order_of b), h.count)

  -- A patched pending belongs to a region up to the line's.
  up_to_lem : (at : ℕ) → Memᴰ at (done_in job labels entry q b) → (pending_at (pendings_of b) at).region ≤ g.region
  up_to_lem at m =
      let first = up_to waiting (pendings_of (target b)) r more.added more.adds waiting in
      let rest = order_from (count - (r + 1)) waiting (r + 1) in
      let e : done_in job labels entry q b ≡ take n first = ap (take n) (order_old waiting (pendings_of (target b)) r more.added more.adds count below) ∙ take-append-le n first rest early in
      let o = order_region (r + 1) waiting 0 at (take_member n first at (subst (Memᴰ at) e m)) in
      omega (arith, o.1)

  steady : (at : ℕ) → Memᴰ at (done_in job labels entry q b) → Steady labels (regions_of b) (regions_of (target b)) (pendings_of b) (pendings_of (target b)) f from body ws inner at
  steady at m = go (ltb p.region r) refl
    where
      p : Pending
      p = pending_at (pendings_of b) at

      known : Memᴰ at (places (pendings_of b)) × ((pending_at (pendings_of b) at).region < region_count (regions_of b))
      known = listed job labels entry q b h at (take_member q.counts.patches (order_of b) at m)

      i : InData (regions_of b) (pending_at (pendings_of b) at).region (slot_of (regions_of b) (pending_at (pendings_of b) at))
      i = inside job labels entry q b h at m

      go : (t : Bool) → ltb (pending_at (pendings_of b) at).region g.region ≡ t → Steady labels (regions_of b) (regions_of (target b)) (pendings_of b) (pendings_of (target b)) f from body ws inner at
      go true t =
          let l = ltb-true (pending_at (pendings_of b) at).region r t in
          let e = list_then.region_before (pending_at (pendings_of b) at).region known.1 l in
          record {
            reads = (more.others at known.0).0;
            name_same = (more.others at known.0).1;
            start_same = ap (λ (x : Region). x.start) e;
            address_same = ap (λ (x : Region). x.address) e;
            size_most = omega (arith, ap (λ (x : Region). x.size) e);
            inside = fitting job labels entry q b h at m;
            clear = inr (omega (arith, i.to, places_apart base (pending_at (pendings_of b) at).region r l below));
          }
      go false t =
          let e : (pending_at (pendings_of b) at).region ≡ r = omega (arith, ltb-false (pending_at (pendings_of b) at).region r t, up_to_lem at m) in
          let z : region_place base (pending_at (pendings_of b) at).region ≡ from = ap (region_place base) e in
          let a : region_in (regions_of (target b)) (pending_at (pendings_of b) at).region ≡ region_in (regions_of (target b)) r = ap (region_in (regions_of (target b))) e in
          let c : region_in base (pending_at (pendings_of b) at).region ≡ region_in base r = ap (region_in base) e in
          let x = list_then.region_here in
          record {
            reads = (more.others at known.0).0;
            name_same = (more.others at known.0).1;
            start_same = ap (λ (x : Region). x.start) a ∙ ap (λ (x : Region). x.start) x ∙ sym (ap (λ (x : Region). x.start) c);
            address_same = ap (λ (x : Region). x.address) a ∙ ap (λ (x : Region). x.address) x ∙ sym (ap (λ (x : Region). x.address) c);
            size_most = omega (arith, ap (λ (x : Region). x.size) a, ap (λ (x : Region). x.size) x, ap (λ (x : Region). x.size) c);
            inside = fitting job labels entry q b h at m;
            clear = inl (omega (arith, i.from, z), omega (arith, i.to, z, ap (next base) z));
          }

  -- ---- what holds after the line

  held_target : Held job labels entry (target q) (target b)
  held_target = record {
    none_patched = h.none_patched;
    base_runs = h.base_runs;
    pending_is = refl;
    breakpoints_are = refl;
    regions_fill = refl;
    pending_fill = refl;
    breakpoints_fill = refl;
    regions_within = let w = h.regions_within in let l = grow_length f from body ws inner b.regions fits_b in (omega arith, omega (arith, l, room));
    pending_within = let w = h.pending_within in (still_short b.pending b.counts.pending waits done_b.pending_room w.0, filled_within b.pending b.counts.pending waits done_b.pending_room);
    kept_within =
        let l : length (append b.pending b.counts.pending waits) ≡ length b.pending = put_length b.pending b.counts.pending waits done_b.pending_room in
        let k = h.kept_within in
        (k.0, subst (λ (n : ℕ). 4 * (n / 36) ≤ length q.kept) (sym l) k.1);
    good = list_then.keeps;
    pendings_good = pendings_then;
    count = count_then;
    passed = λ at m.
        let o = subst (Memᴰ at) done_then m in
        verdict_stays labels base (regions_of (target b)) waiting (pendings_of (target b)) f from body ws inner at (steady at o) job (h.passed at o);
    image =
        ap (grow f from body ws inner) h.image
        ∙ sym (write_grown labels base (regions_of (target b)) waiting (pendings_of (target b)) f from body ws inner (done_in job labels entry q b) b.regions steady fits_b).0
        ∙ sym (ap (λ (ps : List ℕ). write_patches labels (regions_of (target b)) (pendings_of (target b)) ps (target b).regions) done_then);
    undo =
        ap (λ (ps : List ℕ). put_back (regions_of (target b)) (pendings_of (target b)) q.kept 0 ps (target q).regions) done_then
        ∙ (put_back_grown labels base (regions_of (target b)) waiting (pendings_of (target b)) f from body ws inner q.kept 0 (done_in job labels entry q b) q.regions steady fits_q).0
        ∙ ap (grow f from body ws inner) h.undo;
  }

  -- 2. What held between the two still holds.
  pub held_line : Held job labels entry (lined q g.region (emitted of g q)) (lined b g.region (emitted of g b))
  held_line =
      subst (λ (x : Patching). Held job labels entry x (lined b g.region (emitted of g b))) (sym lined_q)
      (subst (λ (x : Patching). Held job labels entry (target q) x) (sym lined_b) held_target)

  -- 3. The line's pendings join the end of their region's part.
  joins_target : JoinsEnd q (target q) g.region
  joins_target =
      let s = pendings_same job labels entry q b h in
      let c = count_same job labels entry q b h in
      let split : order_from (r + 1) (pendings_of b) 0 ≡ order_from (r + 1) (pendings_of q) 0 = sym (ap (λ (x : List ℕ). order_from (r + 1) x 0) s) in
      let rest : order_from (region_count (regions_of b) - (r + 1)) (pendings_of b) (r + 1) ≡ order_from (region_count (regions_of q) - (r + 1)) (pendings_of q) (r + 1) =
      sym (ap₂ (λ (n : ℕ) (x : List ℕ). order_from (n - (r + 1)) x (r + 1)) c s) in
      record {
        added = more.added;
        places_then = more.adds.places_are ∙ ap (λ (x : List ℕ). places x ++ more.added) (sym s);
        regions_then = more.adds.regions_new;
        order_before =
            order_same job labels entry q b h ∙ order_old waiting (pendings_of (target b)) r more.added more.adds count below
            ∙ ap₂ (λ (x y : List ℕ). x ++ y) split rest;
        order_then =
            order_same job labels entry (target q) (target b) held_target
            ∙ ap (λ (m : ℕ). order_from m (pendings_of (target b)) 0) list_then.count_same
            ∙ order_grown waiting (pendings_of (target b)) r more.added more.adds count below
            ∙ ap₂ (λ (x y : List ℕ). x ++ more.added ++ y) split rest;
      }

  pub line_joins : JoinsEnd q (lined q g.region (emitted of g q)) g.region
  line_joins = subst (λ (x : Patching). JoinsEnd q x g.region) (sym lined_q) joins_target

-- A line's emit call, made in the list, is the definition's call. Refused, it leaves every byte; accepted, it leaves a grown record. Assumes nothing.
use Rattle.std.specs.Prelude.{Ok, Err, ℕ, ◌+◌, ◌-◌, min, ◌≤◌, ◌<◌, Bool, true, false, ◌≡◌, refl, take, drop, leb}
use Rattle.std.proofs.Common.{arith, ◌∙◌, take-append-drop, take_all, leb-true, leb-false}
use mathlib.Core.List.{List, [], ◌++◌, append-nil}
use Rattle.std.proofs.Math.Path.{sym, ap, ap₂}
use Rattle.std.proofs.Math.ListN.{length, length-drop, length-append}
use Rattle.std.proofs.Math.Seq.{length-take-le}
use Rattle.jobs.specs.declared.Job.{Job}
use Rattle.record.specs.Bytes.{part}
use Rattle.record.specs.Records.{body_len, next, limit}
use Rattle.record.specs.Stores.{le16_bytes, append}
use Rattle.record_growth.proofs.PutLaws.{put_front}
use Rattle.refusal.specs.declared.Refusal.{Refusal}
use Rattle.loading.specs.declared.LoadForm.{LoadForm}
use Rattle.regions.specs.declared.Region.{Region}
use Rattle.regions.specs.Regions.{region_count, region_place, region_at}
use Rattle.regions.proofs.RegionsLaws.{RegionIs, region_is, region_place_ok}
use Rattle.emit_outcome.specs.Answer.{EmitAnswer, done_at, refused_at}
use Rattle.emit_outcome.specs.declared.FillCounts.{FillCounts}
use Rattle.emit_outcome.specs.Call.{Call, EmitOutcome, call_of, lent_of, outcome_of}
use Rattle.emit_outcome.specs.Room.{no_region, most_data}
use Rattle.emit_outcome.specs.Emit.{refuse, emit_outcome}
use Rattle.emit_outcome.proofs.Refused.{refused_stays}
use Rattle.patching_outcome.specs.declared.PatchCounts.{PatchCounts}
use Rattle.patching_outcome.specs.Patching.{Patching, patching_of, filled_regions}
use Rattle.patching_outcome.specs.Grown.{inserted, grown}
use Rattle.patching_outcome.specs.Line.{most_words, emit_call, new_words, lined, lined_by}
use Rattle.emit_in_list.specs.InList.{data_in}
use Rattle.emit_in_list.proofs.CallLaws.{Told, told_done, told_refused, Appends, appends, words_are}
use Rattle.emit_in_list.proofs.EmittedLaws.{call_adds, data_long}
use Rattle.patching_line.specs.Contract.{given_of, LinesTo}
use Rattle.patching_line.specs.Lists.{LineLists, timely, nowhere, room_of, counts_of, found_call, FoundIn, GrowsTo, counts_grown}

-- ---- with no region selected

told_refuses : (counts : FillCounts) {a : EmitAnswer} (i : ℕ) (f : LoadForm) → Told no_region counts a → a ≡ done_at i f → ⊥
told_refuses counts i f (told_done j g n m) x = let z : ◌≡◌ {A = ℕ} 0 1 = cc in omega arith
told_refuses counts i f (told_refused r j) x = let z : ◌≡◌ {A = ℕ} 0 1 = cc in omega arith

told_most : (region : ℕ) (counts : FillCounts) {a : EmitAnswer} (i : ℕ) (f : LoadForm) → Told region counts a → a ≡ done_at i f → counts.data_len ≤ most_data
told_most region counts i f (told_done j g n m) x = m
told_most region counts i f (told_refused r j) x = let z : ◌≡◌ {A = ℕ} 0 1 = cc in absurd (omega arith)

pub nowhere_stays : (job : Job) (tokens mnemonic descriptors pending breakpoints : List ℕ) (counts : PatchCounts) (position : ℕ)
    → let o = emit_outcome job (nowhere tokens mnemonic descriptors pending breakpoints counts position) in
    (o.lent.pending ≡ pending) × (o.lent.breakpoints ≡ breakpoints)
nowhere_stays job tokens mnemonic descriptors pending breakpoints counts position =
    go (emit_outcome job (nowhere tokens mnemonic descriptors pending breakpoints counts position)).answer refl
  where
    go : (a : EmitAnswer) → (emit_outcome job (nowhere tokens mnemonic descriptors pending breakpoints counts position)).answer ≡ a
        → let o = emit_outcome job (nowhere tokens mnemonic descriptors pending breakpoints counts position) in
        (o.lent.pending ≡ pending) × (o.lent.breakpoints ≡ breakpoints)
    go (Err refused) e =
        let s = refused_stays job (nowhere tokens mnemonic descriptors pending breakpoints counts position) refused.refusal refused.position e in
        (ap (λ (x : EmitOutcome). x.lent.pending) s, ap (λ (x : EmitOutcome). x.lent.breakpoints) s)
    go (Ok done) e =
        let c = nowhere tokens mnemonic descriptors pending breakpoints counts position in
        absurd (told_refuses (emit_outcome job c).counts done.position done.loaded (appends job c (omega arith)).told e)

-- The answer, and the buffers that the call leaves.
pub nowhere_is : (job : Job) (tokens mnemonic descriptors pending breakpoints : List ℕ) (counts : PatchCounts) (position : ℕ) (answer : EmitAnswer) (filled : FillCounts) (d p b : List ℕ)
    → emit_outcome job (nowhere tokens mnemonic descriptors pending breakpoints counts position) ≡ outcome_of answer filled (lent_of d p b)
    → (answer ≡ (emit_outcome job (nowhere tokens mnemonic descriptors pending breakpoints counts position)).answer) × (p ≡ pending) × (b ≡ breakpoints)
nowhere_is job tokens mnemonic descriptors pending breakpoints counts position answer filled d p b e =
    let s = nowhere_stays job tokens mnemonic descriptors pending breakpoints counts position in
    (sym (ap (λ (x : EmitOutcome). x.answer) e), sym (ap (λ (x : EmitOutcome). x.lent.pending) e) ∙ s.0, sym (ap (λ (x : EmitOutcome). x.lent.breakpoints) e) ∙ s.1)

-- ---- bytes

-- the free bytes that a line may take
free_is : (s : List ℕ) (room : ℕ) → room ≡ min most_words (length s) → take room s ≡ take most_words s
free_is s room e = go (leb most_words (length s)) refl
  where
    go : (b : Bool) → leb most_words (length s) ≡ b → take room s ≡ take most_words s
    go true b = let h = leb-true most_words (length s) b in let z : room ≡ most_words = omega arith in ap (λ (n : ℕ). take n s) z
    go false b =
        let h = leb-false most_words (length s) b in
        take_all room s (omega arith) ∙ sym (take_all most_words s (omega arith))

-- nothing inserted
none_inserted : (s : List ℕ) (fill end : ℕ) → fill ≤ length s → append s 0 (inserted (take fill s) end []) ≡ s
unfolding append
none_inserted s fill end h =
    let i : inserted (take fill s) end [] ≡ take fill s = ap (λ (l : List ℕ). l ++ drop end (take fill s)) (append-nil (take end (take fill s))) ∙ take-append-drop end (take fill s) in
    let n : 0 + length (take fill s) ≡ fill = omega (arith, length-take-le fill s h) in
    ap (λ (g : List ℕ). g ++ drop (0 + length g) s) i ∙ ap (λ (k : ℕ). take fill s ++ drop k s) n ∙ take-append-drop fill s

-- ---- a listed region
module _ (job : Job) (tokens mnemonic descriptors regions pending breakpoints : List ℕ) (counts : PatchCounts) (position region : ℕ)
    (lists : LineLists regions pending counts) (below : region < region_count (filled_regions regions counts))
    (g : Region) (numbered : g ≡ region_at (filled_regions regions counts) (region_place (filled_regions regions counts) region)) where
  abbrev list : List ℕ
  list = filled_regions regions counts

  abbrev at : ℕ
  at = region_place (filled_regions regions counts) region

  abbrev room : ℕ
  room = room_of regions counts

  record_is : RegionIs (filled_regions regions counts) (region_place (filled_regions regions counts) region)
  record_is = region_is list at (region_place_ok list region lists.regions_good below)

  list_long : length (filled_regions regions counts) ≡ counts.regions
  list_long = length-take-le counts.regions regions lists.regions_within

  record Stands : Type 0 where
    pub start_is : g.start ≡ region_place (filled_regions regions counts) region + 8
    pub body_is : body_len (filled_regions regions counts) (region_place (filled_regions regions counts) region) ≡ g.size + 4
    pub end_is : next (filled_regions regions counts) (region_place (filled_regions regions counts) region) ≡ g.start + g.size
    pub within : g.start + g.size ≤ counts.regions
    pub free : counts.regions + room_of regions counts ≤ length regions
    pub filled : counts.regions ≤ length regions
    pub short : length regions ≤ limit

  stands : Stands
  stands =
      let r = record_is in
      let s = ap (λ (x : Region). x.start) numbered in
      let z = ap (λ (x : Region). x.size) numbered in
      let l = list_long in
      let w = lists.regions_within in
      record { start_is = s; body_is = omega arith; end_is = omega arith; within = omega arith; free = omega arith; filled = w; short = lists.regions_short }

  pub inside : (g.start + g.size ≤ counts.regions) × (counts.regions ≤ length regions) × (length regions ≤ limit)
  inside = (stands.within, stands.filled, stands.short)

  abbrev call_in : Call
  call_in = found_call tokens mnemonic descriptors regions pending breakpoints counts position region g

  call_is : (kept : List ℕ) → call_in ≡ emit_call (given_of tokens mnemonic descriptors position region) (patching_of regions pending breakpoints kept counts)
  call_is kept =
      ap₂ (λ (x : Region) (f : List ℕ).
      call_of tokens mnemonic descriptors (lent_of (part regions x.start x.size ++ f) pending breakpoints) (counts_of counts x)
      (record { position = position; region = region; address = x.address }))
      numbered (free_is (drop counts.regions regions) room (ap (min most_words) (sym (length-drop counts.regions regions))))

  adds : Appends region (counts_of counts g) (lent_of (data_in regions g.start g.size counts.regions room) pending breakpoints) (emit_outcome job call_in)
  adds = call_adds job tokens mnemonic descriptors regions pending breakpoints (counts_of counts g) call_in.numbers.place g.start counts.regions room stands.within stands.free

  -- A line that is not late, from its call in the list.
  by_call : (kept : List ℕ) (a : EmitAnswer) → (emit_outcome job call_in).answer ≡ a → let p = patching_of regions pending breakpoints kept counts in
      timely job (given_of tokens mnemonic descriptors position region) p ≡ lined_by p region (emit_outcome job call_in) a
  by_call kept a e =
      let p = patching_of regions pending breakpoints kept counts in
      ap (λ (o : EmitOutcome). lined_by p region o o.answer) (sym (ap (emit_outcome job) (call_is kept))) ∙ ap (lined_by p region (emit_outcome job call_in)) e

  module _ (answer : EmitAnswer) (filled : FillCounts) (list_out pending_out breakpoints_out : List ℕ)
      (out : FoundIn job tokens mnemonic descriptors regions pending breakpoints counts position region g answer filled list_out pending_out breakpoints_out) where
    pub refused_listed : (r : Refusal) (i : ℕ) → answer ≡ refused_at r i
        → LinesTo (timely job (given_of tokens mnemonic descriptors position region)) regions pending breakpoints counts answer counts list_out pending_out breakpoints_out
    refused_listed r i e kept =
        let o = emit_outcome job call_in in
        let s : o ≡ refuse (counts_of counts g) call_in.lent i r = refused_stays job call_in r i (sym out.answer_is ∙ e) in
        let n : g.size - g.size ≡ 0 = omega arith in
        let w : new_words g.size o ≡ [] = ap (new_words g.size) s ∙ ap (part (data_in regions g.start g.size counts.regions room) g.size) n in
        let l : list_out ≡ regions =
        out.list_is ∙ ap (λ (v : List ℕ). append regions 0 (inserted (filled_regions regions counts) (g.start + g.size) v)) w ∙ none_inserted regions counts.regions (g.start + g.size) lists.regions_within in
        let p : pending_out ≡ pending = out.pending_is ∙ ap (λ (x : EmitOutcome). x.lent.pending) s in
        let b : breakpoints_out ≡ breakpoints = out.breakpoints_are ∙ ap (λ (x : EmitOutcome). x.lent.breakpoints) s in
        by_call kept (refused_at r i) (sym out.answer_is ∙ e)
        ∙ sym (ap₂ (λ (a : EmitAnswer) (x : List ℕ). record { answer = a; after = patching_of x pending_out breakpoints_out kept counts }) e l
        ∙ ap₂ (λ (x y : List ℕ). record { answer = refused_at r i; after = patching_of regions x y kept counts }) p b)

    -- what the call has added
    record Grew : Type 0 where
      pub words_long : length (new_words g.size (emit_outcome job call_in)) ≡ filled.data_len - g.size
      pub data_grew : g.size ≤ filled.data_len
      pub taken : filled.data_len ≤ g.size + room_of regions counts

    grew : Grew
    grew =
        let c = ap (λ (x : FillCounts). x.data_len) out.counts_are in
        let w = ap length (words_are region (counts_of counts g) call_in.lent (emit_outcome job call_in) adds) in
        let l = data_long job tokens mnemonic descriptors regions pending breakpoints (counts_of counts g) call_in.numbers.place g.start counts.regions room stands.within stands.free in
        let a = adds.count_is in
        let r = adds.room in
        record { words_long = omega arith; data_grew = omega arith; taken = omega arith }

    pub grows : (i : ℕ) (f : LoadForm) → answer ≡ done_at i f → length list_out ≡ length regions → GrowsTo list_out counts g filled
    grows i f e long =
        let m = told_most region (emit_outcome job call_in).counts i f adds.told (sym out.answer_is ∙ e) in
        let c = ap (λ (y : FillCounts). y.data_len) out.counts_are in
        let h = grew in
        let s = stands in
        record { head = omega (arith, s.start_is); start_within = omega arith; grew = h.data_grew; most = omega arith; list_fits = omega arith }

    pub done_listed : (i : ℕ) (f : LoadForm) → answer ≡ done_at i f
        → (c : PatchCounts) (after : List ℕ) → (c ≡ counts_grown counts g filled) × (after ≡ append list_out (g.start - 8) (le16_bytes (filled.data_len + 4)))
        → LinesTo (timely job (given_of tokens mnemonic descriptors position region)) regions pending breakpoints counts answer c after pending_out breakpoints_out
    unfolding grown
    done_listed i f e c after (now, put) kept =
        let o = emit_outcome job call_in in
        let w = new_words g.size o in
        let h = grew in
        let s = stands in
        let q : g.start - 8 ≡ at = omega (arith, s.start_is) in
        let n : filled.data_len + 4 ≡ body_len list at + length w = omega (arith, s.body_is, h.words_long, h.data_grew) in
        let ll = list_long in
        let le : length (inserted list (g.start + g.size) w) ≡ counts.regions + length w =
        length-append (take (g.start + g.size) list ++ w) (drop (g.start + g.size) list)
        ∙ omega (arith, length-append (take (g.start + g.size) list) w, length-take-le (g.start + g.size) list (omega (arith, s.within)), length-drop (g.start + g.size) list, s.within) in
        let d : after ≡ append regions 0 (grown list at w) =
        put
        ∙ ap₂ (λ (x : List ℕ) (k : ℕ). append x k (le16_bytes (filled.data_len + 4))) out.list_is q
        ∙ ap (λ (m : ℕ). append (append regions 0 (inserted list (g.start + g.size) w)) at (le16_bytes m)) n
        ∙ put_front regions (inserted list (g.start + g.size) w) at (le16_bytes (body_len list at + length w)) (omega (arith, le, s.start_is, s.within)) (omega (arith, le, s.free, h.words_long, h.data_grew, h.taken))
        ∙ ap (λ (m : ℕ). append regions 0 (append (inserted list m w) at (le16_bytes (body_len list at + length w)))) (sym s.end_is) in
        let z : (record { regions = counts.regions + length w; pending = o.counts.pending; breakpoints = o.counts.breakpoints; patches = counts.patches; state = counts.state }) ≡ c =
        sym (now ∙ ap₂ (λ (x : FillCounts) (m : ℕ). record { regions = counts.regions + m; pending = x.pending; breakpoints = x.breakpoints; patches = counts.patches; state = counts.state }) out.counts_are (sym h.words_long)) in
        let u : lined (patching_of regions pending breakpoints kept counts) region o ≡ patching_of after pending_out breakpoints_out kept c =
        lined_is kept
        ∙ ap₂ (λ (x : List ℕ) (y : PatchCounts). patching_of x o.lent.pending o.lent.breakpoints kept y) (sym d) z
        ∙ ap₂ (λ (x y : List ℕ). patching_of after x y kept c) (sym out.pending_is) (sym out.breakpoints_are) in
        by_call kept (done_at i f) (sym out.answer_is ∙ e) ∙ ap₂ (λ (a : EmitAnswer) (x : Patching). record { answer = a; after = x }) (sym e) u
      where
        -- the definition's region is the one that was read
        lined_is : (kept : List ℕ) → let w = new_words g.size (emit_outcome job call_in) in
            lined (patching_of regions pending breakpoints kept counts) region (emit_outcome job call_in)
            ≡ patching_of (append regions 0 (grown (filled_regions regions counts) (region_place (filled_regions regions counts) region) w)) (emit_outcome job call_in).lent.pending (emit_outcome job call_in).lent.breakpoints kept
            (record { regions = counts.regions + length w; pending = (emit_outcome job call_in).counts.pending; breakpoints = (emit_outcome job call_in).counts.breakpoints; patches = counts.patches; state = counts.state })
        lined_is kept =
            ap (λ (n : ℕ). let w = new_words n (emit_outcome job call_in) in
            patching_of (append regions 0 (grown (filled_regions regions counts) (region_place (filled_regions regions counts) region) w)) (emit_outcome job call_in).lent.pending (emit_outcome job call_in).lent.breakpoints kept
            (record { regions = counts.regions + length w; pending = (emit_outcome job call_in).counts.pending; breakpoints = (emit_outcome job call_in).counts.breakpoints; patches = counts.patches; state = counts.state }))
            (ap (λ (x : Region). x.size) (sym numbered))

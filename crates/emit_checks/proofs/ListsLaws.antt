-- The layouts one after the other and the names after them, and what lists that pass have. Assumes nothing.
use Rattle.std.specs.Prelude.{ℕ, List, ◌≡◌, refl, Ok, Err, Option}
use Rattle.std.proofs.Common.{sym, ap, ◌∙◌}
use Rattle.record.specs.Records.{places, first_bad}
use Rattle.record.proofs.RecordsLaws.{limit_good}
use Rattle.refusal.specs.Verdicts.{and_then, layout_verdict, name_verdict, Verdict}
use Rattle.refusal.proofs.VerdictsLaws.{both_pass, layout_pass}
use Rattle.lexer.specs.Tokens.{token_ok, token_layout}
use Rattle.descriptors.specs.Mnemonics.{mnemonic_layout}
use Rattle.descriptors.specs.Descriptors.{descriptor_layout, descriptor_repeat}
use Rattle.breakpoints.specs.Breakpoints.{pending_buffer_layout, breakpoint_buffer_layout, data_buffer_layout}
use Rattle.breakpoints.proofs.BreakpointsLaws.{data_good, pending_buffer_good, breakpoint_buffer_good}
use Rattle.emit_outcome.specs.declared.FillCounts.{FillCounts}
use Rattle.emit_outcome.specs.Call.{Lent}
use Rattle.emit_outcome.specs.Checks.{layout_stop, list_stop}
use Rattle.emit_checks.specs.LineLists.{line_lists_stop}
use Rattle.emit_checks.specs.Made.{ListsGood}

three_then : (a b c later : Verdict) → and_then (and_then a (and_then b c)) later ≡ and_then a (and_then b (and_then c later))
three_then (Ok u) (Ok v) c later = refl
three_then (Ok u) (Err r) c later = refl
three_then (Err r) b c later = refl

-- ---- the lists that a line only reads
module _ (token_list mnemonic descriptors : List ℕ) where
  pub line_lists_are : {t m d : Verdict} → layout_verdict 0 (token_layout token_list) ≡ t → layout_verdict 1 (mnemonic_layout mnemonic) ≡ m
      → layout_verdict 2 (descriptor_layout descriptors) ≡ d → line_lists_stop token_list mnemonic descriptors ≡ and_then t (and_then m d)
  unfolding line_lists_stop
  line_lists_are ht hm hd = rw (ht, hm, hd)

  -- and what is checked after them
  pub line_lists_then : {v : Verdict} → line_lists_stop token_list mnemonic descriptors ≡ v → (later : Verdict)
      → and_then (layout_verdict 0 (token_layout token_list)) (and_then (layout_verdict 1 (mnemonic_layout mnemonic)) (and_then (layout_verdict 2 (descriptor_layout descriptors)) later))
      ≡ and_then v later
  unfolding line_lists_stop
  line_lists_then e later =
      sym (three_then (layout_verdict 0 (token_layout token_list)) (layout_verdict 1 (mnemonic_layout mnemonic)) (layout_verdict 2 (descriptor_layout descriptors)) later)
      ∙ ap (λ (v : Verdict). and_then v later) e

-- ---- all lists and buffers
module _ (token_list mnemonic descriptors : List ℕ) (lent : Lent) (region : ℕ) (counts : FillCounts) where
  pub layouts_are : {t m d r p b : Option ℕ} → token_layout token_list ≡ t → mnemonic_layout mnemonic ≡ m → descriptor_layout descriptors ≡ d
      → data_buffer_layout region counts.data_len lent.region_data ≡ r → pending_buffer_layout counts.pending lent.pending ≡ p
      → breakpoint_buffer_layout counts.breakpoints lent.breakpoints ≡ b
      → layout_stop token_list mnemonic descriptors lent region counts
      ≡ and_then (layout_verdict 0 t) (and_then (layout_verdict 1 m) (and_then (layout_verdict 2 d) (and_then (layout_verdict 3 r) (and_then (layout_verdict 4 p) (layout_verdict 5 b)))))
  unfolding layout_stop
  layouts_are ht hm hd hr hp hb = rw (ht, hm, hd, hr, hp, hb)

  -- The same, stated of the verdicts.
  pub verdicts_are : {t m d r p b : Verdict} → layout_verdict 0 (token_layout token_list) ≡ t → layout_verdict 1 (mnemonic_layout mnemonic) ≡ m
      → layout_verdict 2 (descriptor_layout descriptors) ≡ d → layout_verdict 3 (data_buffer_layout region counts.data_len lent.region_data) ≡ r
      → layout_verdict 4 (pending_buffer_layout counts.pending lent.pending) ≡ p → layout_verdict 5 (breakpoint_buffer_layout counts.breakpoints lent.breakpoints) ≡ b
      → layout_stop token_list mnemonic descriptors lent region counts ≡ and_then t (and_then m (and_then d (and_then r (and_then p b))))
  unfolding layout_stop
  verdicts_are ht hm hd hr hp hb = rw (ht, hm, hd, hr, hp, hb)

  -- the same, by the verdict on the lists that a line only reads
  pub stops_are : {v r p b : Verdict} → line_lists_stop token_list mnemonic descriptors ≡ v → layout_verdict 3 (data_buffer_layout region counts.data_len lent.region_data) ≡ r
      → layout_verdict 4 (pending_buffer_layout counts.pending lent.pending) ≡ p → layout_verdict 5 (breakpoint_buffer_layout counts.breakpoints lent.breakpoints) ≡ b
      → layout_stop token_list mnemonic descriptors lent region counts ≡ and_then v (and_then r (and_then p b))
  stops_are hv hr hp hb = verdicts_are refl refl refl hr hp hb ∙ line_lists_then token_list mnemonic descriptors hv _

  pub lists_are : {v : Verdict} {r : Option ℕ} → layout_stop token_list mnemonic descriptors lent region counts ≡ v → descriptor_repeat descriptors ≡ r
      → list_stop token_list mnemonic descriptors lent region counts ≡ and_then v (name_verdict 2 r)
  unfolding list_stop
  lists_are hv hr = rw (hv, hr)

  pub layouts_pass : layout_stop token_list mnemonic descriptors lent region counts ≡ Ok tt → ListsGood token_list mnemonic descriptors lent counts
  unfolding layout_stop token_layout
  layouts_pass e =
      let t = both_pass (layout_verdict 0 (token_layout token_list)) _ e in
      let m = both_pass (layout_verdict 1 (mnemonic_layout mnemonic)) _ t.1 in
      let d = both_pass (layout_verdict 2 (descriptor_layout descriptors)) _ m.1 in
      let r = both_pass (layout_verdict 3 (data_buffer_layout region counts.data_len lent.region_data)) _ d.1 in
      let p = both_pass (layout_verdict 4 (pending_buffer_layout counts.pending lent.pending)) _ r.1 in
      let tokens_good = layout_pass 0 (token_layout token_list) t.0 in
      let bytes = data_good counts.data_len lent.region_data region (layout_pass 3 (data_buffer_layout region counts.data_len lent.region_data) r.0) in
      let waits = pending_buffer_good counts.pending lent.pending (layout_pass 4 (pending_buffer_layout counts.pending lent.pending) p.0) in
      let pcs = breakpoint_buffer_good counts.breakpoints lent.breakpoints (layout_pass 5 (breakpoint_buffer_layout counts.breakpoints lent.breakpoints) p.1) in
      record {
        tokens_good = tokens_good;
        mnemonic_good = layout_pass 1 (mnemonic_layout mnemonic) m.0;
        descriptors_good = layout_pass 2 (descriptor_layout descriptors) d.0;
        filled = record {
          tokens_length = (limit_good token_list (first_bad (token_ok token_list) (places token_list)) tokens_good).0;
          data_length = bytes.1;
          pending_length = waits.0;
          breakpoints_length = pcs.0;
          data_filled = bytes.2;
          pending_filled = waits.1;
          breakpoints_filled = pcs.1;
        };
      }

  pub lists_pass : list_stop token_list mnemonic descriptors lent region counts ≡ Ok tt → ListsGood token_list mnemonic descriptors lent counts
  unfolding list_stop
  lists_pass e = layouts_pass (both_pass (layout_stop token_list mnemonic descriptors lent region counts) (name_verdict 2 (descriptor_repeat descriptors)) e).0

-- Of a buffer that an emit call may change, one byte more than the limit is enough: the checks of its lists find the same as in the whole buffer,
-- and a longer one is refused. Assumes nothing.
use Rattle.std.specs.Prelude.{ℕ, ◌<◌, List, Bool, true, false, ◌≡◌, refl, leb, length, None, Option, Some}
use Rattle.std.proofs.Common.{arith, sym, ap, ◌∙◌, length-take, take_all, leb-true, leb-false}
use Rattle.std.proofs.lemmas.Bool.{lt-leb}
use Rattle.record.specs.Records.{limit, within_limit}
use Rattle.breakpoints.specs.Breakpoints.{filled_layout, region_number_ok, data_buffer_layout, pending_buffer_layout, breakpoint_buffer_layout}
use Rattle.emit_outcome.specs.declared.FillCounts.{FillCounts}
use Rattle.emit_outcome.specs.Call.{lent_of}
use Rattle.emit_outcome.specs.Checks.{layout_stop, list_stop}
use Rattle.input.specs.Input.{held}

-- If a check finds the same in all buffers over the limit, it finds the same in what is held.
as_held : (check : List ℕ → Option ℕ) → ((s : List ℕ) → limit < length s → check s ≡ Some limit) → (s : List ℕ) → check (held s) ≡ check s
as_held check blind s = go (leb (length s) 65537) refl
  where
    go : (b : Bool) → leb (length s) 65537 ≡ b → check (held s) ≡ check s
    go true e = ap check (take_all 65537 s (leb-true (length s) 65537 e))
    go false e =
        let h = leb-false (length s) 65537 e in
        blind (held s) (simp length-take (omega arith)) ∙ sym (blind s (omega arith))

over : (fill : ℕ) (s : List ℕ) (l : Option ℕ) → limit < length s → filled_layout fill s l ≡ Some limit
unfolding filled_layout within_limit
over fill s l h = rw (lt-leb (length s) limit h, within_limit)

data_held : (region fill : ℕ) (s : List ℕ) → data_buffer_layout region fill (held s) ≡ data_buffer_layout region fill s
unfolding data_buffer_layout
data_held region fill s =
    ap (λ (l : Option ℕ). elim (region_number_ok region) [ true ↦ l | false ↦ Some 0 ]) (as_held (λ (t : List ℕ). filled_layout fill t None) (λ t h. over fill t None h) s)

pending_held : (fill : ℕ) (s : List ℕ) → pending_buffer_layout fill (held s) ≡ pending_buffer_layout fill s
unfolding pending_buffer_layout
pending_held fill s = as_held (pending_buffer_layout fill) (λ t h. over fill t _ h) s

breakpoints_held : (fill : ℕ) (s : List ℕ) → breakpoint_buffer_layout fill (held s) ≡ breakpoint_buffer_layout fill s
unfolding breakpoint_buffer_layout
breakpoints_held fill s = as_held (breakpoint_buffer_layout fill) (λ t h. over fill t _ h) s

-- refusals 1 and 2, whatever the other lists are
pub held_lists : (token_list mnemonic descriptors region_data pending breakpoints : List ℕ) (region : ℕ) (counts : FillCounts)
    → list_stop token_list mnemonic descriptors (lent_of (held region_data) (held pending) (held breakpoints)) region counts
    ≡ list_stop token_list mnemonic descriptors (lent_of region_data pending breakpoints) region counts
unfolding list_stop layout_stop
held_lists token_list mnemonic descriptors region_data pending breakpoints region counts =
    rw (data_held region counts.data_len region_data, pending_held counts.pending pending, breakpoints_held counts.breakpoints breakpoints)

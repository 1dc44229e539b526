-- A place that a layout check names is at most the limit. Assumes nothing.
use Rattle.std.specs.Prelude.{ℕ, ◌≤◌, List, [], ◌∷◌, Bool, ◌≡◌, refl, take, leb, None, Option, Some}
use native.Mathlib.Omega.{arith}
use Rattle.std.proofs.Math.Bool.{true, false}
use Rattle.std.proofs.Common.{sym, ap, ◌∙◌, length-take}
use Rattle.std.proofs.Math.ListN.{length}
use Rattle.record.specs.Records.{places, first_bad, first_bad_of, limit}
use Rattle.record.proofs.RecordsLaws.{first_place, of_place, limit_bad, first_limit}
use Rattle.names.specs.Names.{same_named}
use Rattle.names.proofs.NamesLaws.{repeat_within}
use Rattle.descriptors.specs.Mnemonics.{mnemonic_ok, one_mnemonic, mnemonic_layout}
use Rattle.descriptors.specs.Descriptors.{descriptor_ok, descriptor_layout, descriptor_repeat}
use Rattle.pending.specs.Pendings.{pending_ok}
use Rattle.breakpoints.specs.Breakpoints.{breakpoint_ok, filled_layout, pending_buffer_layout, breakpoint_buffer_layout, region_number_ok, data_buffer_layout}
use Rattle.breakpoints.proofs.BreakpointsLaws.{data_layout, data_refused}

pub descriptor_place : (s : List ℕ) (p : ℕ) → descriptor_layout s ≡ Some p → p ≤ limit
unfolding descriptor_layout
descriptor_place s p e = first_limit (descriptor_ok s) s p e

one_place : (s ps : List ℕ) (p : ℕ) → places s ≡ ps → one_mnemonic s ps ≡ Some p → p ≤ length s
unfolding one_mnemonic
one_place s [] p q e = let z : length s ≡ p = cc in omega arith
one_place s (x ∷ ps) p q e = of_place 1 (mnemonic_ok s) s p (ap (first_bad_of 1 (mnemonic_ok s)) q ∙ e)

pub mnemonic_place : (s : List ℕ) (p : ℕ) → mnemonic_layout s ≡ Some p → p ≤ limit
unfolding mnemonic_layout
mnemonic_place s p e = limit_bad s (one_mnemonic s (places s)) p e (one_place s (places s) p refl)

module _ (fill : ℕ) (s : List ℕ) where
  filled_place : (l : Option ℕ) (p : ℕ) → filled_layout fill s l ≡ Some p → (l ≡ Some p → p ≤ length s) → p ≤ limit
  unfolding filled_layout
  filled_place l p e h = limit_bad s (elim (leb fill (length s)) [ true ↦ l | false ↦ Some (length s) ]) p e (go (leb fill (length s)))
    where
      go : (b : Bool) → elim b [ true ↦ l | false ↦ Some (length s) ] ≡ Some p → p ≤ length s
      go true b = h b
      go false b = let q : length s ≡ p = cc in omega arith

  -- a record of the filled part is within the buffer
  part_place : (ok : ℕ → Bool) (p : ℕ) → first_bad ok (places (take fill s)) ≡ Some p → p ≤ length s
  part_place ok p b = omega (arith, first_place ok (take fill s) p b, length-take fill s)

  pub data_place : (region p : ℕ) → data_buffer_layout region fill s ≡ Some p → p ≤ limit
  data_place region p e = go (region_number_ok region) refl
    where
      go : (b : Bool) → region_number_ok region ≡ b → p ≤ limit
      go true b = filled_place None p (sym (data_layout fill s region b) ∙ e) (λ g. let z : ◌≡◌ {A = ℕ} 0 1 = cc in absurd (omega arith))
      go false b = let q : p ≡ 0 = cc (data_refused fill s region b) in omega arith

  pub pending_place : (p : ℕ) → pending_buffer_layout fill s ≡ Some p → p ≤ limit
  unfolding pending_buffer_layout
  pending_place p e = filled_place (first_bad (pending_ok 16 (take fill s)) (places (take fill s))) p e (part_place (pending_ok 16 (take fill s)) p)

  pub breakpoint_place : (p : ℕ) → breakpoint_buffer_layout fill s ≡ Some p → p ≤ limit
  unfolding breakpoint_buffer_layout
  breakpoint_place p e = filled_place (first_bad (breakpoint_ok (take fill s)) (places (take fill s))) p e (part_place (breakpoint_ok (take fill s)) p)

pub repeat_place : (s : List ℕ) (p : ℕ) → descriptor_layout s ≡ None → descriptor_repeat s ≡ Some p → p ≤ limit
unfolding descriptor_layout
repeat_place s p = repeat_within (same_named 8 s) s (first_bad (descriptor_ok s) (places s)) p

-- A breakpoint is written behind a list of breakpoints. The list keeps its layout. The new location and pcs read back as written, and the other
-- breakpoints read as before (document 01, 'Pending 36, breakpoint 37'). Assumes nothing.
use Rattle.std.specs.Prelude.{ℕ, ◌+◌, ◌≤◌, ◌≡◌, refl, length, take, replicate, None}
use Rattle.std.proofs.Common.{arith, sym, subst, length-take-le}
use mathlib.Core.List.{List, [], ◌∷◌, ◌++◌, Memᴰ}
use Rattle.record.specs.Records.{places, places_from, places_f, first_bad}
use Rattle.record.specs.Stores.{filled_with}
use Rattle.record.proofs.StoresLaws.{filled_append}
use Rattle.record.proofs.OneMoreLaws.{good_each, one_more}
use Rattle.record.specs.declared.Location.{Location}
use Rattle.breakpoints.specs.Breakpoints.{breakpoint_ok, breakpoint_location, breakpoint_pcs}
use Rattle.breakpoints.proofs.BreakpointsLaws.{breakpoint_is}
use Rattle.breakpoints.specs.BreakpointBytes.{pcs_bytes, pcs_from, breakpoint_bytes, BreakpointFits}
use Rattle.breakpoints.proofs.WrittenLaws.{breakpoint_local, breakpoint_location_before, breakpoint_pcs_before, breakpoint_passes, breakpoint_ends, breakpoint_location_behind, breakpoint_pcs_behind}

-- A buffer whose first `fill` bytes are breakpoints, and a breakpoint that fits its fields. There is room for it behind them.
pub record Writable (buffer : List ℕ) (fill : ℕ) (location : Location) (pc n : ℕ) : Type 0 where
  pub kept : first_bad (breakpoint_ok (take fill buffer)) (places (take fill buffer)) ≡ None
  pub room : fill + length (breakpoint_bytes location pc n) ≤ length buffer
  pub fits : BreakpointFits location pc n

-- The list before and after the write.
pub record Written (old new : List ℕ) (fill : ℕ) (location : Location) (pc n : ℕ) : Type 0 where
  pub keeps : first_bad (breakpoint_ok new) (places new) ≡ None
  pub places_are : places new ≡ places old ++ fill ∷ []
  pub location_is : breakpoint_location new fill ≡ location
  pub pcs_are : breakpoint_pcs new fill ≡ pcs_from n pc
  pub others : (at : ℕ) → Memᴰ at (places old) → (breakpoint_location new at ≡ breakpoint_location old at) × (breakpoint_pcs new at ≡ breakpoint_pcs old at)

-- behind a list
pub written_behind : (old : List ℕ) (location : Location) (pc n : ℕ) → first_bad (breakpoint_ok old) (places old) ≡ None → BreakpointFits location pc n
    → Written old (old ++ breakpoint_bytes location pc n) (length old) location pc n
written_behind old location pc n kept fits =
    let bytes = breakpoint_bytes location pc n in
    let o = one_more breakpoint_ok breakpoint_local old bytes kept (breakpoint_passes old location pc n fits) (breakpoint_ends old location pc n fits) in
    record {
      keeps = o.keeps;
      places_are = o.places_are;
      location_is = breakpoint_location_behind old location pc n fits;
      pcs_are = breakpoint_pcs_behind old location pc n fits;
      others = λ at m.
          let b = breakpoint_is old at (good_each (breakpoint_ok old) (places old) kept at m) in
          (breakpoint_location_before old bytes at b, breakpoint_pcs_before old bytes at b);
    }

-- into a buffer with room for it
pub written_reads_back : (buffer : List ℕ) (fill : ℕ) (location : Location) (pc n : ℕ) → Writable buffer fill location pc n
    → Written (take fill buffer) (filled_with buffer fill (breakpoint_bytes location pc n)) fill location pc n
written_reads_back buffer fill location pc n w =
    let old = take fill buffer in
    let bytes = breakpoint_bytes location pc n in
    let len : length old ≡ fill = length-take-le fill buffer (omega (arith, w.room)) in
    subst (λ (new : List ℕ). Written old new fill location pc n) (sym (filled_append buffer fill bytes (omega (arith, w.room))))
    (subst (λ (at : ℕ). Written old (old ++ bytes) at location pc n) len (written_behind old location pc n w.kept w.fits))

-- the premises can be met: the breakpoint of a line of two words, written into an empty buffer of 32 bytes
abbrev somewhere : Location
somewhere = record { source = 1; index = 7 }

pub writable : Writable (replicate 32 0) 0 somewhere 0x00400000 2
unfolding breakpoint_ok places places_from places_f first_bad pcs_bytes
writable = record {
  kept = refl;
  room = omega arith;
  fits = record {
    location_fits = record { source_fits = omega arith; index_fits = omega arith };
    least = omega arith;
    most = omega arith;
    pcs_fit = omega arith;
  };
}

-- The room for a line's words: its checks, one after the other, and what is known if they pass. Assumes nothing.
use Prim.Native.Nat.{ℕ, zero, suc, ◌+◌, ◌-◌, ◌*◌, ◌^◌, ◌≤◌, ◌<◌}
use native.Mathlib.Omega.{arith}
use Rattle.std.proofs.Math.Path.{◌≡◌, refl}
use Rattle.std.proofs.Common.{ap}
use Rattle.std.specs.Prelude.{List, Bool, ◌&&◌, length, eqb, Err, Ok}
use Rattle.std.proofs.Math.Bool.{true, false, and-eq-true_iff}
use Rattle.std.proofs.Math.Dec.{leb}
use borrow.Author.Tests.{le-leb, lt-leb, leb-true}
use Rattle.record.specs.declared.Location.{Location}
use Rattle.refusal.specs.Verdicts.{and_then, Verdict}
use Rattle.refusal.proofs.VerdictsLaws.{both_pass}
use Rattle.refusal.specs.declared.Refusal.TheVariants.{MissingRegion, OverwriteEdge}
use Rattle.emit_pairs.specs.declared.InstructionPair.{InstructionPair}
use Rattle.emit_dispatch.specs.LineAnswers.{LineAnswer, Made, Missed, OutOfRange}
use Rattle.emit_dispatch.specs.Lines.{Line}
use Rattle.emit_bytes.specs.Appended.{pendings_len}
use Rattle.emit_bytes.proofs.AppendedLaws.{pendings_length}
use Rattle.breakpoints.proofs.BreakpointBytesLaws.{breakpoint_length}
use Rattle.emit_outcome.specs.declared.LineNumbers.{LineNumbers}
use Rattle.emit_outcome.specs.Call.{Lent}
use Rattle.emit_outcome.specs.Room.{no_region, most_data, region_stop, edge_stop, space_stop, room_stop}
use Rattle.emit_outcome.specs.Emit.{answer_stop, line_stop}
use Rattle.emit_checks.specs.Made.{RoomFor}

-- ---- refusal 11: no word is left, or the first word left fits, or it does not
module _ (line : Location) (address : ℕ) where
  pub edge_end : (n size : ℕ) → n ≡ 0 → edge_stop line address n size ≡ Ok tt
  unfolding edge_stop
  edge_end n size e = rw e

  pub edge_next : (n size : ℕ) → 0 < n → address + size ≤ 4294967295 → edge_stop line address n size ≡ edge_stop line address (n - 1) (size + 4)
  unfolding edge_stop
  edge_next zero size h k = absurd (omega arith)
  edge_next (suc n) size h k =
      let e : n ≡ suc n - 1 = omega arith in
      rw (le-leb (address + size) 4294967295 k, edge_stop) (ap (λ (m : ℕ). edge_stop line address m (size + 4)) e)

  pub edge_stop_lem : (n size : ℕ) → 0 < n → 4294967295 < address + size → edge_stop line address n size ≡ Err (OverwriteEdge line address size)
  unfolding edge_stop
  edge_stop_lem zero size h k = absurd (omega arith)
  edge_stop_lem (suc n) size h k = rw (lt-leb (address + size) 4294967295 k, edge_stop)

  edge_later : (n size : ℕ) → edge_stop line address (suc n) size ≡ Ok tt → edge_stop line address n (size + 4) ≡ Ok tt
  unfolding edge_stop
  edge_later n size e = go (leb (address + size) (2 ^ 32 - 1)) refl
    where
      go : (b : Bool) → leb (address + size) (2 ^ 32 - 1) ≡ b → edge_stop line address n (size + 4) ≡ Ok tt
      go false b = cc
      go true b = rw (b, edge_stop) at e

  edge_room : (n size : ℕ) → edge_stop line address n size ≡ Ok tt → 0 < n → address + size + 4 * n ≤ 2 ^ 32 + 3
  unfolding edge_stop
  edge_room zero size e h = absurd (omega arith)
  edge_room (suc zero) size e h = go (leb (address + size) (2 ^ 32 - 1)) refl
    where
      go : (b : Bool) → leb (address + size) (2 ^ 32 - 1) ≡ b → address + size + 4 ≤ 2 ^ 32 + 3
      go false b = let z : ◌≡◌ {A = ℕ} 0 1 = cc in absurd (omega arith)
      go true b = omega (arith, leb-true (address + size) (2 ^ 32 - 1) b)
  edge_room (suc (suc n)) size e h = omega (arith, edge_room (suc n) (size + 4) (edge_later (suc n) size e) (omega arith))

space_passes : (line : Location) (which : ℕ) (b : Bool) → space_stop line which b ≡ Ok tt → b ≡ true
space_passes line which true e = refl
space_passes line which false e = cc

-- ---- the room for n words and `size` bytes of pending records
module _ (token_list : List ℕ) (line : Location) (numbers : LineNumbers) (lent : Lent) (pairs : List InstructionPair) {n size : ℕ} (words : n ≡ length pairs) (waits : size ≡ pendings_len token_list pairs) where
  abbrev filled : ℕ
  filled = numbers.counts.data_len + 4 * n

  room_is : room_stop token_list line numbers lent pairs
      ≡ and_then (region_stop line numbers.place.region)
      (and_then (edge_stop line numbers.place.address n numbers.counts.data_len)
      (and_then (space_stop line 0 (leb filled (length lent.region_data) && leb filled most_data))
      (and_then (space_stop line 1 (leb (numbers.counts.pending + size) (length lent.pending)))
      (space_stop line 2 (leb (numbers.counts.breakpoints + (12 + 4 * n)) (length lent.breakpoints))))))
  unfolding room_stop
  room_is =
      rw (
        words,
        waits,
        pendings_length token_list (record { region = numbers.place.region; offset = numbers.counts.data_len; location = line }) pairs,
        breakpoint_length line (numbers.place.address + numbers.counts.data_len) (length pairs),
      )

  pub room_are : {b d f p k : Bool} {v : Verdict} → eqb numbers.place.region no_region ≡ b → edge_stop line numbers.place.address n numbers.counts.data_len ≡ v
      → leb filled (length lent.region_data) ≡ d → leb filled most_data ≡ f → leb (numbers.counts.pending + size) (length lent.pending) ≡ p
      → leb (numbers.counts.breakpoints + (12 + 4 * n)) (length lent.breakpoints) ≡ k
      → room_stop token_list line numbers lent pairs
      ≡ and_then (elim b [ true ↦ Err (MissingRegion line) | false ↦ Ok tt ])
      (and_then v (and_then (space_stop line 0 (d && f)) (and_then (space_stop line 1 p) (space_stop line 2 k))))
  room_are hb hv hd hf hp hk = rw (room_is, hb, hv, hd, hf, hp, hk, region_stop)

  pub room_fits : room_stop token_list line numbers lent pairs ≡ Ok tt → RoomFor numbers lent n size
  room_fits e =
      let counts = numbers.counts in
      let r = both_pass (region_stop line numbers.place.region) _ (rw room_is at e) in
      let d = both_pass (edge_stop line numbers.place.address n counts.data_len) _ r.1 in
      let p = both_pass (space_stop line 0 (leb filled (length lent.region_data) && leb filled most_data)) _ d.1 in
      let b = both_pass (space_stop line 1 (leb (counts.pending + size) (length lent.pending))) _ p.1 in
      record {
        last_pc = edge_room line numbers.place.address n counts.data_len d.0;
        data_fits = leb-true filled (length lent.region_data) ((and-eq-true_iff (leb filled (length lent.region_data)) (leb filled most_data)).0 (space_passes line 0 _ p.0)).0;
        pending_fits = leb-true (counts.pending + size) (length lent.pending) (space_passes line 1 _ b.0);
        breakpoint_fits = leb-true (counts.breakpoints + (12 + 4 * n)) (length lent.breakpoints) (space_passes line 2 _ b.1);
      }

-- a line that no check stops has room
pub line_room : (token_list : List ℕ) (line : Location) (numbers : LineNumbers) (lent : Lent) (made : Line)
    → line_stop token_list line numbers lent made ≡ Ok tt → room_stop token_list line numbers lent made.pairs ≡ Ok tt
line_room token_list line numbers lent made = go made.answer
  where
    go : (a : LineAnswer) → answer_stop token_list line numbers lent made.pairs a ≡ Ok tt → room_stop token_list line numbers lent made.pairs ≡ Ok tt
    go Made e = e
    go (Missed m) e = cc
    go (OutOfRange fault) e = cc

-- Which checks of an emit call may refuse with 12: only the checks of room. Assumes nothing.
use Rattle.std.specs.Prelude.{ℕ, zero, suc, ◌+◌, ◌*◌, ◌^◌, ◌-◌, ◌≤◌, ◌≡◌, List, Bool, true, false, length, leb, eqb, Err, None, Ok, Option, Some}
use Rattle.std.proofs.Common.{arith, ap₂, le-leb}
use Rattle.std.proofs.Math.Bool.{◌&&◌}
use Rattle.record.specs.declared.Location.{Location}
use Rattle.refusal.specs.Verdicts.{and_then, layout_verdict, name_verdict, Verdict}
use Rattle.refusal.specs.declared.Refusal.TheVariants.{MissingRegion, OverwriteEdge, NoSpace}
use Rattle.operand.specs.declared.Miss.{Miss}
use Rattle.operand.specs.declared.Miss.TheVariants.{EndOfFile, ExpectedRegister, ExpectedConstant, ExpectedLabel, ExpectedRightBrace}
use Rattle.descriptors.specs.Descriptors.{descriptor_repeat, descriptor_layout}
use Rattle.descriptors.specs.Mnemonics.{mnemonic_layout}
use Rattle.lexer.specs.Tokens.{token_layout}
use Rattle.breakpoints.specs.Breakpoints.{data_buffer_layout, pending_buffer_layout, breakpoint_buffer_layout}
use Rattle.emit_pairs.specs.declared.Fault.{Fault}
use Rattle.emit_pairs.specs.declared.Fault.TheVariants.{Immediate, ShiftAmount, ConditionCode, Dropped}
use Rattle.emit_pairs.specs.declared.InstructionPair.{InstructionPair}
use Rattle.emit_outcome.specs.Call.{Lent}
use Rattle.emit_outcome.specs.Checks.{layout_stop, list_stop, miss_refusal}
use Rattle.emit_outcome.specs.Emit.{fault_refusal}
use Rattle.emit_outcome.specs.Room.{no_region, region_stop, edge_stop, new_pending, new_breakpoint, space_stop, most_data, room_stop}
use Rattle.emit_outcome.specs.declared.FillCounts.{FillCounts}
use Rattle.emit_outcome.specs.declared.LineNumbers.{LineNumbers}

-- A check that does not refuse with 12.
abbrev pub Other : Verdict → Type 0
Other v = (line : Location) (a : ℕ) → v ≡ Err (NoSpace line a) → ⊥

unlike : ◌≡◌ {A = ℕ} 0 1 → ⊥
unlike e = omega arith

pub pass_other : Other (Ok tt)
pass_other line a e = unlike cc

then_other : (v w : Verdict) → Other v → Other w → Other (and_then v w)
then_other (Ok tt) w h i = i
then_other (Err r) w h i = h

layout_other : (n : ℕ) (l : Option ℕ) → Other (layout_verdict n l)
layout_other n None = pass_other
layout_other n (Some p) = λ line a e. unlike cc

name_other : (n : ℕ) (r : Option ℕ) → Other (name_verdict n r)
name_other n None = pass_other
name_other n (Some p) = λ line a e. unlike cc

pub lists_other : (token_list mnemonic descriptors : List ℕ) (lent : Lent) (region : ℕ) (counts : FillCounts) → Other (list_stop token_list mnemonic descriptors lent region counts)
unfolding list_stop layout_stop
lists_other token_list mnemonic descriptors lent region counts =
    then_other _ _
    (then_other _ _ (layout_other 0 (token_layout token_list))
    (then_other _ _ (layout_other 1 (mnemonic_layout mnemonic))
    (then_other _ _ (layout_other 2 (descriptor_layout descriptors))
    (then_other _ _ (layout_other 3 (data_buffer_layout region counts.data_len lent.region_data))
    (then_other _ _ (layout_other 4 (pending_buffer_layout counts.pending lent.pending))
    (layout_other 5 (breakpoint_buffer_layout counts.breakpoints lent.breakpoints)))))))
    (name_other 2 (descriptor_repeat descriptors))

pub miss_other : (line : Location) (m : Miss) → Other (Err (miss_refusal line m))
miss_other line EndOfFile = λ l a e. unlike cc
miss_other line (ExpectedRegister kind met) = λ l a e. unlike cc
miss_other line (ExpectedConstant kind met) = λ l a e. unlike cc
miss_other line (ExpectedLabel kind met) = λ l a e. unlike cc
miss_other line (ExpectedRightBrace kind met) = λ l a e. unlike cc

pub fault_other : (line : Location) (fault : Fault) → Other (Err (fault_refusal line fault))
fault_other line Immediate = λ l a e. unlike cc
fault_other line ShiftAmount = λ l a e. unlike cc
fault_other line ConditionCode = λ l a e. unlike cc
fault_other line Dropped = λ l a e. unlike cc

region_other : (line : Location) (region : ℕ) → Other (region_stop line region)
region_other line region = go (eqb region no_region)
  where
    go : (b : Bool) → Other (elim b [ true ↦ Err (MissingRegion line) | false ↦ Ok tt ])
    go true = λ l a e. unlike cc
    go false = pass_other

edge_other : (line : Location) (address n size : ℕ) → Other (edge_stop line address n size)
unfolding edge_stop
edge_other line address zero size = pass_other
edge_other line address (suc n) size = go (leb (address + size) (2 ^ 32 - 1)) (edge_other line address n (size + 4))
  where
    go : (b : Bool) → Other (edge_stop line address n (size + 4)) → Other (elim b [ true ↦ edge_stop line address n (size + 4) | false ↦ Err (OverwriteEdge line address size) ])
    go true h = h
    go false h = λ l a e. unlike cc

space_other : (line : Location) (which : ℕ) {b : Bool} → b ≡ true → Other (space_stop line which b)
space_other line which e = rw e pass_other

-- With room for the words and the records, no check of room refuses with 12.
module _ (token_list : List ℕ) (line : Location) (numbers : LineNumbers) (lent : Lent) (pairs : List InstructionPair) where
  pub room_other : numbers.counts.data_len + 4 * length pairs ≤ length lent.region_data → numbers.counts.data_len + 4 * length pairs ≤ most_data
      → numbers.counts.pending + length (new_pending token_list line numbers pairs) ≤ length lent.pending
      → numbers.counts.breakpoints + length (new_breakpoint line numbers pairs) ≤ length lent.breakpoints → Other (room_stop token_list line numbers lent pairs)
  unfolding room_stop
  room_other d m p b =
      then_other _ _ (region_other line numbers.place.region)
      (then_other _ _ (edge_other line numbers.place.address (length pairs) numbers.counts.data_len)
      (then_other _ _ (space_other line 0 (ap₂ ◌&&◌ (le-leb _ _ d) (le-leb _ _ m)))
      (then_other _ _ (space_other line 1 (le-leb _ _ p)) (space_other line 2 (le-leb _ _ b)))))

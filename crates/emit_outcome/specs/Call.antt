-- What an emit call is given and what it leaves (document 01, 'Pending 36, breakpoint 37'). Assumes nothing.
use Rattle.std.specs.Prelude.{List, ℕ, take}
use Rattle.emit_outcome.specs.declared.FillCounts.{FillCounts}
use Rattle.emit_outcome.specs.declared.LinePlace.{LinePlace}
use Rattle.emit_outcome.specs.declared.LineNumbers.{LineNumbers}
use Rattle.emit_outcome.specs.Answer.{EmitAnswer}

-- the buffers that a line is appended to
pub record Lent : Type 0 where
  pub region_data : List ℕ
  pub pending : List ℕ
  pub breakpoints : List ℕ

-- their filled parts
abbrev pub filled_data : Lent → FillCounts → List ℕ
filled_data lent counts = take counts.data_len lent.region_data

abbrev pub filled_pending : Lent → FillCounts → List ℕ
filled_pending lent counts = take counts.pending lent.pending

abbrev pub filled_breakpoints : Lent → FillCounts → List ℕ
filled_breakpoints lent counts = take counts.breakpoints lent.breakpoints

-- "An emit call's buffers are, in order, tokens, mnemonic, descriptors, region data, pending, breakpoints"; "With them come a token position, the region's number and its address."
pub record Call : Type 0 where
  pub token_list : List ℕ
  pub mnemonic : List ℕ
  pub descriptors : List ℕ
  pub lent : Lent
  pub numbers : LineNumbers

-- "answer, counts and each lent byte"; the answer has the position
pub record EmitOutcome : Type 0 where
  pub answer : EmitAnswer
  pub counts : FillCounts
  pub lent : Lent

-- ---- the three records, as the contracts write them
abbrev pub lent_of : (region_data pending breakpoints : List ℕ) → Lent
lent_of region_data pending breakpoints = record { region_data = region_data; pending = pending; breakpoints = breakpoints }

abbrev pub call_of : (token_list mnemonic descriptors : List ℕ) → Lent → FillCounts → LinePlace → Call
call_of token_list mnemonic descriptors lent counts place = record {
  token_list = token_list;
  mnemonic = mnemonic;
  descriptors = descriptors;
  lent = lent;
  numbers = record { counts = counts; place = place };
}

abbrev pub outcome_of : EmitAnswer → FillCounts → Lent → EmitOutcome
outcome_of answer counts lent = record { answer = answer; counts = counts; lent = lent }

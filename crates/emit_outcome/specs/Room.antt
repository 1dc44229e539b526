-- The room for a line's words: checks 10 to 12 (document 01, 'Where the work stops'). Assumes nothing.
use Rattle.std.specs.Prelude.{ℕ, zero, suc, ◌+◌, ◌*◌, ◌-◌, ◌^◌, List, Bool, true, false, ◌&&◌, length, leb, eqb, Err, Ok}
use Rattle.record.specs.declared.Location.{Location}
use Rattle.refusal.specs.Verdicts.{and_then, Verdict}
use Rattle.refusal.specs.declared.Refusal.TheVariants.{MissingRegion, OverwriteEdge, NoSpace}
use Rattle.emit_pairs.specs.declared.InstructionPair.{InstructionPair}
use Rattle.breakpoints.specs.BreakpointBytes.{breakpoint_bytes}
use Rattle.emit_bytes.specs.Appended.{word_bytes, pendings_bytes}
use Rattle.emit_outcome.specs.declared.LineNumbers.{LineNumbers}
use Rattle.emit_outcome.specs.Call.{Lent}

-- "10. No region is selected": "65535 for none"
abbrev pub no_region : ℕ
no_region = 65535

abbrev pub region_stop : Location → ℕ → Verdict
region_stop line region = elim (eqb region no_region) [ true ↦ Err (MissingRegion line) | false ↦ Ok tt ]

-- "11. Region address plus data length before some word exceeds 2^32-1 (a: address, b: that length at the first such word)."
unfoldable pub edge_stop : Location → ℕ → ℕ → ℕ → Verdict
edge_stop line address zero size = Ok tt
edge_stop line address (suc n) size = elim (leb (address + size) (2 ^ 32 - 1)) [ true ↦ edge_stop line address n (size + 4) | false ↦ Err (OverwriteEdge line address size) ]

-- the bytes that a line appends to the pending and the breakpoint buffer
abbrev pub new_pending : (token_list : List ℕ) → Location → LineNumbers → List InstructionPair → List ℕ
new_pending token_list line numbers pairs = pendings_bytes token_list (record { region = numbers.place.region; offset = numbers.counts.data_len; location = line }) pairs

abbrev pub new_breakpoint : Location → LineNumbers → List InstructionPair → List ℕ
new_breakpoint line numbers pairs = breakpoint_bytes line (numbers.place.address + numbers.counts.data_len) (length pairs)

abbrev pub space_stop : Location → ℕ → Bool → Verdict
space_stop line which fits = elim fits [ true ↦ Ok tt | false ↦ Err (NoSpace line which) ]

abbrev pub most_data : ℕ
most_data = 65528

-- "12. The words, pending or breakpoint records lack space, or data would exceed 65,528 bytes (a: 0, 1, 2, the first short)."
abbrev pub spaces_stop : (token_list : List ℕ) → Location → LineNumbers → Lent → List InstructionPair → Verdict
spaces_stop token_list line numbers lent pairs =
    let counts = numbers.counts in
    let filled = counts.data_len + 4 * length pairs in
    and_then (space_stop line 0 (leb filled (length lent.region_data) && leb filled most_data))
    (and_then (space_stop line 1 (leb (counts.pending + length (new_pending token_list line numbers pairs)) (length lent.pending)))
    (space_stop line 2 (leb (counts.breakpoints + length (new_breakpoint line numbers pairs)) (length lent.breakpoints))))

-- 10, then 11, then 12
unfoldable pub room_stop : (token_list : List ℕ) → Location → LineNumbers → Lent → List InstructionPair → Verdict
unfolding edge_stop word_bytes pendings_bytes
room_stop token_list line numbers lent pairs =
    and_then (region_stop line numbers.place.region)
    (and_then (edge_stop line numbers.place.address (length pairs) numbers.counts.data_len)
    (spaces_stop token_list line numbers lent pairs))

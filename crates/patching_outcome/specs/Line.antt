-- A whole line added while patching runs, defined by an emit call (document 02, P12). Assumes nothing.
use Rattle.std.specs.Prelude.{ℕ, ◌+◌, ◌-◌, List, [], ◌++◌, Bool, true, false, ◌&&◌, ◌||◌, not, length, get_or, take, drop, ltb, eqb, Err, None, Ok, Option, Some}
use Rattle.jobs.specs.declared.Job.{Job}
use Rattle.record.specs.Bytes.{part}
use Rattle.record.specs.Records.{places}
use Rattle.record.specs.Stores.{append}
use Rattle.refusal.specs.Numbers.{numbered}
use Rattle.refusal.specs.Verdicts.{and_then, layout_verdict, Verdict}
use Rattle.refusal.specs.declared.Refusal.{Refusal}
use Rattle.refusal.specs.declared.Refusal.TheVariants.{LateLine}
use Rattle.lexer.specs.Tokens.{token_layout}
use Rattle.descriptors.specs.Mnemonics.{mnemonic_layout}
use Rattle.descriptors.specs.Descriptors.{descriptor_layout}
use Rattle.regions.specs.declared.Region.{Region}
use Rattle.regions.specs.Regions.{region_layout, region_count, region_place, region_at}
use Rattle.pending.specs.Pendings.{region_of}
use Rattle.breakpoints.specs.Breakpoints.{filled_layout, region_number_ok, breakpoint_buffer_layout}
use Rattle.build_outcome.specs.Build.{order_from}
use Rattle.emit_outcome.specs.Room.{no_region}
use Rattle.emit_outcome.specs.Call.{Call, EmitOutcome, call_of, lent_of}
use Rattle.emit_outcome.specs.Emit.{emit_outcome}
use Rattle.emit_outcome.specs.Answer.{EmitAnswer, refused_at}
use Rattle.patching_outcome.specs.Patching.{Patching, regions_of, pendings_of, order_of, pendings_layout}
use Rattle.patching_outcome.specs.Grown.{grown}

-- what else a line's call is given: its lists, a token position and the region's number; the address is in the region's record
pub record LineGiven : Type 0 where
  pub token_list : List ℕ
  pub mnemonic : List ℕ
  pub descriptors : List ℕ
  pub position : ℕ
  pub region : ℕ

-- ---- refusal 1

-- the list has this region, or no region is selected
abbrev pub is_listed : (regions : List ℕ) (region : ℕ) → Bool
is_listed regions region = eqb region no_region || ltb region (region_count regions)

-- "A line for an unlisted region gets refusal 1 for that list (b 0)": asked only of a list that keeps its layout
abbrev pub only_listed : Bool → Option ℕ → Option ℕ
only_listed true l = l
only_listed false None = Some 0
only_listed false (Some place) = Some place

unfoldable pub listed_layout : (region : ℕ) → Patching → Option ℕ
unfolding filled_layout region_layout places
listed_layout region p =
    elim (region_number_ok region) [
      | true ↦ filled_layout p.counts.regions p.regions (only_listed (is_listed (regions_of p) region) (region_layout (regions_of p)))
      | false ↦ Some 0
    ]

-- an emit call's buffers, with the region list in the place of the region's data
unfoldable pub line_layouts : LineGiven → Patching → Verdict
unfolding token_layout mnemonic_layout descriptor_layout listed_layout pendings_layout breakpoint_buffer_layout
line_layouts g p =
    and_then (layout_verdict 0 (token_layout g.token_list))
    (and_then (layout_verdict 1 (mnemonic_layout g.mnemonic))
    (and_then (layout_verdict 2 (descriptor_layout g.descriptors))
    (and_then (layout_verdict 3 (listed_layout g.region p))
    (and_then (layout_verdict 4 (pendings_layout p))
    (layout_verdict 5 (breakpoint_buffer_layout p.counts.breakpoints p.breakpoints))))))

-- ---- the emit call of the line

abbrev pub region_on : Patching → ℕ → Region
region_on p region = region_at (regions_of p) (region_place (regions_of p) region)

-- the most bytes that a line's words take: "at most five words, each four little-endian bytes"
abbrev pub most_words : ℕ
most_words = 20

-- the region's data, then free bytes of the list's buffer, no more than a line may use
abbrev pub data_on : Patching → Region → List ℕ
data_on p g = part p.regions g.start g.size ++ take most_words (drop p.counts.regions p.regions)

abbrev pub emit_call : LineGiven → Patching → Call
emit_call g p =
    let r = region_on p g.region in
    call_of g.token_list g.mnemonic g.descriptors (lent_of (data_on p r) p.pending p.breakpoints)
    (record { data_len = r.size; pending = p.counts.pending; breakpoints = p.counts.breakpoints })
    (record { position = g.position; region = g.region; address = r.address })

-- the same call with no region selected: always refused, with 10 at the latest
abbrev pub none_call : LineGiven → Patching → Call
none_call g p =
    call_of g.token_list g.mnemonic g.descriptors (lent_of [] p.pending p.breakpoints)
    (record { data_len = 0; pending = p.counts.pending; breakpoints = p.counts.breakpoints })
    (record { position = g.position; region = no_region; address = 0 })

-- ---- refusal 29

-- "a line for a region below that of a patched pending, or after patching ended or refused"; the last pending patched has the greatest region
abbrev pub is_below : Patching → ℕ → Bool
is_below p region = ltb 0 p.counts.patches && ltb region (region_of (pendings_of p) (get_or (order_of p) (p.counts.patches - 1) 0))

abbrev pub is_late : Patching → ℕ → Bool
is_late p region = not (eqb p.counts.state 0) || is_below p region

-- "before 11", and so after 10: the line gets 29 if it would get 10 with no region selected
abbrev pub late_refusal : Refusal → Refusal
late_refusal r = elim (eqb (numbered r).number 10) [ true ↦ LateLine (numbered r).location | false ↦ r ]

abbrev pub late_answer : EmitAnswer → EmitAnswer
late_answer (Ok done) = Ok done
late_answer (Err refused) = refused_at (late_refusal refused.refusal) refused.position

-- ---- the whole line

pub record LineOutcome : Type 0 where
  pub answer : EmitAnswer
  pub after : Patching

-- the words that the call appended
abbrev pub new_words : (size : ℕ) → EmitOutcome → List ℕ
new_words size o = part o.lent.region_data size (o.counts.data_len - size)

-- the region's data grows by them; the bytes after the list's new end stay
abbrev pub lined : Patching → (region : ℕ) → EmitOutcome → Patching
lined p region o =
    let words = new_words (region_on p region).size o in
    record {
      regions = append p.regions 0 (grown (regions_of p) (region_place (regions_of p) region) words);
      pending = o.lent.pending;
      breakpoints = o.lent.breakpoints;
      kept = p.kept;
      counts = record {
        regions = p.counts.regions + length words;
        pending = o.counts.pending;
        breakpoints = o.counts.breakpoints;
        patches = p.counts.patches;
        state = p.counts.state;
      };
    }

abbrev pub lined_by : Patching → (region : ℕ) → EmitOutcome → EmitAnswer → LineOutcome
lined_by p region o (Ok done) = record { answer = Ok done; after = lined p region o }
lined_by p region o (Err refused) = record { answer = Err refused; after = p }

abbrev pub line_by : Job → LineGiven → Patching → Verdict → LineOutcome
line_by job g p (Err r) = record { answer = refused_at r g.position; after = p }
line_by job g p (Ok tt) =
    let none = (emit_outcome job (none_call g p)).answer in
    let o = emit_outcome job (emit_call g p) in
    elim (eqb g.region no_region) [
      | true ↦ record { answer = none; after = p }
      | false ↦ elim (is_late p g.region) [ true ↦ record { answer = late_answer none; after = p } | false ↦ lined_by p g.region o o.answer ]
    ]

unfoldable pub line_outcome : Job → LineGiven → Patching → LineOutcome
unfolding line_layouts emit_outcome grown append places order_from
line_outcome job g p = line_by job g p (line_layouts g p)

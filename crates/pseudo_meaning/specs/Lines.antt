-- The line of an accepted emit call, and where it stands in the lists of a build (document 02, P11). Assumes nothing.
use Rattle.std.specs.Prelude.{ℕ, ◌+◌, ◌*◌, ◌<◌, ◌≤◌, ◌≡◌, ◌⊎◌, length}
use mathlib.Core.List.{List, map, Memᴰ}
use Rattle.field.specs.Wrap.{wrap32}
use Rattle.jobs.specs.declared.Job.{Job}
use Rattle.record.specs.Bytes.{part}
use Rattle.regions.specs.declared.Region.{Region}
use Rattle.regions.specs.Regions.{region_count, region_place, region_at}
use Rattle.labels.specs.Labels.{Table}
use Rattle.pseudo_names.specs.declared.Pseudo.{Pseudo}
use Rattle.lexer.specs.Tokens.{tokens}
use Rattle.operand.specs.Answers.{Got}
use Rattle.operand_list.specs.OperandLists.{AskedAll, read_operands}
use Rattle.descriptors.specs.Mnemonics.{mnemonic_name}
use Rattle.pending.specs.Pendings.{pending_at}
use Rattle.loading.specs.declared.LoadForm.{LoadForm}
use Rattle.emit_bytes.specs.Appended.{word_bytes}
use Rattle.emit_dispatch.specs.Wants.{pseudo_wants}
use Rattle.emit_outcome.specs.Call.{Call}
use Rattle.emit_outcome.specs.Dispatch.{meaning}
use Rattle.emit_outcome.specs.Emit.{start_of, emit_outcome}
use Rattle.emit_outcome.specs.Answer.{done_at}
use Rattle.emit_outcome.specs.declared.Meaning.TheVariants.{Builtin}
use Rattle.finished_words.specs.Listed.{In}
use Rattle.routine.specs.PatchValues.{patch_at}
use Rattle.routine.specs.CallValues.{call_pairs, call_patches}

-- An accepted line of the pseudo-instruction p with the operands x. "A descriptor goes before a pseudo-instruction of that name": so the
-- mnemonic must really mean p.
pub record Emitted (job : Job) (c : Call) (p : Pseudo) (x : AskedAll (pseudo_wants p)) : Type 0 where
  pub position : ℕ
  pub loaded : LoadForm
  pub accepted : (emit_outcome job c).answer ≡ done_at position loaded
  pub means : meaning c.descriptors (mnemonic_name c.mnemonic) ≡ Builtin p
  pub operands_are : (read_operands (pseudo_wants p) (tokens c.token_list) (start_of c)).answer ≡ Got x

-- A line's call and a build, each with its own job. `own` holds the places of the line's own patches in the pending list.
pub record LineInBuild : Type 0 where
  pub job : Job
  pub call : Call
  pub build : Job
  pub labels : Table
  pub entry : List ℕ
  pub regions : List ℕ
  pub pending : List ℕ
  pub own : List ℕ

module _ (site : LineInBuild) where
  -- the region that the call selected, as the build got it, and its data
  abbrev pub line_region : Region
  line_region = region_at site.regions (region_place site.regions site.call.numbers.place.region)

  abbrev pub line_data : List ℕ
  line_data = part site.regions line_region.start line_region.size

  -- where the call appended its words
  abbrev pub line_offset : ℕ
  line_offset = site.call.numbers.counts.data_len

  -- "as many steps as they have words"
  abbrev pub line_words : ℕ
  line_words = length (call_pairs site.job site.call)

  -- the pc of "their first word"
  abbrev pub line_pc : ℕ
  line_pc = wrap32 (line_region.address + line_offset)

  -- "the word after the line"
  abbrev pub after_pc : ℕ
  after_pc = wrap32 (line_pc + 4 * line_words)

  -- The line's words stand where the call appended them, and its patches in the pending list.
  pub record Stands : Type 0 where
    pub region_listed : site.call.numbers.place.region < region_count site.regions
    pub within : line_offset + 4 * line_words ≤ line_region.size
    pub words_there : part line_data line_offset (4 * line_words) ≡ word_bytes (call_pairs site.job site.call)
    pub own_listed : (p : ℕ) → Memᴰ p site.own → In site.pending p
    pub own_are : map (patch_at site.pending) site.own ≡ call_patches site.job site.call
    -- "no other patch touches the line"
    pub untouched : (q : ℕ) → In site.pending q → (Memᴰ q site.own → ⊥) → (pending_at site.pending q).region ≡ site.call.numbers.place.region
        → ((pending_at site.pending q).offset + 4 ≤ line_offset) ⊎ (line_offset + 4 * line_words ≤ (pending_at site.pending q).offset)

-- A line alone in region 0 at 0x00400000, emitted and built without labels. Assumes nothing.
use Rattle.std.specs.Prelude.{ℕ, List, [], ◌∷◌, ◌++◌, take, replicate}
use Rattle.jobs.specs.declared.Job.{Job}
use Rattle.record.specs.Stores.{le32_bytes, record_bytes}
use Rattle.labels.specs.Labels.{table_of}
use Rattle.machine.specs.declared.Machine.{Machine}
use Rattle.machine.specs.Step.{at}
use Rattle.emit_outcome.specs.Call.{Call, EmitOutcome}
use Rattle.emit_outcome.specs.Emit.{emit_outcome}
use Rattle.example_lists.specs.Lists.{register, integer, comma, zeros, mnemonic}
use Rattle.pseudo_meaning.specs.Lines.{LineInBuild}

abbrev call : (name tokens : List ℕ) → Call
call name tokens = record {
  token_list = tokens;
  mnemonic = mnemonic name;
  descriptors = [];
  lent = record { region_data = zeros 20; pending = zeros 36; breakpoints = zeros 32 };
  numbers = record {
    counts = record { data_len = 0; pending = 0; breakpoints = 0 };
    place = record { position = 0; region = 0; address = 0x00400000 };
  };
}

-- what the call leaves goes into the build; `own` holds the places of its patches there
abbrev built_of : Job → Call → EmitOutcome → (own : List ℕ) → LineInBuild
built_of job c left own = record {
  job = job;
  call = c;
  build = job;
  labels = table_of [];
  entry = [];
  regions = record_bytes 35 (le32_bytes 0x00400000 ++ take left.counts.data_len left.lent.region_data);
  pending = take left.counts.pending left.lent.pending;
  own = own;
}

abbrev pub alone : Job → (name tokens own : List ℕ) → LineInBuild
alone job name tokens own = built_of job (call name tokens) (emit_outcome job (call name tokens)) own

-- $t0, $t1 and $t2 as given, every other register 0
abbrev pub holding : (t0 t1 t2 pc : ℕ) → Machine
holding a b c pc = at pc (replicate 8 0 ++ a ∷ b ∷ c ∷ replicate 21 0)

-- ---- operands

-- $t0,$t1,0x00400010
abbrev pub to_ten : List ℕ
to_ten = register 8 ++ comma ++ register 9 ++ comma ++ integer 0x00400010

-- $t2,$t0,$t1
abbrev pub into_t2 : List ℕ
into_t2 = register 10 ++ comma ++ register 8 ++ comma ++ register 9

-- Every finished word of a whole build, whatever the label table, the regions, the entry record, the pending list and its order.
-- Assumes nothing.
use Rattle.std.specs.Prelude.{ℕ, ◌<◌, ◌≡◌, List, length, Ok}
use Rattle.jobs.specs.declared.Job.{Job}
use Rattle.record.specs.Bytes.{byte_at}
use Rattle.labels.specs.Labels.{Table}
use Rattle.build_outcome.specs.Build.{build_verdict, build_outcome}
use Rattle.build_outcome.proofs.BuildLaws.{outcome_accepted}
use Rattle.finished_words.specs.Listed.{Apart, Bytes, OutsidePatches, OutsideFields, bit_at}
use Rattle.finished_words.specs.Words.{words_in, finished_words}
use Rattle.finished_words.proofs.AcceptedLaws.{finished_kept}
use Rattle.finished_words.proofs.FinishedLaws.{bytes_same, words_finished}
use Rattle.finished_words.proofs.BitsLaws.{bits_same}

-- a region list at exit, heads and addresses included
pub record Finished (labels : Table) (regions pending exit : List ℕ) : Type 0 where
  pub length_same : length exit ≡ length regions
  -- Each byte outside every patch is as at entry.
  pub bytes_same : (i : ℕ) → OutsidePatches regions pending i → byte_at exit i ≡ byte_at regions i
  -- "altered only in the patched fields": each bit outside every patched field is as at entry, whether or not patches overlap
  pub bits_same : Bytes regions → (i j : ℕ) → j < 8 → OutsideFields regions pending i j → bit_at exit i j ≡ bit_at regions i j
  -- If no patches overlap, each patch's word is the one at entry with its field replaced. This is one claim on the whole pending list.
  pub words_are : Apart pending → words_in exit regions pending ≡ finished_words labels regions pending

-- "An accepted build is one to which no refusal is due"
pub finished : (job : Job) (labels : Table) (entry regions pending : List ℕ) → build_verdict job labels entry regions pending ≡ Ok tt
    → Finished labels regions pending (build_outcome job labels entry regions pending).regions
finished job labels entry regions pending pass =
    rw (outcome_accepted job labels entry regions pending pass).1
    (record {
      length_same = (finished_kept job labels entry regions pending pass).length_same;
      bytes_same = bytes_same job labels entry regions pending pass;
      bits_same = bits_same job labels entry regions pending pass;
      words_are = words_finished job labels entry regions pending pass;
    })

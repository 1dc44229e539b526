-- The definition, computed: why a run stops or does not start, which word is read, and how $zero is treated. Assumes nothing.
use Rattle.std.specs.Prelude.{ℕ, ◌+◌, List, [], ◌∷◌, ◌++◌, ◌≡◌, refl, length, replicate, Err}
use Rattle.field.specs.Field.{get_field}
use Rattle.record.specs.Records.{places, places_from, places_f, first_bad_of, within_limit}
use Rattle.record.specs.Stores.{le16_bytes, le32_bytes}
use Rattle.refusal.specs.declared.Refusal.TheVariants.{BadLayout, BadStart}
use Rattle.regions.specs.Regions.{region_ok, region_records, region_layout}
use Rattle.reading.specs.Reading.{image_of}
use Rattle.loading.specs.Run.{read_register, write_register, signed16}
use Rattle.machine.specs.declared.Machine.{Machine}
use Rattle.machine.specs.declared.Reason.TheVariants.{Allowance, Pc, Word, Overflow}
use Rattle.machine.specs.Instructions.{table, instruction_of}
use Rattle.machine.specs.Effects.{effect_of}
use Rattle.machine.specs.Step.{at, step_word}
use Rattle.dry_run_outcome.specs.declared.DryRun.{DryRun}
use Rattle.dry_run_outcome.specs.Fetch.{fetch}
use Rattle.dry_run_outcome.specs.Run.{step, run}
use Rattle.dry_run_outcome.specs.DryRun.{RunAnswer, stopped, dry_run_outcome}

-- a region record with those bytes
abbrev pub region : ℕ → List ℕ → List ℕ
region address bytes = le16_bytes (length bytes + 4) ++ le16_bytes 35 ++ le32_bytes address ++ bytes

-- $zero, $at and $v0 as given, every other register 0
abbrev pub holding : (zero at v0 pc : ℕ) → Machine
holding z a v pc = at pc (z ∷ a ∷ v ∷ replicate 29 0)

abbrev pub ends : Machine → RunAnswer → DryRun
ends m answer = record { machine = m; answer = answer }

-- addiu $at,$at,-1; bne $at,$zero, back to it
abbrev pub loop : List ℕ
loop = region 0x00400000 (le32_bytes 0x2421FFFF ++ le32_bytes 0x1420FFFE)

-- one word at 0x00400000, with 7 in $zero, 1 in $at and 0x7FFFFFFF in $v0, for two steps at most
abbrev pub one : ℕ → DryRun
one w = dry_run_outcome (region 0x00400000 (le32_bytes w)) (holding 7 1 0x7FFFFFFF 0x00400000) 2

pub record Worked : Type 0 where
  pub counts_down : dry_run_outcome loop (holding 0 2 0 0x00400000) 9 ≡ ends (holding 0 0 0 0x00400008) (stopped Pc 4)
  pub allowance_first : dry_run_outcome loop (holding 0 2 0 0x00400000) 4 ≡ ends (holding 0 0 0 0x00400008) (stopped Allowance 4)
  -- add $at,$at,$at, and then there is no word; add $at,$at,$v0; lui $at,1 with 1 in rs; sll $at,$at,1; sltu with function 41
  pub adds : one 0x00210820 ≡ ends (holding 0 2 0x7FFFFFFF 0x00400004) (stopped Pc 1)
  pub overflows : one 0x00220820 ≡ ends (holding 0 1 0x7FFFFFFF 0x00400000) (stopped Overflow 0)
  pub no_lui : one 0x3C210001 ≡ ends (holding 0 1 0x7FFFFFFF 0x00400000) (stopped Word 0)
  pub no_sll : one 0x00010840 ≡ ends (holding 0 1 0x7FFFFFFF 0x00400000) (stopped Word 0)
  pub no_sltu : one 0x00220829 ≡ ends (holding 0 1 0x7FFFFFFF 0x00400000) (stopped Word 0)
  -- The call of nine steps, made as two calls of four and five: the second is refused.
  pub second_refused : dry_run_outcome loop (holding 0 0 0 0x00400008) 5 ≡ ends (holding 0 0 0 0x00400008) (Err BadStart)
  -- refused with allowance 0 too, and $zero is left as it was
  pub odd_start : dry_run_outcome loop (holding 7 2 0 0x00400002) 0 ≡ ends (holding 7 2 0 0x00400002) (Err BadStart)
  pub no_word : dry_run_outcome loop (holding 7 2 0 0x00400008) 0 ≡ ends (holding 7 2 0 0x00400008) (Err BadStart)
  pub no_regions : dry_run_outcome [] (holding 7 2 0 0x00400002) 9 ≡ ends (holding 7 2 0 0x00400002) (Err (BadLayout 0 0))
  -- Two regions that both have a word at one pc. Then two again, but the first has only a part of the word.
  pub lowest : dry_run_outcome (region 0x00400000 (le32_bytes 0x24010005) ++ region 0x00400000 (le32_bytes 0x24010006)) (holding 0 0 0 0x00400000) 1
      ≡ ends (holding 0 5 0 0x00400004) (stopped Allowance 1)
  pub lowest_whole : dry_run_outcome (region 0x00400000 (5 ∷ 0 ∷ 1 ∷ []) ++ region 0x00400000 (le32_bytes 0x24010006)) (holding 0 0 0 0x00400000) 1
      ≡ ends (holding 0 6 0 0x00400004) (stopped Allowance 1)
  -- a region that starts between two words, and one that wraps from the last address to the first
  pub between : dry_run_outcome (region 0x003FFFFE (0 ∷ 0 ∷ le32_bytes 0x24010005)) (holding 0 0 0 0x00400000) 1 ≡ ends (holding 0 5 0 0x00400004) (stopped Allowance 1)
  pub round : dry_run_outcome (region 0xFFFFFFFC (le32_bytes 0 ++ le32_bytes 0x24010005)) (holding 0 0 0 0xFFFFFFFC) 2 ≡ ends (holding 0 5 0 0x00000004) (stopped Allowance 2)

pub worked : Worked
unfolding dry_run_outcome region_layout region_records region_ok places places_from places_f first_bad_of within_limit image_of fetch run step step_word instruction_of table effect_of read_register write_register signed16 get_field
worked = record {
  counts_down = refl;
  allowance_first = refl;
  adds = refl;
  overflows = refl;
  no_lui = refl;
  no_sll = refl;
  no_sltu = refl;
  second_refused = refl;
  odd_start = refl;
  no_word = refl;
  no_regions = refl;
  lowest = refl;
  lowest_whole = refl;
  between = refl;
  round = refl;
}

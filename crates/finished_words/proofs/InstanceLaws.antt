-- Computed on the lists of the instance: its build is accepted, its patches are apart, and its words at entry and at exit. Assumes nothing.
use Rattle.std.specs.Prelude.{ℕ, suc, ◌+◌, ◌*◌, [], ◌∷◌, Bool, true, false, ◌||◌, ◌≡◌, refl, leb, ltb, eqb, Ok}
use Rattle.jobs.specs.declared.Job.TheVariants.{Commit}
use Rattle.field.specs.Field.{get_field}
use Rattle.record.specs.Bytes.{all, same_bytes}
use Rattle.record.specs.Records.{places_f, places_from, places, first_bad, first_bad_of, within_limit}
use Rattle.refusal.specs.Verdicts.{first_stop}
use Rattle.names.specs.Names.{first_where, first_later}
use Rattle.labels.specs.Labels.{label_ok, label_layout, resolve, table_of}
use Rattle.regions.specs.Regions.{region_ok, region_records, region_layout}
use Rattle.address_label.specs.AddressLabels.{address_label_ok}
use Rattle.address_label.specs.Entries.{entry_ok, entry_layout}
use Rattle.pending.specs.Pendings.{pending_ok, pending_layout, kind_from, pending_at}
use Rattle.patch.specs.Patches.{destination, field_width, branch_in_range, jump_in_range, in_range, pending_verdict, reach_verdict}
use Rattle.build_outcome.specs.Build.{keep, order_from, layout_verdicts, build_verdict}
use Rattle.finished_words.specs.Listed.{kind_of, slot_at, bit_at}
use Rattle.finished_words.specs.Words.{finished_word, words_in, finished_words}
use Rattle.finished_words.specs.InstanceTables.{labels₁, entry, regions, pending}

-- ---- tests of a premise, for one place each

-- Two records are the same, or they are in different regions, or their patches share no byte.
abbrev pub away : (one same : Bool) → Bool → Bool
away true same disjoint = true
away false false disjoint = true
away false true disjoint = disjoint

abbrev pub disjoint : ℕ → ℕ → Bool
disjoint p q =
    leb ((pending_at pending p).offset + 4) (pending_at pending q).offset || leb ((pending_at pending q).offset + 4) (pending_at pending p).offset

abbrev pub clear : ℕ → ℕ → Bool
clear p q = away (eqb p q) (eqb (pending_at pending p).region (pending_at pending q).region) (disjoint p q)

-- Byte i is outside the patch's four bytes. Bit j of byte i is outside its field.
abbrev pub byte_clear : ℕ → ℕ → Bool
byte_clear i p = leb (suc i) (slot_at regions pending p) || leb (slot_at regions pending p + 4) i

abbrev pub bit_clear : ℕ → ℕ → ℕ → Bool
bit_clear i j p = leb (suc (8 * i + j)) (8 * slot_at regions pending p) || leb (8 * slot_at regions pending p + field_width (kind_of pending p)) (8 * i + j)

-- ---- by computation: byte 12 begins the word between the first branch and the jump, and bit 4 of byte 11 is in the branch's opcode
pub record Evaluated : Type 0 where
  pub accepted : build_verdict Commit (table_of labels₁) entry regions pending ≡ Ok tt
  pub bytes_fit : all (λ (b : ℕ). ltb b 256) regions ≡ true
  pub cleared : all (λ (p : ℕ). all (clear p) (places pending)) (places pending) ≡ true
  pub byte_clear_lem : all (byte_clear 12) (places pending) ≡ true
  pub bit_clear_lem : all (bit_clear 11 4) (places pending) ≡ true
  pub bit_is : bit_at regions 11 4 ≡ 1
  pub at_entry : words_in regions regions pending ≡ 0x34210000 ∷ 0x10000000 ∷ 0x00000000 ∷ 0x3C010000 ∷ 0x08000000 ∷ 0x15090000 ∷ 0x11090000 ∷ []
  pub at_exit : finished_words (table_of labels₁) regions pending ≡ 0x3421C008 ∷ 0x10000001 ∷ 0x12345678 ∷ 0x3C010040 ∷ 0x08100003 ∷ 0x15098000 ∷ 0x11097FFF ∷ []

pub evaluated : Evaluated
unfolding labels₁ entry regions pending words_in finished_words finished_word build_verdict layout_verdicts pending_verdict reach_verdict order_from keep in_range jump_in_range branch_in_range field_width destination kind_from pending_layout pending_ok entry_layout entry_ok address_label_ok region_layout region_records region_ok resolve label_layout label_ok first_later first_where first_stop within_limit first_bad_of first_bad places places_from places_f all same_bytes get_field
evaluated =
    record { accepted = refl; bytes_fit = refl; cleared = refl; byte_clear_lem = refl; bit_clear_lem = refl; bit_is = refl; at_entry = refl; at_exit = refl }

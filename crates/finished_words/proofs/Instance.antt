-- The premises can be met. What the theorem says of the instance. Assumes nothing.
use Rattle.std.specs.Prelude.{ℕ, ◌+◌, ◌*◌, ◌≤◌, ◌⊎◌, Bool, true, false, ◌||◌, ◌≡◌, refl, leb}
use Rattle.std.proofs.Common.{arith, inl, inr, ap, ◌∙◌, leb-true, eq-eqb, ne_eqb}
use mathlib.Core.List.Memᴰ
use mathlib.Core.List.{List, [], ◌∷◌, Memᴰ}
use Rattle.std.proofs.Math.Bool.{and-eq-true_iff}
use Rattle.jobs.specs.declared.Job.TheVariants.{Commit}
use Rattle.record.specs.Bytes.{byte_at, all}
use Rattle.record.specs.Records.{places}
use Rattle.labels.specs.Labels.{table_of}
use Rattle.pending.specs.Pendings.{pending_at}
use Rattle.patch.specs.Patches.{field_width}
use Rattle.build_outcome.specs.Build.{build_outcome}
use Rattle.finished_words.specs.Listed.{kind_of, slot_at, Apart, OutsidePatches, OutsideFields, bit_at}
use Rattle.finished_words.proofs.ListedLaws.{of_bytes}
use Rattle.finished_words.specs.Words.{words_in}
use Rattle.finished_words.proofs.Finished.{Finished, finished}
use Rattle.finished_words.specs.InstanceTables.{labels₁, entry, regions, pending}
use Rattle.finished_words.proofs.InstanceLaws.{disjoint, clear, byte_clear, bit_clear, evaluated}

-- If all elements pass a test, each of them passes.
pub each : (test : ℕ → Bool) (ps : List ℕ) → all test ps ≡ true → (p : ℕ) → Memᴰ p ps → test p ≡ true
unfolding all
each test [] e p m = elim m [ ]
each test (q ∷ ps) e p m = go ((and-eq-true_iff (test q) (all test ps)).0 e) (Memᴰ.cases_cons m) (each test ps)
  where
    go : (test q ≡ true) × (all test ps ≡ true) → (p ≡ q) ⊎ Memᴰ p ps → (all test ps ≡ true → (p : ℕ) → Memᴰ p ps → test p ≡ true) → test p ≡ true
    go h (inl s) ih = ap test s ∙ h.0
    go h (inr t) ih = ih h.1 p t

either : (a b c d : ℕ) → leb a b || leb c d ≡ true → (a ≤ b) ⊎ (c ≤ d)
either a b c d e = go (leb a b) refl
  where
    go : (x : Bool) → leb a b ≡ x → (a ≤ b) ⊎ (c ≤ d)
    go true f = inl (leb-true a b f)
    go false f = inr (leb-true c d (rw f at e))

-- ---- the premises
pub apart : Apart pending
apart p q m k n s =
    let test : disjoint p q ≡ true = rw (ne_eqb p q n, eq-eqb (pending_at pending p).region (pending_at pending q).region s) at
    (each (clear p) (places pending) (each (λ (p : ℕ). all (clear p) (places pending)) (places pending) evaluated.cleared p m) q k) in
    either ((pending_at pending p).offset + 4) (pending_at pending q).offset ((pending_at pending q).offset + 4) (pending_at pending p).offset test

byte_outside : OutsidePatches regions pending 12
byte_outside p m = either 13 (slot_at regions pending p) (slot_at regions pending p + 4) 12 (each (byte_clear 12) (places pending) evaluated.byte_clear_lem p m)

bit_outside : OutsideFields regions pending 11 4
bit_outside p m =
    either 93 (8 * slot_at regions pending p) (8 * slot_at regions pending p + field_width (kind_of pending p)) 92
    (each (bit_clear 11 4) (places pending) evaluated.bit_clear_lem p m)

-- ---- the theorem on the instance
pub instance : Finished (table_of labels₁) regions pending (build_outcome Commit (table_of labels₁) entry regions pending).regions
instance = finished Commit (table_of labels₁) entry regions pending evaluated.accepted

-- the seven words, in list order, at entry and at exit
pub words_at_entry : words_in regions regions pending ≡ 0x34210000 ∷ 0x10000000 ∷ 0x00000000 ∷ 0x3C010000 ∷ 0x08000000 ∷ 0x15090000 ∷ 0x11090000 ∷ []
words_at_entry = evaluated.at_entry

pub instance_words : words_in (build_outcome Commit (table_of labels₁) entry regions pending).regions regions pending
    ≡ 0x3421C008 ∷ 0x10000001 ∷ 0x12345678 ∷ 0x3C010040 ∷ 0x08100003 ∷ 0x15098000 ∷ 0x11097FFF ∷ []
instance_words = instance.words_are apart ∙ evaluated.at_exit

pub instance_byte : byte_at (build_outcome Commit (table_of labels₁) entry regions pending).regions 12 ≡ byte_at regions 12
instance_byte = instance.bytes_same 12 byte_outside

pub instance_bit : bit_at (build_outcome Commit (table_of labels₁) entry regions pending).regions 11 4 ≡ 1
instance_bit = instance.bits_same (of_bytes regions evaluated.bytes_fit) 11 4 (omega arith) bit_outside ∙ evaluated.bit_is

-- Laws of one patch: its field fits and reads back by its kind; its label gives its destination, its kind its word; and what a patch has
-- that passes its checks. Assumes nothing.
use Rattle.std.specs.Prelude.{◌≡◌, ℕ, ◌+◌, ◌-◌, ◌*◌, ◌/◌, ◌%◌, ◌^◌, ◌<◌, ◌≤◌, Bool, true, false, List, nat_le, refl, Err, None, Ok, Option, Some}
use native.Mathlib.Omega.{arith}
use Rattle.std.proofs.Math.Bool.{and-eq-true_iff}
use Rattle.std.proofs.Common.{sym, subst, ◌∙◌, eqb-true, leb-true, leb-false, le-leb}
use Rattle.std.proofs.Math.Path.{ap}
use Rattle.std.proofs.lemmas.Bool.{lt-leb}
use Rattle.field.specs.Wrap.{wrap32}
use Rattle.jobs.specs.declared.Job.{Job}
use Rattle.jobs.specs.Jobs.{by_manual, most_back, most_ahead}
use Rattle.field.specs.Field.{get_field, set_field}
use Rattle.field.proofs.FieldLaws.{get_set_same}
use Rattle.record.specs.Bytes.{part}
use Rattle.refusal.specs.declared.Refusal.TheVariants.{PatchPastEnd, UnknownLabel, JumpOutOfRange}
use Rattle.labels.specs.Labels.{Table}
use Rattle.address_label.specs.declared.AddressLabel.{AddressLabel}
use Rattle.address_label.specs.declared.AddressLabel.TheVariants.{Constant, Label}
use Rattle.address_label.specs.declared.NamedLabel.{NamedLabel}
use Rattle.pending.specs.declared.InstructionLabelKind.{InstructionLabelKind}
use Rattle.pending.specs.declared.InstructionLabelKind.TheVariants.{Branch, Jump, Lower, Upper, Full}
use Rattle.pending.specs.declared.Pending.{Pending}
use Rattle.regions.specs.declared.Region.{Region}
use Rattle.patch.specs.Patches.{pc_of, after, field_width, field_value, branch_in_range, jump_in_range, in_range, patched_word, plus_offset, destination, name_location, reach_verdict, patch_stop, pending_verdict}

-- The field of a 32-bit destination fits the kind's width.
pub value_fits : (kind : InstructionLabelKind) (pc dest : ℕ) → dest < 2 ^ 32 → field_value kind pc dest < 2 ^ field_width kind
unfolding field_width field_value
value_fits Branch pc dest h = omega arith
value_fits Jump pc dest h = omega arith
value_fits Lower pc dest h = omega arith
value_fits Upper pc dest h = omega arith
value_fits Full pc dest h = h

pub low_width : (kind : InstructionLabelKind) (w : ℕ) → w % 2 ^ 32 % 2 ^ field_width kind ≡ w % 2 ^ field_width kind
unfolding field_width
low_width Branch w = omega arith
low_width Jump w = omega arith
low_width Lower w = omega arith
low_width Upper w = omega arith
low_width Full w = omega arith

-- the low bits of a word, as a field
low_field : (w n : ℕ) → get_field w 0 n ≡ w % 2 ^ n
unfolding get_field
low_field w n = let e : w / 2 ^ 0 ≡ w = omega arith in rw e refl

-- a patched word's low bits are the patch's field
pub patched_field : (kind : InstructionLabelKind) (pc dest word : ℕ) → dest < 2 ^ 32 → patched_word kind pc dest word % 2 ^ field_width kind ≡ field_value kind pc dest
patched_field kind pc dest word hd =
    sym (low_field (patched_word kind pc dest word) (field_width kind))
    ∙ get_set_same word 0 (field_width kind) (field_value kind pc dest) (value_fits kind pc dest hd)

-- a destination is a number of 32 bits
pub destination_lt : (labels : Table) (s : List ℕ) (l : AddressLabel) (d : ℕ) → destination labels s l ≡ Some d → d < 2 ^ 32
unfolding destination
destination_lt labels s (Constant v) d e = let z : v % 2 ^ 32 ≡ d = cc in omega arith
destination_lt labels s (Label n) d e = go (labels.address n.location.source (part s n.name_at n.name_len)) e
  where
    go : (a : Option ℕ) → plus_offset a n.offset ≡ Some d → d < 2 ^ 32
    go (Some a) k = let z : (a + n.offset) % 2 ^ 32 ≡ d = cc in omega arith
    go None k = let z : ◌≡◌ {A = ℕ} 0 1 = cc in absurd (omega arith)

pub jump_page : (job : Job) (pc dest : ℕ) → in_range job Jump pc dest ≡ true → dest / 2 ^ 28 ≡ after pc / 2 ^ 28
unfolding in_range jump_in_range
jump_page job pc dest e = eqb-true (dest / 2 ^ 28) (after pc / 2 ^ 28) e

-- a branch that a job by the manual takes is within 16 signed bits
pub manual_near : (job : Job) → by_manual job ≡ true → (pc dest : ℕ) → in_range job Branch pc dest ≡ true → (after pc / 4 ≤ dest / 4 + 32768) × (dest / 4 ≤ after pc / 4 + 32767)
unfolding in_range branch_in_range
manual_near job m pc dest e =
    let b = (and-eq-true_iff (nat_le (after pc / 4) (dest / 4 + most_back job)) (nat_le (dest / 4) (after pc / 4 + most_ahead job))).0 e in
    let back : most_back job ≡ 32768 = ap (λ (x : Bool). elim x [ true ↦ 32768 | false ↦ 0x10000 ]) m in
    let ahead : most_ahead job ≡ 32767 = ap (λ (x : Bool). elim x [ true ↦ 32767 | false ↦ 0xFFFF ]) m in (
      subst (λ (n : ℕ). after pc / 4 ≤ dest / 4 + n) back (leb-true (after pc / 4) (dest / 4 + most_back job) b.0),
      subst (λ (n : ℕ). dest / 4 ≤ after pc / 4 + n) ahead (leb-true (dest / 4) (after pc / 4 + most_ahead job) b.1),
    )

-- ---- a destination, by its label

pub destination_constant : (labels : Table) (s : List ℕ) (value : ℕ) → destination labels s (Constant value) ≡ Some (wrap32 value)
unfolding destination
destination_constant labels s value = refl

-- an offset's low 32 bits are enough
pub wrapped_offset : (a : Option ℕ) (offset : ℕ) → plus_offset a (wrap32 offset) ≡ plus_offset a offset
wrapped_offset (Some a) offset = ap Some (omega arith)
wrapped_offset None offset = refl

pub destination_label : (labels : Table) (s : List ℕ) (name : NamedLabel)
    → destination labels s (Label name) ≡ plus_offset (labels.address name.location.source (part s name.name_at name.name_len)) (wrap32 name.offset)
unfolding destination
destination_label labels s name = sym (wrapped_offset (labels.address name.location.source (part s name.name_at name.name_len)) name.offset)

-- ---- the patched word, by the kind

module _ (pc dest word : ℕ) where
  pub patched_branch : patched_word Branch pc dest word ≡ word / 65536 * 65536 + (dest / 4 + 2 ^ 31 - after pc / 4) % 65536
  unfolding field_width field_value set_field
  patched_branch = omega arith

  pub patched_jump : patched_word Jump pc dest word ≡ word / 2 ^ 26 * 2 ^ 26 + dest / 4 % 2 ^ 26
  unfolding field_width field_value set_field
  patched_jump = omega arith

  pub patched_lower : patched_word Lower pc dest word ≡ word / 65536 * 65536 + dest % 65536
  unfolding field_width field_value set_field
  patched_lower = omega arith

  pub patched_upper : patched_word Upper pc dest word ≡ word / 65536 * 65536 + dest / 65536
  unfolding field_width field_value set_field
  patched_upper = omega arith

  pub patched_full : word < 2 ^ 32 → patched_word Full pc dest word ≡ dest
  unfolding field_width field_value set_field
  patched_full h = omega arith

-- ---- the checks

-- What is known of a patch that passes its checks.
pub record Reached (job : Job) (labels : Table) (pending : List ℕ) (g : Region) (p : Pending) : Type 0 where
  pub dest : ℕ
  pub inside : p.offset + 4 ≤ g.size
  pub known : destination labels pending p.label ≡ Some dest
  pub range : in_range job p.kind (pc_of g p) dest ≡ true

-- the four outcomes of a patch's checks
module _ (job : Job) (g : Region) (p : Pending) where
  pub stops_past : (a : Option ℕ) → g.size < p.offset + 4 → patch_stop job g p a ≡ Err (PatchPastEnd p.location)
  stops_past a h = rw (lt-leb (p.offset + 4) g.size h, patch_stop)

  inside_is : (a : Option ℕ) → p.offset + 4 ≤ g.size → patch_stop job g p a ≡ reach_verdict job p (pc_of g p) a
  inside_is a h = rw (le-leb (p.offset + 4) g.size h, patch_stop)

  pub stops_unknown : p.offset + 4 ≤ g.size → patch_stop job g p None ≡ Err (UnknownLabel (name_location p.label))
  unfolding reach_verdict
  stops_unknown h = inside_is None h

  pub stops_far : (d : ℕ) → p.offset + 4 ≤ g.size → in_range job p.kind (pc_of g p) d ≡ false
      → patch_stop job g p (Some d) ≡ Err (JumpOutOfRange p.location d (pc_of g p))
  unfolding reach_verdict
  stops_far d h r = inside_is (Some d) h ∙ rw (r, reach_verdict)

  pub passes : (d : ℕ) → p.offset + 4 ≤ g.size → in_range job p.kind (pc_of g p) d ≡ true → patch_stop job g p (Some d) ≡ Ok tt
  unfolding reach_verdict
  passes d h r = inside_is (Some d) h ∙ rw (r, reach_verdict)

module _ (job : Job) (labels : Table) (pending : List ℕ) (g : Region) (p : Pending) where
  pub verdict_is : (a : Option ℕ) → destination labels pending p.label ≡ a → pending_verdict job labels pending g p ≡ patch_stop job g p a
  unfolding pending_verdict
  verdict_is a e = ap (patch_stop job g p) e

  pub reached : pending_verdict job labels pending g p ≡ Ok tt → Reached job labels pending g p
  reached e = go (nat_le (p.offset + 4) g.size) refl (destination labels pending p.label) refl
    where
      far : (d : ℕ) → p.offset + 4 ≤ g.size → destination labels pending p.label ≡ Some d
          → (b : Bool) → in_range job p.kind (pc_of g p) d ≡ b → in_range job p.kind (pc_of g p) d ≡ true
      far d h k true r = r
      far d h k false r = cc (verdict_is (Some d) k ∙ stops_far job g p d h r)

      go : (b : Bool) → nat_le (p.offset + 4) g.size ≡ b → (a : Option ℕ) → destination labels pending p.label ≡ a → Reached job labels pending g p
      go true f (Some d) k =
          let h : p.offset + 4 ≤ g.size = leb-true (p.offset + 4) g.size f in
          record { dest = d; inside = h; known = k; range = far d h k (in_range job p.kind (pc_of g p) d) refl }
      go true f None k =
          let h : p.offset + 4 ≤ g.size = leb-true (p.offset + 4) g.size f in
          let s = verdict_is None k ∙ stops_unknown job g p h in
          let z : ◌≡◌ {A = ℕ} 0 1 = cc in
          absurd (omega arith)
      go false f a k =
          let h : g.size < p.offset + 4 = leb-false (p.offset + 4) g.size f in
          let s = verdict_is a k ∙ stops_past job g p a h in
          let z : ◌≡◌ {A = ℕ} 0 1 = cc in
          absurd (omega arith)

-- Reading back, patch by patch and for the whole pending list: in an accepted build's image each patch reads as its destination, if it has
-- what its kind asks. Assumes nothing.
use Rattle.std.specs.Prelude.{ℕ, ◌+◌, ◌-◌, ◌*◌, ◌/◌, ◌%◌, ◌^◌, ◌≤◌, List, Bool, false, ◌≡◌, refl, eqb, Ok, Option, Some}
use Rattle.std.proofs.Common.{arith, sym, ◌∙◌, eqb-true}
use Rattle.std.proofs.Math.Bool.{true}
use Rattle.std.proofs.Math.Path.{ap, ap₂}
use Rattle.std.proofs.lemmas.Bool.{eqb-false}
use Rattle.field.specs.Wrap.{wrap32}
use Rattle.jobs.specs.declared.Job.{Job}
use Rattle.jobs.specs.declared.Job.TheVariants.{Commit, Manual, Release6}
use Rattle.jobs.specs.Jobs.{by_manual}
use Rattle.record.specs.Bytes.{byte_at, le32, le64, part}
use Rattle.record.specs.Records.{body_len, next, places}
use Rattle.address_label.specs.AddressLabels.{address_label_at}
use Rattle.address_label.proofs.AddressLabelsLaws.{at_constant, at_named}
use Rattle.pending.specs.declared.InstructionLabelKind.{InstructionLabelKind}
use Rattle.pending.specs.declared.InstructionLabelKind.TheVariants.{Branch, Jump, Lower, Upper, Full}
use Rattle.pending.specs.Pendings.{pending_at, label_of}
use Rattle.labels.specs.Labels.{Table, table_of}
use Rattle.labels.proofs.StraightLaws.{straight}
use Rattle.names.specs.Owners.{WithoutOwners}
use Rattle.patch.specs.Patches.{destination, plus_offset, after, field_width, field_value, in_range, address_or}
use Rattle.patch.proofs.PatchesLaws.{jump_page, manual_near}
use Rattle.build_outcome.specs.Build.{patched_regions, build_verdict}
use Rattle.finished_words.specs.Listed.{In, Apart, kind_of, slot_at, destination_at, pc_at}
use Rattle.finished_words.specs.Words.{finished_word, finished_at}
use Rattle.finished_words.proofs.WordsLaws.{finished_field}
use Rattle.finished_words.proofs.AcceptedLaws.{has_region, reaches, known, dest_lt, in_range_lem, slots_apart, finished_kept}
use Rattle.finished_words.proofs.FinishedLaws.{map_same, word_finished}
use Rattle.reading.specs.Reading.{Image, image_of, pc_in, word_in, half, signed_bytes, read_by, reading, readings, destinations}
use Rattle.reading.specs.Premises.{PremisesBy, Pair, SameTarget, SharedTarget}
use Rattle.reading.specs.OnTarget.{OnTarget}
use Rattle.reading.proofs.ArithmeticLaws.{branch_reads, jump_reads, halves_read}
use Rattle.reading.proofs.ImageLaws.{image_word, image_pc}

-- the destination of a record's label, by its form
constant_is : (labels : Table) (pending : List ℕ) (at : ℕ) → byte_at pending (at + 19) ≡ 0 → destination labels pending (label_of pending at) ≡ Some (wrap32 (le64 pending (at + 20)))
unfolding destination
constant_is labels pending at e =
    let v : at + 19 + 1 ≡ at + 20 = omega arith in
    ap (destination labels pending) (at_constant pending (at + 19) (next pending at) e) ∙ ap (λ (i : ℕ). Some (wrap32 (le64 pending i))) v

pub label_is : (labels : Table) (s : List ℕ) (i e from count value source : ℕ) → (byte_at s i ≡ 0 → ⊥) → i + 17 ≡ from → e - (i + 17) ≡ count
    → i + 1 ≡ value → i + 9 ≡ source
    → destination labels s (address_label_at s i e) ≡ plus_offset (labels.address (le32 s source) (part s from count)) (le64 s value)
unfolding destination
label_is labels s i e from count value source n f c v l =
    ap (destination labels s) (at_named s i e n)
    ∙ ap₂ (λ (j k : ℕ). plus_offset (labels.address (le32 s (i + 9)) (part s j k)) (le64 s (i + 1))) f c
    ∙ ap₂ (λ (j k : ℕ). plus_offset (labels.address (le32 s k) (part s from count)) (le64 s j)) v l

pub named_is : (labels : Table) (pending : List ℕ) (at : ℕ) → (byte_at pending (at + 19) ≡ 0 → ⊥)
    → destination labels pending (label_of pending at) ≡ plus_offset (labels.address (le32 pending (at + 28)) (part pending (at + 36) (body_len pending at - 32))) (le64 pending (at + 20))
named_is labels pending at e =
    label_is labels pending (at + 19) (next pending at) (at + 36) (body_len pending at - 32) (at + 20) (at + 28) e (omega arith) (omega arith) (omega arith) (omega arith)

-- Records with equal form, value and name have one destination, if the table gives the name one address for both sources.
same_destination : (labels : Table) (pending : List ℕ) (p q : ℕ) → SameTarget pending p q
    → ((name : List ℕ) → labels.address (le32 pending (p + 28)) name ≡ labels.address (le32 pending (q + 28)) name) → destination_at labels pending p ≡ destination_at labels pending q
same_destination labels pending p q t s = ap (address_or 0) (go (eqb (byte_at pending (p + 19)) 0) refl)
  where
    go : (b : Bool) → eqb (byte_at pending (p + 19)) 0 ≡ b → destination labels pending (label_of pending p) ≡ destination labels pending (label_of pending q)
    go true e =
        let z : byte_at pending (p + 19) ≡ 0 = eqb-true (byte_at pending (p + 19)) 0 e in
        constant_is labels pending p z ∙ ap (λ (v : ℕ). Some (wrap32 v)) t.value ∙ sym (constant_is labels pending q (sym t.form ∙ z))
    go false e =
        let n : byte_at pending (p + 19) ≡ 0 → ⊥ = eqb-false (byte_at pending (p + 19)) 0 e in
        named_is labels pending p n
        ∙ ap (λ (a : Option ℕ). plus_offset a (le64 pending (p + 20))) (s (part pending (p + 36) (body_len pending p - 32)))
        ∙ ap₂ (λ (l : List ℕ) (v : ℕ). plus_offset (labels.address (le32 pending (q + 28)) l) v) t.name t.value
        ∙ sym (named_is labels pending q (λ z. n (t.form ∙ z)))

-- Records that also share a source need no such table.
pub shared_destination : (labels : Table) (pending : List ℕ) (p q : ℕ) → SharedTarget pending p q → destination_at labels pending p ≡ destination_at labels pending q
shared_destination labels pending p q t = same_destination labels pending p q t.same (λ name. ap (λ (s : ℕ). labels.address s name) t.source)

-- Without owners the source does not matter.
pub straight_destination : (labels : List ℕ) → WithoutOwners labels → (pending : List ℕ) (p q : ℕ) → SameTarget pending p q
    → destination_at (table_of labels) pending p ≡ destination_at (table_of labels) pending q
straight_destination labels w pending p q t =
    same_destination (table_of labels) pending p q t
    (λ name.
    ap (λ (l : Table). l.address (le32 pending (p + 28)) name) (straight labels w)
    ∙ sym (ap (λ (l : Table). l.address (le32 pending (q + 28)) name) (straight labels w)))

-- What a patch needs to read back as its destination, by its kind, wherever the others go. `Shared` is what a pair's two patches share.
abbrev pub ReadableBy : ((pending : List ℕ) (p q : ℕ) → Type 0) → Job → (labels : Table) (regions pending : List ℕ) → InstructionLabelKind → ℕ → Type 0
ReadableBy Shared job labels regions pending Branch p = (pc_at regions pending p % 4 ≡ 0) × OnTarget job labels regions pending p
ReadableBy Shared job labels regions pending Jump p = OnTarget job labels regions pending p
ReadableBy Shared job labels regions pending Lower q = (p : ℕ) × Pair Shared pending p q
ReadableBy Shared job labels regions pending Upper p = (q : ℕ) × Pair Shared pending p q
ReadableBy Shared job labels regions pending Full p = Unit {0}

abbrev pub Readable : Job → (labels : Table) (regions pending : List ℕ) → InstructionLabelKind → ℕ → Type 0
Readable = ReadableBy SharedTarget

module _ (job : Job) (labels : Table) (entry regions pending : List ℕ) (pass : build_verdict job labels entry regions pending ≡ Ok tt) (apart : Apart pending) where
  abbrev image : Image
  image = image_of (patched_regions labels regions pending)

  -- the word of each patch in the image
  abbrev word_of : ℕ → ℕ
  word_of p = word_in image (pending_at pending p).region (pending_at pending p).offset

  word_at : (p : ℕ) → In pending p → word_of p ≡ finished_at labels regions pending p
  word_at p m =
      image_word regions (patched_regions labels regions pending) (finished_kept job labels entry regions pending pass) (pending_at pending p).region
      (has_region job labels entry regions pending pass p m) (pending_at pending p).offset (reaches job labels entry regions pending pass p m).inside
      ∙ word_finished job labels entry regions pending pass p m (λ q. slots_apart job labels entry regions pending pass apart p q m)

  pub pc_at_lem : (p : ℕ) → In pending p → pc_in image (pending_at pending p) ≡ pc_at regions pending p
  pc_at_lem p m =
      image_pc regions (patched_regions labels regions pending) (pending_at pending p) (finished_kept job labels entry regions pending pass)
      (has_region job labels entry regions pending pass p m)

  -- The word's low bits are the patch's field.
  pub field_at : (kind : InstructionLabelKind) (p : ℕ) → In pending p → (pending_at pending p).kind ≡ kind
      → word_of p % 2 ^ field_width kind ≡ field_value kind (pc_at regions pending p) (destination_at labels pending p)
  field_at kind p m e =
      let f : word_of p % 2 ^ field_width (kind_of pending p) ≡ field_value (kind_of pending p) (pc_at regions pending p) (destination_at labels pending p) =
      ap (λ (w : ℕ). w % 2 ^ field_width (kind_of pending p)) (word_at p m)
      ∙ finished_field (kind_of pending p) (pc_at regions pending p) (destination_at labels pending p) (le32 regions (slot_at regions pending p))
      (dest_lt job labels entry regions pending pass p m) in
      rw e at f

  -- The branch is near: by the premise, or because a manual build accepted it.
  near : (p : ℕ) → In pending p → (pending_at pending p).kind ≡ Branch → OnTarget job labels regions pending p
      → (after (pc_at regions pending p) / 4 ≤ destination_at labels pending p / 4 + 32768)
      × (destination_at labels pending p / 4 ≤ after (pc_at regions pending p) / 4 + 32767)
  near p m e t = go job refl
    where
      taken : by_manual job ≡ true
          → (after (pc_at regions pending p) / 4 ≤ destination_at labels pending p / 4 + 32768)
          × (destination_at labels pending p / 4 ≤ after (pc_at regions pending p) / 4 + 32767)
      taken b = manual_near job b (pc_at regions pending p) (destination_at labels pending p) (rw e at (in_range_lem job labels entry regions pending pass p m))

      go : (j : Job) → job ≡ j
          → (after (pc_at regions pending p) / 4 ≤ destination_at labels pending p / 4 + 32768)
          × (destination_at labels pending p / 4 ≤ after (pc_at regions pending p) / 4 + 32767)
      go Commit q = let n = t.near q e in (omega (arith, n.0), omega (arith, n.1))
      go Manual q = taken (ap by_manual q)
      go Release6 q = taken (ap by_manual q)

  branch_back : (p : ℕ) → In pending p → (pending_at pending p).kind ≡ Branch → pc_at regions pending p % 4 ≡ 0 → OnTarget job labels regions pending p
      → read_by Branch image (pending_at pending p) ≡ destination_at labels pending p
  unfolding read_by field_width field_value
  branch_back p m e a t =
      let n = near p m e t in
      ap₂ (λ (pc n : ℕ). wrap32 (after pc + signed_bytes n)) (pc_at_lem p m) (field_at Branch p m e)
      ∙ branch_reads (pc_at regions pending p) (destination_at labels pending p) (omega (arith, a)) (omega (arith, t.on_word_lem))
      (dest_lt job labels entry regions pending pass p m) (omega (arith, n.0)) (omega (arith, n.1))

  jump_back : (p : ℕ) → In pending p → (pending_at pending p).kind ≡ Jump → OnTarget job labels regions pending p
      → read_by Jump image (pending_at pending p) ≡ destination_at labels pending p
  unfolding read_by field_width field_value
  jump_back p m e t =
      let r : in_range job Jump (pc_at regions pending p) (destination_at labels pending p) ≡ true = rw e at (in_range_lem job labels entry regions pending pass p m) in
      ap₂ (λ (pc n : ℕ). after pc / 2 ^ 28 * 2 ^ 28 + n * 4) (pc_at_lem p m) (field_at Jump p m e)
      ∙ jump_reads (pc_at regions pending p) (destination_at labels pending p) (omega (arith, t.on_word_lem)) (jump_page job (pc_at regions pending p) (destination_at labels pending p) r)

  full_back : (p : ℕ) → In pending p → (pending_at pending p).kind ≡ Full → read_by Full image (pending_at pending p) ≡ destination_at labels pending p
  unfolding read_by finished_word
  full_back p m e =
      word_at p m
      ∙ ap (λ (k : InstructionLabelKind). finished_word k (pc_at regions pending p) (destination_at labels pending p) (le32 regions (slot_at regions pending p))) e

  -- a half of each kind
  upper_half : (p : ℕ) → In pending p → (pending_at pending p).kind ≡ Upper → half (word_of p) ≡ destination_at labels pending p / 65536
  unfolding field_width field_value
  upper_half p m e = field_at Upper p m e

  lower_half : (p : ℕ) → In pending p → (pending_at pending p).kind ≡ Lower → half (word_of p) ≡ destination_at labels pending p % 65536
  unfolding field_width field_value
  lower_half p m e = field_at Lower p m e

  -- The two patches of a pair have one destination.
  module _ (Shared : (pending : List ℕ) (p q : ℕ) → Type 0) (one : (p q : ℕ) → Shared pending p q → destination_at labels pending p ≡ destination_at labels pending q) where
    -- Read together, the two halves of a pair give the destination.
    pair_back : (p q : ℕ) → Pair Shared pending p q → half (word_of p) * 65536 + half (word_of q) ≡ destination_at labels pending p
    pair_back p q x =
        ap₂ (λ (a b : ℕ). a * 65536 + b) (upper_half p x.upper_in x.upper_kind)
        (lower_half q x.lower_in x.lower_kind ∙ ap (λ (d : ℕ). d % 65536) (sym (one p q x.target)))
        ∙ halves_read (destination_at labels pending p)

    upper_back : (p q : ℕ) → Pair Shared pending p q → read_by Upper image (pending_at pending p) ≡ destination_at labels pending p
    unfolding read_by
    upper_back p q x = ap₂ (λ (r o : ℕ). half (word_of p) * 65536 + half (word_in image r o)) (sym x.region) (sym x.later) ∙ pair_back p q x

    lower_back : (p q : ℕ) → Pair Shared pending p q → read_by Lower image (pending_at pending q) ≡ destination_at labels pending q
    unfolding read_by
    lower_back p q x =
        let o : (pending_at pending q).offset - 4 ≡ (pending_at pending p).offset = omega (arith, x.later) in
        ap₂ (λ (r o : ℕ). half (word_in image r o) * 65536 + half (word_of q)) x.region o ∙ pair_back p q x ∙ one p q x.target

    by_kind : (kind : InstructionLabelKind) (p : ℕ) → In pending p → (pending_at pending p).kind ≡ kind → ReadableBy Shared job labels regions pending kind p
        → read_by kind image (pending_at pending p) ≡ destination_at labels pending p
    by_kind Branch p m e r = branch_back p m e r.0 r.1
    by_kind Jump p m e r = jump_back p m e r
    by_kind Lower p m e r = lower_back r.0 p r.1
    by_kind Upper p m e r = upper_back p r.0 r.1
    by_kind Full p m e r = full_back p m e

    back_by : (p : ℕ) → In pending p → ReadableBy Shared job labels regions pending (pending_at pending p).kind p
        → Some (reading image (pending_at pending p)) ≡ destination labels pending (pending_at pending p).label
    back_by p m r = ap Some (by_kind (pending_at pending p).kind p m refl r) ∙ sym (known job labels entry regions pending pass p m)

  pub each_back : (p : ℕ) → In pending p → Readable job labels regions pending (pending_at pending p).kind p
      → Some (reading image (pending_at pending p)) ≡ destination labels pending (pending_at pending p).label
  each_back = back_by SharedTarget (shared_destination labels pending)

-- One claim on the whole pending list: under the tender's premises the list of readings is the list of destinations.
module _ {Shared : (pending : List ℕ) (p q : ℕ) → Type 0} (job : Job) (labels : Table) (entry regions pending : List ℕ) (premises : PremisesBy Shared job labels entry regions pending) (one : (p q : ℕ) → Shared pending p q → destination_at labels pending p ≡ destination_at labels pending q) where
  readable : (kind : InstructionLabelKind) (p : ℕ) → In pending p → (pending_at pending p).kind ≡ kind → ReadableBy Shared job labels regions pending kind p
  readable Branch p m e = (premises.aligned p m, record { on_word_lem = premises.branch_target p m e; near = λ c k. premises.near c p m k })
  readable Jump p m e = record { on_word_lem = premises.jump_target p m e; near = λ c k. premises.near c p m k }
  readable Lower p m e = premises.lower_paired p m e
  readable Upper p m e = premises.upper_paired p m e
  readable Full p m e = tt

  pub read_back : readings (image_of (patched_regions labels regions pending)) pending ≡ destinations labels pending
  unfolding readings destinations
  read_back =
      map_same (places pending)
      (λ p m. back_by job labels entry regions pending premises.accepted premises.apart Shared one p m (readable (pending_at pending p).kind p m refl))

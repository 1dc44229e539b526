use denote.Enum.Declared.{tag_of}
use Rattle.pending.specs.contracts.InstructionLabelKind.{the_type}
use Rattle.pending.specs.declared.InstructionLabelKind.{InstructionLabelKind}
use Rattle.pending.specs.declared.InstructionLabelKind.TheVariants.{Branch, Jump, Lower, Upper, Full}
use Rattle.std.proofs.Common.{ℕ, ◌+◌, ◌≡◌, List, ◌∷◌, ◌++◌, length, refl, ap, ap₂, ◌∙◌, arith}
use Rattle.record.specs.Stores.{append, le16_bytes, le32_bytes, location_bytes}
use Rattle.record.proofs.StoresLaws.{append_then, one_store}
use Rattle.address_label.specs.LabelBytes.{label_bytes}
use Rattle.address_label.proofs.LabelBytesLaws.{label_length}
use Rattle.pending.specs.PendingBytes.{kind_number}
use Rattle.pending.proofs.PendingBytesLaws.{low_bytes}
use Rattle.pending.proofs.put_pending.Goals as goal

-- A kind's number is its number in the enum.
number : (kind : InstructionLabelKind) → tag_of the_type kind ≡ kind_number kind
number Branch = refl
number Jump = refl
number Lower = refl
number Upper = refl
number Full = refl

pub returns : goal.returns
returns c =
    let a = c.args in
    let d = a.d.now in
    let t = a.names.now in
    let at = a.at in
    let n = c.name_of-name in
    let p3 = append_then d at _ (at + 4) _ c.put_head.ensures c.put16.ensures (omega arith) (omega arith) in
    let p4 = append_then d at _ (at + 6) _ p3 c.put32.ensures (omega arith) (omega arith) in
    let p5 = append_then d at _ (at + 10) _ p4 c.put_location.ensures (omega arith) (omega arith) in
    let p6 = append_then d at _ (at + 18) _ p5 (one_store c.put_location.new.d (at + 18) (tag_of the_type a.waits.kind) (omega arith)) (omega arith) (omega arith) in
    let p7 = append_then d at _ (at + 19) _ p6 c.put_label.ensures (omega arith) (omega (arith, label_length t a.waits.label)) in
    let body : ℕ → List ℕ = λ k. le16_bytes a.origin.region ++ le32_bytes a.origin.offset ++ location_bytes a.origin.location ++ k ∷ label_bytes t a.waits.label in
    let m : 32 + length n.result.now ≡ length (body (kind_number a.waits.kind)) = omega (arith, ap length n.ensures, label_length t a.waits.label) in
    p7
    ∙ ap₂ (λ (h : List ℕ) (k : ℕ). append d at (h ++ le16_bytes 36 ++ body k)) (low_bytes (32 + length n.result.now) ∙ ap le16_bytes m) (number a.waits.kind)

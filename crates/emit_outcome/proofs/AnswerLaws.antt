-- Two answers that are the same have the same parts. Assumes nothing.
use Rattle.std.specs.Prelude.{ℕ, ◌≡◌}
use Rattle.std.proofs.Common.{ap}
use Rattle.loading.specs.declared.LoadForm.{LoadForm}
use Rattle.refusal.specs.declared.Refusal.{Refusal}
use Rattle.emit_outcome.specs.declared.DoneLine.{DoneLine}
use Rattle.emit_outcome.specs.declared.RefusedLine.{RefusedLine}
use Rattle.emit_outcome.specs.Answer.{done_at, refused_at}

pub done_parts : {p q : ℕ} {l k : LoadForm} → done_at p l ≡ done_at q k → (p ≡ q) × (l ≡ k)
done_parts {p} {q} {l} {k} e =
    let z : ◌≡◌ {A = DoneLine} (record { position = p; loaded = l }) (record { position = q; loaded = k }) = cc in
    (ap (λ (x : DoneLine). x.position) z, ap (λ (x : DoneLine). x.loaded) z)

pub refused_parts : {r s : Refusal} {p q : ℕ} → refused_at r p ≡ refused_at s q → (r ≡ s) × (p ≡ q)
refused_parts {r} {s} {p} {q} e =
    let z : ◌≡◌ {A = RefusedLine} (record { refusal = r; position = p }) (record { refusal = s; position = q }) = cc in
    (ap (λ (x : RefusedLine). x.refusal) z, ap (λ (x : RefusedLine). x.position) z)

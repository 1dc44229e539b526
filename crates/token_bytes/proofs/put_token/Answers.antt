-- The head, the location and the payload, one behind the other.
use Rattle.std.proofs.Common.{◌≡◌, ℕ, ◌+◌, ap, ◌∙◌, arith}
use Rattle.std.proofs.Math.Path.{ap₂}
use mathlib.Core.List.{List, ◌++◌}
use Rattle.std.proofs.Math.ListN.{length}
use Rattle.record.specs.Stores.{le16_bytes, location_bytes, append}
use Rattle.record.proofs.StoresLaws.{append_then}
use Rattle.token_bytes.specs.declared.Carried.{Carried}
use Rattle.token_bytes.specs.TokenBytes.{carried_by, carried_size, carried_bytes}
use Rattle.token_bytes.proofs.TokenBytesLaws.{carried_length}
use Rattle.token_bytes.proofs.put_token.Goals as goal

pub returns : goal.returns
returns c =
    let d = c.args.d.now in
    let at = c.args.at in
    let texts = c.args.texts.now in
    let location = c.args.token.location in
    let kind = c.args.token.kind in
    let e = c.carried_by-payload.ensures in
    let size = c.carried_size-body.ensures ∙ ap carried_size e in
    let n = carried_length texts (carried_by kind) c.requires.carried_fits in
    let body = location_bytes location ++ carried_bytes texts (carried_by kind) in
    let m : 8 + c.carried_size-body.result ≡ length body = omega arith in
    let bytes : ℕ → ℕ → Carried → List ℕ = λ n number x. append d at (le16_bytes n ++ le16_bytes number ++ location_bytes location ++ carried_bytes texts x) in
    let head = append_then _ _ _ _ _ c.put_head.ensures c.put_location.ensures (omega arith) (omega arith) in
    append_then _ _ _ _ _ head c.put_carried.ensures (omega arith) (omega (arith, ap (λ (x : Carried). length (carried_bytes texts x)) e))
    ∙ ap (λ (k : ℕ). bytes k c.from.result c.carried_by-payload.result) m
    ∙ ap₂ (bytes (length body)) (c.from.ensures ∙ c.strip.ensures) e

-- Laws of checks one after the other: what passes. Assumes nothing.
use Rattle.std.specs.Prelude.{ℕ, ◌≡◌, refl, Err, None, Ok, Option, Some}
use Rattle.std.proofs.Common.{sym, ap, ◌∙◌}
use Rattle.refusal.specs.Verdicts.{and_then, layout_verdict, name_verdict, Verdict}

pub both_pass : (a b : Verdict) → and_then a b ≡ Ok tt → (a ≡ Ok tt) × (b ≡ Ok tt)
both_pass (Ok tt) b e = (refl, e)
both_pass (Err r) b e = (e, cc)

pub layout_pass : (n : ℕ) (l : Option ℕ) → layout_verdict n l ≡ Ok tt → l ≡ None
layout_pass n None e = refl
layout_pass n (Some p) e = cc

pub name_pass : (n : ℕ) (r : Option ℕ) → name_verdict n r ≡ Ok tt → r ≡ None
name_pass n None e = refl
name_pass n (Some p) e = cc

-- A list's verdict follows from what its check gave.
pub verdict : (of : Option ℕ → Verdict) {bad found : Option ℕ} {v : Verdict} → bad ≡ found → v ≡ of bad → of found ≡ v
verdict of e f = ap of (sym e) ∙ sym f

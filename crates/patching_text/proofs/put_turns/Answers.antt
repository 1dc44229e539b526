use Rattle.std.specs.Prelude.{None, Option, Some}
use Rattle.std.specs.List.{slice_get}
use Rattle.std.specs.Option.{option_copied}
use Rattle.std.proofs.Common.{◌≡◌, ◌∷◌, [], Bor, List, ℕ, refl, sym, ap, ◌∙◌, arith}
use Rattle.patching_text.specs.Script.{turn_byte}
use Rattle.patching_text.proofs.TurnsLaws.{here_then, here_over, here_full}
use Rattle.patching_text.proofs.put_turns.Goals as goal

-- the first byte, if there is one, is the turn's
some_byte : (s : List ℕ) (n : ℕ) → Some n ≡ slice_get s 0 → turn_byte s ≡ n
some_byte [] n e = let z : ◌≡◌ {A = ℕ} 0 1 = cc in absurd (omega arith)
some_byte (b ∷ bs) n e = let z : b ≡ n = cc in z

no_byte : (s : List ℕ) → None ≡ slice_get s 0 → turn_byte s ≡ 2
no_byte [] e = refl
no_byte (b ∷ bs) e = let z : ◌≡◌ {A = ℕ} 0 1 = cc in absurd (omega arith)

turn_is : (s : List ℕ) (r : Option (Bor ℕ)) (x : Bor ℕ) → option_copied r ≡ slice_get s 0 → r ≡ Some x → turn_byte s ≡ x.now
turn_is s r x e f = some_byte s x.now (sym (ap (λ (o : Option (Bor ℕ)). option_copied o) f) ∙ e)

no_turn : (s : List ℕ) (r : Option (Bor ℕ)) → option_copied r ≡ slice_get s 0 → r ≡ None → turn_byte s ≡ 2
no_turn s r e f = no_byte s (sym (ap (λ (o : Option (Bor ℕ)). option_copied o) f) ∙ e)

pub loop-preserved : goal.loop-preserved
loop-preserved g c =
    rw c.behind_turn-rest.ensures
    (here_then c.loop.invariant (omega arith) (omega (arith, turn_is c.loop.rest.now c.first.result c.in-Some.field-0 c.first.ensures.value c.in-Some.is, c.if-turn-gt-LINE.false)) _ _ c.do_turn-counts.ensures)

pub returns-after-loop-clause-text : goal.returns-after-loop-clause-text
returns-after-loop-clause-text g c = here_full c.loop.invariant (omega arith)

pub returns-then-turn-gt-LINE-clause-text : goal.returns-then-turn-gt-LINE-clause-text
returns-then-turn-gt-LINE-clause-text g c =
    here_over c.loop.invariant (omega (arith, turn_is c.loop.rest.now c.first.result c.in-Some.field-0 c.first.ensures.value c.in-Some.is, c.if-turn-gt-LINE.true))

pub returns-in_default-clause-text : goal.returns-in_default-clause-text
returns-in_default-clause-text g c =
    here_over c.loop.invariant (omega (arith, no_turn c.loop.rest.now c.first.result c.first.ensures.value c.in_default.is))

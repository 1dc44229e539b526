-- "A name not above is treated as an ordinary mnemonic": in a macro's body its own name, and those of the macros below, call nothing. Assumes nothing.
use Rattle.std.specs.Prelude.{ℕ, ◌≤◌, Bool, ◌≡◌, None, Option, Some}
use Rattle.std.proofs.Common.{arith, ⊎_elim, sym, ap, ◌∙◌}
use mathlib.Core.List.Memᴰ
use mathlib.Core.List.{List, [], ◌∷◌, Memᴰ}
use Rattle.std.proofs.Math.Bool.{true, false}
use Rattle.std.proofs.Math.Path.{refl}
use Rattle.std.proofs.Math.Dec.{ltb}
use borrow.Author.Tests.{ltb-true, eqb-true}
use Rattle.record.specs.Records.{places}
use Rattle.names.specs.Names.{first_where, is_at, first_later}
use Rattle.names.proofs.NamesLaws.{later_hit, later_pass}
use Rattle.macros.specs.Macros.{Macro, macro_of, same_macro, macro_repeat}
use Rattle.written_out.specs.Written.{no_macro, called}
use Rattle.written_out.specs.Above.{macro_at, above_from, above}

at_is : (n : Option ℕ) (p : ℕ) → is_at n p ≡ true → n ≡ Some p
at_is (Some q) p e = ap Some (eqb-true q p e)
at_is None p e = let z : ◌≡◌ {A = ℕ} 0 1 = cc in absurd (omega arith)

-- If no name repeats, searching for a macro's name finds that macro.
first_of : (s list ps : List ℕ) → first_later (same_macro s) list ps ≡ None → (q : ℕ) → Memᴰ q ps → first_where (same_macro s q) list ≡ Some q
first_of s list [] e q m = elim m [ ]
first_of s list (p ∷ ps) e q m = go (is_at (first_where (same_macro s p) list) p) refl (first_of s list ps)
  where
    go : (b : Bool) → is_at (first_where (same_macro s p) list) p ≡ b
        → (first_later (same_macro s) list ps ≡ None → (r : ℕ) → Memᴰ r ps → first_where (same_macro s r) list ≡ Some r) → first_where (same_macro s q) list ≡ Some q
    go true b ih = ⊎_elim (λ (h : q ≡ p). ap (λ (r : ℕ). first_where (same_macro s r) list) h ∙ at_is _ p b ∙ ap Some (sym h)) (λ t. ih (sym (later_pass (same_macro s) list p ps b) ∙ e) q t) (Memᴰ.cases_cons m)
    go false b ih =
        let l = later_hit (same_macro s) list p ps b in
        let z : ◌≡◌ {A = ℕ} 0 1 = cc in
        absurd (omega arith)

module _ (s : List ℕ) (limit q : ℕ) (h : limit ≤ q) where
  abbrev name : List ℕ
  name = (macro_at s q).name

  none_above : (ps : List ℕ) (ms : List Macro) → first_where (same_macro s q) ps ≡ Some q → called name (above_from s limit ps ms) ≡ called name ms
  unfolding above_from first_where called macro_of
  none_above [] ms e = refl
  none_above (p ∷ ps) ms e = go (same_macro s q p) refl (ltb p limit) refl (none_above ps (macro_at s p ∷ ms))
    where
      go : (b : Bool) → same_macro s q p ≡ b → (t : Bool) → ltb p limit ≡ t
          → (first_where (same_macro s q) ps ≡ Some q → called name (above_from s limit ps (macro_at s p ∷ ms)) ≡ called name (macro_at s p ∷ ms))
          → called name (above_from s limit (p ∷ ps) ms) ≡ called name ms
      go b eb false et ih = rw (et, above_from)
      go true eb true et ih =
          let f : first_where (same_macro s q) (p ∷ ps) ≡ Some p = rw (eb, first_where) in
          let g : p ≡ q = cc in
          absurd (omega (arith, ltb-true p limit et))
      go false eb true et ih = rw (et, above_from) (ih (sym (rw (eb, first_where)) ∙ e) ∙ rw (eb, called))

-- The macro at q, at or behind the place `limit`, is not called by its name.
pub not_above : (s : List ℕ) (limit q : ℕ) → macro_repeat s ≡ None → Memᴰ q (places s) → limit ≤ q → called (macro_at s q).name (above s limit) ≡ no_macro
unfolding macro_repeat above called
not_above s limit q e m h = none_above s limit q h (places s) [] (first_of s (places s) (places s) e q m)

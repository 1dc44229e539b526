-- Laws of the names of pseudo-instructions: a name that the first rows lack is searched among the rest. Assumes nothing.
use Rattle.std.specs.Prelude.{ℕ, List, [], ◌∷◌, map, Bool, true, false, ◌≡◌, refl, None, Option, Some, MatchOption, IsSomeAnd}
use Rattle.std.specs.Borrow.{Bor}
use Rattle.std.specs.Option.{option_map}
use Rattle.std.specs.List.{find}
use Rattle.std.proofs.Common.{sym, ap, ◌∙◌}
use Rattle.record.specs.Bytes.{same_bytes}
use Rattle.pseudo_names.specs.PseudoNames.{PseudoName, pseudo_in, pseudo_names, pseudo_of}
use Rattle.pseudo_names.specs.declared.Pseudo.{Pseudo}

-- Searching the name among all finds what searching among the rest finds.
pub record Left (name : List ℕ) (all rest : List PseudoName) : Type 0 where
  pub is : pseudo_in name all ≡ pseudo_in name rest

found : (name : List ℕ) (p : PseudoName) (ps : List PseudoName) → same_bytes name p.name ≡ true → pseudo_in name (p ∷ ps) ≡ Some p.pseudo
unfolding pseudo_in
found name p ps f = rw (f, pseudo_in)

next : (name : List ℕ) (p : PseudoName) (ps : List PseudoName) → same_bytes name p.name ≡ false → pseudo_in name (p ∷ ps) ≡ pseudo_in name ps
unfolding pseudo_in
next name p ps f = rw (f, pseudo_in)

none : (name : List ℕ) → pseudo_in name [] ≡ None
unfolding pseudo_in
none name = refl

module _ {name : List ℕ} {all : List PseudoName} where
  pub pseudo_first : Left name all all
  pseudo_first = record { is = refl }

  module _ {p : PseudoName} {ps : List PseudoName} {same : Bool} (l : Left name all (p ∷ ps)) (e : same ≡ same_bytes name p.name) where
    pub pseudo_next : same ≡ false → Left name all ps
    pseudo_next t = record { is = l.is ∙ next name p ps (sym e ∙ t) }

    pub pseudo_found : same ≡ true → Some p.pseudo ≡ pseudo_in name all
    pseudo_found t = sym (l.is ∙ found name p ps (sym e ∙ t))

  pub pseudo_rest : {ps : List PseudoName} {r : (Option Pseudo)} → Left name all ps → r ≡ pseudo_in name ps → r ≡ pseudo_in name all
  pseudo_rest l e = e ∙ sym l.is

  pub pseudo_none : Left name all [] → None ≡ pseudo_in name all
  pseudo_none l = sym (l.is ∙ none name)

-- ---- the table of the code, searched for the first row with that name

-- A row of the table, with its name as a list of bytes.
abbrev pub row : Bor (List ℕ) × Pseudo → PseudoName
row r = record { name = r.0.now; pseudo = r.1 }

found_row : (name : List ℕ) (rows : List (Bor (List ℕ) × Pseudo)) → option_map (λ r. r.1) (find (λ r. same_bytes name r.0.now) rows) ≡ pseudo_in name (map row rows)
unfolding pseudo_in
found_row name [] = refl
found_row name (r ∷ rs) = go (same_bytes name r.0.now) refl (found_row name rs)
  where
    go : (b : Bool) → same_bytes name r.0.now ≡ b → option_map (λ r. r.1) (find (λ r. same_bytes name r.0.now) rs) ≡ pseudo_in name (map row rs)
        → option_map (λ r. r.1) (find (λ r. same_bytes name r.0.now) (r ∷ rs)) ≡ pseudo_in name (map row (r ∷ rs))
    go true e ih = rw (e, pseudo_in) refl
    go false e ih = rw (e, pseudo_in) ih

module _ {T U : Type 0} (of : T → U) (post : T → U → Type 0) (gives : (x : T) (y : U) → post x y → y ≡ of x) where
  pub mapped : (o : Option T) (r : Option U) → MatchOption o (r ≡ None) (λ x. IsSomeAnd r (post x)) → r ≡ option_map of o
  mapped None r h = h
  mapped (Some x) None h = absurd h
  mapped (Some x) (Some y) h = ap Some (gives x y h)

pub found_in : (name : List ℕ) (rows : List (Bor (List ℕ) × Pseudo)) (o : Option (Bor (Bor (List ℕ) × Pseudo))) (r : Option Pseudo)
    → map row rows ≡ pseudo_names
    → option_map (λ y. y.now) o ≡ find (λ r. same_bytes name r.0.now) rows
    → r ≡ option_map (λ y. y.now.1) o
    → r ≡ pseudo_of name
found_in name rows o r t f m = m ∙ twice o ∙ ap (option_map (λ r. r.1)) f ∙ found_row name rows ∙ ap (pseudo_in name) t
  where
    twice : (o : Option (Bor (Bor (List ℕ) × Pseudo))) → option_map (λ y. y.now.1) o ≡ option_map (λ r. r.1) (option_map (λ y. y.now) o)
    twice None = refl
    twice (Some x) = refl

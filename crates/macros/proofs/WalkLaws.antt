-- Laws of one step of a walk over a macro's names. Assumes nothing.
use Rattle.std.proofs.Common.{ℕ, suc, ◌-◌, ◌≤◌, ◌<◌, List, ◌∷◌, map, None, Some, Bool, true, false, ◌≡◌, length, sym, ap, ap₂, ◌∙◌, arith}
use Rattle.std.proofs.lemmas.Iterator.{YieldsList}
use Rattle.std.proofs.lemmas.Iterator.Consumers.{YieldsList-from_shown}
use denote.Ref.{Bor}
use Rattle.record.specs.Bytes.{same_bytes}
use Rattle.macros.specs.Macros.{name_at, behind_name, name_places, behind_names}
use Rattle.macros.specs.Walk.{NameFirst, gives_name}
use Rattle.macros.specs.declared.Names.{Names}
use Rattle.macros.proofs.NamesLaws.{first_ok, places_more, names_length, index_from, index_hit, index_miss, behind_more, differ_from, differ_stop, differ_next}

module _ (b : List ℕ) (s : Names) (x : List ℕ) (t : Names) (e : s.list.now ≡ b) (f : NameFirst s x t) where
  pub list_on : t.list.now ≡ b
  list_on = f.list ∙ e

  some : 0 < s.count
  some = omega (arith, f.more)

  fewer : s.count - 1 ≡ t.count
  fewer = omega (arith, f.more)

  at_is : behind_name b s.at ≡ t.at
  at_is = sym (f.behind ∙ ap (λ (l : List ℕ). behind_name l s.at) e)

  name_is : name_at b s.at ≡ x
  name_is = sym (f.name ∙ ap (λ (l : List ℕ). name_at l s.at) e)

  pub behind_on : behind_names s.count b s.at ≡ behind_names t.count b t.at
  behind_on = behind_more b s.count s.at some ∙ ap₂ (λ (n i : ℕ). behind_names n b i) fewer at_is

  pub end_within : t.at ≤ length b
  end_within = omega (arith, f.behind, (first_ok s.list.now s.count s.at some s.ok).within, ap length e)

  module _ (name : List ℕ) where
    is_same : (y : Bool) → same_bytes x name ≡ y → same_bytes (name_at b s.at) name ≡ y
    is_same y h = ap (λ (l : List ℕ). same_bytes l name) name_is ∙ h

    pub index_first : same_bytes x name ≡ true → index_from b name s.count s.at ≡ 0
    index_first h = index_hit b name s.count s.at some (is_same true h)

    pub index_behind : same_bytes x name ≡ false → index_from b name s.count s.at ≡ suc (index_from b name t.count t.at)
    index_behind h = index_miss b name s.count s.at some (is_same false h) ∙ ap suc (ap₂ (index_from b name) fewer at_is)

  index_is : index_from b (name_at b s.at) t.count (behind_name b s.at) ≡ index_from b x t.count t.at
  index_is = ap₂ (λ (l : List ℕ) (i : ℕ). index_from b l t.count i) name_is at_is

  pub differ_first : index_from b x t.count t.at < t.count → differ_from b s.count s.at ≡ false
  differ_first h = differ_stop b s.count s.at t.count f.more (omega (arith, index_is))

  pub differ_behind : t.count ≤ index_from b x t.count t.at → differ_from b s.count s.at ≡ differ_from b t.count t.at
  differ_behind h = differ_next b s.count s.at t.count f.more (omega (arith, index_is)) ∙ ap (differ_from b t.count) at_is

-- ---- the names that a walk gives
abbrev pub names_of : Names → List (List ℕ)
names_of s = map (name_at s.list.now) (name_places s.count s.list.now s.at)

pub gives_names : (s : Names) → YieldsList gives_name (λ (p : Bor (List ℕ) × Names). p.0.now) s (names_of s)
gives_names s = YieldsList-from_shown gives_name (λ (p : Bor (List ℕ) × Names). p.0.now) names_of none one s
  where
    none : (s t : Names) → gives_name s None t → length (names_of s) ≡ 0
    none s t h = names_length s.list.now s.count s.at ∙ h.0

    one : (s : Names) (x : Bor (List ℕ) × Names) (t : Names) → gives_name s (Some x) t → names_of s ≡ x.0.now ∷ names_of t
    one s x t h =
        let b = s.list.now in
        let f = h.1 in
        let fewer : s.count - 1 ≡ t.count = omega (arith, f.more) in
        ap (map (name_at b)) (places_more b s.count s.at (omega (arith, f.more)))
        ∙ ap₂ (λ (n : List ℕ) (ns : List (List ℕ)). n ∷ ns) (sym f.name)
        (ap₂ (λ (n i : ℕ). map (name_at b) (name_places n b i)) fewer (sym f.behind) ∙ ap (λ (l : List ℕ). map (name_at l) (name_places t.count l t.at)) (sym f.list))

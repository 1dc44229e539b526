-- A label list and its ordered index: the index has as many places as the list has records; two lookups say what a name stands for. Assumes nothing.
use Rattle.std.specs.Prelude.{ℕ, ◌+◌, ◌≤◌, ◌<◌, List, [], ◌∷◌, ◌++◌, Bool, ◌≡◌, refl, length, take, drop, get_or, None, Option, Some}
use Rattle.std.specs.Option.{is_some}
use Rattle.std.proofs.Common.{arith, add-one, sym, ap, ap₂, ◌∙◌, length-append, take-append-drop, drop-cons}
use Rattle.record.specs.Records.{places}
use Rattle.names.specs.Owners.{for_all, first_owned}
use Rattle.name_sort.specs.Sorting.{count, In, SameCounts}
use Rattle.name_sort.proofs.SortingLaws.{count_append, at_in, in_head}
use Rattle.name_index.specs.Index.{IndexOf, lookup}
use Rattle.name_index.specs.declared.Looked.{Looked}
use Rattle.labels.specs.Labels.{label_layout}
use Rattle.labels.proofs.LookupLaws.{label_count}
use Rattle.label_uses.specs.Uses.{key_for}
use Rattle.label_uses.specs.ReadUse.{key_with}
use Rattle.label_uses.proofs.HitLaws.{is_hit, lookup_hits, standing_hit, standing_by_hits}

-- ---- lists of the same numbers have the same length
split_at : (r : List ℕ) (i : ℕ) → i + 1 ≤ length r → r ≡ take i r ++ (get_or r i 0 ∷ drop (i + 1) r)
split_at r i h = let k : i < length r = omega arith in sym (take-append-drop i r) ∙ ap (λ (x : List ℕ). take i r ++ x) (rw (add-one, drop-cons r i 0))

same_length : (l r : List ℕ) → SameCounts l r → length r ≡ length l
unfolding count
same_length [] [] s = refl
same_length [] (y ∷ r) s = let m : In y (y ∷ r) = in_head y r in absurd (omega (arith, m, s y))
same_length (x ∷ l) r s =
    let h : In x (x ∷ l) = in_head x l in
    let m : In x r = omega (arith, h, s x) in
    let f = at_in r x m in
    let a = take f.0 r in
    let b = drop (f.0 + 1) r in
    let e : r ≡ a ++ (x ∷ b) = split_at r f.0 (omega (arith, f.1)) ∙ ap (λ (y : ℕ). a ++ (y ∷ b)) f.2 in
    let rest : SameCounts l (a ++ b) = λ v. omega (arith, s v, ap (count v) e, count_append v a (x ∷ b), count_append v a b) in
    omega (arith, ap length e, length-append a (x ∷ b), length-append a b, same_length l (a ++ b) rest)

pub index_few : (s order : List ℕ) → label_layout s ≡ None → IndexOf 4 s order → length order ≤ 7281
index_few s order g ix = omega (arith, same_length (places s) order ix.counts, label_count s g)

-- ---- what is looked up
pub hit_is : (found : Option ℕ) → is_hit found ≡ is_some found
hit_is (Some p) = refl
hit_is None = refl

pub index_has : (s order : List ℕ) → IndexOf 4 s order → (owner : ℕ) (name : List ℕ) (found : Looked) → found ≡ lookup 4 s order owner name → is_some found.named ≡ is_some (first_owned 4 s owner name)
index_has s order ix owner name found e =
    ap (λ (x : Looked). is_some x.named) e ∙ sym (hit_is (lookup 4 s order owner name).named) ∙ lookup_hits 4 s order ix owner name ∙ hit_is (first_owned 4 s owner name)

pub standing_scanned : (s : List ℕ) (source : ℕ) (name : List ℕ) (own shared : Bool) → is_some (first_owned 4 s source name) ≡ own → is_some (first_owned 4 s for_all name) ≡ shared
    → key_with name (standing_hit source own shared) ≡ key_for s source name
unfolding key_for
standing_scanned s source name own shared e f =
    ap (key_with name)
    (ap₂ (standing_hit source) (sym (hit_is (first_owned 4 s source name) ∙ e)) (sym (hit_is (first_owned 4 s for_all name) ∙ f)) ∙ sym (standing_by_hits s source name))

-- The same, with two lookups in an index of the labels.
pub standing_as : (s l : List ℕ) → IndexOf 4 s l → (source : ℕ) (name : List ℕ) (own shared : Bool) → is_some (lookup 4 s l source name).named ≡ own
    → is_some (lookup 4 s l for_all name).named ≡ shared → key_with name (standing_hit source own shared) ≡ key_for s source name
standing_as s l ix source name own shared e f =
    standing_scanned s source name own shared (sym (index_has s l ix source name (lookup 4 s l source name) refl) ∙ e)
    (sym (index_has s l ix for_all name (lookup 4 s l for_all name) refl) ∙ f)

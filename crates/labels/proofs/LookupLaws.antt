-- A lookup through an index finds what the scan finds, with at most 32 comparisons of names (document 02, P13). Assumes nothing.
use Rattle.std.specs.Prelude.{ℕ, suc, ◌+◌, ◌≤◌, ◌<◌, List, [], ◌∷◌, ◌++◌, Bool, true, false, ◌≡◌, length, get_or, take, drop, eqb, ltb, None, Option, Some}
use Rattle.std.proofs.Common.{arith, sym, ◌∙◌, ltb-true, ltb-false, lt-ltb, le-ltb, length-append, length-take, length-drop, subst}
use Rattle.std.proofs.Math.Path.{refl, ap, ap₂}
use Rattle.std.proofs.Math.Seq.{drop-cons}
use Rattle.record.specs.Records.{places, first_bad}
use Rattle.names.specs.Owners.{for_all, has_owned_name, first_owned}
use Rattle.name_sort.specs.Sorting.{one, count}
use Rattle.name_sort.proofs.SortingLaws.{in_head, at_in, count_split, count_append}
use Rattle.name_index.specs.Index.{IndexOf, lookup_from, lookup, told}
use Rattle.name_index.specs.Ordered.{Ordered}
use Rattle.name_index.proofs.CountLaws.{count_at_least}
use Rattle.name_index.proofs.Lookup.{lookup_is_scan, lookup_count, told_same, told_count, owned_at}
use Rattle.name_index.proofs.SearchLaws.{lookup_first}
use Rattle.name_index.specs.declared.Looked.{Looked}
use Rattle.name_index.specs.Told.{Told}
use Rattle.labels.specs.Labels.{label_ok, label_layout, or_else, labelled}
use Rattle.labels.proofs.LabelsLaws.{label_is, labels_good, labels_named, labels_within}
use Rattle.labels.specs.Lookup.{most_labels, Indexed, or_looked, or_searched, looked_for_all, looked_up}

-- Lists that have each number equally often have the same length.
same_length : (a b : List ℕ) → ((v : ℕ) → count v a ≡ count v b) → length a ≡ length b
unfolding count
same_length [] [] e = refl
same_length [] (y ∷ b) e = absurd (omega (arith, in_head y b, e y))
same_length (x ∷ a) b e =
    let at = at_in b x (let h : count x (x ∷ a) ≡ count x b = e x in rw (← h) (in_head x a)) in
    let i : ℕ = at.0 in
    let d = drop-cons b i 0 at.1 in
    let rest = same_length a (take i b ++ drop (suc i) b)
    (λ v.
    let h : count v (drop i b) ≡ one (eqb x v) + count v (drop (suc i) b) = ap (count v) d ∙ ap (λ (w : ℕ). one (eqb w v) + count v (drop (suc i) b)) at.2 in
    omega (arith, e v, count_split v i b, count_append v (take i b) (drop (suc i) b), h)) in
    omega (arith, rest, at.1, length-append (take i b) (drop (suc i) b), length-take {A = ℕ}, length-drop {A = ℕ})

-- Each label has at least nine bytes.
pub label_count : (s : List ℕ) → label_layout s ≡ None → length (places s) ≤ most_labels
label_count s g =
    let n = count_at_least 9 s (label_ok s) (λ p e. let l = label_is s p e in (l.whole_at, omega (arith, l.least))) (labels_good s g) in
    omega (arith, labels_within s g)

-- An index of them has no more places than that.
pub index_few : (s index : List ℕ) → label_layout s ≡ None → IndexOf 4 s index → length index ≤ most_labels
index_few s index g ix = omega (arith, label_count s g, same_length index (places s) ix.counts)

-- What is known of a table's list and order is known of the table.
pub indexed_as : (a b : Ordered) → a ≡ b → Indexed a.list a.order → Indexed b.list b.order
indexed_as a b e i = subst (λ (x : Ordered). Indexed x.list x.order) e i

-- ---- two lookups, one after the other
or_named : (own other : Looked) → (or_looked own other).named ≡ or_else own.named other.named
or_named own other = go own.named refl
  where
    go : (n : Option ℕ) → own.named ≡ n → (or_looked own other).named ≡ or_else own.named other.named
    go (Some p) e = rw (e, or_looked) e
    go None e = rw (e, or_looked)

-- Either the first lookup finds a label, or the second is made.
or_own : (own other : Looked) (p : ℕ) → own.named ≡ Some p → or_looked own other ≡ own
or_own own other p e = rw (e, or_looked) (ap (λ (n : Option ℕ). record { named = n; compared = own.compared; end = own.end }) e)

or_other : (own other : Looked) → own.named ≡ None → or_looked own other ≡ other
or_other own other e = rw (e, or_looked)

module _ (s index : List ℕ) (source : ℕ) (name : List ℕ) (own : Looked) (e : own ≡ lookup 4 s index source name) where
  all_is : or_looked own (looked_for_all s index own.end name own.compared) ≡ looked_up s index source name
  unfolding looked_up
  all_is = ap (λ (l : Looked). or_looked l (looked_for_all s index l.end name l.compared)) e

  pub look_own : (p : ℕ) → own.named ≡ Some p → own ≡ looked_up s index source name
  look_own p f = sym (or_own own (looked_for_all s index own.end name own.compared) p f) ∙ all_is

  pub look_other : (other : Looked) → other ≡ looked_for_all s index own.end name own.compared → own.named ≡ None → other ≡ looked_up s index source name
  look_other other g f = g ∙ sym (or_other own (looked_for_all s index own.end name own.compared) f) ∙ all_is

-- ---- the label for all
module _ (s index : List ℕ) (end : ℕ) (name : List ℕ) (c : ℕ) where
  pub for_all_past : length index ≤ end → lookup_from 4 s index for_all name c ≡ looked_for_all s index end name c
  unfolding looked_for_all
  for_all_past h = rw (le-ltb end (length index) h, looked_for_all)

  module _ (h : end < length index) (p : ℕ) (q : p ≡ get_or index end 0) (t : Told) (e : t ≡ told 4 s for_all name p c) where
    searched : looked_for_all s index end name c ≡ or_searched t p end (lookup_from 4 s index for_all name)
    unfolding looked_for_all
    searched = rw (lt-ltb end (length index) h, looked_for_all) (rw (e, q))

    pub for_all_here : t.same ≡ true → record { named = Some p; compared = t.compared; end = end } ≡ looked_for_all s index end name c
    for_all_here f = sym (searched ∙ rw (f, or_searched))

    pub for_all_searched : t.same ≡ false → lookup_from 4 s index for_all name t.compared ≡ looked_for_all s index end name c
    for_all_searched f = sym (searched ∙ rw (f, or_searched))

module _ (s index : List ℕ) (ix : Indexed s index) where
  scan_is : (owner : ℕ) (name : List ℕ) (c : ℕ) → (lookup_from 4 s index owner name c).named ≡ first_owned 4 s owner name
  scan_is = lookup_is_scan 4 s index ix.ordered ix.distinct

  few : (owner : ℕ) (name : List ℕ) (c : ℕ) → (lookup_from 4 s index owner name c).compared ≤ c + 13
  few owner name c = let h = ix.few in lookup_count 13 4 s index (omega arith) owner name c

  pub few_found : (owner : ℕ) (name : List ℕ) (found : Looked) → found ≡ lookup 4 s index owner name → found.compared ≤ 13
  few_found owner name found e = rw (e ∙ lookup_first 4 s index owner name) (few owner name 0)

  -- what a search in the index requires
  pub asked : (first_bad (has_owned_name 4 s) (places s) ≡ None) × (IndexOf 4 s index × (length index < 65536))
  asked = (labels_named s ix.layout, (ix.ordered, omega (arith, ix.few)))

  -- The lookup for all files finds what the scan finds, with at most 14 more comparisons.
  for_all_is : (end : ℕ) (name : List ℕ) (c : ℕ) → ((looked_for_all s index end name c).named ≡ first_owned 4 s for_all name) × ((looked_for_all s index end name c).compared ≤ c + 14)
  for_all_is end name c = go (ltb end (length index)) refl (told 4 s for_all name (get_or index end 0) c).same refl
    where
      p : ℕ
      p = get_or index end 0

      t : Told
      t = told 4 s for_all name p c

      go : (b : Bool) → ltb end (length index) ≡ b → (o : Bool) → t.same ≡ o
          → ((looked_for_all s index end name c).named ≡ first_owned 4 s for_all name) × ((looked_for_all s index end name c).compared ≤ c + 14)
      go true l true u =
          let h = ltb-true end (length index) l in
          let k = told_count 4 s for_all name p c in
          rw (← for_all_here s index end name c h p refl t refl u)
          (sym (owned_at 4 s index ix.ordered ix.distinct for_all name end h (sym (told_same 4 s for_all name p c) ∙ u)), omega arith)
      go true l false u =
          let h = ltb-true end (length index) l in
          let k = told_count 4 s for_all name p c in
          rw (← for_all_searched s index end name c h p refl t refl u) (scan_is for_all name t.compared, omega (arith, few for_all name t.compared))
      go false l o u =
          let h = ltb-false end (length index) l in
          rw (← for_all_past s index end name c h) (scan_is for_all name c, omega (arith, few for_all name c))

  module _ (source : ℕ) (name : List ℕ) where
    -- "prove it equal to the straight scan on every label list not refused, name and source"
    pub looked_up_lem : (looked_up s index source name).named ≡ labelled s source name
    unfolding looked_up
    looked_up_lem =
        let own = lookup 4 s index source name in
        or_named own (looked_for_all s index own.end name own.compared)
        ∙ ap₂ or_else (ap (λ (l : Looked). l.named) (lookup_first 4 s index source name) ∙ scan_is source name 0) (for_all_is own.end name own.compared).0

    -- "at most 32"
    pub few_compared : (looked_up s index source name).compared ≤ 32
    unfolding looked_up
    few_compared = go (lookup 4 s index source name) refl
      where
        go : (own : Looked) → own ≡ lookup 4 s index source name → (or_looked own (looked_for_all s index own.end name own.compared)).compared ≤ 32
        go own e = by own.named refl
          where
            by : (n : Option ℕ) → own.named ≡ n → (or_looked own (looked_for_all s index own.end name own.compared)).compared ≤ 32
            by (Some p) f = rw (or_own own (looked_for_all s index own.end name own.compared) p f) (omega (arith, few_found source name own e))
            by None f = rw (or_other own (looked_for_all s index own.end name own.compared) f) (omega (arith, few_found source name own e, (for_all_is own.end name own.compared).1))

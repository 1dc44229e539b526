-- Laws of the first macro that repeats an earlier macro's name; an index of the macros' bytes finds it. Assumes nothing.
use Rattle.std.specs.Prelude.{ℕ, ◌+◌, ◌-◌, ◌*◌, ◌≤◌, ◌<◌, min, List, ◌⊎◌, Bool, ◌≡◌, length, get_or, ltb, leb, eqb, None, Option, Some}
use Rattle.std.proofs.Common.{arith, inl, inr, sym, ap, subst, ◌∙◌, below_more, ltb-true, ltb-false, leb-true, leb-false, eq-eqb, eqb-true}
use Rattle.std.proofs.Math.Logic.{⊎_elim}
use Rattle.std.proofs.Math.Bool.{true, false}
use Rattle.std.proofs.lemmas.Bool.{false≢true, eqb-false}
use Rattle.std.proofs.Math.Path.{refl}
use Rattle.record.proofs.BytesLaws.{same_eq, eq_same}
use Rattle.record.specs.Records.{places, first_bad, limit}
use Rattle.record.proofs.RecordsLaws.{limit_good}
use Rattle.names.specs.Names.{first_where, is_at, is_first}
use Rattle.name_order.specs.Order.{Key, then_by, order}
use Rattle.name_sort.specs.Sorting.{In}
use Rattle.name_sort.proofs.SortingLaws.{at_in}
use Rattle.name_index.specs.Index.{IndexOf}
use Rattle.name_index.proofs.IndexLaws.{is_at_lem, in_index, at_list, key_at, goes}
use Rattle.name_index.proofs.PlacesLaws.{all_ok, rising, once, apart, within, none_later, least_later, least_where, where_least}
use Rattle.name_index.proofs.CountLaws.{count_at_least}
use Rattle.macros.specs.Macros.{name_ok, body_at, macro_at_ok, macro_layout, same_macro, macro_repeat}
use Rattle.macros.proofs.NamesLaws.{name_is}
use Rattle.macros.proofs.LayoutLaws.{parts_of}
use Rattle.macro_lookup.specs.Lookup.{own_name, Scanned}
use Rattle.macro_lookup.proofs.LookupLaws.{macro_is, name_ok_lem}
use Rattle.macro_lookup.proofs.TogetherLaws.{AtMost, same_at_most, name_between, body_name}
use Rattle.std.specs.declared.cmp.Ordering.TheVariants.{Less, Greater}
use Rattle.std.specs.declared.cmp.Ordering.{Ordering}
use Rattle.name_order.proofs.OrderLaws.{never}

pub macros_good : (s : List ℕ) → macro_layout s ≡ None → (length s ≤ limit) × (first_bad (macro_at_ok s) (places s) ≡ None)
unfolding macro_layout
macros_good s g = limit_good s (first_bad (macro_at_ok s) (places s)) g

-- A macro has at least seven bytes: four for the head, a length byte and its name, and the count of its parameters.
pub macro_count : (s : List ℕ) → macro_layout s ≡ None → length (places s) * 7 ≤ length s
macro_count s g = count_at_least 7 s (macro_at_ok s) (λ p e. let m = macro_is s p e in
    let q = parts_of (body_at s p) m.bytes_ok in
    let n = name_is (body_at s p) 0 q.name_ok_lem in
    (m.whole_at, omega (arith, n.least, q.counted, m.long))) (macros_good s g).1

then_at_most : (a b : List ℕ) (o : Ordering) → then_by (order a b) o ≡ Less → AtMost a b
then_at_most a b o e f = let g : then_by (order a b) o ≡ Greater = ap (λ (x : Ordering). then_by x o) f in never (cc)

-- ---- the first of a name
module _ (s : List ℕ) (q : ℕ) (m : In q (places s)) where
  pub first_least : ((r : ℕ) → In r (places s) → own_name s r ≡ own_name s q → q ≤ r) → is_first (same_macro s) (places s) q ≡ true
  first_least h =
      ap (λ (x : Option ℕ). is_at x q)
      (least_where (same_macro s q) (places s) (rising s) q m (eq_same (own_name s q)) (λ r k e. h r k (same_eq (own_name s r) (own_name s q) e)))
      ∙ eq-eqb q q refl

  pub not_first : (r : ℕ) → In r (places s) → own_name s r ≡ own_name s q → r < q → is_first (same_macro s) (places s) q ≡ false
  not_first r k e h = go (is_first (same_macro s) (places s) q) refl
    where
      go : (b : Bool) → is_first (same_macro s) (places s) q ≡ b → is_first (same_macro s) (places s) q ≡ false
      go false f = f
      go true f =
          let a = is_at_lem (first_where (same_macro s q) (places s)) q f in
          let n = where_least (same_macro s q) (places s) (rising s) q a r k (rw e (eq_same (own_name s q))) in
          absurd (omega arith)

module _ (s l : List ℕ) (g : macro_layout s ≡ None) (ix : IndexOf 0 s l) where
  abbrev at : ℕ → ℕ
  at i = get_or l i 0

  ok_at : (i : ℕ) → i < length l → macro_at_ok s (at i) ≡ true
  ok_at i h = all_ok (macro_at_ok s) (places s) (macros_good s g).1 (at i) (at_list 0 s l ix i h)

  named : (i : ℕ) → i < length l → name_ok (body_at s (at i)) 0 ≡ true
  named i h = name_ok_lem s (at i) (macro_is s (at i) (ok_at i h))

  -- In the index, an earlier macro's bytes are not greater than a later one's.
  at_most : (i j : ℕ) → i < j → j < length l → AtMost (body_at s (at i)) (body_at s (at j))
  at_most i j h k =
      let a = body_name s (at i) (ok_at i (omega arith)) in
      let b = body_name s (at j) (ok_at j k) in
      ⊎_elim
      (λ e. subst (λ (x : List ℕ). AtMost x (body_at s (at j))) a (subst (AtMost (key_at 0 s l ix i).0) b (then_at_most _ _ _ e)))
      (λ e. same_at_most _ _ (sym a ∙ ap (λ (x : Key). x.0) e.0 ∙ b))
      (goes 0 s l ix i j h k)

  -- So a macro that shares the name of any earlier one shares the name of the one just before it.
  together : (k i : ℕ) → k < i → i < length l → own_name s (at k) ≡ own_name s (at i) → own_name s (at (i - 1)) ≡ own_name s (at i)
  together k i h n e = go (eqb k (i - 1)) refl
    where
      go : (b : Bool) → eqb k (i - 1) ≡ b → own_name s (at (i - 1)) ≡ own_name s (at i)
      go true f = let q = eqb-true k (i - 1) f in ap (λ (j : ℕ). own_name s (at j)) (sym q) ∙ e
      go false f =
          let d = eqb-false k (i - 1) f in
          let o : k < i - 1 = omega (arith, d) in
          name_between (body_at s (at k)) (body_at s (at (i - 1))) (body_at s (at i)) (named k (omega arith)) (named i n) e
          (at_most k (i - 1) o (omega arith)) (at_most (i - 1) i (omega arith) n)
          ∙ e

  different : (i j : ℕ) → i < j → j < length l → at i ≡ at j → ⊥
  different i j h k e = apart l (λ v. omega (arith, ix.counts v, once (places s) (rising s) v)) i j h k e

  -- ---- the index from its first on
  pub scan_start : 0 < length l → Scanned s l 1 (at 0) (length s)
  scan_start h = record {
    within = omega arith;
    place = (0, omega arith, refl);
    last = refl;
    least = below_more _ 0 (λ (k : ℕ) (n : k < 0). absurd (omega arith)) (λ e. omega arith);
    pairs = below_more _ 0 (λ (k : ℕ) (n : k < 0). absurd (omega arith)) (below_more _ 0 (λ (j : ℕ) (n : j < 0). absurd (omega arith)) (λ e n. absurd (omega arith)));
    is = inl refl;
  }

  module _ (i low best : ℕ) (b : Scanned s l i low best) where
    pub low_listed : In low (places s)
    low_listed = let p = b.place in subst (λ (x : ℕ). In x (places s)) p.2 (at_list 0 s l ix p.0 (omega (arith, p.1, b.within)))

    pub low_ok : macro_at_ok s low ≡ true
    low_ok = all_ok (macro_at_ok s) (places s) (macros_good s g).1 low low_listed

    module _ (h : i < length l) where
      pub here_ok : macro_at_ok s (at i) ≡ true
      here_ok = ok_at i h

      low_not_here : low ≡ at i → ⊥
      low_not_here e = let p = b.place in different p.0 i p.1 h (p.2 ∙ e)

      -- Another name: no earlier macro has it.
      pub scan_other : (own_name s (at i) ≡ own_name s low → ⊥) → Scanned s l (i + 1) (at i) best
      scan_other d = record {
        within = omega arith;
        place = (i, omega arith, refl);
        last = let n : i + 1 - 1 ≡ i = omega arith in ap (λ (k : ℕ). own_name s (at k)) n;
        least = below_more _ _ (λ k n e. absurd (fresh k n e)) (λ e. omega arith);
        pairs = below_more _ _ (λ k n. below_more _ _ (b.pairs k n) (λ e o. absurd (fresh k n (sym e)))) (below_more _ _ (λ j n e o. absurd (fresh j n e)) (λ e o. absurd (omega arith)));
        is = b.is;
      }
        where
          fresh : (k : ℕ) → k < i → own_name s (at k) ≡ own_name s (at i) → ⊥
          fresh k n e = d (sym (together k i n h e) ∙ b.last)

      -- The same name: the smaller place stays, and the other one repeats it.
      module _ (e : own_name s (at i) ≡ own_name s low) where
        go_on : (new least : ℕ) → (j : ℕ) × (j < i + 1) × (at j ≡ new) → own_name s new ≡ own_name s low → new ≤ low → new ≤ at i
            → ((v : ℕ) → low ≤ v → at i ≤ v → least ≤ v) → least ≤ best
            → (least ≡ length s) ⊎ (In least (places s) × (is_first (same_macro s) (places s) least ≡ false)) → Scanned s l (i + 1) new least
        go_on new least p o x y bound m is = record {
          within = omega arith;
          place = p;
          last = let n : i + 1 - 1 ≡ i = omega arith in ap (λ (k : ℕ). own_name s (at k)) n ∙ e ∙ sym o;
          least = below_more _ _ (λ k n f. let t = b.least k n (f ∙ o) in omega arith) (λ f. y);
          pairs = below_more _ _
              (λ k n. below_more _ _ (λ j u f v. let t = b.pairs k n j u f v in omega arith) (λ f v. bound (at k) (b.least k n (sym f ∙ e)) (omega arith)))
              (below_more _ _ (λ j u f v. let t = b.least j u (f ∙ e) in bound (at i) (omega arith) (omega arith)) (λ f v. absurd (omega arith)));
          is = is;
        }

        -- `best` becomes the smaller of itself and the repeat just met.
        least_is : (later : ℕ) → In later (places s) → is_first (same_macro s) (places s) later ≡ false
            → (min best later ≡ length s) ⊎ (In (min best later) (places s) × (is_first (same_macro s) (places s) (min best later) ≡ false))
        least_is later m f = go (leb best later) refl
          where
            go : (t : Bool) → leb best later ≡ t → (min best later ≡ length s) ⊎ (In (min best later) (places s) × (is_first (same_macro s) (places s) (min best later) ≡ false))
            go true t = let n : min best later ≡ best = omega (arith, leb-true best later t) in rw n b.is
            go false t = let n : min best later ≡ later = omega (arith, leb-false best later t) in rw n (inr (m, f))

        pub scan_lower : at i < low → Scanned s l (i + 1) (at i) (min best low)
        scan_lower n = go_on (at i) (min best low) (i, omega arith, refl) e (omega arith) (omega arith) (λ v x y. omega arith) (omega arith)
            (least_is low low_listed (not_first s low low_listed (at i) (at_list 0 s l ix i h) e n))

        pub scan_higher : low ≤ at i → Scanned s l (i + 1) low (min best (at i))
        scan_higher n =
            let p = b.place in
            let m = at_list 0 s l ix i h in
            let o : low < at i = go (ltb low (at i)) refl in
            go_on low (min best (at i)) (p.0, omega (arith, p.1), p.2) refl (omega arith) n (λ v x y. omega arith) (omega arith)
            (least_is (at i) m (not_first s (at i) m low low_listed (sym e) o))
          where
            go : (t : Bool) → ltb low (at i) ≡ t → low < at i
            go true t = ltb-true low (at i) t
            go false t = let x = ltb-false low (at i) t in absurd (low_not_here (omega arith))

    module _ (h : length l ≤ i) where
      all : (q : ℕ) → In q (places s) → is_first (same_macro s) (places s) q ≡ false → best ≤ q
      all q m f = go (ltb q best) refl
        where
          none_before : q < best → (r : ℕ) → In r (places s) → own_name s r ≡ own_name s q → q ≤ r
          none_before x r k e = go (ltb r q) refl
            where
              go : (t : Bool) → ltb r q ≡ t → q ≤ r
              go false t = ltb-false r q t
              go true t =
                  let u = at_in l q (in_index 0 s l ix q m) in
                  let v = at_in l r (in_index 0 s l ix r k) in
                  let w = b.pairs u.0 (omega (arith, u.1)) v.0 (omega (arith, v.1)) (ap (own_name s) v.2 ∙ e ∙ sym (ap (own_name s) u.2)) (omega (arith, u.2, v.2, ltb-true r q t)) in
                  absurd (omega (arith, u.2))

          go : (t : Bool) → ltb q best ≡ t → best ≤ q
          go false t = ltb-false q best t
          go true t = absurd (false≢true (sym f ∙ first_least s q m (none_before (ltb-true q best t))))

      pub scan_found : best < length s → macro_repeat s ≡ Some best
      unfolding macro_repeat
      scan_found k =
          ⊎_elim (λ e. absurd (omega arith))
          (λ t. least_later (same_macro s) (places s) (places s) (rising s) best t.0 t.1 all) b.is

      pub scan_none : length s ≤ best → macro_repeat s ≡ None
      unfolding macro_repeat
      scan_none k = none_later (same_macro s) (places s) (places s) λ q m. go q m (is_first (same_macro s) (places s) q) refl
        where
          go : (q : ℕ) → In q (places s) → (x : Bool) → is_first (same_macro s) (places s) q ≡ x → is_first (same_macro s) (places s) q ≡ true
          go q m true e = e
          go q m false e = let a = all q m e in let w = within s q m in absurd (omega arith)

  pub none_listed : length l ≤ 0 → macro_repeat s ≡ None
  unfolding macro_repeat
  none_listed h = none_later (same_macro s) (places s) (places s) λ q m. absurd (let u = at_in l q (in_index 0 s l ix q m) in omega (arith, u.1))

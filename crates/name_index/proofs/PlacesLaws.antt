-- The places of a list rise, so a search over them in order finds the least one. Assumes nothing.
use Rattle.std.specs.Prelude.{ℕ, zero, suc, ◌+◌, ◌≤◌, ◌<◌, Bool, ◌≡◌, length, get_or, take, drop, set, ltb, eqb, None, Some}
use Rattle.std.proofs.Common.{arith, add-one, ⊎_elim, sym, ap, ◌∙◌, take-suc-set, drop-set-lt, drop-drop, ltb-true, lt-ltb, eq-eqb, eqb-true}
use mathlib.Core.List.{List, [], ◌∷◌, ◌++◌, append_assoc, append-nil}
use Rattle.std.proofs.Math.Bool.{true, false}
use Rattle.std.proofs.lemmas.Bool.{false≢true}
use Rattle.std.proofs.Math.Path.{refl}
use Rattle.record.specs.Records.{next, places, places_from, first_bad}
use Rattle.record.proofs.RecordsLaws.{places_all, places_cons, places_end, places_step, good_next, good_at}
use Rattle.names.specs.Names.{first_where, first_later, is_first}
use Rattle.names.proofs.NamesLaws.{where_hit, where_pass, later_hit, later_pass}
use Rattle.names.specs.Owners.{has_owned_name}
use Rattle.names.proofs.OwnersLaws.{good_owned}
use Rattle.name_sort.specs.Sorting.{one, count, In, Sorted, none, more}
use Rattle.name_sort.proofs.SortingLaws.{in_head, in_tail, in_cons, not_in, in_at, at_in}

abbrev pub Rising : List ℕ → Type 0
Rising l = Sorted ltb l

rising_from : (s : List ℕ) (at : ℕ) (ps : List ℕ) → places_from s at ≡ ps → Rising ps × ((p : ℕ) → In p ps → (at ≤ p) × (p < length s))
rising_from s at [] e = (none, λ p k. absurd (not_in p k))
rising_from s at (q ∷ ps) e =
    let c = places_cons s at q ps e in
    let r : Rising ps × ((p : ℕ) → In p ps → (at < p) × (p < length s)) =
    ⊎_elim
    (λ w. let r = rising_from s (next s at) ps w.1 in (r.0, λ p k. let h = r.1 p k in (omega arith, h.1)))
    (λ w. let r = rising_from s (length s) ps (places_end s (length s) (omega arith) ∙ sym w.1) in (r.0, λ p k. let h = r.1 p k in absurd (omega arith)))
    c.2 in (
      more (λ p k. lt-ltb q p (let h = r.1 p k in omega (arith, c.1))) r.0,
      λ p k. ⊎_elim (λ h. (omega (arith, c.1), omega (arith, c.0, c.1))) (λ t. let h = r.1 p t in (omega arith, h.1)) (in_cons p q ps k),
    )

pub rising : (s : List ℕ) → Rising (places s)
rising s = (rising_from s 0 (places s) (sym (places_all s))).0

pub within : (s : List ℕ) (p : ℕ) → In p (places s) → p < length s
within s p k = ((rising_from s 0 (places s) (sym (places_all s))).1 p k).1

-- In a rising list each number stands once.
pub once : (l : List ℕ) → Rising l → (v : ℕ) → count v l ≤ 1
unfolding count
once [] r v = omega arith
once (x ∷ l) (more f r) v = go (eqb x v) refl (count v l) refl (once l r v)
  where
    go : (b : Bool) → eqb x v ≡ b → (n : ℕ) → count v l ≡ n → count v l ≤ 1 → one (eqb x v) + count v l ≤ 1
    go false e n c h = rw e (omega arith)
    go true e zero c h = rw (e, c) (omega arith)
    go true e (suc n) c h =
        let k = ltb-true x v (f v (omega arith)) in
        absurd (omega (arith, eqb-true x v e))

-- A number that stands at most once stands at only one index.
pub apart : (l : List ℕ) → ((v : ℕ) → count v l ≤ 1) → (i j : ℕ) → i < j → j < length l → get_or l i 0 ≡ get_or l j 0 → ⊥
unfolding count
apart [] o i j h k e = omega arith
apart (x ∷ l) o i zero h k e = omega arith
apart (x ∷ l) o zero (suc j) h k e =
    let a = o x in
    let b : one (eqb x x) ≡ 1 = ap one (eq-eqb x x refl) in
    let c : In x l = rw (sym e) at (in_at l j (omega arith)) in
    omega arith
apart (x ∷ l) o (suc i) (suc j) h k e = apart l (λ v. let a = o v in omega arith) i j (omega arith) (omega arith) e

-- ---- a test passes at each place: it passes at every place of the list
pub all_ok : (ok : ℕ → Bool) (ps : List ℕ) → first_bad ok ps ≡ None → (p : ℕ) → In p ps → ok p ≡ true
all_ok ok ps g p k = let i = at_in ps p k in ap ok (sym i.2) ∙ good_at ok ps g i.0 i.1

-- ---- the least place that is not the first of its name is the later of two
module _ (same : ℕ → ℕ → Bool) (list : List ℕ) where
  pub none_later : (ps : List ℕ) → ((q : ℕ) → In q ps → is_first same list q ≡ true) → first_later same list ps ≡ None
  unfolding first_later
  none_later [] h = refl
  none_later (q ∷ ps) h = later_pass same list q ps (h q (in_head q ps)) ∙ none_later ps (λ p k. h p (in_tail p q ps k))

  pub least_later : (ps : List ℕ) → Rising ps → (p : ℕ) → In p ps → is_first same list p ≡ false → ((q : ℕ) → In q ps → is_first same list q ≡ false → p ≤ q)
      → first_later same list ps ≡ Some p
  least_later [] r p k e m = absurd (not_in p k)
  least_later (q ∷ ps) (more f r) p k e m = ⊎_elim (λ h. rw h (later_hit same list q ps (rw h at e)))
      (λ t. go t (is_first same list q) refl (least_later ps r p t e (λ v i. m v (in_tail v q ps i)))) (in_cons p q ps k)
    where
      go : In p ps → (b : Bool) → is_first same list q ≡ b → first_later same list ps ≡ Some p → first_later same list (q ∷ ps) ≡ Some p
      go t true g ih = later_pass same list q ps g ∙ ih
      go t false g ih =
          let a = m q (in_head q ps) g in
          let b = ltb-true q p (f p t) in
          absurd (omega arith)

  -- If there is no repeat, each place is the first of its name.
  pub all_first : (ps : List ℕ) → first_later same list ps ≡ None → (p : ℕ) → In p ps → is_first same list p ≡ true
  all_first [] e p k = absurd (not_in p k)
  all_first (q ∷ ps) e p k = go (is_first same list q) refl (all_first ps)
    where
      go : (b : Bool) → is_first same list q ≡ b → (first_later same list ps ≡ None → (p : ℕ) → In p ps → is_first same list p ≡ true) → is_first same list p ≡ true
      go true f ih = ⊎_elim (λ h. rw h f) (λ t. ih (sym (later_pass same list q ps f) ∙ e) p t) (in_cons p q ps k)
      go false f ih = let h = later_hit same list q ps f in let z : ◌≡◌ {A = ℕ} 0 1 = cc in absurd (omega arith)

-- ---- the first place that passes a test is the least
module _ (test : ℕ → Bool) where
  pub none_where : (ps : List ℕ) → ((q : ℕ) → In q ps → test q ≡ true → ⊥) → first_where test ps ≡ None
  unfolding first_where
  none_where [] h = refl
  none_where (q ∷ ps) h = go (test q) refl (none_where ps (λ p k. h p (in_tail p q ps k)))
    where
      go : (b : Bool) → test q ≡ b → first_where test ps ≡ None → first_where test (q ∷ ps) ≡ None
      go true e ih = absurd (h q (in_head q ps) e)
      go false e ih = where_pass test q ps e ∙ ih

  pub least_where : (ps : List ℕ) → Rising ps → (p : ℕ) → In p ps → test p ≡ true → ((q : ℕ) → In q ps → test q ≡ true → p ≤ q) → first_where test ps ≡ Some p
  least_where [] r p k e m = absurd (not_in p k)
  least_where (q ∷ ps) (more f r) p k e m = ⊎_elim (λ h. rw h (where_hit test q ps (rw h at e)))
      (λ t. go t (test q) refl (least_where ps r p t e (λ v i. m v (in_tail v q ps i)))) (in_cons p q ps k)
    where
      go : In p ps → (b : Bool) → test q ≡ b → first_where test ps ≡ Some p → first_where test (q ∷ ps) ≡ Some p
      go t false g ih = where_pass test q ps g ∙ ih
      go t true g ih =
          let a = m q (in_head q ps) g in
          let b = ltb-true q p (f p t) in
          absurd (omega arith)

  -- The search finds the least place that passes.
  pub where_least : (ps : List ℕ) → Rising ps → (p : ℕ) → first_where test ps ≡ Some p → (q : ℕ) → In q ps → test q ≡ true → p ≤ q
  where_least [] r p e q k f = absurd (not_in q k)
  where_least (x ∷ ps) (more h r) p e q k f = go (test x) refl (where_least ps r p)
    where
      go : (b : Bool) → test x ≡ b → (first_where test ps ≡ Some p → (q : ℕ) → In q ps → test q ≡ true → p ≤ q) → p ≤ q
      go true g ih =
          let u : x ≡ p = cc (where_hit test x ps g) in
          ⊎_elim (λ v. omega arith) (λ t. let w = ltb-true x q (h q t) in omega arith) (in_cons q x ps k)
      go false g ih =
          ⊎_elim
          (λ v. absurd (false≢true (sym g ∙ ap test (sym v) ∙ f)))
          (λ t. ih (sym (where_pass test x ps g) ∙ e) q t f)
          (in_cons q x ps k)

-- ---- the places written one after the other

-- The places before `at` are written, and the list's records go on at `at`.
pub record Filling (skip : ℕ) (s index : List ℕ) (at n : ℕ) : Type 0 where
  pub in_s : at ≤ length s
  pub named : first_bad (has_owned_name skip s) (places_from s at) ≡ None
  pub room : n + length (places_from s at) ≡ length (places s)
  pub rest : take n index ++ places_from s at ≡ places s

module _ (skip : ℕ) (s : List ℕ) where
  pub filling_start : (index : List ℕ) → first_bad (has_owned_name skip s) (places s) ≡ None → Filling skip s index 0 0
  filling_start index g =
      record { in_s = omega arith; named = rw places_all at g; room = omega (arith, ap length (places_all s)); rest = sym (places_all s) }

  module _ (index : List ℕ) (at n : ℕ) (f : Filling skip s index at n) where
    module _ (h : at < length s) where
      step : places_from s at ≡ at ∷ places_from s (next s at)
      step = places_step s at h (good_owned skip s at h f.named).whole_at

      -- In each turn there is room for one more place.
      pub filling_room : n < length (places s)
      filling_room = omega (arith, f.room, ap length step)

      pub filling_next : n < length index → Filling skip s (set index n at) (next s at) (n + 1)
      filling_next m =
          let r = good_owned skip s at h f.named in
          record {
            in_s = r.body;
            named = good_next (has_owned_name skip s) s at h r.whole_at f.named;
            room = omega (arith, f.room, ap length step);
            rest =
                rw (add-one, take-suc-set index n at m, append_assoc)
                (ap (λ (l : List ℕ). take n index ++ l) (sym step) ∙ f.rest);
          }

    pub filling_end : length s ≤ at → (n ≡ length (places s)) × (take n index ≡ places s)
    filling_end h =
        let e = places_end s at h in (
          omega (arith, f.room, ap length e),
          sym (append-nil (take n index)) ∙ ap (λ (l : List ℕ). take n index ++ l) (sym e) ∙ f.rest,
        )

-- Writing one place leaves what stands behind it.
pub drop_next : (l m : List ℕ) (n x : ℕ) → drop n l ≡ drop n m → drop (n + 1) (set l n x) ≡ drop (n + 1) m
drop_next l m n x e = drop-set-lt (n + 1) l n x (omega arith) ∙ sym (drop-drop 1 n l) ∙ ap (drop 1) e ∙ drop-drop 1 n m

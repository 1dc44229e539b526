-- Laws of one more use: keys still rise, the old uses stay, and the number stands under its key. Assumes nothing.
use Rattle.std.specs.Prelude.{ℕ, ◌⊎◌, ◌≡◌}
use mathlib.Core.List.Memᴰ
use mathlib.Core.List.{List, [], ◌∷◌, Memᴰ}
use Rattle.std.proofs.Common.{inl, inr, ⊎_elim, sym, ap, ◌∙◌, subst}
use Rattle.std.proofs.Math.Path.{refl}
use Rattle.name_order.proofs.OrderLaws.{turned}
use Rattle.label_uses.specs.Uses.{UseKey, Use, use_order, one_use, more_use, insert_use}
use Rattle.label_uses.proofs.UseOrderLaws.{use_is, use_turned, use_trans}
use Rattle.label_uses.specs.Says.{KeysRise, no_more, one_more, two_more}
use Rattle.std.specs.declared.cmp.Ordering.TheVariants.{Less, Equal, Greater}
use Rattle.std.specs.declared.cmp.Ordering.{Ordering}

-- ---- keys that rise, each before all that follow it
abbrev pub Below : UseKey → List Use → Type 0
Below k us = (v : Use) → Memᴰ v us → use_order k v.key ≡ Less

pub data Rises : List Use → Type 0 where
  none_left : Rises []
  one_left : {u : Use} {us : List Use} → Below u.key us → Rises us → Rises (u ∷ us)

pub below_none : (k : UseKey) → Below k []
below_none k v m = absurd (Memᴰ.not-nil m)

-- If a is before b, and b is before all, then a is before all.
pub below_trans : (a b : UseKey) (us : List Use) → use_order a b ≡ Less → Below b us → Below a us
below_trans a b us e h v m = use_trans a b v.key e (h v m)

pub below_cons : (k : UseKey) (u : Use) (us : List Use) → use_order k u.key ≡ Less → Below k us → Below k (u ∷ us)
below_cons k u us e h v m = ⊎_elim (λ (i : v ≡ u). ap (λ (w : Use). use_order k w.key) i ∙ e) (λ t. h v t) (Memᴰ.cases_cons m)

pub rise_all : (us : List Use) → KeysRise us → Rises us
rise_all [] r = none_left
rise_all (u ∷ []) r = one_left (below_none u.key) none_left
rise_all (u ∷ (v ∷ us)) (two_more e r) = go (rise_all (v ∷ us) r)
  where
    go : Rises (v ∷ us) → Rises (u ∷ (v ∷ us))
    go (one_left h s) = one_left (below_cons u.key v us e (below_trans u.key v.key us e h)) (one_left h s)

pub all_rise : (us : List Use) → Rises us → KeysRise us
all_rise [] r = no_more
all_rise (u ∷ []) r = one_more
all_rise (u ∷ (v ∷ us)) (one_left h r) = two_more (h v (Memᴰ.head refl)) (all_rise (v ∷ us) r)

module _ (key : UseKey) (n : ℕ) where
  -- ---- the three cases
  pub insert_less : (u : Use) (us : List Use) → use_order key u.key ≡ Less → insert_use key n (u ∷ us) ≡ one_use key n ∷ (u ∷ us)
  unfolding insert_use
  insert_less u us e = rw (e, insert_use)

  pub insert_same : (u : Use) (us : List Use) → use_order key u.key ≡ Equal → insert_use key n (u ∷ us) ≡ more_use u n ∷ us
  unfolding insert_use
  insert_same u us e = rw (e, insert_use)

  pub insert_more : (u : Use) (us : List Use) → use_order key u.key ≡ Greater → insert_use key n (u ∷ us) ≡ u ∷ insert_use key n us
  unfolding insert_use
  insert_more u us e = rw (e, insert_use)

  pub insert_none : insert_use key n [] ≡ one_use key n ∷ []
  unfolding insert_use
  insert_none = refl

  -- ---- what stands there afterwards
  pub data Stood (us : List Use) (v : Use) : Type 0 where
    before : Memᴰ v us → Stood us v
    new : v ≡ one_use key n → Stood us v
    grown : (u : Use) → Memᴰ u us → u.key ≡ key → v ≡ more_use u n → Stood us v

  stood_tail : (u : Use) (us : List Use) (v : Use) → Stood us v → Stood (u ∷ us) v
  stood_tail u us v (before m) = before (Memᴰ.tail m)
  stood_tail u us v (new e) = new e
  stood_tail u us v (grown w m k e) = grown w (Memᴰ.tail m) k e

  pub insert_stood : (us : List Use) (v : Use) → Memᴰ v (insert_use key n us) → Stood us v
  insert_stood [] v m =
      ⊎_elim (λ (e : v ≡ one_use key n). new e) (λ t. absurd (Memᴰ.not-nil t)) (Memᴰ.cases_cons (subst (Memᴰ v) insert_none m))
  insert_stood (u ∷ us) v m = go (use_order key u.key) refl (insert_stood us v)
    where
      go : (o : Ordering) → use_order key u.key ≡ o → (Memᴰ v (insert_use key n us) → Stood us v) → Stood (u ∷ us) v
      go Less e ih = ⊎_elim (λ (i : v ≡ one_use key n). new i) (λ t. before t) (Memᴰ.cases_cons (subst (Memᴰ v) (insert_less u us e) m))
      go Equal e ih =
          ⊎_elim
          (λ (i : v ≡ more_use u n). grown u (Memᴰ.head refl) (sym (use_is key u.key e)) i)
          (λ t. before (Memᴰ.tail t))
          (Memᴰ.cases_cons (subst (Memᴰ v) (insert_same u us e) m))
      go Greater e ih =
          ⊎_elim
          (λ (i : v ≡ u). before (Memᴰ.head i))
          (λ t. stood_tail u us v (ih t))
          (Memᴰ.cases_cons (subst (Memᴰ v) (insert_more u us e) m))

  -- ---- each old use stays, or has one number more
  abbrev Kept : List Use → Use → Type 0
  Kept vs u = Memᴰ u vs ⊎ ((u.key ≡ key) × Memᴰ (more_use u n) vs)

  pub insert_keeps : (us : List Use) (u : Use) → Memᴰ u us → Memᴰ u (insert_use key n us) ⊎ ((u.key ≡ key) × Memᴰ (more_use u n) (insert_use key n us))
  insert_keeps [] u m = absurd (Memᴰ.not-nil m)
  insert_keeps (w ∷ us) u m = go (use_order key w.key) refl (insert_keeps us u)
    where
      back : (vs : List Use) → insert_use key n (w ∷ us) ≡ vs → Kept vs u → Kept (insert_use key n (w ∷ us)) u
      back vs e k = subst (λ (l : List Use). Kept l u) (sym e) k

      go : (o : Ordering) → use_order key w.key ≡ o → (Memᴰ u us → Kept (insert_use key n us) u) → Kept (insert_use key n (w ∷ us)) u
      go Less e ih = back (one_use key n ∷ (w ∷ us)) (insert_less w us e) (inl (Memᴰ.tail m))
      go Equal e ih =
          back (more_use w n ∷ us) (insert_same w us e)
          (⊎_elim
          (λ (i : u ≡ w). inr (ap (λ (x : Use). x.key) i ∙ sym (use_is key w.key e), Memᴰ.head (ap (λ (x : Use). more_use x n) i)))
          (λ t. inl (Memᴰ.tail t))
          (Memᴰ.cases_cons m))
      go Greater e ih =
          back (w ∷ insert_use key n us) (insert_more w us e)
          (⊎_elim
          (λ (i : u ≡ w). inl (Memᴰ.head i))
          (λ t. ⊎_elim (λ k. inl (Memᴰ.tail k)) (λ k. inr (k.0, Memᴰ.tail k.1)) (ih t))
          (Memᴰ.cases_cons m))

  -- ---- and the number stands under its key
  abbrev Has : List Use → Type 0
  Has vs = (v : Use) × Memᴰ v vs × (v.key ≡ key) × Memᴰ n v.numbers

  pub insert_has : (us : List Use) → (v : Use) × Memᴰ v (insert_use key n us) × (v.key ≡ key) × Memᴰ n v.numbers
  insert_has [] = subst Has (sym insert_none) (one_use key n, Memᴰ.head refl, refl, Memᴰ.head refl)
  insert_has (u ∷ us) = go (use_order key u.key) refl (insert_has us)
    where
      go : (o : Ordering) → use_order key u.key ≡ o → Has (insert_use key n us) → Has (insert_use key n (u ∷ us))
      go Less e ih = subst Has (sym (insert_less u us e)) (one_use key n, Memᴰ.head refl, refl, Memᴰ.head refl)
      go Equal e ih =
          subst Has (sym (insert_same u us e))
          (more_use u n, Memᴰ.head refl, sym (use_is key u.key e), Memᴰ.append_right u.numbers (Memᴰ.head refl))
      go Greater e ih = subst Has (sym (insert_more u us e)) (ih.0, Memᴰ.tail ih.1, ih.2, ih.3)

  -- ---- keys still rise
  pub insert_below : (k : UseKey) (us : List Use) → use_order k key ≡ Less → Below k us → Below k (insert_use key n us)
  insert_below k us e h v m = go (insert_stood us v m)
    where
      go : Stood us v → use_order k v.key ≡ Less
      go (before t) = h v t
      go (new i) = ap (λ (x : Use). use_order k x.key) i ∙ e
      go (grown u t i j) = ap (λ (x : Use). use_order k x.key) j ∙ h u t

  pub insert_rises : (us : List Use) → Rises us → Rises (insert_use key n us)
  insert_rises [] r = subst Rises (sym insert_none) (one_left (below_none key) none_left)
  insert_rises (u ∷ us) (one_left h r) = go (use_order key u.key) refl (insert_rises us r)
    where
      go : (o : Ordering) → use_order key u.key ≡ o → Rises (insert_use key n us) → Rises (insert_use key n (u ∷ us))
      go Less e ih = subst Rises (sym (insert_less u us e)) (one_left (below_cons key u us e (below_trans key u.key us e h)) (one_left h r))
      go Equal e ih = subst Rises (sym (insert_same u us e)) (one_left h r)
      go Greater e ih =
          subst Rises (sym (insert_more u us e))
          (one_left (insert_below u.key us (use_turned key u.key ∙ ap turned e) h) ih)

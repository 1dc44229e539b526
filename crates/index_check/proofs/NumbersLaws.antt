-- The numbers of a record: what the check sees of them gives what an index asks, and the other way round. Assumes nothing.
use Prim.Native.Nat.{ℕ, zero, suc, ◌+◌, ◌-◌, ◌≤◌, ◌<◌}
use native.Mathlib.Omega.{arith}
use mathlib.Core.List.Memᴰ
use mathlib.Core.List.{List, [], ◌∷◌, Memᴰ}
use Rattle.std.proofs.Math.Logic.{⊎_elim}
use Rattle.std.specs.Prelude.{◌≡◌, length, Some}
use Rattle.std.proofs.Math.Path.{refl, ap}
use Rattle.std.proofs.Common.{◌∙◌, subst}
use Rattle.record.specs.Bytes.{le16}
use Rattle.record.specs.Records.{places}
use Rattle.label_uses.specs.Uses.{UseKey}
use Rattle.label_uses.specs.ReadUse.{halves_at}
use Rattle.label_uses.specs.Says.{key_at, NumbersRise, end, last, then}
use Rattle.index_check.specs.Checks.{NumbersFrom, none_left, one_right}

module _ (labels pending : List ℕ) (key : UseKey) (s : List ℕ) where
  abbrev From : (left i least : ℕ) → Type 0
  From = NumbersFrom labels pending key s

  -- what is seen of one number
  pub record OneRight (i least : ℕ) : Type 0 where
    pub above : least ≤ le16 s i
    pub below : le16 s i < length (places pending)
    pub named : key_at labels pending (le16 s i) ≡ Some key

  pub numbers_end : (left i least : ℕ) → left ≤ 0 → NumbersFrom labels pending key s left i least
  numbers_end zero i least h = none_left
  numbers_end (suc left) i least h = absurd (omega arith)

  pub numbers_open : (left i least : ℕ) → 0 < left → NumbersFrom labels pending key s left i least → OneRight i least × NumbersFrom labels pending key s (left - 1) (i + 2) (le16 s i + 1)
  numbers_open zero i least h f = absurd (omega arith)
  numbers_open (suc left) i least h (one_right a b c r) =
      let e : left ≡ suc left - 1 = omega arith in
      (record { above = a; below = b; named = c }, subst (λ (k : ℕ). From k (i + 2) (le16 s i + 1)) e r)

  pub numbers_shut : (left i least : ℕ) → 0 < left → OneRight i least → NumbersFrom labels pending key s (left - 1) (i + 2) (le16 s i + 1) → NumbersFrom labels pending key s left i least
  numbers_shut zero i least h o r = absurd (omega arith)
  numbers_shut (suc left) i least h o r =
      let e : suc left - 1 ≡ left = omega arith in
      one_right o.above o.below o.named (subst (λ (k : ℕ). From k (i + 2) (le16 s i + 1)) e r)

  -- ---- compared with what an index asks
  abbrev Right : List ℕ → Type 0
  Right ns = (n : ℕ) → Memᴰ n ns → (n < length (places pending)) × (key_at labels pending n ≡ Some key)

  pub record Rightly (ns : List ℕ) (least : ℕ) : Type 0 where
    pub rising : NumbersRise ns
    pub from_least : (n : ℕ) → Memᴰ n ns → least ≤ n
    pub right : (n : ℕ) → Memᴰ n ns → (n < length (places pending)) × (key_at labels pending n ≡ Some key)

  rise_cons : (n : ℕ) (ns : List ℕ) → NumbersRise ns → ((m : ℕ) → Memᴰ m ns → n + 1 ≤ m) → NumbersRise (n ∷ ns)
  rise_cons n [] r h = last
  rise_cons n (m ∷ ns) r h = then {n = n} {m = m} (omega (arith, h m (Memᴰ.head refl))) r

  pub seen_rightly : (left i least : ℕ) → NumbersFrom labels pending key s left i least → Rightly (halves_at left s i) least
  unfolding halves_at
  seen_rightly zero i least none_left = record { rising = end; from_least = λ n m. absurd (Memᴰ.not-nil m); right = λ n m. absurd (Memᴰ.not-nil m) }
  seen_rightly (suc left) i least (one_right a b c r) =
      let t = seen_rightly left (i + 2) (le16 s i + 1) r in
      record {
        rising = rise_cons (le16 s i) (halves_at left s (i + 2)) t.rising t.from_least;
        from_least = λ n m. ⊎_elim (λ (e : n ≡ le16 s i). omega arith) (λ k. omega (arith, t.from_least n k)) (Memᴰ.cases_cons m);
        right = λ n m. ⊎_elim (λ (e : n ≡ le16 s i). (omega arith, ap (key_at labels pending) e ∙ c)) (λ k. t.right n k) (Memᴰ.cases_cons m);
      }

  rise_tail : (n : ℕ) (ns : List ℕ) → NumbersRise (n ∷ ns) → NumbersRise ns × ((m : ℕ) → Memᴰ m ns → n + 1 ≤ m)
  rise_tail n [] r = (end, λ m k. absurd (Memᴰ.not-nil k))
  rise_tail n (m ∷ ns) (then e r) =
      let t = rise_tail m ns r in
      (r, λ j k. ⊎_elim (λ (q : j ≡ m). omega arith) (λ l. omega (arith, t.1 j l)) (Memᴰ.cases_cons k))

  pub rightly_seen : (left i least : ℕ) → Rightly (halves_at left s i) least → NumbersFrom labels pending key s left i least
  unfolding halves_at
  rightly_seen zero i least t = none_left
  rightly_seen (suc left) i least t =
      let h = Memᴰ.head refl in
      let d = rise_tail (le16 s i) (halves_at left s (i + 2)) t.rising in
      one_right (t.from_least (le16 s i) h) (t.right (le16 s i) h).0 (t.right (le16 s i) h).1
      (rightly_seen left (i + 2) (le16 s i + 1) (record { rising = d.0; from_least = d.1; right = λ n m. t.right n (Memᴰ.tail m) }))

-- Laws of the order of uses: it is irreflexive, transitive and total. Assumes nothing.
use Rattle.std.specs.Prelude.{ℕ, List, [], Bool, true, false, ◌≡◌, refl}
use Rattle.std.proofs.Common.{arith, ⊎_elim, sym, ap, ap₂, ◌∙◌}
use Rattle.name_order.specs.Order.{then_by, numbers, order, Key, key_order}
use Rattle.name_order.proofs.OrderLaws.{never, turned, then_same, then_less, then_turned, key_same, key_is, key_turned, key_trans}
use Rattle.label_uses.specs.Uses.{is_known, kept_of, UseKey, known_order, use_order}
use Rattle.label_uses.specs.ReadUse.{standing_read}
use Rattle.label_uses.specs.declared.Standing.{Standing}
use Rattle.label_uses.specs.declared.Standing.TheVariants.{Known, Unknown}
use Rattle.std.specs.declared.cmp.Ordering.TheVariants.{Less, Equal, Greater}
use Rattle.std.specs.declared.cmp.Ordering.{Ordering}

-- what an order has to keep
record Orders {A : Type 0} (by : A → A → Ordering) : Type 0 where
  self : (a : A) → by a a ≡ Equal
  is : (a b : A) → by a b ≡ Equal → a ≡ b
  turns : (a b : A) → by b a ≡ turned (by a b)
  trans : (a b c : A) → by a b ≡ Less → by b c ≡ Less → by a c ≡ Less

then_none : (o : Ordering) → then_by o Equal ≡ o
then_none Less = refl
then_none Equal = refl
then_none Greater = refl

-- The order of names, from the order of names with owner 0.
abbrev no_owner : List ℕ → Key
no_owner a = (a, 0)

by_name : (a b : List ℕ) → key_order (no_owner a) (no_owner b) ≡ order a b
by_name a b = then_none (order a b)

names : Orders order
names = record {
  self = λ a. sym (by_name a a) ∙ key_same (no_owner a);
  is = λ a b e. ap (λ (k : Key). k.0) (key_is (no_owner a) (no_owner b) (by_name a b ∙ e));
  turns = λ a b. sym (by_name b a) ∙ key_turned (no_owner a) (no_owner b) ∙ ap turned (by_name a b);
  trans = λ a b c e f. sym (by_name a c) ∙ key_trans (no_owner a) (no_owner b) (no_owner c) (by_name a b ∙ e) (by_name b c ∙ f);
}

-- The order of numbers, from the order of owners with empty names.
abbrev no_name : ℕ → Key
no_name x = ([], x)

by_number : (x y : ℕ) → key_order (no_name x) (no_name y) ≡ numbers x y
unfolding order
by_number x y = refl

owners : Orders numbers
owners = record {
  self = λ a. sym (by_number a a) ∙ key_same (no_name a);
  is = λ a b e. ap (λ (k : Key). k.1) (key_is (no_name a) (no_name b) (by_number a b ∙ e));
  turns = λ a b. sym (by_number b a) ∙ key_turned (no_name a) (no_name b) ∙ ap turned (by_number a b);
  trans = λ a b c e f. sym (by_number a c) ∙ key_trans (no_name a) (no_name b) (no_name c) (by_number a b ∙ e) (by_number b c ∙ f);
}

-- known before unknown
known_self : (a : Bool) → known_order a a ≡ Equal
known_self true = refl
known_self false = refl

known_is : (a b : Bool) → known_order a b ≡ Equal → a ≡ b
known_is true true e = refl
known_is true false e = never (cc)
known_is false true e = never (cc)
known_is false false e = refl

known_turns : (a b : Bool) → known_order b a ≡ turned (known_order a b)
known_turns true true = refl
known_turns true false = refl
known_turns false true = refl
known_turns false false = refl

known_trans : (a b c : Bool) → known_order a b ≡ Less → known_order b c ≡ Less → known_order a c ≡ Less
known_trans true true c e f = never (cc)
known_trans true false true e f = never (cc)
known_trans true false false e f = refl
known_trans false true c e f = never (cc)
known_trans false false c e f = never (cc)

flags : Orders known_order
flags = record { self = known_self; is = known_is; turns = known_turns; trans = known_trans }

-- First one order, then another.
module _ {A B : Type 0} (f : A → A → Ordering) (g : B → B → Ordering) (of : Orders f) (og : Orders g) where
  abbrev pair_order : A × B → A × B → Ordering
  pair_order a b = then_by (f a.0 b.0) (g a.1 b.1)

  pair_trans : (a b c : A × B) → pair_order a b ≡ Less → pair_order b c ≡ Less → pair_order a c ≡ Less
  pair_trans a b c e h =
      ⊎_elim
      (λ k.
      ⊎_elim
      (λ l. ap (λ (o : Ordering). then_by o (g a.1 c.1)) (of.trans a.0 b.0 c.0 k l))
      (λ l. ap (λ (o : Ordering). then_by o (g a.1 c.1)) (ap (f a.0) (sym (of.is b.0 c.0 l.0)) ∙ k))
      (then_less (f b.0 c.0) (g b.1 c.1) h))
      (λ k.
      let i = of.is a.0 b.0 k.0 in
      ⊎_elim
      (λ l. ap (λ (o : Ordering). then_by o (g a.1 c.1)) (ap (λ (x : A). f x c.0) i ∙ l))
      (λ l. ap₂ then_by (ap (λ (x : A). f x c.0) i ∙ l.0) (og.trans a.1 b.1 c.1 k.1 l.1))
      (then_less (f b.0 c.0) (g b.1 c.1) h))
      (then_less (f a.0 b.0) (g a.1 b.1) e)

  pairs : Orders pair_order
  pairs = record {
    self = λ a. ap₂ then_by (of.self a.0) (og.self a.1);
    is = λ a b e.
        let h = then_same (f a.0 b.0) (g a.1 b.1) e in
        ap₂ (λ (x : A) (y : B). (x, y)) (of.is a.0 b.0 h.0) (og.is a.1 b.1 h.1);
    turns = λ a b. ap₂ then_by (of.turns a.0 b.0) (og.turns a.1 b.1) ∙ then_turned (f a.0 b.0) (g a.1 b.1);
    trans = pair_trans;
  }

-- ---- keys
pub standing_kept : (s : Standing) → standing_read (is_known s) (kept_of s) ≡ s
standing_kept (Known owner) = refl
standing_kept (Unknown source) = refl

pub known_read : (known : Bool) (n : ℕ) → is_known (standing_read known n) ≡ known
known_read true n = refl
known_read false n = refl

pub kept_read : (known : Bool) (n : ℕ) → kept_of (standing_read known n) ≡ n
kept_read true n = refl
kept_read false n = refl

abbrev Parts : Type 0
Parts = List ℕ × (Bool × ℕ)

abbrev parts_of : UseKey → Parts
parts_of k = (k.name, (is_known k.standing, kept_of k.standing))

abbrev key_of : Parts → UseKey
key_of p = record { name = p.0; standing = standing_read p.1.0 p.1.1 }

key_again : (k : UseKey) → key_of (parts_of k) ≡ k
key_again k = ap (λ (s : Standing). record { name = k.name; standing = s }) (standing_kept k.standing)

parts : Orders (pair_order order (pair_order known_order numbers flags owners) names (pairs known_order numbers flags owners))
parts = pairs order (pair_order known_order numbers flags owners) names (pairs known_order numbers flags owners)

pub use_same : (a : UseKey) → use_order a a ≡ Equal
use_same a = parts.self (parts_of a)

pub use_is : (a b : UseKey) → use_order a b ≡ Equal → a ≡ b
use_is a b e = sym (key_again a) ∙ ap key_of (parts.is (parts_of a) (parts_of b) e) ∙ key_again b

pub use_turned : (a b : UseKey) → use_order b a ≡ turned (use_order a b)
use_turned a b = parts.turns (parts_of a) (parts_of b)

pub use_trans : (a b c : UseKey) → use_order a b ≡ Less → use_order b c ≡ Less → use_order a c ≡ Less
use_trans a b c e f = parts.trans (parts_of a) (parts_of b) (parts_of c) e f

-- Keys with the same name compare as their standings do.
pub standings_decide : (a b : UseKey) → a.name ≡ b.name → use_order a b ≡ then_by (known_order (is_known a.standing) (is_known b.standing)) (numbers (kept_of a.standing) (kept_of b.standing))
standings_decide a b e =
    ap (λ (o : Ordering). then_by o (then_by (known_order (is_known a.standing) (is_known b.standing)) (numbers (kept_of a.standing) (kept_of b.standing))))
    (ap (order a.name) (sym e) ∙ names.self a.name)

-- How orders answer two questions of the check: does a name stand for what a key says, and is the last record's key before the next one's?
-- Assumes nothing.
use Rattle.std.specs.Prelude.{ℕ, List, ◌≡◌}
use Rattle.std.proofs.Common.{sym, ap, ap₂, ◌∙◌}
use Rattle.std.specs.declared.cmp.Ordering.TheVariants.{Less, Equal, Greater}
use Rattle.std.specs.declared.cmp.Ordering.{Ordering}
use Rattle.label_uses.specs.Uses.{UseKey, use_order, key_for}
use Rattle.label_uses.specs.ReadUse.{key_with, key_read}
use Rattle.label_uses.specs.declared.Standing.{Standing}
use Rattle.label_uses.proofs.StandingLaws.{standing_order, equal_keys, equal_order}
use Rattle.name_order.proofs.OrderLaws.{never}

-- ---- what a source's name stands for, compared with what a key says
module _ (labels : List ℕ) (source : ℕ) (name : List ℕ) (met standing : Standing) (m : key_with name met ≡ key_for labels source name) where
  -- If both are equal, the name has the key.
  pub stands_same : standing_order met standing ≡ Equal → key_for labels source name ≡ key_with name standing
  stands_same e = sym m ∙ equal_keys name met standing e

  -- If one is before the other, the name does not have the key.
  pub stands_less : standing_order met standing ≡ Less → key_for labels source name ≡ key_with name standing → ⊥
  stands_less e k = let z = equal_order name met standing (m ∙ k) in never (cc)

  pub stands_more : standing_order met standing ≡ Greater → key_for labels source name ≡ key_with name standing → ⊥
  stands_more e k = let z = equal_order name met standing (m ∙ k) in never (cc)

-- ---- the last record's key, by its name and standing, compared with the next record's
module _ (s : List ℕ) (last at : ℕ) (name : List ℕ) (standing : Standing) (n : name ≡ (key_read s last).name) (t : standing ≡ (key_read s last).standing) where
  key_last : key_with name standing ≡ key_read s last
  key_last = ap₂ key_with n t

  -- The last record's key compares with the next one as this key does.
  order_last : (o : Ordering) → use_order (key_with name standing) (key_read s at) ≡ o → use_order (key_read s last) (key_read s at) ≡ o
  order_last o e = ap (λ (k : UseKey). use_order k (key_read s at)) (sym key_last) ∙ e

  pub rises_less : use_order (key_with name standing) (key_read s at) ≡ Less → use_order (key_read s last) (key_read s at) ≡ Less
  rises_less e = order_last Less e

  -- Equal keys do not rise.
  pub rises_same : use_order (key_with name standing) (key_read s at) ≡ Equal → use_order (key_read s last) (key_read s at) ≡ Less → ⊥
  rises_same e h = let z = order_last Equal e in never (cc)

  -- Falling keys do not rise.
  pub rises_more : use_order (key_with name standing) (key_read s at) ≡ Greater → use_order (key_read s last) (key_read s at) ≡ Less → ⊥
  rises_more e h = let z = order_last Greater e in never (cc)

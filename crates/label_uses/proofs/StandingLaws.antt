-- The order of what names stand for. It is the order that the type derives, and it orders the keys of one name. Assumes nothing.
use Rattle.std.specs.Prelude.{List, ℕ, ◌≡◌, refl}
use Rattle.std.proofs.Common.{sym, ap, ◌∙◌}
use Rattle.std.specs.declared.cmp.Ordering.TheVariants.{Equal}
use Rattle.std.specs.declared.cmp.Ordering.{Ordering}
use Rattle.name_order.specs.Order.{then_by, numbers}
use Rattle.name_order.proofs.OrderLaws.{numbers_cmp}
use Rattle.label_uses.specs.Uses.{is_known, kept_of, UseKey, known_order, use_order}
use Rattle.label_uses.specs.ReadUse.{key_with}
use Rattle.label_uses.specs.declared.Standing.{Standing}
use Rattle.label_uses.specs.declared.Standing.TheVariants.{Known, Unknown}
use Rattle.label_uses.specs.contracts.StandingOrd.TheImpl as derived
use Rattle.label_uses.proofs.UseOrderLaws.{use_same, use_is, standings_decide}

-- "equal names sort known first, then by it", the owner or source
abbrev pub standing_order : Standing → Standing → Ordering
standing_order a b = then_by (known_order (is_known a) (is_known b)) (numbers (kept_of a) (kept_of b))

-- `cmp` of the type gives this order
pub derived_order : (a b : Standing) → (derived.ghosts).cmp a b ≡ standing_order a b
derived_order (Known a) (Known b) = numbers_cmp a b
derived_order (Known a) (Unknown b) = refl
derived_order (Unknown a) (Known b) = refl
derived_order (Unknown a) (Unknown b) = numbers_cmp a b

-- Equal standings give the same key of a name.
pub equal_keys : (name : List ℕ) (a b : Standing) → standing_order a b ≡ Equal → key_with name a ≡ key_with name b
equal_keys name a b e = use_is (key_with name a) (key_with name b) (standings_decide (key_with name a) (key_with name b) refl ∙ e)

-- The same key means equal standings.
pub equal_order : (name : List ℕ) (a b : Standing) → key_with name a ≡ key_with name b → standing_order a b ≡ Equal
equal_order name a b k =
    sym (standings_decide (key_with name a) (key_with name b) refl) ∙ ap (λ (x : UseKey). use_order x (key_with name b)) k ∙ use_same (key_with name b)

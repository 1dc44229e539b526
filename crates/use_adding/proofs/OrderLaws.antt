-- How a key compares to a record's key, from what is read of the record: its count, its end, its known flag and the word before its name. Assumes nothing.
use Rattle.std.specs.Prelude.{ℕ, ◌+◌, ◌*◌, ◌-◌, List, Bool, ◌≡◌, eqb}
use Rattle.std.proofs.Common.{sym, ap, ap₂, ◌∙◌}
use Rattle.std.specs.declared.cmp.Ordering.TheVariants.{Less, Equal, Greater}
use Rattle.std.specs.declared.cmp.Ordering.{Ordering}
use Rattle.record.specs.Bytes.{byte_at, le32, part}
use Rattle.record.specs.Records.{next}
use Rattle.name_order.specs.Order.{then_by, numbers, order}
use Rattle.label_uses.specs.Uses.{is_known, kept_of, known_order, use_order}
use Rattle.label_uses.specs.ReadUse.{count_at, owner_place, key_with, key_read}
use Rattle.label_uses.specs.declared.Standing.{Standing}
use Rattle.label_uses.proofs.UseOrderLaws.{known_read, kept_read}

-- Equal flags compare alike.
pub known_as : (p q a b : Bool) (o : Ordering) → p ≡ a → q ≡ b → then_by (known_order a b) o ≡ then_by (known_order p q) o
known_as p q a b o e f = ap₂ (λ (x y : Bool). then_by (known_order x y) o) (sym e) (sym f)

module _ (s : List ℕ) (at : ℕ) (name : List ℕ) (standing : Standing) (half end : ℕ) (h : half ≡ count_at s at) (n : end ≡ next s at) where
  abbrev name_from : ℕ
  name_from = at + 7 + 2 * half + 4

  -- Compares what the key says of its name to what the record says.
  abbrev by_standing : Ordering
  by_standing = then_by (known_order (is_known standing) (eqb (byte_at s (at + 4)) 1)) (numbers (kept_of standing) (le32 s (owner_place s at)))

  name_as : part s name_from (end - name_from) ≡ (key_read s at).name
  name_as = ap₂ (λ (c e : ℕ). part s (at + 7 + 2 * c + 4) (e - (at + 7 + 2 * c + 4))) h n

  -- Names are compared first, then what they stand for.
  by_name : (o : Ordering) → order name (part s name_from (end - name_from)) ≡ o → use_order (key_with name standing) (key_read s at) ≡ then_by o by_standing
  by_name o e =
      let known : Bool = eqb (byte_at s (at + 4)) 1 in
      let kept : ℕ = le32 s (owner_place s at) in
      ap₂ (λ (p q : Ordering). then_by p q) (ap (order name) (sym name_as) ∙ e)
      (ap₂ (λ (b : Bool) (x : ℕ). then_by (known_order (is_known standing) b) (numbers (kept_of standing) x)) (known_read known kept) (kept_read known kept))

  pub order_less : order name (part s name_from (end - name_from)) ≡ Less → Less ≡ use_order (key_with name standing) (key_read s at)
  order_less e = sym (by_name Less e)

  pub order_more : order name (part s name_from (end - name_from)) ≡ Greater → Greater ≡ use_order (key_with name standing) (key_read s at)
  order_more e = sym (by_name Greater e)

  -- If the names are equal, the flags and the words decide.
  pub order_same : (r : Ordering) (word : ℕ) → order name (part s name_from (end - name_from)) ≡ Equal → word ≡ le32 s (at + 7 + 2 * half)
      → r ≡ then_by (known_order (is_known standing) (eqb (byte_at s (at + 4)) 1)) (numbers (kept_of standing) word) → r ≡ use_order (key_with name standing) (key_read s at)
  order_same r word e w f =
      f ∙ ap (λ (x : ℕ). then_by (known_order (is_known standing) (eqb (byte_at s (at + 4)) 1)) (numbers (kept_of standing) x)) (w ∙ ap (λ (c : ℕ). le32 s (at + 7 + 2 * c)) h)
      ∙ sym (by_name Equal e)

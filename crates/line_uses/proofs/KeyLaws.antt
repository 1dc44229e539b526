-- Does a label have a key? Its name decides, and then what the name stands for. And how much longer does it make an index? Assumes nothing.
use Rattle.std.specs.Prelude.{ℕ, ◌+◌, ◌≤◌, List, Bool, true, false, ◌||◌, ◌≡◌, refl, length, drop, Result, Ok, Err}
use Rattle.std.specs.Result.{is_ok}
use Rattle.std.proofs.Common.{arith, sym, ap, ap₂, ◌∙◌, length-take, length-drop}
use Rattle.record.specs.Bytes.{part}
use Rattle.name_order.specs.Order.{then_by, order}
use Rattle.name_order.proofs.OrderLaws.{same_is}
use Rattle.address_label.specs.LabelBytes.{name_bytes}
use Rattle.address_label.specs.declared.AddressLabel.{AddressLabel}
use Rattle.address_label.specs.declared.AddressLabel.TheVariants.{Constant, Label}
use Rattle.address_label.specs.declared.NamedLabel.{NamedLabel}
use Rattle.emit_pairs.specs.declared.InstructionPair.{InstructionPair}
use Rattle.label_uses.specs.Uses.{UseKey, Use, use_order, key_for}
use Rattle.label_uses.specs.ReadUse.{key_with}
use Rattle.label_uses.specs.declared.Standing.{Standing}
use Rattle.label_uses.specs.Says.{KeysRise}
use Rattle.label_uses.proofs.InsertLaws.{rise_all}
use Rattle.label_uses.proofs.FitsLaws.{key_name}
use Rattle.label_uses.proofs.StandingLaws.{standing_order}
use Rattle.use_adding.specs.Adding.{IndexIn, Finds, FindsIn}
use Rattle.line_uses.specs.LineUses.{is_same, same_key, has_key, label_has, key_among, growth_of, label_growth}
use Rattle.line_uses.specs.LineIndex.{held_by, LabelGrows}
use Rattle.line_uses.proofs.HasLaws.{place_has}
use Rattle.std.specs.declared.cmp.Ordering.TheVariants.{Less, Equal, Greater}
use Rattle.std.specs.declared.cmp.Ordering.{Ordering}
use Rattle.std.specs.Ordering.{is_eq}

-- a name is no longer than the list that it stands in
pub name_within : (names : List ℕ) (x : AddressLabel) → length (name_bytes names x) ≤ length names
name_within names (Constant value) = omega arith
name_within names (Label l) = omega (arith, length-take l.name_len (drop l.name_at names), length-drop l.name_at names)

same_eq : (o : Ordering) → is_eq o ≡ is_same o
same_eq Less = refl
same_eq Equal = refl
same_eq Greater = refl

pub is_same_order : (o : Ordering) → is_eq o ≡ true → o ≡ Equal
is_same_order Less e = absurd cc
is_same_order Equal e = refl
is_same_order Greater e = absurd cc

-- where a key stands, or else where it sorts
abbrev pub place_of : Result ℕ ℕ → ℕ
place_of (Ok at) = at
place_of (Err at) = at

pub found_in : (s : List ℕ) (k : UseKey) (r : Result ℕ ℕ) → FindsIn s k r → Finds s (length s) k (place_of r) (is_ok r)
found_in s k (Ok at) f = f
found_in s k (Err at) f = f

-- ---- a label that is a name; `other` is the name's bytes
module _ (labels names : List ℕ) (x : AddressLabel) (l : NamedLabel) (e : x ≡ Label l) (other : List ℕ) (m : other ≡ name_bytes names x) where
  abbrev key : UseKey
  key = key_for labels l.location.source other

  bytes_are : part names l.name_at l.name_len ≡ other
  bytes_are = sym (m ∙ ap (name_bytes names) e)

  has_key_lem : (k : UseKey) → label_has labels names k x ≡ same_key k key
  has_key_lem k = ap (label_has labels names k) e ∙ ap (λ (n : List ℕ). same_key k (key_for labels l.location.source n)) bytes_are

  -- The names decide. If they are equal, what they stand for decides.
  module _ (k : UseKey) where
    by_name : (o : Ordering) → order k.name other ≡ o → use_order k key ≡ then_by o (standing_order k.standing key.standing)
    by_name o f =
        ap (λ (p : Ordering). then_by p (standing_order k.standing key.standing)) (ap (order k.name) (key_name labels l.location.source other) ∙ f)

    -- If the names differ, what the label stands for is not looked up.
    pub has_less : order k.name other ≡ Less → false ≡ label_has labels names k x
    has_less f = sym (has_key_lem k ∙ ap is_same (by_name Less f))

    pub has_more : order k.name other ≡ Greater → false ≡ label_has labels names k x
    has_more f = sym (has_key_lem k ∙ ap is_same (by_name Greater f))

    pub has_unlike : (o : Ordering) → order k.name other ≡ o → is_eq o ≡ false → false ≡ label_has labels names k x
    has_unlike Less f u = has_less f
    has_unlike Equal f u = absurd cc
    has_unlike Greater f u = has_more f

    -- If they are equal, what the label stands for decides.
    pub has_same : order k.name other ≡ Equal → (met : Standing) → key_with other met ≡ key → (o : Ordering) → standing_order k.standing met ≡ o → is_same o ≡ label_has labels names k x
    has_same f met t o g =
        sym (has_key_lem k ∙ ap is_same (by_name Equal f ∙ sym (ap (λ (q : UseKey). standing_order k.standing q.standing) t) ∙ g))

    pub has_alike : order k.name other ≡ Equal → is_eq (use_order k (key_for labels l.location.source k.name)) ≡ label_has labels names k x
    has_alike f =
        ap (λ (n : List ℕ). is_eq (use_order k (key_for labels l.location.source n))) (same_is k.name other f)
        ∙ same_eq (use_order k key) ∙ sym (has_key_lem k)

  -- ---- how much longer the label makes an index
  module _ (k : UseKey) (t : k ≡ key) (d : List ℕ) (fill : ℕ) (before : List InstructionPair) where
    grows_by : (us : List Use) (held : Bool) → held_by labels names us before k ≡ held → growth_of held other ≡ label_growth labels names (held_by labels names us before) x
    grows_by us held h =
        sym (ap (label_growth labels names (held_by labels names us before)) e
        ∙ ap (λ (n : List ℕ). growth_of (held_by labels names us before (key_for labels l.location.source n)) (key_for labels l.location.source n).name) bytes_are
        ∙ ap (λ (q : UseKey). growth_of (held_by labels names us before q) key.name) (sym t)
        ∙ ap₂ growth_of h (key_name labels l.location.source other))

    or_right : (a : Bool) → a || true ≡ true
    or_right true = refl
    or_right false = refl

    module _ (at : ℕ) (found : Bool) (finds : Finds d fill k at found) where
      has : (us : List Use) → IndexIn d fill us → KeysRise us → has_key k us ≡ found
      has us i r = place_has us k at found (rise_all us r) (finds us i)

      pub grows_found : found ≡ true → LabelGrows labels names d fill before x 2
      grows_found f us i r = grows_by us true (ap (λ (b : Bool). b || key_among labels names k before) (has us i r ∙ f))

      pub grows_among : key_among labels names k before ≡ true → LabelGrows labels names d fill before x 2
      grows_among g us i r = grows_by us true (ap (λ (b : Bool). has_key k us || b) g ∙ or_right (has_key k us))

      pub grows_new : found ≡ false → key_among labels names k before ≡ false → LabelGrows labels names d fill before x (13 + length other)
      grows_new f g us i r = grows_by us false (ap₂ ◌||◌ (has us i r ∙ f) g)

-- An index made from the start, pending by pending: one pending's use, and all of them in order. Assumes nothing.
use Rattle.std.specs.Prelude.{ℕ, ◌+◌, ◌*◌, ◌-◌, ◌≤◌, ◌<◌, ◌^◌, ◌≡◌, refl, take, drop, None}
use Rattle.std.proofs.Common.{arith, ap₂, ◌∙◌, subst, take-append-drop, length-take-le, drop-drop}
use mathlib.Core.List.Memᴰ
use mathlib.Core.List.{List, [], ◌∷◌, ◌++◌, Memᴰ}
use Rattle.std.proofs.Math.Path.{sym, ap}
use Rattle.std.proofs.Math.ListN.{length}
use Rattle.std.proofs.Math.Seq.{drop-append-add}
use Rattle.record.specs.Bytes.{part}
use Rattle.record.specs.Records.{next, places, places_from, first_bad}
use Rattle.record.proofs.RecordsLaws.{places_all, places_step, places_end, places_cons, good_ok, good_next}
use Rattle.record.specs.Stores.{append}
use Rattle.address_label.specs.LabelBytes.{name_bytes}
use Rattle.address_label.specs.declared.AddressLabel.{AddressLabel}
use Rattle.address_label.specs.declared.AddressLabel.TheVariants.{Constant, Label}
use Rattle.address_label.specs.declared.NamedLabel.{NamedLabel}
use Rattle.pending.specs.Pendings.{label_of, pending_ok, PendingIs}
use Rattle.pending.proofs.PendingsLaws.{pending_is}
use Rattle.label_uses.specs.Uses.{kept_of, UseKey, Use, key_for, insert_use, use_of, uses_from, uses_of}
use Rattle.label_uses.specs.UseBytes.{uses_bytes, index_of}
use Rattle.label_uses.proofs.InsertLaws.{Stood, before, new, grown, insert_stood}
use Rattle.label_uses.proofs.UseBytesLaws.{uses_none, insert_length}
use Rattle.label_uses.proofs.IndexLaws.{written_first}
use Rattle.label_uses.proofs.FitsLaws.{use_fits}
use Rattle.label_uses.proofs.OneMoreLaws.{AllBytes, key_in_fits}
use Rattle.label_uses.specs.Says.{key_in}
use Rattle.use_adding.specs.Adding.{IndexIn, AnIndexWithRoom, AddsTo}
use Rattle.use_adding.specs.Making.{AddsOneTo, KeepsOwners, RoomForOne, Made}

-- ---- one pending
-- Writing the uses would leave the buffer as it is.
pub held_is : (d : List ℕ) (fill : ℕ) (us : List Use) → IndexIn d fill us → (d ≡ append d 0 (uses_bytes us)) × (fill ≡ length (uses_bytes us))
unfolding append
held_is d fill us i =
    let n : fill ≡ length (uses_bytes us) = omega (arith, ap length i.holds.filled, length-take-le fill d i.holds.within) in
    let m : fill ≡ 0 + length (uses_bytes us) = omega arith in
    (sym (take-append-drop fill d) ∙ ap₂ (λ (x : List ℕ) (k : ℕ). x ++ drop k d) i.holds.filled m, n)

pub constant_adds : (d labels pending : List ℕ) (fill n : ℕ) (x : AddressLabel) (value : ℕ) → x ≡ Constant value → AddsOneTo d d labels pending fill x n fill
constant_adds d labels pending fill n x value e us i =
    let h = held_is d fill us i in
    let u : us ≡ use_of labels pending x n us = sym (ap (λ (y : AddressLabel). use_of labels pending y n us) e) in
    record { bytes = h.0 ∙ ap (λ (y : List Use). append d 0 (uses_bytes y)) u; filled = h.1 ∙ ap (λ (y : List Use). length (uses_bytes y)) u }

-- If a new key's owner or source fits four bytes, the index with its use still has only such owners and sources.
pub owners_insert : (key : UseKey) (n : ℕ) (us : List Use) → kept_of key.standing < 2 ^ 32 → ((u : Use) → Memᴰ u us → kept_of u.key.standing < 2 ^ 32) → (u : Use)
    → Memᴰ u (insert_use key n us) → kept_of u.key.standing < 2 ^ 32
owners_insert key n us h o u m = go (insert_stood key n us u m)
  where
    go : Stood key n us u → kept_of u.key.standing < 2 ^ 32
    go (before t) = o u t
    go (new i) = subst (λ (w : Use). kept_of w.key.standing < 2 ^ 32) (sym i) h
    go (grown w t j i) = subst (λ (w : Use). kept_of w.key.standing < 2 ^ 32) (sym i) (o w t)

pub constant_owners : (labels pending : List ℕ) (x : AddressLabel) (value : ℕ) → x ≡ Constant value → (n : ℕ) → KeepsOwners labels pending x n
constant_owners labels pending x value e n = subst (λ (y : AddressLabel). KeepsOwners labels pending y n) (sym e) (λ us o. o)

module _ (labels pending : List ℕ) (x : AddressLabel) (l : NamedLabel) (e : x ≡ Label l) (name : List ℕ) (m : name ≡ name_bytes pending x) (key : UseKey) (k : key ≡ key_for labels l.location.source name) where
  use_is : (n : ℕ) (us : List Use) → insert_use key n us ≡ use_of labels pending x n us
  use_is n us =
      ap (λ (y : UseKey). insert_use y n us) (k ∙ ap (key_for labels l.location.source) (m ∙ ap (name_bytes pending) e))
      ∙ sym (ap (λ (y : AddressLabel). use_of labels pending y n us) e)

  -- Room for the label's use is room for its key's use.
  pub named_room : (d : List ℕ) (fill n : ℕ) → RoomForOne d labels pending fill x n → AnIndexWithRoom d fill key n
  named_room d fill n r = record { us = r.us; index_in = r.index_in; room = omega (arith, r.room, ap (λ (y : List Use). length (uses_bytes y)) (use_is n r.us)) }

  -- Adding the key's use adds the label's use.
  pub named_adds : (d f : List ℕ) (fill n after : ℕ) → AddsTo d f fill key n after → AddsOneTo d f labels pending fill x n after
  named_adds d f fill n after h us i =
      let a = h us i in
      record { bytes = a.bytes ∙ ap (λ (y : List Use). append d 0 (uses_bytes y)) (use_is n us); filled = a.filled ∙ ap (λ (y : List Use). length (uses_bytes y)) (use_is n us) }

  pub named_owners : (n : ℕ) → kept_of key.standing < 2 ^ 32 → KeepsOwners labels pending x n
  named_owners n h us o u t = owners_insert key n us h o u (subst (Memᴰ u) (sym (use_is n us)) t)

-- Owners and sources read from bytes fit four bytes.
pub bytes_owners : (labels pending : List ℕ) → AllBytes labels → AllBytes pending → (at n : ℕ) (y : AddressLabel) → label_of pending at ≡ y → KeepsOwners labels pending y n
bytes_owners labels pending lb pb at n (Constant value) e = constant_owners labels pending (Constant value) value refl n
bytes_owners labels pending lb pb at n (Label l) e =
    let key = key_for labels l.location.source (part pending l.name_at l.name_len) in
    named_owners labels pending (Label l) l refl (part pending l.name_at l.name_len) refl key refl n (key_in_fits labels pending lb pb at key (ap (key_in labels pending) e))

-- ---- the fold
pub record Making (d₀ labels pending d : List ℕ) (at n fill : ℕ) : Type 0 where
  pub us : List Use
  pub in_list : at ≤ length pending
  pub counted : n * 36 ≤ at
  pub length_kept : length d ≡ length d₀
  pub filled : fill ≡ length (uses_bytes us)
  pub fits : fill ≤ at
  pub bytes : d ≡ append d₀ 0 (uses_bytes us)
  pub owners : (u : Use) → Memᴰ u us → kept_of u.key.standing < 2 ^ 32
  pub good : first_bad (pending_ok 16 pending) (places_from pending at) ≡ None
  pub rest : uses_from labels pending n (places_from pending at) us ≡ uses_of labels pending

pub append_again : (d x y : List ℕ) → length x ≤ length y → append (append d 0 x) 0 y ≡ append d 0 y
unfolding append
append_again d x y h =
    let j : 0 + length y ≡ length x + (length y - length x) = omega arith in
    let k : 0 + length x + (length y - length x) ≡ 0 + length y = omega arith in
    ap (λ (z : List ℕ). y ++ z)
    (ap (λ (m : ℕ). drop m (x ++ drop (0 + length x) d)) j ∙ drop-append-add x (drop (0 + length x) d) (length y - length x) ∙ drop-drop (length y - length x) (0 + length x) d
    ∙ ap (λ (m : ℕ). drop m d) k)

module _ (d₀ labels pending : List ℕ) (room : length pending ≤ length d₀) (limited : length d₀ ≤ 65536) where
  pub making_start : first_bad (pending_ok 16 pending) (places pending) ≡ None → Making d₀ labels pending d₀ 0 0 0
  unfolding uses_of append
  making_start g = record {
    us = [];
    in_list = omega arith;
    counted = omega arith;
    length_kept = refl;
    filled = sym (ap length uses_none);
    fits = omega arith;
    bytes = sym (ap (λ (x : List ℕ). append d₀ 0 x) uses_none);
    owners = λ u m. absurd (Memᴰ.not-nil m);
    good = ap (first_bad (pending_ok 16 pending)) (sym (places_all pending)) ∙ g;
    rest = ap (λ (ps : List ℕ). uses_from labels pending 0 ps []) (sym (places_all pending));
  }

  module _ (d : List ℕ) (at n fill : ℕ) (m : Making d₀ labels pending d at n fill) where
    abbrev x : AddressLabel
    x = label_of pending at

    making_in : IndexIn d fill m.us
    making_in = record {
      holds = record { filled = ap₂ take m.filled m.bytes ∙ written_first d₀ (uses_bytes m.us); within = omega (arith, m.length_kept, m.fits, m.in_list) };
      limited = omega (arith, m.length_kept);
      owners = m.owners;
    }

    pub making_is : at < length pending → PendingIs pending at
    making_is h = pending_is 16 pending at (good_ok (pending_ok 16 pending) pending at h m.good)

    fits_next : at < length pending → length (uses_bytes (use_of labels pending x n m.us)) ≤ next pending at
    fits_next h = use_fits labels pending at n m.us (making_is h) x refl (omega (arith, m.filled, m.fits))

    pub making_room : at < length pending → RoomForOne d labels pending fill x n
    making_room h = record { us = m.us; index_in = making_in; room = omega (arith, fits_next h, (making_is h).body, m.length_kept) }

    pub making_number : at < length pending → n < 65535
    making_number h = omega (arith, m.counted)

    grows : (y : AddressLabel) → length (uses_bytes m.us) ≤ length (uses_bytes (use_of labels pending y n m.us))
    grows (Constant value) = omega arith
    grows (Label l) = omega (arith, (insert_length (key_for labels l.location.source (part pending l.name_at l.name_len)) n m.us).least)

    -- If the lists are bytes, owners and sources still fit four bytes after the next pending's use.
    owners_next : AllBytes labels → AllBytes pending → (y : AddressLabel) → label_of pending at ≡ y → (u : Use) → Memᴰ u (use_of labels pending y n m.us)
        → kept_of u.key.standing < 2 ^ 32
    owners_next lb pb y e = bytes_owners labels pending lb pb at n y e m.us m.owners

    pub making_next : (e : List ℕ) (after : ℕ) → at < length pending → length e ≡ length d → AddsOneTo d e labels pending fill x n after → KeepsOwners labels pending x n
        → Making d₀ labels pending e (next pending at) (n + 1) after
    unfolding uses_from
    making_next e after h len a k =
        let p = making_is h in
        let b = a m.us making_in in
        let vs = use_of labels pending x n m.us in
        record {
          us = vs;
          in_list = p.body;
          counted = omega (arith, m.counted, p.least);
          length_kept = len ∙ m.length_kept;
          filled = b.filled;
          fits = omega (arith, b.filled, fits_next h);
          bytes = b.bytes ∙ ap (λ (y : List ℕ). append y 0 (uses_bytes vs)) m.bytes ∙ append_again d₀ (uses_bytes m.us) (uses_bytes vs) (grows x);
          owners = k m.us m.owners;
          good = good_next (pending_ok 16 pending) pending at h p.whole_at m.good;
          rest = sym (ap (λ (ps : List ℕ). uses_from labels pending n ps m.us) (places_step pending at h p.whole_at)) ∙ m.rest;
        }

    pub making_end : length pending ≤ at → Made d₀ d labels pending fill
    unfolding uses_from index_of
    making_end h =
        let e : m.us ≡ uses_of labels pending = sym (ap (λ (ps : List ℕ). uses_from labels pending n ps m.us) (places_end pending at h)) ∙ m.rest in
        record { bytes = m.bytes ∙ ap (λ (y : List Use). append d₀ 0 (uses_bytes y)) e; filled = m.filled ∙ ap (λ (y : List Use). length (uses_bytes y)) e }

-- ---- the same over the places that a loop has left
pub record MakingLeft (d₀ labels pending d : List ℕ) (n fill : ℕ) (left : List ℕ) : Type 0 where
  pub at : ℕ
  pub making : Making d₀ labels pending d at n fill
  pub left_are : left ≡ places_from pending at

-- a loop's turn, which takes the place p
pub record MakingTurn (d₀ labels pending d : List ℕ) (n fill p : ℕ) (ps : List ℕ) : Type 0 where
  pub within : p < length pending
  pub making : Making d₀ labels pending d p n fill
  pub first : places_from pending p ≡ p ∷ ps

pub left_turn : (d₀ labels pending d : List ℕ) (n fill p : ℕ) (left ps : List ℕ) → MakingLeft d₀ labels pending d n fill left → left ≡ p ∷ ps → MakingTurn d₀ labels pending d n fill p ps
left_turn d₀ labels pending d n fill p left ps m e =
    let f : places_from pending m.at ≡ p ∷ ps = sym m.left_are ∙ e in
    let c = places_cons pending m.at p ps f in
    record {
      within = omega (arith, c.0, c.1);
      making = subst (λ (k : ℕ). Making d₀ labels pending d k n fill) (sym c.1) m.making;
      first = subst (λ (k : ℕ). places_from pending k ≡ p ∷ ps) (sym c.1) f;
    }

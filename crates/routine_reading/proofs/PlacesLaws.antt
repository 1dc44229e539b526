-- What holds for a list of patches as values holds, place by place, for the records that they were read from. Assumes nothing.
use Rattle.std.specs.Prelude.{ℕ, ◌+◌, ◌-◌, ◌≡◌, refl, ◌⊎◌, Bool, true, false, ◌&&◌, leb, ltb, eqb}
use Rattle.std.proofs.Common.{arith, sym, ap, ap₂, ◌∙◌, inl, inr, eqb-true}
use mathlib.Core.List.Memᴰ
use mathlib.Core.List.{List, [], ◌∷◌, map, Memᴰ}
use Rattle.std.proofs.Math.Bool.{and-eq-true_iff}
use Rattle.std.proofs.lemmas.Bool.{eqb-false}
use Rattle.record.specs.Bytes.{byte_at, le32, le64, location_at, part}
use Rattle.record.specs.Records.{body_len, kind_at, next, whole}
use Rattle.record.specs.declared.Location.{Location}
use Rattle.address_label.specs.LabelBytes.{name_bytes}
use Rattle.address_label.specs.AddressLabels.{address_label_ok}
use Rattle.address_label.proofs.AddressLabelsLaws.{at_constant, at_named, ok_neither}
use Rattle.address_label.specs.declared.AddressLabel.{AddressLabel}
use Rattle.pending.specs.Pendings.{region_of, patch_kind_of, pending_body, pending_ok}
use Rattle.routine.specs.PatchValues.{Patch, Target, Name, target_of, patch_at}
use Rattle.routine.proofs.InsideLaws.{each_mem}
use Rattle.reading.specs.Premises.{SharedTarget}
use Rattle.routine_reading.proofs.LinePatchesLaws.{Beyond, Spaced}

module _ (f : ℕ → Patch) where
  -- The place of a value.
  pub record PlaceOf (xs : List ℕ) (y : Patch) : Type 0 where
    pub place : ℕ
    pub listed : Memᴰ place xs
    pub is : f place ≡ y

  pub place_of : (xs : List ℕ) (y : Patch) → Memᴰ y (map f xs) → PlaceOf xs y
  place_of [] y m = elim m [ ]
  place_of (x ∷ xs) y m = go (Memᴰ.cases_cons m) (place_of xs y)
    where
      go : (y ≡ f x) ⊎ Memᴰ y (map f xs) → (Memᴰ y (map f xs) → PlaceOf xs y) → PlaceOf (x ∷ xs) y
      go (inl s) ih = record { place = x; listed = Memᴰ.head refl; is = sym s }
      go (inr t) ih = let r = ih t in record { place = r.place; listed = Memᴰ.tail r.listed; is = r.is }

  -- Of two places, one stands before the other.
  pub spaced_at : (xs : List ℕ) → Spaced (map f xs) → (p q : ℕ) → Memᴰ p xs → Memᴰ q xs → (p ≡ q → ⊥) → Beyond (f p) (f q) ⊎ Beyond (f q) (f p)
  spaced_at [] s p q m k n = elim m [ ]
  spaced_at (x ∷ xs) s p q m k n = go (Memᴰ.cases_cons m) (Memᴰ.cases_cons k) (λ a b. spaced_at xs s.1 p q a b n)
    where
      go : (p ≡ x) ⊎ Memᴰ p xs → (q ≡ x) ⊎ Memᴰ q xs → (Memᴰ p xs → Memᴰ q xs → Beyond (f p) (f q) ⊎ Beyond (f q) (f p)) → Beyond (f p) (f q) ⊎ Beyond (f q) (f p)
      go (inl a) (inl b) ih = absurd (n (a ∙ sym b))
      go (inl a) (inr b) ih = let h : Beyond (f x) (f q) = each_mem (Beyond (f x)) f xs q s.0 b in inl (rw a h)
      go (inr a) (inl b) ih = let h : Beyond (f x) (f p) = each_mem (Beyond (f x)) f xs p s.0 a in inr (rw b h)
      go (inr a) (inr b) ih = ih a b

-- ---- the bytes of a record that waits for a name

pub record NamedAt (pending : List ℕ) (at : ℕ) (name : List ℕ) (location : Location) (added : ℕ) : Type 0 where
  pub form : byte_at pending (at + 19) ≡ 0 → ⊥
  pub value : le64 pending (at + 20) ≡ added
  pub source : le32 pending (at + 28) ≡ location.source
  pub name_is : part pending (at + 36) (body_len pending at - 32) ≡ name

named_parts : (s : List ℕ) (i j k e : ℕ) (name : List ℕ) (location : Location) (added : ℕ) → Name (part s i e) (location_at s j) (le64 s k) ≡ Name name location added
    → (le64 s k ≡ added) × (le32 s j ≡ location.source) × (part s i e ≡ name)
named_parts s i j k e name location added q =
    let a : le64 s k ≡ added = cc in
    let b : location_at s j ≡ location = cc in
    let c : part s i e ≡ name = cc in
    (a, ap (λ (l : Location). l.source) b, c)

pub named_at : (pending : List ℕ) (at : ℕ) (name : List ℕ) (location : Location) (added : ℕ) → (patch_at pending at).target ≡ Name name location added → NamedAt pending at name location added
named_at pending at name location added e = go (eqb (byte_at pending (at + 19)) 0) refl
  where
    by : AddressLabel → Target
    by l = target_of l (name_bytes pending l)

    go : (b : Bool) → eqb (byte_at pending (at + 19)) 0 ≡ b → NamedAt pending at name location added
    go true t =
        let c = at_constant pending (at + 19) (next pending at) (eqb-true (byte_at pending (at + 19)) 0 t) in
        let k = sym (ap by c) ∙ e in
        let z : ◌≡◌ {A = ℕ} 0 1 = cc in
        absurd (omega arith)
    go false t =
        let n : byte_at pending (at + 19) ≡ 0 → ⊥ = eqb-false (byte_at pending (at + 19)) 0 t in
        let c = at_named pending (at + 19) (next pending at) n in
        let r = named_parts pending (at + 19 + 17) (at + 19 + 9) (at + 19 + 1) (next pending at - (at + 19 + 17)) name location added (sym (ap by c) ∙ e) in
        let v : at + 20 ≡ at + 19 + 1 = omega arith in
        let s : at + 28 ≡ at + 19 + 9 = omega arith in
        let i : at + 36 ≡ at + 19 + 17 = omega arith in
        let w : body_len pending at - 32 ≡ next pending at - (at + 19 + 17) = omega arith in
        record {
          form = n;
          value = ap (le64 pending) v ∙ r.0;
          source = ap (le32 pending) s ∙ r.1;
          name_is = ap₂ (part pending) i w ∙ r.2;
        }

-- "form (1 byte: 0 constant, 1 name)"
form_one : (regions : ℕ) (s : List ℕ) (at : ℕ) → pending_ok regions s at ≡ true → (byte_at s (at + 19) ≡ 0 → ⊥) → byte_at s (at + 19) ≡ 1
unfolding pending_ok
form_one regions s at ok n = go (eqb (byte_at s (at + 19)) 1) refl
  where
    label_ok : address_label_ok s (at + 19) (next s at) ≡ true
    label_ok =
        let w = (and-eq-true_iff (whole s at) (pending_body regions s at)).0 ok in
        ((and-eq-true_iff (eqb (kind_at s at) 36 && leb 32 (body_len s at) && ltb (region_of s at) regions && leb (patch_kind_of s at) 4) (address_label_ok s (at + 19) (next s at))).0 w.1).1

    go : (b : Bool) → eqb (byte_at s (at + 19)) 1 ≡ b → byte_at s (at + 19) ≡ 1
    go true e = eqb-true (byte_at s (at + 19)) 1 e
    go false e =
        let k = ok_neither s (at + 19) (next s at) n (eqb-false (byte_at s (at + 19)) 1 e) in
        let z : true ≡ false = sym label_ok ∙ k in
        cc

-- Two records that wait for one name from one source, with one offset, share their target.
pub shared_target : (regions : ℕ) (pending : List ℕ) (p q : ℕ) (name : List ℕ) (location : Location) (added : ℕ) → pending_ok regions pending p ≡ true → pending_ok regions pending q ≡ true
    → (patch_at pending p).target ≡ Name name location added → (patch_at pending q).target ≡ Name name location added → SharedTarget pending p q
shared_target regions pending p q name location added okp okq ep eq =
    let a = named_at pending p name location added ep in
    let b = named_at pending q name location added eq in
    record {
      same = record {
        form = form_one regions pending p okp a.form ∙ sym (form_one regions pending q okq b.form);
        value = a.value ∙ sym b.value;
        name = a.name_is ∙ sym b.name_is;
      };
      source = a.source ∙ sym b.source;
    }

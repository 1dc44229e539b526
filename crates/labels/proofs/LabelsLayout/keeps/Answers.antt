use Rattle.std.proofs.Common.{ℕ, List, Bool, true, false, ◌+◌, ◌&&◌, ◌≡◌, ◌≤◌, ◌<◌, length, leb, refl, sym, ap, ap₂, ◌∙◌, arith, le-leb, leb-true}
use Rattle.std.proofs.lemmas.Bool.{lt-leb, false≢true}
use Rattle.record.specs.Bytes.{is_text, all}
use Rattle.record.specs.Records.{body_len}
use Rattle.names.proofs.NamesLaws.{name_length}
use Rattle.names.specs.Owners.{before_name, owned_name, has_owned_name}
use Rattle.names.proofs.OwnersLaws.{owned_is}
use Rattle.labels.specs.Labels.{label_kind, label_body, label_ok}
use Rattle.labels.proofs.LabelsLaws.{label_unnamed}
use Rattle.labels.proofs.LabelsLayout.keeps.Goals as goal

same_test : (a b c d : ℕ) → (a ≤ b → c ≤ d) → (c ≤ d → a ≤ b) → leb a b ≡ leb c d
same_test a b c d f g = go (leb a b) refl
  where
    go : (t : Bool) → leb a b ≡ t → t ≡ leb c d
    go true e = sym (le-leb c d (f (leb-true a b e)))
    go false e = over (leb c d) refl
      where
        over : (u : Bool) → leb c d ≡ u → false ≡ leb c d
        over true k = absurd (false≢true (sym e ∙ le-leb a b (g (leb-true c d k))))
        over false k = sym k

module _ (s : List ℕ) (at : ℕ) (e : has_owned_name 4 s at ≡ true) where
  abbrev long : ℕ
  long = length (owned_name 4 s at)

  -- A record that has a name is a label if its kind and its name pass.
  by_name : label_ok s at ≡ (label_kind s at && leb 1 long && leb long 64 && all is_text (owned_name 4 s at))
  unfolding label_ok
  by_name =
      let h = owned_is 4 s at e in
      let n = name_length (before_name 4 s at) s at h in
      let least = same_test (before_name 4 s at + 1) (body_len s at) 1 long (λ x. omega (arith, n, h)) (λ x. omega (arith, n, h)) in
      let most = same_test (body_len s at) (before_name 4 s at + 64) long 64 (λ x. omega (arith, n, h)) (λ x. omega (arith, n, h)) in
      ap (λ (w : Bool). w && label_body s at) h.whole_at
      ∙ ap₂ (λ (x y : Bool). label_kind s at && x && y && all is_text (owned_name 4 s at)) least most

  other : label_kind s at ≡ false → label_ok s at ≡ false
  other k = by_name ∙ ap (λ (b : Bool). b && leb 1 long && leb long 64 && all is_text (owned_name 4 s at)) k

  module _ (k : label_kind s at ≡ true) where
    fits : 1 ≤ long → long ≤ 64 → label_ok s at ≡ all is_text (owned_name 4 s at)
    fits f g = by_name ∙ rw (k, le-leb 1 long f, le-leb long 64 g) refl

    short : long < 1 → label_ok s at ≡ false
    short f = by_name ∙ rw (k, lt-leb 1 long f) refl

    over : 1 ≤ long → 64 < long → label_ok s at ≡ false
    over f g = by_name ∙ rw (k, le-leb 1 long f, lt-leb long 64 g) refl

pub returns-in_default : goal.returns-in_default
returns-in_default c = sym (label_unnamed _ _ c.in_default.ensures)

pub returns-then-not-kind_ok : goal.returns-then-not-kind_ok
returns-then-not-kind_ok c =
    let e = c.in-Some.ensures in
    sym (other _ _ (rw (e.0, e.1) at c.in-Some.label.named) (sym (rw (e.0, e.1) at c.kind_ok.ensures) ∙ c.if-not-kind_ok.true))

pub returns-in-1-to-64 : goal.returns-in-1-to-64
returns-in-1-to-64 c =
    let e = c.in-Some.ensures in
    let n = rw (e.0, e.1) at c.name-name.ensures in
    let l = ap length n in
    c.all_text.ensures ∙ ap (all is_text) n
    ∙ sym (fits _ _ (rw (e.0, e.1) at c.in-Some.label.named) (sym (rw (e.0, e.1) at c.kind_ok.ensures) ∙ c.if-not-kind_ok.false) (omega (arith, l)) (omega (arith, l)))

pub returns-in_default-len : goal.returns-in_default-len
returns-in_default-len c =
    let e = c.in-Some.ensures in
    let l = ap length (rw (e.0, e.1) at c.name-name.ensures) in
    sym (short _ _ (rw (e.0, e.1) at c.in-Some.label.named) (sym (rw (e.0, e.1) at c.kind_ok.ensures) ∙ c.if-not-kind_ok.false) (omega (arith, l)))

pub returns-in_default-len-2 : goal.returns-in_default-len-2
returns-in_default-len-2 c =
    let e = c.in-Some.ensures in
    let l = ap length (rw (e.0, e.1) at c.name-name.ensures) in
    sym (over _ _ (rw (e.0, e.1) at c.in-Some.label.named) (sym (rw (e.0, e.1) at c.kind_ok.ensures) ∙ c.if-not-kind_ok.false) (omega (arith, l)) (omega (arith, l)))

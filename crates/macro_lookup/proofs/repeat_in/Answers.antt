use Rattle.std.specs.Prelude.{MatchOption, Option, None, Some, min}
use Rattle.std.specs.Option.{unwrap_or}
use Rattle.std.proofs.Common.{◌<◌, ◌≤◌, refl, ◌≡◌, ◌∷◌, ◌+◌, add-one, ℕ, List, length, get_or, true, sym, ap, ap₂, subst, ◌∙◌, arith}
use Rattle.std.proofs.lemmas.Bool.{false≢true}
use Rattle.record.specs.Bytes.{same_bytes}
use Rattle.record.proofs.BytesLaws.{same_eq, eq_same}
use Rattle.macros.specs.Macros.{name_at, name_ok, body_at, macro_at_ok, macro_layout, macro_repeat}
use Rattle.name_index.specs.Index.{IndexOf}
use Rattle.name_index.proofs.IndexLaws.{at_list}
use Rattle.name_index.proofs.PlacesLaws.{within}
use Rattle.macro_lookup.specs.Lookup.{own_name, Scanned}
use Rattle.macro_lookup.proofs.LookupLaws.{macro_is, name_ok_lem}
use Rattle.macro_lookup.proofs.RepeatLaws.{scan_start, low_listed, low_ok, here_ok, scan_other, scan_lower, scan_higher, scan_found, scan_none, none_listed}
use Rattle.macro_lookup.proofs.repeat_in.Goals as goal
use Rattle.macro_lookup.proofs.repeat_in.Goals.{After-from-p, After-same_name, then-not-same_name, else-not-same_name+then-p-low, else-not-same_name+else-p-low}

pub returns-in_err-first : goal.returns-in_err-first
returns-in_err-first c =
    c.from_residual.ensures ∙
    (sym (none_listed c.args.macros.now.bytes.now c.args.index.now c.args.macros.now.good c.requires (omega (arith, c.in_err-first.ensures.cases))))

pub loop-other-init : goal.loop-other-init
loop-other-init c =
    let s = c.args.macros.now.bytes.now in
    let l = c.args.index.now in
    let f = c.in_ok-first.ensures.cases in
    let low : c.from-low.result ≡ get_or l 0 0 = c.from-low.ensures ∙ sym (ap (λ (x : List ℕ). get_or x 0 0) f.0) in
    record { scanned = subst (λ (p : ℕ). Scanned s l 1 p (length s)) (sym low) (scan_start s l c.args.macros.now.good c.requires (omega (arith, f.1))); within = tt }

-- The index at the walk's next step holds the place that was read.
there : (c : After-from-p) → let i = c.loop-other.other-index + 1 in (i < length c.args.index.now) × (c.from-p.result ≡ get_or c.args.index.now i 0)
there c =
    let f = c.in_ok-first.ensures.cases in
    (omega (arith, f.1, c.loop-other-test.true), c.from-p.ensures ∙ behind c.args.index.now _ c.in_ok-first.others.now c.loop-other.other-index f.0)
  where
    behind : (l : List ℕ) (x : ℕ) (xs : List ℕ) (j : ℕ) → l ≡ x ∷ xs → get_or xs j 0 ≡ get_or l (j + 1) 0
    behind l x xs j e = rw (e, add-one j)

-- With no repeat so far, the defaults p and n give the same minimum.
least_so : (o : Option ℕ) (n p : ℕ) → p < n → min (unwrap_or o p) p ≡ min (unwrap_or o n) p
least_so None n p h = omega arith
least_so (Some q) n p h = refl

-- The macro just read is good, so the two can be compared.
ok_here : (c : After-from-p) → macro_at_ok c.args.macros.now.bytes.now c.from-p.result ≡ true
ok_here c =
    let l = c.loop-other in
    subst (λ (p : ℕ). macro_at_ok c.args.macros.now.bytes.now p ≡ true) (sym (there c).1) (here_ok c.args.macros.now.bytes.now c.args.index.now c.args.macros.now.good c.requires (l.other-index + 1) l.low _ l.invariant.scanned (there c).0)

ok_low : (c : After-from-p) → macro_at_ok c.args.macros.now.bytes.now c.loop-other.low ≡ true
ok_low c =
    let l = c.loop-other in
    low_ok c.args.macros.now.bytes.now c.args.index.now c.args.macros.now.good c.requires (l.other-index + 1) l.low _ l.invariant.scanned

pub body_at-requires : goal.body_at-requires
body_at-requires c = (macro_is _ _ (ok_here (goal.at.body_at-requires c).After-from-p)).whole_at

pub body_at-requires-in-loop-other : goal.body_at-requires-in-loop-other
body_at-requires-in-loop-other c = (macro_is _ _ (ok_low (goal.at.body_at-requires-in-loop-other c).After-from-p)).whole_at

pub same_name-requires : goal.same_name-requires
same_name-requires c =
    let w = (goal.at.same_name-requires c).After-from-p in
    let s = c.args.macros.now.bytes.now in
    let ok : (p : ℕ) (b : List ℕ) → macro_at_ok s p ≡ true → b ≡ body_at s p → name_ok b 0 ≡ true = λ p b h e. ap (λ (x : List ℕ). name_ok x 0) e ∙ name_ok_lem s p (macro_is s p h) in
    (ok c.from-p.result _ (ok_here w) c.body_at.ensures, ok c.loop-other.low _ (ok_low w) c.body_at-in-loop-other.ensures)

-- The test compares the names of these two macros.
tested : (c : After-same_name) → c.from-p.result ≡ get_or c.args.index.now (c.loop-other.other-index + 1) 0
    → c.same_name.result ≡ same_bytes (own_name c.args.macros.now.bytes.now (get_or c.args.index.now (c.loop-other.other-index + 1) 0)) (own_name c.args.macros.now.bytes.now c.loop-other.low)
tested c e =
    c.same_name.ensures
    ∙ ap₂ (λ (x y : List ℕ). same_bytes (name_at x 0) (name_at y 0))
    (c.body_at.ensures ∙ ap (body_at c.args.macros.now.bytes.now) e)
    c.body_at-in-loop-other.ensures

pub loop-other-preserved : goal.loop-other-preserved
loop-other-preserved c =
    let l = c.loop-other in
    let s = c.args.macros.now.bytes.now in
    let index = c.args.index.now in
    let g = goal.at.loop-other-preserved c in
    let p = there g.After-from-p in
    let test = tested g.After-same_name p.1 in
    let scan = l.invariant.scanned in
    elim c.if-not-same_name.branch [
      | then-not-same_name w ↦
          rw (w.best-is, w.low-is, p.1)
          (record {
            scanned =
                scan_other s index c.args.macros.now.good c.requires (l.other-index + 1) l.low _ scan p.0
                (λ e. false≢true (sym w.if-not-same_name.true ∙ test ∙ ap (λ (n : List ℕ). same_bytes n (own_name s l.low)) e ∙ eq_same (own_name s l.low)));
            within = l.invariant.within;
          })
      | else-not-same_name+then-p-low w ↦
          let e = same_eq _ _ (sym test ∙ w.if-not-same_name.false) in
          let m : l.low < length s = within s l.low (low_listed s index c.args.macros.now.good c.requires (l.other-index + 1) l.low _ scan) in
          rw (w.best-is, w.low-is, w.min.ensures, w.unwrap_or.ensures, p.1)
          (record {
            scanned =
                rw (least_so l.best (length s) l.low m)
                (scan_lower s index c.args.macros.now.good c.requires (l.other-index + 1) l.low _ scan p.0 e (omega (arith, w.if-p-low.true, p.1)));
            within = omega arith;
          })
      | else-not-same_name+else-p-low w ↦
          let e = same_eq _ _ (sym test ∙ w.if-not-same_name.false) in
          let q = get_or index (l.other-index + 1) 0 in
          let m : q < length s = within s q (at_list 0 s index c.requires (l.other-index + 1) p.0) in
          rw (w.best-is, w.low-is, w.min-else-p-low.ensures, w.unwrap_or-else-p-low.ensures, p.1)
          (record {
            scanned =
                rw (least_so l.best (length s) q m)
                (scan_higher s index c.args.macros.now.good c.requires (l.other-index + 1) l.low _ scan p.0 e (omega (arith, w.if-p-low.false, p.1)));
            within = omega arith;
          })
    ]

-- At the end, `best` is what the definition finds.
found : (s l : List ℕ) → macro_layout s ≡ None → IndexOf 0 s l → (i low : ℕ) (best : Option ℕ) → Scanned s l i low (unwrap_or best (length s)) → MatchOption best Unit (λ b. b < length s)
    → length l ≤ i → best ≡ macro_repeat s
found s l g ix i low None b w h = sym (scan_none s l g ix i low _ b h (omega arith))
found s l g ix i low (Some p) b w h = sym (scan_found s l g ix i low _ b h w)

pub returns : goal.returns
returns c =
    let l = c.loop-other in
    found _ _ c.args.macros.now.good c.requires (l.other-index + 1) l.low _ l.invariant.scanned l.invariant.within (omega (arith, c.in_ok-first.ensures.cases.1, c.loop-other-test.false))

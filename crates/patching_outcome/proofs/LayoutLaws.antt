-- What the checks of refusal 1 say, for a step and for a line (document 02, P12). Assumes nothing.
use Rattle.std.specs.Prelude.{ℕ, ◌+◌, ◌*◌, ◌≤◌, ◌<◌, List, [], ◌∷◌, Bool, true, false, ◌||◌, ◌≡◌, refl, length, leb, ltb, eqb, None, Ok, Option, Some}
use Rattle.std.proofs.Common.{arith, sym, ap, ap₂, ◌∙◌, leb-true, le-leb, ltb-true, lt-ltb}
use Rattle.record.specs.Records.{next, whole, places, first_bad, limit}
use Rattle.record.proofs.RecordsLaws.{places_all, first_good, first_pass, limit_good}
use Rattle.refusal.specs.Verdicts.{layout_verdict}
use Rattle.refusal.proofs.VerdictsLaws.{both_pass, layout_pass}
use Rattle.lexer.specs.Tokens.{token_layout}
use Rattle.descriptors.specs.Mnemonics.{mnemonic_layout}
use Rattle.descriptors.specs.Descriptors.{descriptor_layout}
use Rattle.regions.specs.Regions.{region_layout, region_count}
use Rattle.pending.specs.Pendings.{pending_ok, pending_layout}
use Rattle.pending.proofs.PendingsLaws.{pending_good, pending_is}
use Rattle.breakpoints.specs.Breakpoints.{filled_layout, region_number_ok, breakpoint_buffer_layout}
use Rattle.breakpoints.proofs.BreakpointsLaws.{filled_kept}
use Rattle.emit_outcome.specs.Room.{no_region}
use Rattle.record_growth.proofs.ChainLaws.{Chain, places_chain}
use Rattle.patching_outcome.specs.Patching.{Patching, regions_of, pendings_of, regions_layout, has_patched, pendings_layout, kept_layout}
use Rattle.patching_outcome.specs.Line.{LineGiven, is_listed, only_listed, listed_layout, line_layouts}

-- ---- a buffer and its fill count

abbrev pub Within : (fill : ℕ) → List ℕ → Type 0
Within fill s = (length s ≤ limit) × (fill ≤ length s)

filled_good : (fill : ℕ) (s : List ℕ) (l : Option ℕ) → filled_layout fill s l ≡ None → Within fill s × (l ≡ None)
unfolding filled_layout
filled_good fill s l e =
    let h = limit_good s (elim (leb fill (length s)) [ true ↦ l | false ↦ Some (length s) ]) e in
    let g = go (leb fill (length s)) refl h.1 in
    ((h.0, g.0), g.1)
  where
    go : (b : Bool) → leb fill (length s) ≡ b → ◌≡◌ {A = Option ℕ} (elim b [ true ↦ l | false ↦ Some (length s) ]) None → (fill ≤ length s) × (l ≡ None)
    go true b x = (leb-true fill (length s) b, x)
    go false b x = let z : ◌≡◌ {A = ℕ} 0 1 = cc in absurd (omega arith)

-- ---- the region list

pub regions_good : (p : Patching) → regions_layout p ≡ None → Within p.counts.regions p.regions × (region_layout (regions_of p) ≡ None)
unfolding regions_layout
regions_good p e = filled_good p.counts.regions p.regions (region_layout (regions_of p)) e

pub regions_is : (p : Patching) → Within p.counts.regions p.regions → regions_layout p ≡ region_layout (regions_of p)
unfolding regions_layout
regions_is p w = filled_kept p.counts.regions p.regions (region_layout (regions_of p)) w.0 w.1

-- ---- the region list of a line

pub record ListedIs (region : ℕ) (p : Patching) : Type 0 where
  pub number_ok : region_number_ok region ≡ true
  pub within : Within p.counts.regions p.regions
  pub good : region_layout (regions_of p) ≡ None
  pub listed : is_listed (regions_of p) region ≡ true

only_good : (b : Bool) (l : Option ℕ) → only_listed b l ≡ None → (b ≡ true) × (l ≡ None)
only_good true l e = (refl, e)
only_good false None e = let z : ◌≡◌ {A = ℕ} 0 1 = cc in absurd (omega arith)
only_good false (Some place) e = let z : ◌≡◌ {A = ℕ} 0 1 = cc in absurd (omega arith)

pub listed_is : (region : ℕ) (p : Patching) → listed_layout region p ≡ None → ListedIs region p
unfolding listed_layout
listed_is region p e = go (region_number_ok region) refl e
  where
    go : (b : Bool) → region_number_ok region ≡ b
        → ◌≡◌ {A = Option ℕ} (elim b [ true ↦ filled_layout p.counts.regions p.regions (only_listed (is_listed (regions_of p) region) (region_layout (regions_of p))) | false ↦ Some 0 ]) None → ListedIs region p
    go true b x =
        let f = filled_good p.counts.regions p.regions (only_listed (is_listed (regions_of p) region) (region_layout (regions_of p))) x in
        let o = only_good (is_listed (regions_of p) region) (region_layout (regions_of p)) f.1 in
        record { number_ok = b; within = f.0; good = o.1; listed = o.0 }
    go false b x = let z : ◌≡◌ {A = ℕ} 0 1 = cc in absurd (omega arith)

pub listed_from : (region : ℕ) (p : Patching) → ListedIs region p → listed_layout region p ≡ None
unfolding listed_layout
listed_from region p h =
    rw (h.number_ok, listed_layout)
    (filled_kept p.counts.regions p.regions (only_listed (is_listed (regions_of p) region) (region_layout (regions_of p))) h.within.0 h.within.1
    ∙ ap₂ only_listed h.listed h.good)

-- A listed region that is not the number for none stands in the list.
pub listed_below : (regions : List ℕ) (region : ℕ) → is_listed regions region ≡ true → eqb region no_region ≡ false → region < region_count regions
listed_below regions region e n = ltb-true region (region_count regions) (go (eqb region no_region) n e)
  where
    go : (b : Bool) → b ≡ false → (b || ltb region (region_count regions)) ≡ true → ltb region (region_count regions) ≡ true
    go true f x = let z : ◌≡◌ {A = ℕ} 0 1 = cc in absurd (omega arith)
    go false f x = x

pub below_listed : (regions : List ℕ) (region : ℕ) → region < region_count regions → is_listed regions region ≡ true
below_listed regions region h = go (eqb region no_region)
  where
    go : (b : Bool) → (b || ltb region (region_count regions)) ≡ true
    go true = refl
    go false = lt-ltb region (region_count regions) h

-- ---- the pendings

pub record PendingsAre (p : Patching) : Type 0 where
  pub within : Within p.counts.pending p.pending
  pub good : pending_layout (region_count (regions_of p)) (pendings_of p) ≡ None
  pub patched : p.counts.patches ≤ length (places (pendings_of p))

patched_good : (n : ℕ) (s : List ℕ) (l : Option ℕ) → has_patched n s l ≡ None → (l ≡ None) × (n ≤ length (places s))
patched_good n s None e = go (leb n (length (places s))) refl e
  where
    go : (b : Bool) → leb n (length (places s)) ≡ b → ◌≡◌ {A = Option ℕ} (elim b [ true ↦ None | false ↦ Some (length s) ]) None → (◌≡◌ {A = Option ℕ} None None) × (n ≤ length (places s))
    go true b x = (refl, leb-true n (length (places s)) b)
    go false b x = let z : ◌≡◌ {A = ℕ} 0 1 = cc in absurd (omega arith)
patched_good n s (Some place) e = let z : ◌≡◌ {A = ℕ} 0 1 = cc in absurd (omega arith)

pub patched_is : (n : ℕ) (s : List ℕ) (l : Option ℕ) → n ≤ length (places s) → has_patched n s l ≡ l
patched_is n s None h = rw (le-leb n (length (places s)) h, has_patched)
patched_is n s (Some place) h = refl

pub pendings_are : (p : Patching) → pendings_layout p ≡ None → PendingsAre p
unfolding pendings_layout
pendings_are p e =
    let l = pending_layout (region_count (regions_of p)) (pendings_of p) in
    let f = filled_good p.counts.pending p.pending (has_patched p.counts.patches (pendings_of p) l) e in
    let h = patched_good p.counts.patches (pendings_of p) l f.1 in
    record { within = f.0; good = h.0; patched = h.1 }

pub pendings_is : (p : Patching) → Within p.counts.pending p.pending → p.counts.patches ≤ length (places (pendings_of p))
    → pendings_layout p ≡ pending_layout (region_count (regions_of p)) (pendings_of p)
unfolding pendings_layout
pendings_is p w h =
    let l = pending_layout (region_count (regions_of p)) (pendings_of p) in
    filled_kept p.counts.pending p.pending (has_patched p.counts.patches (pendings_of p) l) w.0 w.1 ∙ patched_is p.counts.patches (pendings_of p) l h

-- ---- the kept words: each pending takes 36 bytes at least, so 7,280 bytes are enough

all_whole : (regions : ℕ) (s ps : List ℕ) → first_bad (pending_ok regions s) ps ≡ None → first_bad (whole s) ps ≡ None
unfolding first_bad
all_whole regions s [] g = refl
all_whole regions s (p ∷ ps) g =
    let f = first_good (pending_ok regions s) p ps g in
    first_pass (whole s) p ps (pending_is regions s p f.0).whole_at ∙ all_whole regions s ps f.1

few_from : (regions : ℕ) (s : List ℕ) (at : ℕ) (ps : List ℕ) → Chain s at ps → first_bad (pending_ok regions s) ps ≡ None → at + 36 * length ps ≤ length s
few_from regions s at [] c g = omega (arith, c)
few_from regions s at (p ∷ ps) c g =
    let f = first_good (pending_ok regions s) p ps g in
    let i = (pending_is regions s p f.0).least in
    omega (arith, few_from regions s (next s at) ps c.2 f.1, i, ap (next s) c.0, c.0)

pub few : (regions : ℕ) (s : List ℕ) → pending_layout regions s ≡ None → 36 * length (places s) ≤ length s
few regions s g =
    let h = (pending_good regions s g).1 in
    omega (arith, few_from regions s 0 (places s) (places_chain s 0 (places s) (sym (places_all s)) (all_whole regions s (places s) h) (omega arith)) h)

pub kept_is : (p : Patching) → Within (4 * length (places (pendings_of p))) p.kept → kept_layout p ≡ None
unfolding kept_layout
kept_is p w = filled_kept (4 * length (places (pendings_of p))) p.kept None w.0 w.1

-- ---- a line's lists

pub record LineListsPass (g : LineGiven) (p : Patching) : Type 0 where
  pub tokens_good : token_layout g.token_list ≡ None
  pub mnemonic_good : mnemonic_layout g.mnemonic ≡ None
  pub descriptors_good : descriptor_layout g.descriptors ≡ None
  pub regions_listed : ListedIs g.region p
  pub pendings_good : PendingsAre p
  pub breakpoints_good : breakpoint_buffer_layout p.counts.breakpoints p.breakpoints ≡ None

pub line_lists : (g : LineGiven) (p : Patching) → line_layouts g p ≡ Ok tt → LineListsPass g p
unfolding line_layouts
line_lists g p e =
    let l₀ = both_pass (layout_verdict 0 (token_layout g.token_list)) _ e in
    let l₁ = both_pass (layout_verdict 1 (mnemonic_layout g.mnemonic)) _ l₀.1 in
    let l₂ = both_pass (layout_verdict 2 (descriptor_layout g.descriptors)) _ l₁.1 in
    let l₃ = both_pass (layout_verdict 3 (listed_layout g.region p)) _ l₂.1 in
    let l₄ = both_pass (layout_verdict 4 (pendings_layout p)) _ l₃.1 in
    record {
      tokens_good = layout_pass 0 (token_layout g.token_list) l₀.0;
      mnemonic_good = layout_pass 1 (mnemonic_layout g.mnemonic) l₁.0;
      descriptors_good = layout_pass 2 (descriptor_layout g.descriptors) l₂.0;
      regions_listed = listed_is g.region p (layout_pass 3 (listed_layout g.region p) l₃.0);
      pendings_good = pendings_are p (layout_pass 4 (pendings_layout p) l₄.0);
      breakpoints_good = layout_pass 5 (breakpoint_buffer_layout p.counts.breakpoints p.breakpoints) l₄.1;
    }

pub lists_line : (g : LineGiven) (p : Patching) → LineListsPass g p → line_layouts g p ≡ Ok tt
unfolding line_layouts
lists_line g p h =
    let e : pendings_layout p ≡ None = pendings_is p h.pendings_good.within h.pendings_good.patched ∙ h.pendings_good.good in
    rw (h.tokens_good, h.mnemonic_good, h.descriptors_good, listed_from g.region p h.regions_listed, e, h.breakpoints_good)

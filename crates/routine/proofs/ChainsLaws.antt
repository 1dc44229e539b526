-- Patches of calls, one after the other: each begins where the data ended before the calls, or later, and lies inside what they all leave. Assumes nothing.
use Rattle.std.specs.Prelude.{ℕ, ◌+◌, ◌≤◌, ◌≡◌, refl, List, Bool, true, false, eqb}
use Rattle.std.proofs.Common.{arith, ap, eqb-true}
use Rattle.std.proofs.lemmas.Bool.{eqb-false}
use Rattle.routine.specs.PatchValues.{Patch}
use Rattle.routine.specs.CallValues.{call_pairs, call_origin, call_patches}
use Rattle.routine.specs.Run.{Each}
use Rattle.routine.proofs.InsideLaws.{each_append, each_so, Before, patches_before, Behind, patches_behind}
use Rattle.routine.specs.Chains.{JobCall, selected_by, DataLengths, Appends, Chain, none, next, chain_patches}

-- A patch that begins where its region's data ended, or behind that.
abbrev pub From : DataLengths → Patch → Type 0
From before p = before p.region ≤ p.offset

-- A patch that ends inside its region's data.
abbrev pub Within : DataLengths → Patch → Type 0
Within after p = p.offset + 4 ≤ after p.region

-- ---- one call

module _ (e : JobCall) {before after : DataLengths} (a : Appends before after e) where
  abbrev own : List Patch
  own = call_patches e.job e.call

  pub longer : (r : ℕ) → before r ≤ after r
  longer r = go (eqb r (selected_by e)) refl
    where
      go : (b : Bool) → eqb r (selected_by e) ≡ b → before r ≤ after r
      go true t = let s = eqb-true r (selected_by e) t in omega (arith, a.ends, ap before s, ap after s)
      go false t = omega (arith, a.others r (eqb-false r (selected_by e) t))

  own_from : Each (From before) own
  own_from =
      each_so (Behind (selected_by e) e.call.numbers.counts.data_len) (From before) (λ p h. omega (arith, h.1, a.begins, ap before h.0))
      own (patches_behind e.call.token_list (call_origin e.call) 0 e.call.numbers.counts.data_len (call_pairs e.job e.call) (omega arith))

  pub own_before : Each (Before (selected_by e) (after (selected_by e))) own
  own_before = patches_before e.call.token_list (call_origin e.call) 0 (after (selected_by e)) (call_pairs e.job e.call) (omega (arith, a.ends, a.begins))

-- ---- all of them

pub record Chained (before last : DataLengths) (patches : List Patch) : Type 0 where
  pub from : Each (From before) patches
  pub within : Each (Within last) patches
  pub grown : (r : ℕ) → before r ≤ last r

pub chained : {before last : DataLengths} {es : List JobCall} → Chain before es last → Chained before last (chain_patches es)
unfolding chain_patches
chained none = record { from = tt; within = tt; grown = λ r. omega arith }
chained (next {before} {mid} {last} {e} {es} a c) =
    let first = call_patches e.job e.call in
    let rest = chain_patches es in
    let r = chained c in
    record {
      from = each_append (From before) first rest (own_from e a) (each_so (From mid) (From before) (λ p h. omega (arith, h, longer e a p.region)) rest r.from);
      within =
          each_append (Within last) first rest
          (each_so (Before (selected_by e) (mid (selected_by e))) (Within last)
          (λ p h. omega (arith, h.1, r.grown (selected_by e), ap last h.0)) first (own_before e a))
          r.within;
      grown = λ x. omega (arith, longer e a x, r.grown x);
    }

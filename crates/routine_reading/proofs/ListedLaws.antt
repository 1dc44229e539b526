-- The patches of calls, one after the other: each at a multiple of four, each behind those before it in its region, and each half next to its
-- other half. This holds for any lines of any jobs, in any regions in any order. Assumes nothing.
use Rattle.std.specs.Prelude.{ℕ, ◌+◌, ◌%◌, ◌≡◌, refl, List, [], ◌∷◌, ◌++◌, Bool, true, false, eqb}
use Rattle.std.proofs.Common.{arith, sym, ap, ◌∙◌, eqb-true}
use mathlib.Core.List.Memᴰ
use Rattle.std.proofs.lemmas.Bool.{eqb-false}
use Rattle.routine.specs.PatchValues.{Patch}
use Rattle.routine.specs.CallValues.{call_pairs, call_origin, call_patches}
use Rattle.routine.specs.Run.{Each}
use Rattle.routine.proofs.InsideLaws.{each_append, each_so, Before}
use Rattle.routine.specs.Chains.{JobCall, selected_by, DataLengths, Appends, Chain, none, next, chain_patches}
use Rattle.routine.proofs.ChainsLaws.{From, own_before, chained}
use Rattle.routine_reading.proofs.HalvesLaws.{call_halves}
use Rattle.routine_reading.proofs.LinePatchesLaws.{OnWord, Beyond, Spaced, Mated, line_mated, line_spaced, line_on_words}

-- every region's data ends at a multiple of four
abbrev pub Fourfold : DataLengths → Type 0
Fourfold lengths = (r : ℕ) → lengths r % 4 ≡ 0

pub record Listed (patches : List Patch) : Type 0 where
  pub on_words : Each OnWord patches
  pub spaced : Spaced patches
  pub mated : Each (Mated patches) patches

-- ---- two lists joined

spaced_append : (xs ys : List Patch) → Spaced xs → Spaced ys → Each (λ (x : Patch). Each (Beyond x) ys) xs → Spaced (xs ++ ys)
spaced_append [] ys s t h = t
spaced_append (x ∷ xs) ys s t h = (each_append (Beyond x) xs ys s.0 h.0, spaced_append xs ys s.1 t h.1)

mated_append : (xs ys : List Patch) → Each (Mated xs) xs → Each (Mated ys) ys → Each (Mated (xs ++ ys)) (xs ++ ys)
mated_append xs ys h k =
    each_append (Mated (xs ++ ys)) xs ys
    (each_so (Mated xs) (Mated (xs ++ ys))
    (λ p m. record {
      has_lower = λ e. let f = m.has_lower e in record { lower = f.lower; listed = Memᴰ.append_left ys f.listed; mates = f.mates };
      has_upper = λ e. let f = m.has_upper e in record { upper = f.upper; listed = Memᴰ.append_left ys f.listed; mates = f.mates };
      not_full = m.not_full;
    })
    xs h)
    (each_so (Mated ys) (Mated (xs ++ ys))
    (λ p m. record {
      has_lower = λ e. let f = m.has_lower e in record { lower = f.lower; listed = Memᴰ.append_right xs f.listed; mates = f.mates };
      has_upper = λ e. let f = m.has_upper e in record { upper = f.upper; listed = Memᴰ.append_right xs f.listed; mates = f.mates };
      not_full = m.not_full;
    })
    ys k)

-- ---- one call

module _ (e : JobCall) {before after : DataLengths} (a : Appends before after e) where
  pub stays_fourfold : Fourfold before → Fourfold after
  stays_fourfold four r = go (eqb r (selected_by e)) refl
    where
      go : (b : Bool) → eqb r (selected_by e) ≡ b → after r % 4 ≡ 0
      go true t = let s = eqb-true r (selected_by e) t in omega (arith, a.ends, ap after s, four (selected_by e))
      go false t = omega (arith, a.others r (eqb-false r (selected_by e) t), four r)

  -- The patches of later calls stand behind these.
  before_later : (rest : List Patch) → Each (From after) rest → Each (λ (x : Patch). Each (Beyond x) rest) (call_patches e.job e.call)
  before_later rest h =
      each_so (Before (selected_by e) (after (selected_by e))) (λ (x : Patch). Each (Beyond x) rest)
      (λ x b. each_so (From after) (Beyond x) (λ y f same. omega (arith, f, b.1, ap after (sym b.0 ∙ same))) rest h)
      (call_patches e.job e.call) (own_before e a)

-- ---- all of them

pub chain_listed : {before last : DataLengths} {es : List JobCall} → Chain before es last → Fourfold before → Listed (chain_patches es)
unfolding chain_patches
chain_listed none four = record { on_words = tt; spaced = tt; mated = tt }
chain_listed (next {before} {mid} {last} {e} {es} a c) four =
    let first = call_patches e.job e.call in
    let rest = chain_patches es in
    let pairs = call_pairs e.job e.call in
    let origin = call_origin e.call in
    let r = chain_listed c (stays_fourfold e a four) in
    record {
      on_words = each_append OnWord first rest (line_on_words e.call.token_list origin 0 pairs (omega (arith, a.begins, four (selected_by e)))) r.on_words;
      spaced = spaced_append first rest (line_spaced e.call.token_list origin 0 pairs) r.spaced (before_later e a rest (chained c).from);
      mated = mated_append first rest (line_mated e.call.token_list origin 0 (call_halves e.job e.call)) r.mated;
    }

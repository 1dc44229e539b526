use Rattle.std.specs.Prelude.{MatchOption, Option, None, Some}
use Rattle.std.specs.Option.{unwrap_or}
use Rattle.std.proofs.Common.{ℕ, List, get_or, length, ◌<◌, ◌≤◌, ◌≡◌, sym, ap, arith, rules}
use Rattle.names.specs.Owners.{owned_repeat}
use Rattle.name_index.specs.Index.{IndexOf}
use Rattle.name_index.proofs.IndexLaws.{LeastRepeat, least_start, least_keep, least_new, repeat_found, repeat_none, at_list}
use Rattle.name_index.proofs.PlacesLaws.{within}
use Rattle.name_index.proofs.NameIndex.first_repeat.Goals as goal
use Rattle.name_index.proofs.NameIndex.first_repeat.Goals.{then-is_none_or+then-repeats, else-is_none_or, else-is_none_or-via-then-is_none_or+else-repeats, else-is_none_or-via-else-is_none_or}

pub loop-i-init : goal.loop-i-init
loop-i-init g c = record { least = least_start _ _ _ c.order-order.ensures.index_of; within = tt }

pub loop-i-preserved : goal.loop-i-preserved
loop-i-preserved g c =
    let s = c.args.self.now.list in
    let l = c.args.self.now.order in
    let p = get_or l c.loop-i.i 0 in
    let ix = c.order-order.ensures.index_of in
    let b = c.loop-i.invariant.least in
    let h : c.loop-i.i < length l = omega (arith, ap length c.order-order.ensures.value) in
    let e : c.from-p.result ≡ p = rw c.order-order.ensures.value at c.from-p.ensures in
    let w : p < length s = within s p (at_list _ _ _ ix c.loop-i.i h) in
    elim c.if-is_none_or.branch [
      | then-is_none_or+then-repeats v ↦
          let n : p < unwrap_or c.loop-i.best (length s) = search rules in
          rw (v.best-is, e) (record { least = least_new _ _ _ ix _ _ b h n v.if-repeats.ensures; within = w })
      | else-is_none_or w ↦
          rw w.best-is
          (record {
            least =
                elim w.else-is_none_or.branch [
                  | else-is_none_or-via-then-is_none_or+else-repeats v ↦ let r = v.if-repeats.ensures in least_keep _ _ _ ix _ _ b (λ e. cc)
                  | else-is_none_or-via-else-is_none_or v ↦
                      let n : unwrap_or c.loop-i.best (length s) ≤ p = search rules in
                      least_keep _ _ _ ix _ _ b (λ e. n)
                ];
            within = c.loop-i.invariant.within;
          })
    ]

-- At the end, `best` is what the definition finds.
found : (skip : ℕ) (s l : List ℕ) → IndexOf skip s l → (i : ℕ) (best : Option ℕ) → LeastRepeat skip s l i (unwrap_or best (length s)) → MatchOption best Unit (λ b. b < length s)
    → length l ≤ i → best ≡ owned_repeat skip s
found skip s l ix i None b w h = sym (repeat_none skip s l ix i _ b h (omega arith))
found skip s l ix i (Some p) b w h = sym (repeat_found skip s l ix i _ b h w)

pub returns : goal.returns
returns g c = found _ _ _ c.order-order.ensures.index_of _ _ c.loop-i.invariant.least c.loop-i.invariant.within (omega (arith, ap length c.order-order.ensures.value))

use Rattle.std.proofs.Common.{ℕ, ◌+◌, ◌-◌, ◌≡◌, ◌≤◌, ◌++◌, List, rules, take, drop, map, length, ap, ◌∙◌, arith, length-drop, length-take-le, replicate, get_or-drop}
use Rattle.std.specs.Char.{to_ascii_lowercase}
use Rattle.record.specs.Bytes.{byte_at}
use Rattle.record.specs.Records.{body_len}
use Rattle.record.specs.Stores.{append}
use Rattle.descriptors.specs.Mnemonics.{lower, mnemonic_bytes, mnemonic_name}
use Rattle.descriptors.proofs.MnemonicsLaws.{mnemonic_good, zeros, name_lowered, rest_lowered}
use Rattle.descriptors.proofs.read_mnemonic.Goals as goal
use Rattle.descriptors.proofs.read_mnemonic.Goals.{After-half_at-len}

-- The list begins with a mnemonic, whose length was read.
room : (c : After-half_at-len) → let s = c.args.list.now in
    (c.half_at-len.result ≡ body_len s 0) × (8 ≤ c.half_at-len.result) × (c.half_at-len.result ≤ 24) × (4 + c.half_at-len.result ≤ length s)
room c =
    let m = mnemonic_good c.args.list.now c.requires in
    (c.half_at-len.ensures.0, omega arith, omega arith, omega arith)

pub half_at-len-requires : goal.half_at-len-requires
half_at-len-requires c = omega (arith, mnemonic_good c.args.list.now c.requires)

pub overflow_sub-len : goal.overflow_sub-len
overflow_sub-len c = omega (arith, room (goal.at.overflow_sub-len c).After-half_at-len)

pub location_at-location-requires : goal.location_at-location-requires
location_at-location-requires c = omega (arith, room (goal.at.location_at-location-requires c).After-half_at-len)

pub slice_bounds-put_all-end : goal.slice_bounds-put_all-end
slice_bounds-put_all-end c = omega (arith, room (goal.at.slice_bounds-put_all-end c).After-half_at-len)

pub slice_bounds-put_all-end-2 : goal.slice_bounds-put_all-end-2
slice_bounds-put_all-end-2 c =
    let r = room (goal.at.slice_bounds-put_all-end-2 c).After-half_at-len in
    search rules

pub put_all-requires : goal.put_all-requires
put_all-requires c =
    let r = room (goal.at.put_all-requires c).After-half_at-len in
    let n = c.half_at-len.result - 8 in
    let s = drop 12 c.args.list.now in
    omega (arith, length-take-le (12 + n - 12) s (omega (arith, length-drop 12 c.args.list.now)))

pub returns : goal.returns
unfolding mnemonic_name append
returns c =
    let s = c.args.list.now in
    let r = room (goal.at.returns c).After-half_at-len in
    let n = c.half_at-len.result - 8 in
    let name = take (12 + n - 12) (drop 12 s) in
    let put : c.put_all.new.d ≡ name ++ drop (0 + length name) (replicate 16 0) = c.put_all.ensures in
    let after = c.make_ascii_lowercase.ensures.after ∙ ap (map to_ascii_lowercase) put in
    let same : 12 + n - 12 ≡ body_len s 0 - 8 = omega arith in
    let is : name ≡ mnemonic_bytes s 0 = ap (λ (m : ℕ). take m (drop 12 s)) same in
    let size : length name ≡ n = ap length is ∙ length-take-le (body_len s 0 - 8) (drop 12 s) (omega (arith, length-drop 12 s)) ∙ omega arith in (
      ap (take n) after ∙ name_lowered name _ n size ∙ ap (map lower) is,
      omega arith,
      c.location_at-location.ensures,
      λ i h. ap (λ (l : List ℕ). byte_at l i) after ∙ rest_lowered name _ n size (λ k. get_or-drop (0 + length name) (replicate 16 0) k 0 ∙ zeros 16 _) i h,
    )

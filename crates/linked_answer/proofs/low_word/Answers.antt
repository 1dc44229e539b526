use Rattle.std.proofs.Common.{rules, ap, ◌∙◌, ◌≡◌, ◌^◌, pos, w64, FitsSigned}
use Rattle.std.proofs.lemmas.Int.{to_z-of_z}
use Rattle.std.specs.Int.{int_rem_euclid}
use Rattle.std.specs.Int.RustNames.{unsigned_abs}
use Rattle.linked_answer.proofs.WordsLaws.{low_left}
use Rattle.linked_answer.proofs.low_word.Goals as goal

pub returns : goal.returns
returns c =
    let fits : FitsSigned w64 c.rem_euclid.result = search rules in
    let given : FitsSigned w64 c.args.a = c.ranges.a in
    let e : c.rem_euclid.result ≡ int_rem_euclid c.args.a (pos (2 ^ 32)) = rw (c.rem_euclid.ensures.value, to_z-of_z w64 c.args.a given) in
    ap unsigned_abs (to_z-of_z w64 c.rem_euclid.result fits ∙ e) ∙ low_left c.args.a

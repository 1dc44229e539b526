-- How many constants below a number load by each form, as a closed formula. Assumes nothing.
use Rattle.std.specs.Prelude.{ℕ, ◌+◌, ◌-◌, ◌/◌, ◌^◌, min}
use Rattle.form_counts.specs.declared.FormCounts.{FormCounts}

-- addiu loads the first 32,768 constants and the last 32,768
unfoldable pub addiu_below : ℕ → ℕ
addiu_below n = min n 32768 + (n - (2 ^ 32 - 32768))

-- ori loads those from 32,768 to 65,535
unfoldable pub ori_below : ℕ → ℕ
ori_below n = min n 65536 - 32768

-- lui loads each multiple of 65,536 except 0
unfoldable pub lui_below : ℕ → ℕ
lui_below n = (n + 65535) / 65536 - 1

-- the two-word form loads the rest
unfoldable pub below : ℕ → FormCounts
unfolding addiu_below ori_below lui_below
below n = record { addiu = addiu_below n; ori = ori_below n; lui = lui_below n; both = n - (addiu_below n + ori_below n + lui_below n) }

-- the counts of a range: `from` counts the constants below it, `to` those up to its end
abbrev pub between : FormCounts → FormCounts → FormCounts
between from to = record { addiu = to.addiu - from.addiu; ori = to.ori - from.ori; lui = to.lui - from.lui; both = to.both - from.both }

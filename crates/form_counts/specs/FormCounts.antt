-- How many constants in a range load by each form (document 02, P14). Assumes nothing.
use Rattle.std.specs.Prelude.{ℕ, zero, suc, ◌+◌, ◌-◌, true, false, leb, Err, Ok, Result}
use Rattle.refusal.specs.declared.Refusal.TheVariants.{StartPastEnd}
use Rattle.loading.specs.declared.LoadForm.{LoadForm}
use Rattle.loading.specs.declared.LoadForm.TheVariants.{Nothing, Addiu, Ori, Lui, BothHalves}
use Rattle.loading.specs.Load.{form_of}
use Rattle.form_counts.specs.declared.FormCounts.{FormCounts}
use Rattle.refusal.specs.declared.Refusal.{Refusal}

abbrev pub no_constants : FormCounts
no_constants = record { addiu = 0; ori = 0; lui = 0; both = 0 }

-- counts one more constant, of this form
abbrev pub with_one : LoadForm → FormCounts → FormCounts
with_one Nothing c = c
with_one Addiu c = record { addiu = c.addiu + 1; ori = c.ori; lui = c.lui; both = c.both }
with_one Ori c = record { addiu = c.addiu; ori = c.ori + 1; lui = c.lui; both = c.both }
with_one Lui c = record { addiu = c.addiu; ori = c.ori; lui = c.lui + 1; both = c.both }
with_one BothHalves c = record { addiu = c.addiu; ori = c.ori; lui = c.lui; both = c.both + 1 }

-- "how many load by each of P2's four forms": n constants from `start` on, one by one
unfoldable pub counted : (start n : ℕ) → FormCounts
unfolding form_of
counted start zero = no_constants
counted start (suc n) = with_one (form_of start) (counted (start + 1) n)

-- "For an inclusive range of unsigned 32-bit constants"; "30, the range's start exceeds its end"
unfoldable pub count_forms : (start end : ℕ) → Result FormCounts Refusal
unfolding counted
count_forms start end = elim (leb start end) [ true ↦ Ok (counted start (end + 1 - start)) | false ↦ Err StartPastEnd ]

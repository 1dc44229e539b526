-- An emit call's answer, under the code's name: accepted with position and form, or refused with refusal and position. Assumes nothing.
use Rattle.std.specs.Prelude.{ℕ, Result, Ok, Err}
use Rattle.loading.specs.declared.LoadForm.{LoadForm}
use Rattle.refusal.specs.declared.Refusal.{Refusal}
use Rattle.emit_outcome.specs.declared.DoneLine.{DoneLine}
use Rattle.emit_outcome.specs.declared.RefusedLine.{RefusedLine}

abbrev pub EmitAnswer : Type 0
EmitAnswer = Result DoneLine RefusedLine

abbrev pub done_at : (position : ℕ) → LoadForm → EmitAnswer
done_at position loaded = Ok (record { position = position; loaded = loaded })

abbrev pub refused_at : Refusal → (position : ℕ) → EmitAnswer
refused_at r position = Err (record { refusal = r; position = position })

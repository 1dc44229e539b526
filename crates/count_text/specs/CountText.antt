-- What `count_forms` prints (document 02, P14): `addiu`, `ori`, `lui` and `both`, each on its line with its decimal count; or the refusal's
-- line. Assumes nothing.
use Rattle.std.specs.Prelude.{ℕ, List, ◌++◌, Err, Ok, Result}
use Rattle.record.specs.Texts.{bytes_of}
use Rattle.refusal.specs.Numbers.{numbered}
use Rattle.form_counts.specs.declared.FormCounts.{FormCounts}
use Rattle.form_counts.specs.FormCounts.{count_forms}
use Rattle.input.specs.Input.{word_or_zero}
use Rattle.text.specs.Text.{last_field, refused_line}
use Rattle.refusal.specs.declared.Refusal.{Refusal}

abbrev pub count_lines : FormCounts → List ℕ
count_lines c =
    (bytes_of "addiu" ++ last_field c.addiu) ++ (bytes_of "ori" ++ last_field c.ori) ++ (bytes_of "lui" ++ last_field c.lui)
    ++ (bytes_of "both" ++ last_field c.both)

abbrev pub answer_text : Result FormCounts Refusal → List ℕ
answer_text (Ok c) = count_lines c
answer_text (Err r) = refused_line (numbered r)

-- an input is the range's start and its end, four bytes each
unfoldable pub count_text : List ℕ → List ℕ
count_text s = answer_text (count_forms (word_or_zero s 0) (word_or_zero s 4))

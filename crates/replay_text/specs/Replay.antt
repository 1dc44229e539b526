-- What `replay` prints: how many stored calls there are, how many differ, and the last that does, counted from 1 (0 if none does). A call differs if
-- its answer, fill counts or lent bytes are not the ones stored after its inputs. Assumes nothing.
use Rattle.std.specs.Prelude.{ℕ, zero, suc, ◌+◌, List, ◌++◌, Bool, true, false, ◌&&◌, ltb, replicate}
use Rattle.record.specs.Bytes.{same_bytes}
use Rattle.record.specs.Texts.{bytes_of}
use Rattle.emit_outcome.specs.declared.LinePlace.{LinePlace}
use Rattle.emit_outcome.specs.Call.{Lent, lent_of}
use Rattle.linked_build.specs.LinkedBuild.{linked_build}
use Rattle.linked_line.specs.LinkedLine.{linked_line}
use Rattle.input.specs.Input.{word_or_zero, half_or_zero, list_of, held}
use Rattle.text.specs.Text.{last_field}
use Rattle.replay_text.specs.declared.Tally.{Tally}

abbrev pub answer_space : List ℕ
answer_space = replicate 24 0

abbrev pub is_list : List ℕ → (number : ℕ) → (bytes : List ℕ) → Bool
is_list s number bytes = same_bytes bytes (list_of number s)

-- a build: labels, entry, regions, pending; then the expected answer and regions
abbrev pub built_met : List ℕ → (regions : List ℕ) → Bool
built_met s regions =
    let l = linked_build (list_of 0 s) (list_of 1 s) regions (list_of 3 s) answer_space in
    is_list s 4 l.answer && is_list s 5 l.regions

abbrev pub build_met : List ℕ → Bool
build_met s = built_met s (held (list_of 2 s))

-- a line: the six buffers, the fill counts, and position, region and address; then the expected answer, counts and last three buffers
abbrev pub place_in : List ℕ → LinePlace
place_in s = record { position = word_or_zero s 0; region = half_or_zero s 4; address = word_or_zero s 6 }

abbrev pub emitted_met : List ℕ → Lent → (counts : List ℕ) → Bool
emitted_met s lent counts =
    let l = linked_line (list_of 0 s) (list_of 1 s) (list_of 2 s) lent counts (place_in (list_of 7 s)) answer_space in
    (is_list s 8 l.answer && is_list s 9 l.counts)
    && ((is_list s 10 l.lent.region_data && is_list s 11 l.lent.pending) && is_list s 12 l.lent.breakpoints)

abbrev pub line_met : List ℕ → Bool
line_met s = emitted_met s (lent_of (held (list_of 3 s)) (held (list_of 4 s)) (held (list_of 5 s))) (held (list_of 6 s))

abbrev pub call_met : (build : Bool) → List ℕ → Bool
call_met true s = build_met s
call_met false s = line_met s

-- ---- the calls, which come after the first list; the first `builds` of them are builds
abbrev pub counted : (met : Bool) (number : ℕ) → Tally → Tally
counted true number t = t
counted false number t = record { differ = t.differ + 1; last = number }

unfoldable pub tally_of : (builds calls : ℕ) → List ℕ → Tally
tally_of builds zero s = record { differ = 0; last = 0 }
tally_of builds (suc n) s = counted (call_met (ltb n builds) (list_of (suc n) s)) (suc n) (tally_of builds n s)

abbrev pub tally_text : (calls : ℕ) → Tally → List ℕ
tally_text calls t = (bytes_of "calls" ++ last_field calls) ++ (bytes_of "differ" ++ last_field t.differ) ++ (bytes_of "last" ++ last_field t.last)

-- the first list has the number of builds, and the number of all calls
unfoldable pub replay_text : List ℕ → List ℕ
replay_text s =
    let head = list_of 0 s in
    tally_text (word_or_zero head 4) (tally_of (word_or_zero head 0) (word_or_zero head 4) s)

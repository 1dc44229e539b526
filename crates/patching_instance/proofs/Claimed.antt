-- The claims' premises can be met: the computed scripts keep them. The first script's refusal and the second script's end are those of a whole
-- build after their accepted line. Assumes nothing.
use mathlib.Core.List.Memᴰ
use Rattle.std.proofs.Common.{⊎_elim, arith, sym, subst}
use mathlib.Core.List.{[], ◌∷◌, Memᴰ}
use Rattle.std.specs.Prelude.{ℕ, ◌+◌, ◌≤◌, ◌≡◌, refl, Err, Ok}
use Rattle.jobs.specs.declared.Job.TheVariants.{Commit}
use Rattle.refusal.specs.declared.Refusal.TheVariants.{PatchPastEnd}
use Rattle.record.specs.Bytes.{all}
use Rattle.record.specs.Records.{places_f, places_from, places}
use Rattle.pending.specs.Pendings.{pending_at}
use Rattle.patch.specs.Patches.{region_for}
use Rattle.finished_words.proofs.ListedLaws.{of_bytes}
use Rattle.patching_outcome.specs.Patching.{regions_of, pendings_of}
use Rattle.patching_laws.specs.Script.{run}
use Rattle.patching_outcome.specs.Step.{step_outcome}
use Rattle.patching_laws.specs.Claims.{Start, AllInside, AllOfBytes, build_first}
use Rattle.patching_laws.proofs.ScriptLaws.{all_finish, as_requested}
use Rattle.patching_instance.proofs.Instance.{labels, start, good, three, place, b, computed}

pub started : Start start
started = record {
  none_patched = refl;
  running = refl;
  regions_within = (omega arith, omega arith);
  pending_within = (omega arith, omega arith);
  kept_within = (omega arith, omega arith);
}

pub all_bytes : AllOfBytes three
unfolding all
all_bytes = (tt, (tt, ((of_bytes (b 0).token_list refl, of_bytes (b 0).mnemonic refl), (tt, tt))))

pub built : build_first Commit labels [] three start
    ≡ (record { answer = Err (PatchPastEnd (place 90)); regions = regions_of (step_outcome Commit labels [] (run Commit labels [] three start)).after })
built = (all_finish Commit labels [] three start all_bytes started).refused (PatchPastEnd (place 90)) computed.refuses

pub good_start : Start good
good_start = record {
  none_patched = refl;
  running = refl;
  regions_within = (omega arith, omega arith);
  pending_within = (omega arith, omega arith);
  kept_within = (omega arith, omega arith);
}

pub ended : build_first Commit labels [] three good ≡ (record { answer = Ok 0x00400000; regions = regions_of (run Commit labels [] three good) })
ended = (all_finish Commit labels [] three good all_bytes good_start).ended 0x00400000 computed.ends

-- and the premise of the request's own sentence
abbrev InsideAt : ℕ → Type 0
InsideAt at = (pending_at (pendings_of good) at).offset + 4 ≤ (region_for (regions_of good) (pending_at (pendings_of good) at)).size

waits : places (pendings_of good) ≡ 0 ∷ 36 ∷ []
unfolding places places_from places_f
waits = refl

first_inside : InsideAt 0
unfolding places places_from places_f
first_inside =
    let o : (pending_at (pendings_of good) 0).offset ≡ 0 = refl in
    let g : (region_for (regions_of good) (pending_at (pendings_of good) 0)).size ≡ 4 = refl in
    omega arith

second_inside : InsideAt 36
unfolding places places_from places_f
second_inside =
    let o : (pending_at (pendings_of good) 36).offset ≡ 0 = refl in
    let g : (region_for (regions_of good) (pending_at (pendings_of good) 36)).size ≡ 4 = refl in
    omega arith

pub good_inside : AllInside good
good_inside at m =
    ⊎_elim (λ e. subst InsideAt (sym e) first_inside)
    (λ t. ⊎_elim (λ e. subst InsideAt (sym e) second_inside) (λ u. elim u [ ]) (Memᴰ.cases_cons t))
    (Memᴰ.cases_cons (subst (Memᴰ at) waits m))

pub requested : ((build_first Commit labels [] three good).answer ≡ Ok 0x00400000) × ((build_first Commit labels [] three good).regions ≡ regions_of (run Commit labels [] three good))
requested = (as_requested Commit labels [] three good all_bytes good_start good_inside).finished_image 0x00400000 computed.ends

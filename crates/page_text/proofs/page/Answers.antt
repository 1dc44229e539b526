use Rattle.std.proofs.Common.{◌≡◌, ℕ, List, ◌≤◌, ◌<◌, length, take, min, ap, ◌∙◌, arith, sym, length-take, take-take}
use Rattle.input.specs.Input.{behind_lists, list_of}
use Rattle.page_outcome.specs.Outcome.{page_outcome}
use Rattle.page_text.specs.PageText.{length_in, outcome_text, page_text}
use Rattle.page_text.proofs.PageTextLaws.{held_text, page_within}
use Rattle.page_text.proofs.page.Goals as goal
use Rattle.page_text.proofs.page.Goals.{In-Ok, After-lay_out_in}

-- What is printed, from what was read of the input.
text_is : (input labels regions rest space : List ℕ) (asked room : ℕ) → labels ≡ list_of 0 input → regions ≡ list_of 1 input → rest ≡ behind_lists 2 input
    → asked ≡ length_in rest → room ≡ min asked 1195960 → length space ≡ 1195960
    → outcome_text (page_outcome labels regions (take room space)) ≡ page_text input
unfolding page_text
text_is input labels regions rest space asked room l r b n e z = held_text labels regions space asked room z e ∙ rw (n ∙ ap length_in b, l, r)

printed : (c : After-lay_out_in) → outcome_text (page_outcome c.list_of-labels.result.now c.list_of-regions.result.now (take c.min-room.result c.whole.result.now)) ≡ page_text c.args.input.now
printed c =
    text_is c.args.input.now _ _ _ c.whole.result.now _ _ c.list_of-labels.ensures c.list_of-regions.ensures c.behind_lists.ensures c.length_in.ensures c.min-room.ensures c.whole.ensures.value

-- the page is within the room, and the room within the space
fits : (space after : List ℕ) (n room : ℕ) → length space ≡ 1195960 → length after ≡ length space → n ≤ length (take room space)
    → (1195968 < 9223372036854775808) × (n ≤ length (take 1195960 after))
fits space after n room z l h = (omega arith, omega (arith, length-take room space, length-take 1195960 after))

cut : (space after : List ℕ) (n room : ℕ) → length space ≡ 1195960 → n ≤ length (take room space) → take n (take 1195960 after) ≡ take n (take room after)
cut space after n room z h =
    take-take n 1195960 after (omega (arith, length-take room space)) ∙ sym (take-take n room after (omega (arith, length-take room space)))

within : (c : In-Ok) → c.in-Ok.length ≤ length (take c.min-room.result c.whole.result.now)
within c = page_within _ _ _ _ _ c.in-Ok.ensures

pub truncate-requires : goal.truncate-requires
truncate-requires c =
    fits c.whole.result.now c.lay_out_in.new.space c.in-Ok.length c.min-room.result c.whole.ensures.value c.lay_out_in.auto.space (within (goal.at.truncate-requires c).In-Ok)

pub returns-in-Ok : goal.returns-in-Ok
returns-in-Ok c =
    c.truncate.ensures
    ∙ cut c.whole.result.now c.lay_out_in.new.space c.in-Ok.length c.min-room.result c.whole.ensures.value (within (goal.at.returns-in-Ok c).In-Ok)
    ∙ sym (ap outcome_text c.in-Ok.ensures)
    ∙ printed (goal.at.returns-in-Ok c).After-lay_out_in

pub returns-in-Err : goal.returns-in-Err
returns-in-Err c = rw (c.push_refusal.ensures, c.clear.ensures) (sym (ap outcome_text c.in-Err.ensures) ∙ printed (goal.at.returns-in-Err c).After-lay_out_in)

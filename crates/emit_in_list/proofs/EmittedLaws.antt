-- The two exchanges, with the call between them, do what the emit call of the list does. Assumes nothing.
use Rattle.std.specs.Prelude.{ℕ, ◌+◌, ◌-◌, ◌≤◌, List, ◌≡◌, length, take, drop}
use Rattle.std.proofs.Common.{arith, sym, ap, subst, ◌∙◌, length-append, length-drop, length-take-le}
use Rattle.jobs.specs.declared.Job.{Job}
use Rattle.record.specs.Bytes.{part}
use Rattle.record.specs.Stores.{append}
use Rattle.emit_outcome.specs.Call.{Call, EmitOutcome, call_of, lent_of, outcome_of}
use Rattle.emit_outcome.specs.Emit.{emit_outcome}
use Rattle.emit_outcome.specs.Answer.{EmitAnswer}
use Rattle.emit_outcome.specs.declared.FillCounts.{FillCounts}
use Rattle.emit_outcome.specs.declared.LinePlace.{LinePlace}
use Rattle.patching_outcome.specs.Grown.{inserted}
use Rattle.patching_outcome.specs.Line.{new_words}
use Rattle.emit_in_list.specs.InList.{data_in, list_call, EmittedIn}
use Rattle.emit_in_list.proofs.PartsLaws.{over, turned}
use Rattle.emit_in_list.proofs.RotateLaws.{rotated, part_lent, rotated_back}
use Rattle.emit_in_list.proofs.CallLaws.{Appends, appends, words_are}

module _ (job : Job) (tokens mnemonic descriptors list pending breakpoints : List ℕ) (counts : FillCounts) (place : LinePlace) (start fill room : ℕ)
    (within : start + counts.data_len ≤ fill) (free : fill + room ≤ length list) where
  abbrev size : ℕ
  size = counts.data_len

  abbrev call : Call
  call = list_call tokens mnemonic descriptors list pending breakpoints counts place start fill room

  long : length (data_in list start counts.data_len fill room) ≡ counts.data_len + room
  long =
      let l = length-take-le size (drop start list) (omega (arith, length-drop start list)) in
      let m = length-take-le room (drop fill list) (omega (arith, length-drop fill list)) in
      omega (arith, length-append (part list start size) (part list fill room))

  -- what the call appends
  pub call_adds : Appends place.region counts (lent_of (data_in list start counts.data_len fill room) pending breakpoints) (emit_outcome job call)
  call_adds = appends job call (omega (arith, long))

  pub data_long : length (data_in list start counts.data_len fill room) ≡ counts.data_len + room
  data_long = long

  -- The list after the first exchange. x is what the exchange leaves of its part.
  module _ (x : List ℕ) (first : x ≡ turned list (start + counts.data_len) (fill + room) (fill - (start + counts.data_len))) where
    abbrev once : List ℕ
    once = over list (start + counts.data_len) (fill + room) x

    once_is : once ≡ rotated list start counts.data_len fill room within free
    once_is = ap (over list (start + size) (fill + room)) first

    module _ (answer : EmitAnswer) (counts_after : FillCounts) (data_after pending_after breakpoints_after : List ℕ)
        (told : emit_outcome job (call_of tokens mnemonic descriptors (lent_of (take (start + counts.data_len + room - start) (drop start once)) pending breakpoints) counts place)
        ≡ outcome_of answer counts_after (lent_of data_after pending_after breakpoints_after)) where
      abbrev o : EmitOutcome
      o = outcome_of answer counts_after (lent_of data_after pending_after breakpoints_after)

      lent_is : take (start + counts.data_len + room - start) (drop start once) ≡ data_in list start counts.data_len fill room
      lent_is = ap (λ (l : List ℕ). take (start + size + room - start) (drop start l)) once_is ∙ part_lent list start size fill room within free

      outcome : emit_outcome job call ≡ o
      outcome = ap (λ (d : List ℕ). emit_outcome job (call_of tokens mnemonic descriptors (lent_of d pending breakpoints) counts place)) (sym lent_is) ∙ told

      pub added : Appends place.region counts (lent_of (data_in list start counts.data_len fill room) pending breakpoints) o
      added = subst (λ (x : EmitOutcome). Appends place.region counts call.lent x) outcome call_adds

      -- It appends at most as many bytes as were free.
      pub grows : (counts.data_len ≤ counts_after.data_len) × (counts_after.data_len - counts.data_len ≤ room)
      grows = (omega (arith, added.count_is), omega (arith, added.count_is, added.room, long))

      abbrev twice : List ℕ
      twice = over once start (start + counts.data_len + room) data_after

      abbrev n : ℕ
      n = counts_after.data_len - counts.data_len

      pub in_list : (y : List ℕ) → y ≡ turned twice (start + counts.data_len + n) (fill + room) (room - n)
          → EmittedIn job call list start fill answer counts_after (over twice (start + counts.data_len + n) (fill + room) y) pending_after breakpoints_after
      in_list y second =
          let w = added.words in
          let k : length added.words ≡ n = omega (arith, added.count_is) in
          let e : new_words size (emit_outcome job call) ≡ w = ap (new_words size) outcome ∙ words_are place.region counts call.lent o added in
          record {
            answer_is = sym (ap (λ (x : EmitOutcome). x.answer) outcome);
            counts_are = sym (ap (λ (x : EmitOutcome). x.counts) outcome);
            list_is =
                ap (over twice (start + size + n) (fill + room)) second
                ∙ ap (λ (r : List ℕ). let l = over r start (start + size + room) data_after in over l (start + size + n) (fill + room) (turned l (start + size + n) (fill + room) (room - n))) once_is
                ∙ rotated_back list start size fill room within free w data_after n k grows.1 added.data_is
                ∙ ap (λ (v : List ℕ). append list 0 (inserted (take fill list) (start + size) v)) (sym e);
            pending_is = sym (ap (λ (x : EmitOutcome). x.lent.pending) outcome);
            breakpoints_are = sym (ap (λ (x : EmitOutcome). x.lent.breakpoints) outcome);
          }

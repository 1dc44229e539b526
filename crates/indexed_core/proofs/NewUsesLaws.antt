-- After an accepted line, the uses of the pending list are those of the list before, and then the line's. Assumes nothing.
use Rattle.std.specs.Prelude.{ℕ, zero, suc, ◌+◌, ◌*◌, ◌^◌, ◌≤◌, ◌<◌, Bool, true, false, ◌≡◌, length, take, get_or, ltb, None, Option, Some, Ok, Err}
use Rattle.std.proofs.Common.{arith, sym, ◌∙◌, subst, length-append, length-take, get_or-take, ltb-true, ltb-false}
use mathlib.Core.List.{List, [], ◌∷◌, ◌++◌, append_assoc, append-nil}
use Rattle.std.proofs.Math.Path.{refl, ap, ap₂}
use Rattle.jobs.specs.declared.Job.{Job}
use Rattle.record.specs.Records.{places, first_bad}
use Rattle.record.specs.declared.Location.{Location}
use Rattle.refusal.specs.Verdicts.{Verdict}
use Rattle.descriptors.specs.Mnemonics.{mnemonic_location}
use Rattle.pending.specs.Pendings.{pending_ok}
use Rattle.pending.specs.PendingBytes.{pending_bytes}
use Rattle.pending.proofs.Written.{written_behind}
use Rattle.pending.specs.declared.Origin.{Origin}
use Rattle.emit_pairs.specs.declared.InstructionPair.{InstructionPair}
use Rattle.emit_pairs.specs.declared.emit_instruction.EmitInstruction.{EmitInstruction}
use Rattle.emit_pairs.specs.Pairs.{pairs_of}
use Rattle.emit_dispatch.specs.Contract.{MadeAs}
use Rattle.emit_bytes.specs.Appended.{onward, pair_bytes, pendings_bytes}
use Rattle.emit_checks.specs.declared.LineRead.{LineRead}
use Rattle.emit_outcome.specs.Call.{Call, EmitOutcome, filled_pending}
use Rattle.emit_dispatch.specs.Lines.{Line}
use Rattle.emit_outcome.specs.Checks.{list_stop}
use Rattle.emit_outcome.specs.Emit.{call_made, line_outcome, emit_outcome}
use Rattle.emit_outcome.specs.Answer.{done_at}
use Rattle.emit_checks.specs.Made.{made_line}
use Rattle.emit_core.proofs.EmitLaws.{by_lists, by_line, made_outcome, made_pairs}
use Rattle.emit_core.specs.Read.{LineMade, LineFor}
use Rattle.loading.specs.declared.LoadForm.{LoadForm}
use Rattle.finished_words.specs.Listed.{Bytes}
use Rattle.routine.proofs.WordLaws.{PairFits, PairsFit}
use Rattle.routine.proofs.BehindLaws.{OriginFits}
use Rattle.routine.specs.CallValues.{line_pairs, call_pairs, call_origin}
use Rattle.routine.proofs.AcceptedLaws.{accepted}
use Rattle.routine.proofs.LineFitsLaws.{pending_is, pending_kept, origin_fits, offsets_fit}
use Rattle.label_uses.specs.Uses.{Use, uses_of}
use Rattle.label_uses.specs.UseBytes.{uses_bytes, index_of, index_layout}
use Rattle.label_uses.proofs.IndexLaws.{index_is}
use Rattle.label_uses.proofs.OneMoreLaws.{AllBytes, uses_written, owners_fit}
use Rattle.line_uses.specs.LineUses.{pair_use, next_number, line_uses}
use Rattle.use_adding.specs.Adding.{IndexIn}
use Rattle.indexed_core.specs.Steps.{new_index}
use Rattle.pending.specs.declared.InstructionLabel.{InstructionLabel}
use Rattle.name_order.proofs.OrderLaws.{never}

-- ---- records written behind a list, one after the other
abbrev Kept : List ℕ → Type 0
Kept s = first_bad (pending_ok 16 s) (places s) ≡ None

module _ (labels names : List ℕ) where
  -- one word
  record After (old : List ℕ) (origin : Origin) (w : Option InstructionLabel) : Type 0 where
    keeps : Kept (old ++ pair_bytes names origin w)
    uses_are : uses_of labels (old ++ pair_bytes names origin w) ≡ pair_use labels names w (length (places old)) (uses_of labels old)
    number_is : length (places (old ++ pair_bytes names origin w)) ≡ next_number w (length (places old))

  after_word : (old : List ℕ) (origin : Origin) (w : Option InstructionLabel) → Kept old → OriginFits 16 origin → origin.offset < 2 ^ 32 → PairFits names w → After old origin w
  after_word old origin None kept fits o h =
      let e : old ++ [] ≡ old = append-nil old in
      record { keeps = subst Kept (sym e) kept; uses_are = ap (uses_of labels) e; number_is = ap (λ (s : List ℕ). length (places s)) e }
  after_word old origin (Some waits) kept fits o h =
      let w = written_behind 16 old names origin waits kept fits.region_ok (record { region_fits = fits.region_fits; offset_fits = o; location_fits = fits.location_fits; label_fits = h }) in
      let new = old ++ pending_bytes names origin waits in
      record {
        keeps = w.keeps;
        uses_are = uses_written labels 16 old new (length old) names origin waits w;
        number_is = ap length w.places_are ∙ length-append (places old) (length old ∷ []);
      }

  pub uses_line : (old : List ℕ) (origin : Origin) (ps : List InstructionPair) → first_bad (pending_ok 16 old) (places old) ≡ None → OriginFits 16 origin → origin.offset + 4 * length ps ≤ 2 ^ 32 → PairsFit names ps
      → uses_of labels (old ++ pendings_bytes names origin ps) ≡ line_uses labels names (length (places old)) ps (uses_of labels old)
  unfolding pendings_bytes line_uses
  uses_line old origin [] kept fits o h = ap (uses_of labels) (append-nil old)
  uses_line old origin (p ∷ ps) kept fits o h =
      let b = pair_bytes names origin p.label in
      let a = after_word old origin p.label kept fits (omega arith) h.0 in
      ap (uses_of labels) (sym (append_assoc old b (pendings_bytes names (onward origin) ps)))
      ∙ uses_line (old ++ b) (onward origin) ps a.keeps (record { region_ok = fits.region_ok; region_fits = fits.region_fits; location_fits = fits.location_fits }) (omega arith) h.1
      ∙ ap₂ (λ (n : ℕ) (us : List Use). line_uses labels names n ps us) a.number_is a.uses_are

-- ---- a call whose line was made
module _ (job : Job) (c : Call) (read : LineRead) (words : EmitInstruction) (made : read.answer ≡ Ok words) where
  words_made : (line : Line) → LineMade line read → line.pairs ≡ pairs_of words
  words_made line l = sym (subst (MadeAs line) made l.0).1.pairs_are

  -- its words are the call's
  pub pairs_read : (o : Option Line) → call_made job c ≡ o → LineFor o true read → call_pairs job c ≡ pairs_of words
  unfolding call_pairs
  pairs_read (Some line) e l = ap line_pairs e ∙ words_made line l.1
  pairs_read None e l = never (cc)

-- ---- an accepted call
module _ (job : Job) (c : Call) (read : LineRead) (position : ℕ) (loaded : LoadForm) (done : (emit_outcome job c).answer ≡ done_at position loaded) where
  abbrev at : Location
  at = mnemonic_location c.mnemonic

  abbrev stop : Verdict
  stop = list_stop c.token_list c.mnemonic c.descriptors c.lent c.numbers.place.region c.numbers.counts

  lists_pass : (v : Verdict) → stop ≡ v → stop ≡ Ok tt
  lists_pass (Ok u) e = e
  lists_pass (Err r) e =
      let n = sym (ap (λ (o : EmitOutcome). o.answer) (by_lists job c e)) ∙ done in
      let z : ◌≡◌ {A = ℕ} 0 1 = cc in
      absurd (omega arith)

  module _ (line : Line) (made : LineMade line read) (is : emit_outcome job c ≡ line_outcome c.token_list at c.numbers c.lent line) where
    line_done : (line_outcome c.token_list at c.numbers c.lent (made_line read)).answer ≡ done_at position loaded
    line_done = sym (ap (λ (o : EmitOutcome). o.answer) (is ∙ made_outcome c.token_list at c.numbers c.lent line read.answer read.position made.0 made.1)) ∙ done

    words_are : line.pairs ≡ (made_line read).pairs
    words_are = made_pairs c.token_list at c.numbers c.lent line read.answer read.position made.0 line_done

  -- The line is accepted, so the words of the line that was read are the call's.
  accepted_read : (o : Option Line) → call_made job c ≡ o → LineFor o true read → call_pairs job c ≡ (made_line read).pairs
  unfolding call_pairs
  accepted_read (Some line) e l = ap line_pairs e ∙ words_are line l.1 (by_line job c (lists_pass stop refl) e)
  accepted_read None e l = never (cc)

  pub new_index_lem : (labels : List ℕ) → Bytes c.token_list → Bytes c.mnemonic
      → LineFor (call_made job c) true read
      → index_of labels (filled_pending (emit_outcome job c).lent (emit_outcome job c).counts) ≡ new_index labels c.token_list (filled_pending c.lent c.numbers.counts) (made_line read).pairs
  unfolding index_of
  new_index_lem labels tb mb l =
      let a = accepted job c position loaded tb done in
      let old = filled_pending c.lent c.numbers.counts in
      let ps = a.made.pairs in
      let same : ps ≡ (made_line read).pairs = a.pairs_are ∙ accepted_read (call_made job c) refl l in
      ap uses_bytes (ap (λ (o : EmitOutcome). uses_of labels (filled_pending o.lent o.counts)) a.outcome_is
      ∙ ap (uses_of labels) (pending_is job c a mb)
      ∙ uses_line labels c.token_list old (call_origin c) ps (pending_kept job c a mb) (origin_fits job c a mb) (offsets_fit job c a mb) a.words.fit
      ∙ ap (λ (qs : List InstructionPair). line_uses labels c.token_list (length (places old)) qs (uses_of labels old)) same)

-- ---- the uses of the list are those that a right index holds
pub part_bytes : (n : ℕ) (s : List ℕ) → AllBytes s → AllBytes (take n s)
part_bytes n s b i = go (ltb i n) refl
  where
    go : (t : Bool) → ltb i n ≡ t → get_or (take n s) i 0 < 256
    go true t = omega (arith, b i, get_or-take n s i 0 (ltb-true i n t))
    go false t = omega (arith, past (take n s) i (omega (arith, ltb-false i n t, length-take n s)))
      where
        past : (l : List ℕ) (j : ℕ) → length l ≤ j → get_or l j 0 ≡ 0
        past [] j h = refl
        past (x ∷ l) zero h = absurd (omega arith)
        past (x ∷ l) (suc j) h = past l j (omega arith)

pub index_held : (labels old index : List ℕ) (fill : ℕ) → AllBytes labels → AllBytes old → index_layout labels old fill index ≡ None → IndexIn index fill (uses_of labels old)
unfolding index_of
index_held labels old index fill lb ob g =
    let i = index_is labels old fill index g in
    record { holds = record { filled = i.bytes; within = i.filled }; limited = i.room; owners = owners_fit labels old lb ob }

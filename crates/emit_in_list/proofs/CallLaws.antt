-- What an emit call does to its data buffer: it appends words, or nothing. Assumes nothing.
use Rattle.std.specs.Prelude.{ℕ, ◌+◌, ◌-◌, ◌*◌, ◌≤◌, Bool, ◌&&◌, List, [], eqb, Err, None, Ok, Option, Some}
use Rattle.std.proofs.Common.{arith, sym, ap, ap₂, ◌∙◌}
use Rattle.std.proofs.Math.Bool.{true, false, and-eq-true_iff}
use Rattle.std.proofs.Math.Path.{◌≡◌, refl}
use Rattle.std.proofs.Math.ListN.{length}
use Rattle.std.proofs.Math.Dec.{leb}
use borrow.Author.Tests.{leb-true}
use Rattle.jobs.specs.declared.Job.{Job}
use Rattle.record.specs.Bytes.{part}
use Rattle.record.specs.Stores.{append}
use Rattle.record.proofs.StoresLaws.{append_none}
use Rattle.record.specs.declared.Location.{Location}
use Rattle.record_growth.proofs.PutLaws.{part_in}
use Rattle.refusal.proofs.VerdictsLaws.{both_pass}
use Rattle.refusal.specs.declared.Refusal.{Refusal}
use Rattle.refusal.specs.declared.Refusal.TheVariants.{UnknownInstruction, NoSpace, MissingRegion}
use Rattle.descriptors.specs.Mnemonics.{mnemonic_location}
use Rattle.emit_pairs.specs.declared.InstructionPair.{InstructionPair}
use Rattle.emit_bytes.specs.Appended.{word_bytes}
use Rattle.emit_bytes.proofs.AppendedLaws.{words_length}
use Rattle.emit_dispatch.specs.Lines.{Line}
use Rattle.emit_checks.proofs.RoomLaws.{line_room}
use Rattle.loading.specs.declared.LoadForm.{LoadForm}
use Rattle.emit_outcome.specs.declared.FillCounts.{FillCounts}
use Rattle.emit_outcome.specs.declared.LineNumbers.{LineNumbers}
use Rattle.emit_outcome.specs.Answer.{EmitAnswer, done_at, refused_at}
use Rattle.emit_outcome.specs.Call.{Lent, Call, EmitOutcome}
use Rattle.emit_outcome.specs.Checks.{list_stop}
use Rattle.emit_outcome.specs.Room.{no_region, most_data, region_stop, edge_stop, space_stop, room_stop}
use Rattle.emit_outcome.specs.Emit.{refuse, line_stop, accept_or, line_outcome, call_made, line_or_unknown, list_outcome, emit_outcome}
use Rattle.patching_outcome.specs.Line.{new_words}
use Rattle.refusal.specs.Verdicts.{Verdict}

-- An accepted line has a selected region, and the region's data does not exceed its limit.
pub data Told (region : ℕ) (counts : FillCounts) : EmitAnswer → Type 0 where
  told_done : (i : ℕ) (f : LoadForm) → eqb region no_region ≡ false → counts.data_len ≤ most_data → Told region counts (done_at i f)
  told_refused : (r : Refusal) (i : ℕ) → Told region counts (refused_at r i)

pub record Appends (region : ℕ) (before : FillCounts) (lent : Lent) (o : EmitOutcome) : Type 0 where
  pub words : List ℕ
  pub data_is : o.lent.region_data ≡ append lent.region_data before.data_len words
  pub count_is : o.counts.data_len ≡ before.data_len + length words
  pub room : before.data_len + length words ≤ length lent.region_data
  pub told : Told region o.counts o.answer

refuse_appends : (region : ℕ) (counts : FillCounts) (lent : Lent) (position : ℕ) (r : Refusal) → counts.data_len ≤ length lent.region_data
    → Appends region counts lent (refuse counts lent position r)
refuse_appends region counts lent position r h =
    record { words = []; data_is = append_none lent.region_data counts.data_len; count_is = omega arith; room = omega arith; told = told_refused r position }

module _ (token_list : List ℕ) (line : Location) (numbers : LineNumbers) (lent : Lent) where
  room_told : (pairs : List InstructionPair) → room_stop token_list line numbers lent pairs ≡ Ok tt → let filled = numbers.counts.data_len + 4 * length pairs in
      (eqb numbers.place.region no_region ≡ false) × (filled ≤ length lent.region_data) × (filled ≤ most_data)
  unfolding room_stop
  room_told pairs e =
      let filled = numbers.counts.data_len + 4 * length pairs in
      let b₀ = both_pass (region_stop line numbers.place.region) _ e in
      let b₁ = both_pass (edge_stop line numbers.place.address (length pairs) numbers.counts.data_len) _ b₀.1 in
      let b₂ = both_pass (space_stop line 0 (leb filled (length lent.region_data) && leb filled most_data)) _ b₁.1 in
      let f = (and-eq-true_iff (leb filled (length lent.region_data)) (leb filled most_data)).0 (fits (leb filled (length lent.region_data) && leb filled most_data) b₂.0) in
      (selected (eqb numbers.place.region no_region) b₀.0, leb-true filled (length lent.region_data) f.0, leb-true filled most_data f.1)
    where
      selected : (b : Bool) → ◌≡◌ {A = Verdict} (elim b [ true ↦ Err (MissingRegion line) | false ↦ Ok tt ]) (Ok tt) → b ≡ false
      selected true x = let z : ◌≡◌ {A = ℕ} 0 1 = cc in absurd (omega arith)
      selected false x = refl

      fits : (b : Bool) → ◌≡◌ {A = Verdict} (elim b [ true ↦ Ok tt | false ↦ Err (NoSpace line 0) ]) (Ok tt) → b ≡ true
      fits true x = refl
      fits false x = let z : ◌≡◌ {A = ℕ} 0 1 = cc in absurd (omega arith)

  module _ (made : Line) (inside : numbers.counts.data_len ≤ length lent.region_data) where
    verdict_appends : (v : Verdict) → line_stop token_list line numbers lent made ≡ v → Appends numbers.place.region numbers.counts lent (accept_or token_list line numbers lent made v)
    verdict_appends (Err r) e = refuse_appends numbers.place.region numbers.counts lent made.index r inside
    verdict_appends (Ok tt) e =
        let t = room_told made.pairs (line_room token_list line numbers lent made e) in
        let l = words_length made.pairs in
        record {
          words = word_bytes made.pairs;
          data_is = refl;
          count_is = ap (λ (n : ℕ). numbers.counts.data_len + n) (sym l);
          room = omega (arith, t, l);
          told = told_done made.index made.form t.0 t.2;
        }

    line_appends : Appends numbers.place.region numbers.counts lent (line_outcome token_list line numbers lent made)
    unfolding line_outcome
    line_appends = verdict_appends (line_stop token_list line numbers lent made) refl

module _ (job : Job) (c : Call) (inside : c.numbers.counts.data_len ≤ length c.lent.region_data) where
  made_appends : (o : Option Line) → Appends c.numbers.place.region c.numbers.counts c.lent (line_or_unknown c o)
  made_appends (Some made) = line_appends c.token_list (mnemonic_location c.mnemonic) c.numbers c.lent made inside
  made_appends None = refuse_appends c.numbers.place.region c.numbers.counts c.lent c.numbers.place.position (UnknownInstruction (mnemonic_location c.mnemonic)) inside

  list_appends : (v : Verdict) → Appends c.numbers.place.region c.numbers.counts c.lent (list_outcome job c v)
  list_appends (Err r) = refuse_appends c.numbers.place.region c.numbers.counts c.lent c.numbers.place.position r inside
  list_appends (Ok tt) = made_appends (call_made job c)

  -- Every call appends words in this sense, or nothing.
  pub appends : Appends c.numbers.place.region c.numbers.counts c.lent (emit_outcome job c)
  unfolding emit_outcome
  appends = list_appends (list_stop c.token_list c.mnemonic c.descriptors c.lent c.numbers.place.region c.numbers.counts)

-- the words, read back
pub words_are : (region : ℕ) (before : FillCounts) (lent : Lent) (o : EmitOutcome) (h : Appends region before lent o) → new_words before.data_len o ≡ h.words
words_are region before lent o h =
    let n : o.counts.data_len - before.data_len ≡ length h.words = omega (arith, h.count_is) in
    ap₂ (λ (s : List ℕ) (k : ℕ). part s before.data_len k) h.data_is n
    ∙ part_in lent.region_data before.data_len h.words h.room

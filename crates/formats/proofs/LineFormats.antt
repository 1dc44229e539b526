-- The formats of all words of a line: those that load its constant, and those of its own instructions. Assumes nothing.
use Rattle.std.specs.Prelude.{ℕ, ◌≡◌, true, false, List, [], ◌∷◌, ◌++◌, eqb, Option, None, Some}
use Rattle.jobs.specs.declared.Job.{Job}
use Rattle.registers.specs.Numbers.{register_number}
use Rattle.loading.specs.Load.{upper_half, lower_half, is_small}
use Rattle.operand.specs.Answers.{Answer, Got}
use Rattle.operand_list.specs.OperandLists.{AskedAll}
use Rattle.formats.proofs.Formats.{Format, immediate, InFormats}
use Rattle.formats.specs.Operations.{Operation, encoded, pseudo, wants_of, loads_of}
use Rattle.emit_dispatch.specs.LineLoads.{LoadedConstant, loading_words}
use Rattle.formats.proofs.EncodingFormats.{encoding_formats}
use Rattle.formats.proofs.PseudoFormats.{pseudo_formats}

-- "Read signed, -32,768 to 32,767 gives addiu. Otherwise lui if the upper half is nonzero, then ori if the lower is."
-- "A loading word's t is the chosen register, its s $zero, or t for ori after lui, its n the upper half for lui and else the lower."
module _ (c t : ℕ) where
  abbrev pub lui_formats : List Format
  lui_formats = elim (eqb (upper_half c) 0) [ true ↦ [] | false ↦ immediate 15 0 t (upper_half c) ∷ [] ]

  abbrev pub ori_formats : List Format
  ori_formats =
      let s : ℕ = elim (eqb (upper_half c) 0) [ true ↦ 0 | false ↦ t ] in
      elim (eqb (lower_half c) 0) [ true ↦ [] | false ↦ immediate 13 s t (lower_half c) ∷ [] ]

  abbrev pub load_formats : List Format
  load_formats = elim (is_small c) [ true ↦ immediate 9 0 t (lower_half c) ∷ [] | false ↦ lui_formats ++ ori_formats ]

abbrev pub loading_formats : Option LoadedConstant → List Format
loading_formats None = []
loading_formats (Some l) = load_formats l.constant (register_number l.register)

-- the line's own instructions
abbrev pub own_formats : Job → (o : Operation) → AskedAll (wants_of o) → List Format
own_formats job (encoded e op) x = encoding_formats job e op x
own_formats job (pseudo p) x = pseudo_formats job p x

abbrev pub line_formats : Job → (o : Operation) → AskedAll (wants_of o) → List Format
line_formats job o x = loading_formats (loads_of o x) ++ own_formats job o x

-- The words that load a constant, if there is one, and behind them words in exactly these formats.
pub record LoadThen (loaded : Option LoadedConstant) (own : List Format) (ws : List ℕ) : Type 0 where
  pub rest : List ℕ
  pub words_are : ws ≡ loading_words loaded ++ rest
  pub rest_has : InFormats rest own

-- For a line whose operands were read: what its words are, and the format of each.
pub record LineWords (job : Job) (o : Operation) (read : Answer (AskedAll (wants_of o))) (ws : List ℕ) : Type 0 where
  pub operands : AskedAll (wants_of o)
  pub operands_are : read ≡ Got operands
  pub loads : LoadThen (loads_of o operands) (own_formats job o operands) ws
  pub formats : InFormats ws (line_formats job o operands)

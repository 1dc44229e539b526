-- The walk, by what is done with the next token: one equation for each arm of a loop. Assumes nothing.
use Rattle.std.specs.Prelude.{ℕ, List, ◌∷◌, ◌++◌, Bool, ◌||◌, ◌≡◌}
use Rattle.std.proofs.Math.Bool.{true, false}
use Rattle.std.proofs.Math.Path.{refl}
use Rattle.record.specs.Bytes.{location_at}
use Rattle.lexer.specs.Tokens.{text_of}
use Rattle.line_heads.specs.Lines.{is_comment, is_symbol, is_new_line, starts_colon}
use Rattle.macros.specs.Macros.{Macro}
use Rattle.written_out.specs.Written.{Step, write, Called, no_macro, macro, Replacing, arguments, called}
use Rattle.written_out.specs.declared.Mode.{Mode}
use Rattle.written_out.specs.declared.Mode.TheVariants.{Leading, Labelled, Copied, LeftOut}
use Rattle.written_out.specs.Walk.{line_of, walk, walk_call}
use Rattle.written_out.specs.Acts.{Act, act_by_name, leading_of, act_of, write_on, pass, call}

module _ (replace : Replacing) (macros : List Macro) (t : List ℕ) (ts : List (List ℕ)) where
  abbrev pub by_act : Act → List Step
  by_act (write_on mode) = write t ∷ walk replace macros mode ts
  by_act pass = walk replace macros LeftOut ts
  by_act (call m above) = replace (location_at t 4) m above (arguments (line_of ts)) ++ walk replace macros LeftOut ts

  named : (c : Called) → walk_call replace macros c t (line_of ts) (walk replace macros Copied ts) (walk replace macros LeftOut ts) ≡ by_act (act_by_name c)
  named no_macro = refl
  named (macro m above) = refl

  pub walk_act : (mode : Mode) → walk replace macros mode (t ∷ ts) ≡ by_act (act_of macros mode t ts)
  unfolding walk act_of
  walk_act Leading = go (is_new_line t || is_comment t) refl (is_symbol t) refl (starts_colon ts) refl
    where
      go : (b : Bool) → (is_new_line t || is_comment t) ≡ b → (c : Bool) → is_symbol t ≡ c → (d : Bool) → starts_colon ts ≡ d
          → walk replace macros Leading (t ∷ ts) ≡ by_act (act_of macros Leading t ts)
      go true eb c ec d ed = rw (eb, walk, act_of, leading_of)
      go false eb false ec d ed = rw (eb, walk, act_of, leading_of) (rw (ec, walk, act_of, leading_of))
      go false eb true ec true ed = rw (eb, walk, act_of, leading_of) (rw (ec, walk, act_of, leading_of) (rw (ed, walk, act_of, leading_of)))
      go false eb true ec false ed = rw (eb, walk, act_of, leading_of) (rw (ec, walk, act_of, leading_of) (rw (ed, walk, act_of, leading_of) (named (called (text_of t 0) macros))))
  walk_act Labelled = refl
  walk_act Copied = go (is_new_line t) refl
    where
      go : (b : Bool) → is_new_line t ≡ b → walk replace macros Copied (t ∷ ts) ≡ by_act (act_of macros Copied t ts)
      go true e = rw (e, walk, act_of)
      go false e = rw (e, walk, act_of)
  walk_act LeftOut = go (is_new_line t) refl
    where
      go : (b : Bool) → is_new_line t ≡ b → walk replace macros LeftOut (t ∷ ts) ≡ by_act (act_of macros LeftOut t ts)
      go true e = rw (e, walk, act_of)
      go false e = rw (e, walk, act_of)

-- What `load_immediate` promises. Assumes nothing.
use Rattle.std.specs.Prelude.{◌≡◌, List, [], ◌∷◌, ◌++◌, ℕ, length, take}
use Rattle.loading.specs.declared.LoadForm.{LoadForm}
use Rattle.loading.specs.Load.{low32, form_of, load_words}
use Rattle.loading.specs.Run.{Registers, write_register, ran, run}

-- the list filled up to two words with 0
abbrev pub padded : List ℕ → List ℕ
padded ws = take 2 (ws ++ 0 ∷ 0 ∷ [])

-- what `load_immediate` returns for the constant c and the register t: the words, their count and their form
pub record LoadedIs (c t : ℕ) (words : List ℕ) (count : ℕ) (form : LoadForm) : Type 0 where
  pub words_are : words ≡ padded (load_words c t)
  pub count_is : count ≡ length (load_words c t)
  pub form_is : form ≡ form_of c
  -- demand 3: whatever the registers held, the words leave the low 32 bits in t, unless t is $zero, and alter no other register
  pub runs : (g : Registers) → length g ≡ 32 → run (take count words) g ≡ ran (write_register g t (low32 c))

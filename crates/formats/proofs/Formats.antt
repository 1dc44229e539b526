-- The instruction formats of MIPS32 Architecture For Programmers, Volume II: what is read at which bits of a word. Assumes nothing.
use Rattle.std.specs.Prelude.{ℕ, ◌^◌, ◌<◌, ◌≡◌, List, [], ◌∷◌}
use Rattle.field.specs.Field.{get_field}

-- ---- the formats: get_field w n k is the k bits of w from bit n up

pub record RegisterFormat (w opcode rs rt rd sa function : ℕ) : Type 0 where
  pub opcode_is : get_field w 26 6 ≡ opcode
  pub rs_is : get_field w 21 5 ≡ rs
  pub rt_is : get_field w 16 5 ≡ rt
  pub rd_is : get_field w 11 5 ≡ rd
  pub sa_is : get_field w 6 5 ≡ sa
  pub function_is : get_field w 0 6 ≡ function

pub record ImmediateFormat (w opcode rs rt immediate : ℕ) : Type 0 where
  pub opcode_is : get_field w 26 6 ≡ opcode
  pub rs_is : get_field w 21 5 ≡ rs
  pub rt_is : get_field w 16 5 ≡ rt
  pub immediate_is : get_field w 0 16 ≡ immediate

pub record JumpFormat (w opcode target : ℕ) : Type 0 where
  pub opcode_is : get_field w 26 6 ≡ opcode
  pub target_is : get_field w 0 26 ≡ target

pub record FloatFormat (w opcode fmt ft fs fd function : ℕ) : Type 0 where
  pub opcode_is : get_field w 26 6 ≡ opcode
  pub fmt_is : get_field w 21 5 ≡ fmt
  pub ft_is : get_field w 16 5 ≡ ft
  pub fs_is : get_field w 11 5 ≡ fs
  pub fd_is : get_field w 6 5 ≡ fd
  pub function_is : get_field w 0 6 ≡ function

-- MOVF.fmt, MOVT.fmt
pub record FloatMoveFormat (w opcode fmt cc tf fs fd function : ℕ) : Type 0 where
  pub opcode_is : get_field w 26 6 ≡ opcode
  pub fmt_is : get_field w 21 5 ≡ fmt
  pub cc_is : get_field w 18 3 ≡ cc
  pub zero_is : get_field w 17 1 ≡ 0
  pub tf_is : get_field w 16 1 ≡ tf
  pub fs_is : get_field w 11 5 ≡ fs
  pub fd_is : get_field w 6 5 ≡ fd
  pub function_is : get_field w 0 6 ≡ function

-- C.cond.fmt: the function is FC and cond together
pub record FloatCondFormat (w opcode fmt ft fs cc function : ℕ) : Type 0 where
  pub opcode_is : get_field w 26 6 ≡ opcode
  pub fmt_is : get_field w 21 5 ≡ fmt
  pub ft_is : get_field w 16 5 ≡ ft
  pub fs_is : get_field w 11 5 ≡ fs
  pub cc_is : get_field w 8 3 ≡ cc
  pub zero_is : get_field w 6 2 ≡ 0
  pub function_is : get_field w 0 6 ≡ function

-- MFC1, MTC1: the number in the bits of rs says which of the two it is. The manual has 0 below fs.
pub record FloatCrossFormat (w opcode sub rt fs below : ℕ) : Type 0 where
  pub opcode_is : get_field w 26 6 ≡ opcode
  pub sub_is : get_field w 21 5 ≡ sub
  pub rt_is : get_field w 16 5 ≡ rt
  pub fs_is : get_field w 11 5 ≡ fs
  pub below_is : get_field w 0 11 ≡ below

-- BC1F, BC1T
pub record FloatBranchFormat (w opcode sub cc tf offset : ℕ) : Type 0 where
  pub opcode_is : get_field w 26 6 ≡ opcode
  pub sub_is : get_field w 21 5 ≡ sub
  pub cc_is : get_field w 18 3 ≡ cc
  pub nd_is : get_field w 17 1 ≡ 0
  pub tf_is : get_field w 16 1 ≡ tf
  pub offset_is : get_field w 0 16 ≡ offset

-- ---- a format with what its fields hold, in the order of the bits from 31 down

pub data Format : Type 0 where
  register : (opcode rs rt rd sa function : ℕ) → Format
  immediate : (opcode rs rt immediate : ℕ) → Format
  jump : (opcode target : ℕ) → Format
  float : (opcode fmt ft fs fd function : ℕ) → Format
  float_move : (opcode fmt cc tf fs fd function : ℕ) → Format
  float_cond : (opcode fmt ft fs cc function : ℕ) → Format
  float_cross : (opcode sub rt fs below : ℕ) → Format
  float_branch : (opcode sub cc tf offset : ℕ) → Format

abbrev pub Reads : ℕ → Format → Type 0
Reads w (register opcode rs rt rd sa function) = RegisterFormat w opcode rs rt rd sa function
Reads w (immediate opcode rs rt n) = ImmediateFormat w opcode rs rt n
Reads w (jump opcode target) = JumpFormat w opcode target
Reads w (float opcode fmt ft fs fd function) = FloatFormat w opcode fmt ft fs fd function
Reads w (float_move opcode fmt cc tf fs fd function) = FloatMoveFormat w opcode fmt cc tf fs fd function
Reads w (float_cond opcode fmt ft fs cc function) = FloatCondFormat w opcode fmt ft fs cc function
Reads w (float_cross opcode sub rt fs below) = FloatCrossFormat w opcode sub rt fs below
Reads w (float_branch opcode sub cc tf offset) = FloatBranchFormat w opcode sub cc tf offset

-- 32 bits with these fields
pub record Has (w : ℕ) (f : Format) : Type 0 where
  pub word : w < 2 ^ 32
  pub reads : Reads w f

-- words and formats, one for one
pub data InFormats : List ℕ → List Format → Type 0 where
  no_words : InFormats [] []
  first : {w : ℕ} {f : Format} {ws : List ℕ} {fs : List Format} → Has w f → InFormats ws fs → InFormats (w ∷ ws) (f ∷ fs)

-- Record lists for statements about single calls, written as document 01 lays them out. Assumes nothing.
use Rattle.std.specs.Prelude.{ℕ, zero, suc, ◌+◌, ◌-◌, ◌*◌, List, [], ◌∷◌, ◌++◌, length}
use Rattle.record.specs.Stores.{le16_bytes, le32_bytes, le64_bytes, record_bytes}
use Rattle.breakpoints.specs.BreakpointBytes.{pcs_from}
use Rattle.loading.specs.declared.LoadForm.{LoadForm}
use Rattle.emit_outcome.specs.Answer.{done_at}
use Rattle.emit_outcome.specs.Call.{Call, EmitOutcome}

-- a location of zeros
abbrev pub here : List ℕ
here = le64_bytes 0

-- ---- tokens, by kind
abbrev pub register : ℕ → List ℕ
register r = record_bytes 3 (here ++ r ∷ [])

abbrev pub fp_register : ℕ → List ℕ
fp_register r = record_bytes 4 (here ++ r ∷ [])

abbrev pub symbol : List ℕ → List ℕ
symbol name = record_bytes 8 (here ++ name)

abbrev pub integer : ℕ → List ℕ
integer n = record_bytes 5 (here ++ le64_bytes n)

abbrev pub minus : List ℕ
minus = record_bytes 10 here

abbrev pub comma : List ℕ
comma = record_bytes 11 here

abbrev pub left_brace : List ℕ
left_brace = record_bytes 14 here

abbrev pub right_brace : List ℕ
right_brace = record_bytes 15 here

-- ---- mnemonic and descriptor; names are ASCII
abbrev pub «addu» : List ℕ
«addu» = 97 ∷ 100 ∷ 100 ∷ 117 ∷ []

abbrev pub «li» : List ℕ
«li» = 108 ∷ 105 ∷ []

abbrev pub «lw» : List ℕ
«lw» = 108 ∷ 119 ∷ []

abbrev pub «abs» : List ℕ
«abs» = 97 ∷ 98 ∷ 115 ∷ []

abbrev pub «sll» : List ℕ
«sll» = 115 ∷ 108 ∷ 108 ∷ []

abbrev pub cvt_sw : List ℕ
cvt_sw = 99 ∷ 118 ∷ 116 ∷ 46 ∷ 115 ∷ 46 ∷ 119 ∷ []

abbrev pub «bc1t» : List ℕ
«bc1t» = 98 ∷ 99 ∷ 49 ∷ 116 ∷ []

abbrev pub «jr» : List ℕ
«jr» = 106 ∷ 114 ∷ []

abbrev pub «mflo» : List ℕ
«mflo» = 109 ∷ 102 ∷ 108 ∷ 111 ∷ []

abbrev pub «mult» : List ℕ
«mult» = 109 ∷ 117 ∷ 108 ∷ 116 ∷ []

abbrev pub «addi» : List ℕ
«addi» = 97 ∷ 100 ∷ 100 ∷ 105 ∷ []

abbrev pub mnemonic : List ℕ → List ℕ
mnemonic name = record_bytes 32 (here ++ name)

-- class, key, encoding, size and flag, without an alternative
abbrev pub float_descriptor : (class key encoding size flag : ℕ) → List ℕ → List ℕ
float_descriptor class key encoding size flag name = record_bytes 33 (class ∷ key ∷ encoding ∷ size ∷ flag ∷ 0 ∷ 0 ∷ 0 ∷ name)

-- class, key and encoding; the other fields are 0
abbrev pub descriptor : (class key encoding : ℕ) → List ℕ → List ℕ
descriptor class key encoding name = float_descriptor class key encoding 0 0 name

-- an Immediate descriptor: class and key of its opcode, and of its alternative
abbrev pub either_descriptor : (class key alt_class alt_key : ℕ) → List ℕ → List ℕ
either_descriptor class key alt_class alt_key name = record_bytes 33 (class ∷ key ∷ 7 ∷ 0 ∷ 0 ∷ 1 ∷ alt_class ∷ alt_key ∷ name)

abbrev pub zeros : ℕ → List ℕ
zeros zero = []
zeros (suc n) = 0 ∷ zeros n

-- a line in a region at 0x00400000, with empty buffers that have room for it
abbrev pub line_in : (region : ℕ) → (name descriptors tokens : List ℕ) → Call
line_in region name descriptors tokens = record {
  token_list = tokens;
  mnemonic = mnemonic name;
  descriptors = descriptors;
  lent = record { region_data = zeros 20; pending = []; breakpoints = zeros 32 };
  numbers = record {
    counts = record { data_len = 0; pending = 0; breakpoints = 0 };
    place = record { position = 0; region = region; address = 0x00400000 };
  };
}

-- the same in region 0
abbrev pub line : (name descriptors tokens : List ℕ) → Call
line name descriptors tokens = line_in 0 name descriptors tokens

-- ---- what an accepted line leaves in these buffers

-- words, "each four little-endian bytes"
unfoldable pub as_bytes : List ℕ → List ℕ
as_bytes [] = []
as_bytes (w ∷ ws) = le32_bytes w ++ as_bytes ws

-- the position after the line, the form of its constant, its words in the data, no pending, and one breakpoint
abbrev pub emits : (position : ℕ) → LoadForm → List ℕ → EmitOutcome
emits position loaded words =
    let n = length words in
    record {
      answer = done_at position loaded;
      counts = record { data_len = 4 * n; pending = 0; breakpoints = 12 + 4 * n };
      lent = record {
        region_data = as_bytes words ++ zeros (20 - 4 * n);
        pending = [];
        breakpoints = record_bytes 37 (here ++ as_bytes (pcs_from n 0x00400000)) ++ zeros (20 - 4 * n);
      };
    }

-- ---- a build: one region of one word, and one pending at its start that waits for a constant
abbrev pub region : (address word : ℕ) → List ℕ
region address word = record_bytes 35 (le32_bytes address ++ le32_bytes word)

abbrev pub patch : (kind destination : ℕ) → List ℕ
patch kind destination = record_bytes 36 (le16_bytes 0 ++ le32_bytes 0 ++ here ++ kind ∷ 0 ∷ le64_bytes destination ++ here)

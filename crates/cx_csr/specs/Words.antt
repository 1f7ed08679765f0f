-- A state as its 58 words, and the state that 58 words stand for.
use Rattle.std.specs.Prelude.{ℕ, zero, suc, ◌+◌, ◌*◌, ◌/◌, ◌%◌, ◌^◌, List, [], ◌∷◌, ◌++◌, take, drop, slice_index}
use Rattle.std.specs.Prelude.{Option, None, Some}
use Rattle.cx_csr.specs.declared.state.State.{State}
use Rattle.cx_csr.specs.declared.state.CsrFile.{CsrFile}

-- a number of 64 bits as two words, the low one first
abbrev pub halves : ℕ → List ℕ
halves n = n % 2 ^ 32 ∷ n / 2 ^ 32 ∷ []

-- whether a word is reserved, and its place
abbrev pub reservation_words : Option ℕ → List ℕ
reservation_words None = 0 ∷ 0 ∷ []
reservation_words (Some place) = 1 ∷ place ∷ []

abbrev pub csr_words : CsrFile → List ℕ
csr_words c =
    (c.mstatus ∷ c.medeleg ∷ c.mideleg ∷ c.mie ∷ c.mip ∷ [])
    ++ (c.mtvec ∷ c.mcounteren ∷ c.mscratch ∷ c.mepc ∷ c.mcause ∷ c.mtval ∷ [])
    ++ (c.stvec ∷ c.scounteren ∷ c.sscratch ∷ c.sepc ∷ c.scause ∷ c.stval ∷ c.satp ∷ [])
    ++ halves c.mcycle
    ++ halves c.minstret

-- the words from the mode on
abbrev pub rest_words : State → List ℕ
rest_words s = (s.mode ∷ csr_words s.csr) ++ reservation_words s.reservation ++ s.lines.0 ∷ []

-- register 0 is always 0 and has no word
unfoldable pub words_of : State → List ℕ
words_of s = (s.pc ∷ drop 1 s.x) ++ rest_words s

-- a number of 64 bits from its halves
abbrev pub from_halves : ℕ → ℕ → ℕ
from_halves low high = low + high * 2 ^ 32

abbrev pub reservation_of : ℕ → ℕ → Option ℕ
reservation_of zero place = None
reservation_of (suc flag) place = Some place

abbrev pub csr_of : List ℕ → CsrFile
csr_of words = record {
  mstatus = slice_index words 33;
  medeleg = slice_index words 34;
  mideleg = slice_index words 35;
  mie = slice_index words 36;
  mip = slice_index words 37;
  mtvec = slice_index words 38;
  mcounteren = slice_index words 39;
  mscratch = slice_index words 40;
  mepc = slice_index words 41;
  mcause = slice_index words 42;
  mtval = slice_index words 43;
  stvec = slice_index words 44;
  scounteren = slice_index words 45;
  sscratch = slice_index words 46;
  sepc = slice_index words 47;
  scause = slice_index words 48;
  stval = slice_index words 49;
  satp = slice_index words 50;
  mcycle = from_halves (slice_index words 51) (slice_index words 52);
  minstret = from_halves (slice_index words 53) (slice_index words 54);
}

unfoldable pub state_of : List ℕ → State
state_of words = record {
  pc = slice_index words 0;
  x = 0 ∷ take 31 (drop 1 words);
  mode = slice_index words 32;
  csr = csr_of words;
  reservation = reservation_of (slice_index words 55) (slice_index words 56);
  lines = record { 0 = slice_index words 57 };
}

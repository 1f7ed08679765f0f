-- The lines that tell of steps, states, observations and roots. Numbers are decimal and words have eight hexadecimal
-- digits; a space stands between two parts, and a newline, 10, at the end.
use Rattle.std.specs.Prelude.{ℕ, List, [], ◌∷◌, ◌++◌, take, Option, None, Some, codes}
use Rattle.std.specs.Fmt.{decimal}
use Rattle.std.specs.Int.{w32, from_le_bytes}
use Rattle.cx_csr.specs.declared.state.State.{State}
use Rattle.cx_csr.specs.Words.{words_of}
use Rattle.cx_hart.specs.declared.record.Ended.{Ended}
use Rattle.cx_hart.specs.declared.record.Ended.TheVariants.{Interrupt, Retired, Trap}
use Rattle.cx_hart.specs.declared.record.StepRec.{StepRec}
use Rattle.cx_hart.specs.declared.record.Touch.{Touch}
use Rattle.cx_observe.specs.Effects.{program_words}
use Rattle.cx_observe.specs.declared.obs.Obs.{Obs}
use Rattle.cx_observe.specs.declared.obs.Seen.{Seen}
use Rattle.cx_print.specs.Hex.{hex}
use Rattle.cx_print.specs.Words.{joined_bytes, spaced_words}

-- how a step ended
abbrev pub ended_text : Ended → List ℕ
ended_text Retired = codes "retired"
ended_text (Trap cause) = codes "trap " ++ decimal cause
ended_text (Interrupt number) = codes "interrupt " ++ decimal number

-- an address, in front of another or of bytes
abbrev pub address_text : ℕ → List ℕ
address_text address = hex 8 address ++ codes ":"

-- where a stretch of bytes begins: its virtual address and its place
abbrev pub addresses_text : Touch → List ℕ
addresses_text t = address_text t.va ++ address_text t.pa

-- the bytes of a stretch, in rising address
abbrev pub touch_text : Touch → List ℕ
touch_text t = addresses_text t ++ joined_bytes (take t.len t.bytes)

-- the word of an instruction, as one number
abbrev pub fetch_text : Option Touch → List ℕ
fetch_text None = codes "-"
fetch_text (Some t) = addresses_text t ++ hex 8 (from_le_bytes w32 t.bytes)

-- what was read or written up to the end of a page
abbrev pub first_text : Option Touch → List ℕ
first_text None = codes "-"
first_text (Some t) = touch_text t

-- what was read or written of the next page
abbrev pub more_text : Option Touch → List ℕ
more_text None = []
more_text (Some t) = codes "," ++ touch_text t

-- the value of the outside, or what an SC or a counter gave
abbrev pub value_text : Option ℕ → List ℕ
value_text None = codes "-"
value_text (Some value) = hex 8 value

-- the line of a step
unfoldable pub step_line : ℕ → StepRec → List ℕ
step_line step rec =
    codes "step " ++ decimal step ++ codes " " ++ ended_text rec.ended
    ++ codes " state" ++ spaced_words (words_of rec.before)
    ++ codes " fetch " ++ fetch_text rec.fetch
    ++ codes " read " ++ first_text rec.read ++ more_text rec.read_more
    ++ codes " write " ++ first_text rec.write ++ more_text rec.write_more
    ++ codes " value " ++ value_text rec.value ++ 10 ∷ []

-- the line of a state
unfoldable pub state_line : ℕ → State → List ℕ
state_line step state = codes "state " ++ decimal step ++ spaced_words (words_of state) ++ 10 ∷ []

-- what a program read or wrote, by its virtual address alone
abbrev pub seen_text : Option Seen → List ℕ
seen_text None = codes "-"
seen_text (Some s) = address_text s.va ++ joined_bytes (take s.len s.bytes)

-- the line of an observation: pc and the registers from 1 on, the word of the instruction, and what it took and left
unfoldable pub obs_line : ℕ → Obs → List ℕ
obs_line index o =
    codes "obs " ++ decimal index
    ++ codes " regs" ++ spaced_words (program_words o.pc o.x)
    ++ codes " word " ++ hex 8 o.word
    ++ codes " read " ++ seen_text o.read
    ++ codes " value " ++ value_text o.value
    ++ codes " write " ++ seen_text o.write ++ 10 ∷ []

-- the line of a root of page tables: how many steps were chosen for it, and the first of them
unfoldable pub root_line : ℕ → ℕ → ℕ → List ℕ
root_line root steps first =
    codes "root " ++ hex 8 root ++ codes " steps " ++ decimal steps ++ codes " first " ++ decimal first ++ 10 ∷ []

-- What a step leaves of the program's words, by its observation alone.
use Rattle.std.specs.Prelude.{ℕ, List, [], ◌∷◌, Option, None, Some, Result, Ok, Err}
use Rattle.cx_decode.specs.Decoding.{decoded}
use Rattle.cx_decode.specs.declared.ins.Ins.{Ins}
use Rattle.cx_exec.specs.Asking.{ask_of}
use Rattle.cx_exec.specs.Effect.{done_of, effect_of}
use Rattle.cx_exec.specs.declared.effect.Done.{Done}
use Rattle.cx_exec.specs.declared.effect.Misaligned.{Misaligned}
use Rattle.cx_observe.specs.Asked.{got_of}
use Rattle.cx_observe.specs.declared.obs.Obs.{Obs}

-- pc in the place of register 0, which is always 0, and the other registers
abbrev pub program_words : ℕ → List ℕ → List ℕ
program_words pc [] = []
program_words pc (x ∷ xs) = pc ∷ xs

abbrev pub done_by : Obs → Ins → Result Done Misaligned
done_by o i = done_of o.x (effect_of i o.pc o.x (got_of (ask_of i o.pc o.x) o.read o.value))

abbrev pub words_after : Obs → Result Done Misaligned → List ℕ
words_after o (Ok done) = program_words done.pc done.regs
words_after o (Err misaligned) = program_words o.pc o.x

abbrev pub words_behind : Obs → Option Ins → List ℕ
words_behind o None = program_words o.pc o.x
words_behind o (Some i) = words_after o (done_by o i)

-- A call goes on behind itself, with the registers as they are, and so does the instruction that it is.
unfoldable pub next_words : Obs → List ℕ
next_words o = words_behind o (decoded o.word)

-- A text that was written is what a command does that reads nothing, whatever the input is.
use Rattle.std.proofs.Common.{ℕ, List, Option, refl, inr}
use Rattle.cx_commands.specs.Doing.{Answers, Leaves}
use Rattle.cx_commands.specs.Make.{Writes, writing}
use Rattle.cx_commands.specs.declared.status.Status.{Status}
use Rattle.cx_commands.specs.declared.status.Status.TheVariants as status

pub writes_says : (text bytes : List ℕ) (whole cut : Type 0) (held now : Option (List ℕ)) (answer : Status)
    → Writes text held now answer → Answers (writing text) bytes whole cut answer
writes_says text bytes whole cut held now status.Done writes = λ h. refl
writes_says text bytes whole cut held now status.WriteFault writes = λ early h. refl
writes_says text bytes whole cut held now status.NoMemory writes = tt
writes_says text bytes whole cut held now status.Usage writes = absurd writes
writes_says text bytes whole cut held now (status.Format o) writes = absurd writes
writes_says text bytes whole cut held now (status.Broken n) writes = absurd writes
writes_says text bytes whole cut held now status.NotThere writes = absurd writes
writes_says text bytes whole cut held now status.ReadFault writes = absurd writes
writes_says text bytes whole cut held now status.WorldFault writes = absurd writes
writes_says text bytes whole cut held now (status.NotBuilt n) writes = absurd writes

pub writes_leaves : (text bytes : List ℕ) (whole cut : Type 0) (held now : Option (List ℕ)) (answer : Status)
    → Writes text held now answer → Leaves (writing text) bytes whole cut answer held now
writes_leaves text bytes whole cut held now status.Done writes = λ h. writes
writes_leaves text bytes whole cut held now status.WriteFault writes = inr (λ h. (refl, writes))
writes_leaves text bytes whole cut held now status.NoMemory writes = inr (λ h. (refl, writes))
writes_leaves text bytes whole cut held now status.Usage writes = absurd writes
writes_leaves text bytes whole cut held now (status.Format o) writes = absurd writes
writes_leaves text bytes whole cut held now (status.Broken n) writes = absurd writes
writes_leaves text bytes whole cut held now status.NotThere writes = absurd writes
writes_leaves text bytes whole cut held now status.ReadFault writes = absurd writes
writes_leaves text bytes whole cut held now status.WorldFault writes = absurd writes
writes_leaves text bytes whole cut held now (status.NotBuilt n) writes = absurd writes

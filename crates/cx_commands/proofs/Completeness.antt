-- Which answers are left for an input that isn't refused.
use Rattle.std.proofs.Common.{◌≡◌, ◌≢◌, ◌⊎◌, Bool, true, false, List, ℕ, None, inl, inr, refl, sym, ◌∙◌}
use Rattle.cx_commands.specs.Doing.{Answers, Doing, Lasting}
use Rattle.cx_commands.specs.declared.status.Status.{Status}
use Rattle.cx_commands.specs.declared.status.Status.TheVariants as status

-- what is so of an input that may be the whole one
pub lasting_so : (lasts : Bool) (whole claim : Type 0) → whole → Lasting lasts whole claim → claim
lasting_so true whole claim h is = is
lasting_so false whole claim h is = is h

-- what is so whatever follows
pub always_so : (lasts : Bool) (whole claim : Type 0) → claim → Lasting lasts whole claim
always_so true whole claim is = is
always_so false whole claim is = λ h. is

pub good_is_done : (d : Doing) (bytes : List ℕ) (whole cut : Type 0) (answer : Status) → whole
    → d.refusal bytes ≡ None → answer ≢ status.ReadFault → answer ≢ status.WriteFault → answer ≢ status.WorldFault
    → Answers d bytes whole cut answer
    → (answer ≡ status.Done) ⊎ (answer ≡ status.NoMemory)
good_is_done d bytes whole cut status.Done h good read write world answers = inl refl
good_is_done d bytes whole cut status.NoMemory h good read write world answers = inr refl
good_is_done d bytes whole cut status.ReadFault h good read write world answers = absurd (read refl)
good_is_done d bytes whole cut status.WriteFault h good read write world answers = absurd (write refl)
good_is_done d bytes whole cut status.NotThere h good read write world answers = let never = sym good ∙ answers h in cc
good_is_done d bytes whole cut (status.Format o) h good read write world answers = let never = sym good ∙ answers h in cc
good_is_done d bytes whole cut (status.Broken n) h good read write world answers =
    let never = sym good ∙ lasting_so (d.lasts bytes) whole _ h answers in cc
good_is_done d bytes whole cut (status.NotBuilt n) h good read write world answers = let never = sym good ∙ answers in cc
good_is_done d bytes whole cut status.Usage h good read write world answers = let never = sym good ∙ answers in cc
good_is_done d bytes whole cut status.WorldFault h good read write world answers = absurd (world refl)

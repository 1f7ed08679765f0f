-- A call that doesn't ask the world.
use Rattle.std.proofs.Common.{◌≡◌, ℕ, List, [], Option, None, Some, refl, sym, append-nil}
use Rattle.cx_io.specs.declared.outside.Outside.{Outside}
use Rattle.cx_record.specs.Promise.{AddsAnswers}
use Rattle.cx_commands.specs.Call.{Asks, Carries, MayFollow, RestsOn, besides, doing_of}
use Rattle.cx_commands.specs.Doing.{Answers, Leaves}
use Rattle.cx_commands.specs.declared.status.Status.{Status}
use Rattle.cx_commands.specs.declared.status.Status.TheVariants as status
use Rattle.cx_words.specs.declared.command.Command.{Command}
use Rattle.cx_words.specs.declared.question.Query.{Query}

pub adds_none : (asked : Option (List Outside)) → AddsAnswers asked asked []
adds_none None = refl
adds_none (Some given) = sym (append-nil given)

pub none_follows : (answer : Status) → MayFollow answer []
none_follows status.Done = refl
none_follows status.Usage = refl
none_follows (status.Format o) = refl
none_follows (status.Broken n) = refl
none_follows status.NotThere = refl
none_follows status.ReadFault = refl
none_follows status.WriteFault = tt
none_follows status.WorldFault = refl
none_follows status.NoMemory = tt
none_follows (status.NotBuilt n) = refl

pub carries_image : (command known : Option Command) (queries : List Query) (image bytes : List ℕ) (whole cut : Type 0)
    (asked : Option (List Outside)) (held held_now : Option (List ℕ)) (answer : Status)
    → command ≡ known → RestsOn known image answer → Asks known bytes [] whole answer
    → Answers (doing_of known (besides queries image [])) bytes whole cut answer
    → Leaves (doing_of known (besides queries image [])) bytes whole cut answer held held_now
    → Carries command queries bytes whole cut asked asked held held_now answer
carries_image command known queries image bytes whole cut asked held held_now answer is rests asks says leaves = record {
  image = image;
  answers = [];
  later = [];
  rests = rw is rests;
  adds = adds_none asked;
  follow = none_follows answer;
  asks = rw is asks;
  says = rw is says;
  leaves = rw is leaves;
}

-- of a command that makes no image
pub carries_unasked : (command known : Option Command) (queries : List Query) (bytes : List ℕ) (whole cut : Type 0)
    (asked : Option (List Outside)) (held held_now : Option (List ℕ)) (answer : Status)
    → command ≡ known → RestsOn known [] answer → Asks known bytes [] whole answer
    → Answers (doing_of known (besides queries [] [])) bytes whole cut answer
    → Leaves (doing_of known (besides queries [] [])) bytes whole cut answer held held_now
    → Carries command queries bytes whole cut asked asked held held_now answer
carries_unasked command known queries bytes whole cut asked held held_now answer =
    carries_image command known queries [] bytes whole cut asked held held_now answer

pub carries_as : (command known : Option Command) (queries : List Query) (bytes : List ℕ) (whole cut : Type 0)
    (asked now : Option (List Outside)) (held held_now : Option (List ℕ)) (answer : Status)
    → command ≡ known → Carries known queries bytes whole cut asked now held held_now answer
    → Carries command queries bytes whole cut asked now held held_now answer
carries_as command known queries bytes whole cut asked now held held_now answer is carries = rw is carries

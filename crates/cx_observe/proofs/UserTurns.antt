-- A turn that retires or calls the environment has fetched a word, which is an instruction.
use Rattle.std.proofs.Common.{◌≡◌, ℕ, List, [], ◌∷◌, ◌++◌, Option, None, Some, Ok, Err}
use Rattle.std.proofs.Common.{refl, ap, ◌∙◌, arith}
use Rattle.cx_decode.specs.Decoding.{decoded}
use Rattle.cx_decode.specs.declared.ins.Ins.{Ins}
use Rattle.cx_hart.specs.Ends.{End}
use Rattle.cx_hart.specs.Fetch.{fetched, read_at, translated}
use Rattle.cx_hart.specs.Legal.{ins_or_illegal}
use Rattle.cx_hart.specs.Looks.{Entry, First, Look, Rest, Word, tell, told}
use Rattle.cx_hart.specs.Phases.{Phase, unseen, ◌>>=◌}
use Rattle.cx_hart.specs.Surroundings.{Surroundings}
use Rattle.cx_hart.specs.Touches.{part_value, touch}
use Rattle.cx_hart.specs.Turn.{executed, fetched_and_executed, turn, unless_interrupted}
use Rattle.cx_hart.specs.declared.findings.Part.{Part}
use Rattle.cx_hart.specs.declared.findings.Retired.{Retired}
use Rattle.cx_hart.specs.declared.findings.Stop.{Stop}
use Rattle.cx_hart.specs.declared.findings.Stop.TheVariants.{Asks, Interrupt, Trap}
use Rattle.cx_hart.specs.declared.record.StepRec.{StepRec}
use Rattle.cx_hart.proofs.Costs.{executed_within, translated_within}
use Rattle.cx_hart.proofs.Telling.{
  first_after,
  first_append,
  no_word,
  reads_no_first,
  reads_no_rest,
  rest_after,
  rest_append,
  word_after,
  word_append,
}
use Rattle.cx_trap.specs.Pending.{pending_of}
use Rattle.cx_walk.specs.Walks.{address_of}
use Rattle.cx_walk.specs.declared.kind.Kind.TheVariants.{Fetch}
use Rattle.cx_walk.specs.declared.walk.Place.{Place}
use Rattle.cx_observe.proofs.UserCalls.{IsQuiet, Quiet, translated_quiet}

-- It retires, or calls the environment from user mode.
abbrev pub IsLoud : End Retired → Type 0
IsLoud (Ok r) = Unit {0}
IsLoud (Err (Asks what)) = ⊥
IsLoud (Err (Interrupt number)) = ⊥
IsLoud (Err (Trap cause tval)) = cause ≡ 8

quiet_not_loud : {P : Type 0} (stop : Stop) → IsQuiet stop → IsLoud (Err stop) → P
quiet_not_loud (Asks what) quiet loud = absurd loud
quiet_not_loud (Interrupt number) quiet loud = absurd loud
quiet_not_loud (Trap cause tval) quiet loud = absurd (quiet loud)

-- where the word of the instruction stands
abbrev pub word_part : Surroundings → Place → Part
word_part here place = record { va = here.state.pc; pa = address_of place; len = 4 }

abbrev pub word_at : Surroundings → Place → ℕ
word_at here place = part_value here.memory (word_part here place)

abbrev from_row : Surroundings → ℕ → Option Ins → Phase Retired
from_row here word row = unseen (ins_or_illegal word row) >>= λ i. executed here word i

abbrev from_place : Surroundings → List Look → End Place → Phase Retired
from_place here looks e =
    (record { looks = looks; end = e } >>= λ place. read_at here.memory Word (word_part here place))
    >>= λ word. from_row here word (decoded word)

-- The turn has fetched the word of this instruction, and carries it out.
pub record Turned (here : Surroundings) (looks : List Look) (e : End Place) (p : Phase Retired) : Type 0 where
  pub place : Place
  pub is : e ≡ Ok place
  pub ins : Ins
  pub spelled : decoded (word_at here place) ≡ Some ins
  pub ends : p.end ≡ (executed here (word_at here place) ins).end
  pub looks_are : p.looks ≡ (looks ++ (Word (touch (word_part here place) (word_at here place)) ∷ []))
      ++ (executed here (word_at here place) ins).looks

by_row : (here : Surroundings) (looks : List Look) (place : Place) (row : Option Ins)
    → decoded (word_at here place) ≡ row
    → IsLoud (from_row here (word_at here place) row).end
    → Turned here looks (Ok place) (record { looks = looks; end = Ok place }
    >>= (λ place. read_at here.memory Word (word_part here place)) >>= λ word. from_row here word row)
by_row here looks place None spelled loud = absurd (omega arith)
by_row here looks place (Some i) spelled loud = record {
  place = place;
  is = refl;
  ins = i;
  spelled = spelled;
  ends = refl;
  looks_are = refl;
}

by_place : (here : Surroundings) (looks : List Look) (e : End Place) → Quiet e → IsLoud (from_place here looks e).end
    → Turned here looks e (from_place here looks e)
by_place here looks (Ok place) quiet loud = by_row here looks place (decoded (word_at here place)) refl loud
by_place here looks (Err stop) quiet loud = quiet_not_loud stop quiet loud

abbrev pub fetch_phase : Surroundings → Phase Place
fetch_phase here = translated here Fetch here.state.pc 4

by_pending : (here : Surroundings) (o : Option ℕ) → IsLoud (unless_interrupted o (fetched_and_executed here)).end
    → Turned here (fetch_phase here).looks (fetch_phase here).end (unless_interrupted o (fetched_and_executed here))
unfolding fetched
by_pending here None loud = by_place here (fetch_phase here).looks (fetch_phase here).end
    (translated_quiet here Fetch here.state.pc 4) loud
by_pending here (Some number) loud = absurd loud

pub turned : (here : Surroundings) → IsLoud (turn here).end
    → Turned here (fetch_phase here).looks (fetch_phase here).end (turn here)
unfolding turn
turned here loud = by_pending here (pending_of here.state) loud

-- ---- what its looks are told as

pub word_told : (here : Surroundings) (t : Turned here (fetch_phase here).looks (fetch_phase here).end (turn here))
    → word_after (turn here).looks None ≡ Some (touch (word_part here t.place) (word_at here t.place))
word_told here t = ap (λ l. word_after l None) t.looks_are
    ∙ (word_append ((fetch_phase here).looks ++ (Word (touch (word_part here t.place) (word_at here t.place)) ∷ []))
    (executed here (word_at here t.place) t.ins).looks None
    ∙ (no_word (executed here (word_at here t.place) t.ins).looks _
    (executed_within 0 1 0 0 here (word_at here t.place) t.ins)
    ∙ word_append (fetch_phase here).looks (Word (touch (word_part here t.place) (word_at here t.place)) ∷ []) None))

pub first_told : (here : Surroundings) (t : Turned here (fetch_phase here).looks (fetch_phase here).end (turn here))
    → first_after (turn here).looks None ≡ first_after (executed here (word_at here t.place) t.ins).looks None
first_told here t = ap (λ l. first_after l None) t.looks_are
    ∙ (first_append ((fetch_phase here).looks ++ (Word (touch (word_part here t.place) (word_at here t.place)) ∷ []))
    (executed here (word_at here t.place) t.ins).looks None
    ∙ ap (first_after (executed here (word_at here t.place) t.ins).looks)
    (first_append (fetch_phase here).looks (Word (touch (word_part here t.place) (word_at here t.place)) ∷ []) None
    ∙ reads_no_first (fetch_phase here).looks None (translated_within 0 0 1 1 here Fetch here.state.pc 4)))

pub rest_told : (here : Surroundings) (t : Turned here (fetch_phase here).looks (fetch_phase here).end (turn here))
    → rest_after (turn here).looks None ≡ rest_after (executed here (word_at here t.place) t.ins).looks None
rest_told here t = ap (λ l. rest_after l None) t.looks_are
    ∙ (rest_append ((fetch_phase here).looks ++ (Word (touch (word_part here t.place) (word_at here t.place)) ∷ []))
    (executed here (word_at here t.place) t.ins).looks None
    ∙ ap (rest_after (executed here (word_at here t.place) t.ins).looks)
    (rest_append (fetch_phase here).looks (Word (touch (word_part here t.place) (word_at here t.place)) ∷ []) None
    ∙ reads_no_rest (fetch_phase here).looks None (translated_within 0 0 1 1 here Fetch here.state.pc 4)))

-- ---- a record that is told

pub told_before : (looks : List Look) (rec : StepRec) → (told looks rec).before ≡ rec.before
told_before [] rec = refl
told_before (Entry place entry ∷ looks) rec = told_before looks (tell (Entry place entry) rec)
told_before (Word t ∷ looks) rec = told_before looks (tell (Word t) rec)
told_before (First t ∷ looks) rec = told_before looks (tell (First t) rec)
told_before (Rest t ∷ looks) rec = told_before looks (tell (Rest t) rec)

pub told_fetch : (looks : List Look) (rec : StepRec) → (told looks rec).fetch ≡ word_after looks rec.fetch
told_fetch [] rec = refl
told_fetch (Entry place entry ∷ looks) rec = told_fetch looks (tell (Entry place entry) rec)
told_fetch (Word t ∷ looks) rec = told_fetch looks (tell (Word t) rec)
told_fetch (First t ∷ looks) rec = told_fetch looks (tell (First t) rec)
told_fetch (Rest t ∷ looks) rec = told_fetch looks (tell (Rest t) rec)

pub told_read : (looks : List Look) (rec : StepRec) → (told looks rec).read ≡ first_after looks rec.read
told_read [] rec = refl
told_read (Entry place entry ∷ looks) rec = told_read looks (tell (Entry place entry) rec)
told_read (Word t ∷ looks) rec = told_read looks (tell (Word t) rec)
told_read (First t ∷ looks) rec = told_read looks (tell (First t) rec)
told_read (Rest t ∷ looks) rec = told_read looks (tell (Rest t) rec)

pub told_rest : (looks : List Look) (rec : StepRec) → (told looks rec).read_more ≡ rest_after looks rec.read_more
told_rest [] rec = refl
told_rest (Entry place entry ∷ looks) rec = told_rest looks (tell (Entry place entry) rec)
told_rest (Word t ∷ looks) rec = told_rest looks (tell (Word t) rec)
told_rest (First t ∷ looks) rec = told_rest looks (tell (First t) rec)
told_rest (Rest t ∷ looks) rec = told_rest looks (tell (Rest t) rec)

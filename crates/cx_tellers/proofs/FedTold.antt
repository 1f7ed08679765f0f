-- What a slicer of any kind says of one observation more, and of the end.
use Rattle.std.proofs.Common.{◌≡◌, ◌⊎◌, ℕ, suc, ◌+◌, ◌-◌, ◌^◌, ◌<◌, ◌≤◌, min, Bool, true, false, List, [], ◌∷◌}
use Rattle.std.proofs.Common.{◌++◌, Option, Result, Ok, Err, IsTrue, IfOk, OnOk, IsErrOf, inl, inr}
use Rattle.std.proofs.Common.{refl, ap, sym, subst, ◌∙◌, arith, ⊎_elim}
use Rattle.std.proofs.lemmas.Bool.{cases_lt}
use Rattle.std.proofs.lemmas.Grind.{not_there}
use Rattle.std.specs.Io.KnownBytes.{Appends}
use Rattle.cx_codec.specs.Blocks.{HasFront, StandsFor, Waiting}
use Rattle.cx_codec.specs.Puts.{Finishes, Putting, Puts, Starts, onto}
use Rattle.cx_codec.specs.declared.fault.OutFault.{OutFault}
use Rattle.cx_codec.specs.declared.fault.OutFault.TheVariants.{NoMemory, WriteFault as write_fault}
use Rattle.cx_codec.proofs.Blocks.{front_longer}
use Rattle.cx_io.specs.Cause.{HasCause}
use Rattle.cx_observe.specs.declared.obs.Obs.{Obs}
use Rattle.cx_commands.specs.Streaming.{FinishesOn, StartsOn, Told, TellsOn}
use Rattle.cx_commands.proofs.Streams.{blocks_front}

-- A slicer has taken some observations, whichever they are.
abbrev IsForSome : (List Obs → Type 0) → Type 0
IsForSome Has = ∥ ((os : List Obs) × Has os) ∥₁

stable_le : (a b : ℕ) → ¬ (¬ (a ≤ b)) → a ≤ b
stable_le a b twice = ⊎_elim (λ (less : b < a). absurd (twice (λ le. omega (arith, less, le)))) (λ (le : a ≤ b). le)
    (cases_lt b a)

stable_true : (t : Bool) → ¬ (¬ (t ≡ true)) → t ≡ true
stable_true true twice = refl
stable_true false twice = absurd (twice (λ is. cc))

taken_le : (Has : List Obs → Type 0) → IsForSome Has → (a b : ℕ) → ((os : List Obs) → Has os → a ≤ b) → a ≤ b
taken_le Has any a b of = stable_le a b (λ never. not_there any (λ some. never (of some.0 some.1)))

taken_true : (Has : List Obs → Type 0) → IsForSome Has → (t : Bool) → ((os : List Obs) → Has os → t ≡ true)
    → t ≡ true
taken_true Has any t of = stable_true t (λ never. not_there any (λ some. never (of some.0 some.1)))

-- ---- a cause

caused : {T : Type 0} (Has : List Obs → Type 0) → IsForSome Has → (before now : ℕ) (result : Result T OutFault)
    → ((os : List Obs) → Has os → HasCause write_fault before now result) → HasCause write_fault before now result
caused Has any before now result of = record {
  later = taken_le Has any before now (λ os taken. (of os taken).later);
  fits = λ small. taken_le Has any (suc now) (2 ^ 64) (λ os taken. (of os taken).fits small);
  failed = λ is. taken_le Has any (min (before + 1) (2 ^ 64 - 1)) now (λ os taken. (of os taken).failed is);
}

-- ---- one observation more

-- Room was refused, and nothing was put.
pub record IsRefused {S : Type 0} (result : Result (Unit {0}) OutFault) (sink sink_now : S) : Type 0 where
  pub answer : result ≡ Err NoMemory
  pub sink_same : sink_now ≡ sink

-- what a slicer answers to it, of some that it may have taken: old and new are its outputs, and this is what is added
abbrev pub Fed : {S : Type 0} → (S → Option (List ℕ)) → (S → ℕ) → (List Obs → Type 0) → (List Obs → List ℕ)
    → (old new : Waiting) → S → S → Result (Unit {0}) OutFault → Type 0
Fed held faults Has added old new sink sink_now result =
    (os : List Obs) → Has os → IsRefused result sink sink_now
    ⊎ Puts write_fault (added os) (onto old (held sink) (faults sink)) (onto new (held sink_now) (faults sink_now))
    result

pub unfed : (begun more : List ℕ) (base held : Option (List ℕ)) (waiting added : List ℕ) → more ≡ begun ++ added
    → StandsFor base begun waiting held → HasFront base more held
unfed begun more base held waiting added grows told =
    subst (λ (t : List ℕ). HasFront base t held) (sym grows)
    (front_longer base held begun added (blocks_front base held begun waiting told))

pub fed_on : {S : Type 0} (held : S → Option (List ℕ)) (faults : S → ℕ) (Has : List Obs → Type 0)
    (added : List Obs → List ℕ) (old new : Waiting) (sink sink_now : S) (result : Result (Unit {0}) OutFault)
    (begun more : List ℕ) (Keeps Now : Type 0) (os : List Obs) (base : Option (List ℕ)) → more ≡ begun ++ added os
    → Has os → Told base begun old.bytes (held sink) Keeps → OnOk result Now
    → Fed held faults Has added old new sink sink_now result
    → TellsOn base more new.bytes (held sink_now) Now result
fed_on held faults Has added old new sink sink_now (Ok u) begun more Keeps Now os base grows taken told keeps fed =
    elim (fed os taken) [
      | inl refused ↦ absurd (let never = refused.answer in cc)
      | inr puts ↦ record {
        stands = subst (λ (t : List ℕ). StandsFor base t new.bytes (held sink_now)) (sym grows)
            (puts.stands base begun told.stands);
        keeps = keeps;
      }
    ]
fed_on held faults Has added old new sink sink_now (Err e) begun more Keeps Now os base grows taken told keeps fed =
    elim (fed os taken) [
      | inl refused ↦ subst (λ (s : _). HasFront base more (held s)) (sym refused.sink_same)
          (unfed begun more base (held sink) old.bytes (added os) grows told.stands)
      | inr puts ↦ subst (λ (t : List ℕ). HasFront base t (held sink_now)) (sym grows)
          (puts.refused base begun told.stands)
    ]

pub fed_live : {S : Type 0} (held : S → Option (List ℕ)) (faults : S → ℕ) (Has : List Obs → Type 0)
    (added : List Obs → List ℕ) (old new : Waiting) (sink sink_now : S) (result : Result (Unit {0}) OutFault)
    → IsForSome Has → Fed held faults Has added old new sink sink_now result → OnOk result (IsTrue new.live)
fed_live held faults Has added old new sink sink_now (Err e) any fed = tt
fed_live held faults Has added old new sink sink_now (Ok u) any fed =
    taken_true Has any new.live (λ os taken. by_fed os (fed os taken))
  where
    by_fed : (os : List Obs) → IsRefused (Ok u) sink sink_now
        ⊎ Puts write_fault (added os) (onto old (held sink) (faults sink))
        (onto new (held sink_now) (faults sink_now)) (Ok u)
        → new.live ≡ true
    by_fed os (inl refused) = let never = refused.answer in cc
    by_fed os (inr puts) = puts.live

unchanged : {T : Type 0} (before now : ℕ) (result : Result T OutFault) → now ≡ before → result ≡ Err NoMemory
    → HasCause write_fault before now result
unchanged {T} before now result same is = record {
  later = omega (arith, same);
  fits = λ small. omega (arith, same, small);
  failed = λ wrong. absurd (by_answer result is wrong);
}
  where
    by_answer : (r : Result T OutFault) → r ≡ Err NoMemory → IsErrOf r write_fault → ⊥
    by_answer (Ok x) is wrong = cc
    by_answer (Err e) is wrong = cc

pub fed_cause : {S : Type 0} (held : S → Option (List ℕ)) (faults : S → ℕ) (Has : List Obs → Type 0)
    (added : List Obs → List ℕ) (old new : Waiting) (sink sink_now : S) (result : Result (Unit {0}) OutFault)
    → IsForSome Has → Fed held faults Has added old new sink sink_now result
    → HasCause write_fault (faults sink) (faults sink_now) result
fed_cause held faults Has added old new sink sink_now result any fed =
    caused Has any (faults sink) (faults sink_now) result (λ os taken. elim (fed os taken) [
      | inl refused ↦ unchanged (faults sink) (faults sink_now) result (ap faults refused.sink_same) refused.answer
      | inr puts ↦ puts.cause
    ])

-- ---- the end

pub end_cause : (Has : List Obs → Type 0) → IsForSome Has → (ending : List Obs → List ℕ) (old : Putting)
    (held : Option (List ℕ)) (faults : ℕ) (result : Result (Unit {0}) OutFault)
    → ((os : List Obs) → Has os → Finishes write_fault (ending os) old held faults result)
    → HasCause write_fault old.faults faults result
end_cause Has any ending old held faults result finishes =
    caused Has any old.faults faults result (λ os taken. (finishes os taken).cause)

pub ends_on : (begun whole ending : List ℕ) (base : Option (List ℕ)) (old : Putting) (held : Option (List ℕ))
    (faults : ℕ) (result : Result (Unit {0}) OutFault) → whole ≡ begun ++ ending
    → StandsFor base begun old.output.bytes old.held → Finishes write_fault ending old held faults result
    → FinishesOn base whole held result
ends_on begun whole ending base old held faults (Ok u) ends told finishes =
    subst (λ (t : List ℕ). Appends base held t) (sym ends) (finishes.written base begun told)
ends_on begun whole ending base old held faults (Err e) ends told finishes =
    subst (λ (t : List ℕ). HasFront base t held) (sym ends) (finishes.refused base begun told)

-- ---- the start

pub starts_by : {X : Type 0} (begun magic : List ℕ) (output : X → Waiting) (Has : X → Type 0)
    (held held_now : Option (List ℕ)) (faults faults_now : ℕ) (result : Result X OutFault) → begun ≡ magic
    → Starts write_fault magic output held held_now faults faults_now result → IfOk result Has
    → StartsOn held begun (λ x. (output x).bytes) held_now Has result
starts_by begun magic output Has held held_now faults faults_now (Ok x) is starts has = record {
  stands = subst (λ (t : List ℕ). StandsFor held t (output x).bytes held_now) (sym is) starts.stands;
  keeps = has;
}
starts_by begun magic output Has held held_now faults faults_now (Err e) is starts has =
    subst (λ (t : List ℕ). HasFront held t held_now) (sym is) starts.refused

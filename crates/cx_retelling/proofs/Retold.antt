-- The observations of a slice, told as its replay gives them, and what is done of the slice by that.
use Rattle.std.proofs.Common.{◌≡◌, ℕ, true, false, List, [], ◌++◌, length, Option, None, Ok, Err}
use Rattle.std.proofs.Common.{inl, inr, sym, subst}
use Rattle.std.specs.Io.KnownBytes.{Appends}
use Rattle.cx_codec.specs.Blocks.{HasFront, whole as whole_blocks}
use Rattle.cx_codec.specs.Reads.{Begins}
use Rattle.cx_codec.specs.declared.fault.OutFault.{OutFault}
use Rattle.cx_codec.specs.declared.fault.OutFault.TheVariants.{WriteFault as write_fault, NoMemory as no_room}
use Rattle.cx_codec.proofs.Blocks.{appends_none}
use Rattle.cx_observe.specs.declared.obs.Obs.{Obs}
use Rattle.cx_replay.specs.declared.fault.ReplayFault.{ReplayFault}
use Rattle.cx_replay.specs.declared.fault.ReplayFault.TheVariants as replay
use Rattle.cx_commands.specs.Doing.{Does, IsGoodSoFar, Judges}
use Rattle.cx_commands.specs.Faults.{status_of_out, status_of_replay}
use Rattle.cx_commands.specs.Streaming.{IsStreamRefusal}
use Rattle.cx_commands.specs.declared.status.Status.{Status}
use Rattle.cx_commands.specs.declared.status.Status.TheVariants as status
use Rattle.cx_commands.proofs.Doings.{no_front}
use Rattle.cx_commands.proofs.Streams.{front_of}
use Rattle.cx_retelling.specs.Through.{Refuses, StopsRetelling, Through, retelling}

-- a text that grows with the observations
abbrev pub Grows : (List Obs → List ℕ) → Type 0
Grows text = (xs ys : List Obs) → Begins (text xs) (text (xs ++ ys))

-- a front of what was told is one of what the slice goes through
pub front_through : (text : List Obs → List ℕ) (base held : Option (List ℕ)) (os all : List Obs) → Grows text
    → (rest : List Obs) × (all ≡ os ++ rest) → HasFront base (text os) held → HasFront base (text all) held
front_through text base held os all grows more front =
    subst (λ (xs : List Obs). HasFront base (text xs) held) (sym more.1)
    (front_of base held (text os) (text (os ++ more.0)) (grows os more.0) front)

-- ---- a refusal

told_all : (text : List Obs → List ℕ) (base held : Option (List ℕ)) (os all : List Obs) → all ≡ os
    → Appends base held (whole_blocks (text os)) → Appends base held (whole_blocks (text all))
told_all text base held os all is written =
    subst (λ (xs : List Obs). Appends base held (whole_blocks (text xs))) (sym is) written

pub stops_by : (text : List Obs → List ℕ) (t : Through) (end : ℕ) (os : List Obs) (cut : Type 0)
    (base held : Option (List ℕ)) (e : ReplayFault) → Refuses t end os cut e
    → Appends base held (whole_blocks (text os)) → HasFront base (text t.observations) held
    → StopsRetelling text t end cut base held (status_of_replay e)
stops_by text t end os cut base held (replay.Format o) refuses written front =
    (refuses.0, told_all text base held os t.observations refuses.1 written)
stops_by text t end os cut base held (replay.Broken n) refuses written front =
    (refuses.0, told_all text base held os t.observations refuses.1 written)
stops_by text t end os cut base held replay.ReadFault refuses written front = λ h.
    ((refuses h).0, told_all text base held os t.observations_so_far (refuses h).1 written)
stops_by text t end os cut base held replay.NoMemory refuses written front = front

-- before anything was told
pub stops_unopened : (text : List Obs → List ℕ) (t : Through) (end : ℕ) (cut : Type 0) (base : Option (List ℕ))
    (e : ReplayFault) → whole_blocks (text []) ≡ [] → Refuses t end [] cut e
    → StopsRetelling text t end cut base base (status_of_replay e)
stops_unopened text t end cut base e none refuses = stops_by text t end [] cut base base e refuses
    (subst (λ (bytes : List ℕ). Appends base base bytes) (sym none) (appends_none base))
    (no_front base (text t.observations))

pub stops_at_sink : (text : List Obs → List ℕ) (t : Through) (end : ℕ) (cut : Type 0) (base held : Option (List ℕ))
    (e : OutFault) → HasFront base (text t.observations) held
    → StopsRetelling text t end cut base held (status_of_out e)
stops_at_sink text t end cut base held write_fault front = front
stops_at_sink text t end cut base held no_room front = front

-- ---- what is done

not_sought : false ≡ true → ⊥
not_sought is = cc

pub retelling_stops : (text full : List Obs → List ℕ) (t : Through) (bytes : List ℕ) (end : ℕ) (may cut : Type 0)
    (base held : Option (List ℕ)) (e : Status) → end ≡ length bytes → (cut → may) → IsStreamRefusal false e
    → (may → StopsRetelling text t end cut base held e)
    → Does (retelling text full t) bytes may cut base held (Err e)
retelling_stops text full t bytes end may cut base held (status.Format o) ends so refusal stops =
    (λ h. (stops h).0, λ h. (stops h).1)
retelling_stops text full t bytes end may cut base held (status.Broken n) ends so refusal stops =
    (λ h. (stops h).0, λ h. (stops h).1)
retelling_stops text full t bytes end may cut base held status.ReadFault ends so refusal stops = (
  λ h. subst (λ (n : ℕ). IsGoodSoFar n t.refusal_so_far) ends (stops (so h) h).0,
  λ h. (stops (so h) h).1,
)
retelling_stops text full t bytes end may cut base held status.WriteFault ends so refusal stops =
    (λ never. absurd (not_sought (sym never)), λ h. inl (stops h))
retelling_stops text full t bytes end may cut base held status.NoMemory ends so refusal stops =
    (tt, λ h. inl (stops h))
retelling_stops text full t bytes end may cut base held status.NotThere ends so refusal stops =
    absurd (not_sought refusal)
retelling_stops text full t bytes end may cut base held status.Done ends so refusal stops = absurd refusal
retelling_stops text full t bytes end may cut base held status.Usage ends so refusal stops = absurd refusal
retelling_stops text full t bytes end may cut base held status.WorldFault ends so refusal stops = absurd refusal
retelling_stops text full t bytes end may cut base held (status.NotBuilt n) ends so refusal stops = absurd refusal

-- all was told, and handed to the sink or not
pub retelling_ends : (text full : List Obs → List ℕ) (t : Through) (bytes : List ℕ) (may cut : Type 0)
    (base held : Option (List ℕ)) → (may → (t.refusal ≡ None) × Appends base held (full t.observations))
    → Does (retelling text full t) bytes may cut base held (Ok (tt {0}))
retelling_ends text full t bytes may cut base held all = (λ h. (all h).0, λ h. (all h).1)

pub retelling_unfinished : (text full : List Obs → List ℕ) (t : Through) (bytes : List ℕ) (may cut : Type 0)
    (base held : Option (List ℕ)) (e : OutFault)
    → (may → (t.refusal ≡ None) × HasFront base (full t.observations) held)
    → Does (retelling text full t) bytes may cut base held (Err (status_of_out e))
retelling_unfinished text full t bytes may cut base held write_fault all =
    (λ never. absurd (not_sought (sym never)), λ h. inr all)
retelling_unfinished text full t bytes may cut base held no_room all = (tt, λ h. inr all)

-- ---- which answers these are

pub fault_refuses : (e : ReplayFault) → IsStreamRefusal false (status_of_replay e)
fault_refuses (replay.Format o) = tt
fault_refuses (replay.Broken n) = tt
fault_refuses replay.ReadFault = tt
fault_refuses replay.NoMemory = tt

pub fault_is_early : (e : ReplayFault) → Judges true (status_of_replay e) → ⊥
fault_is_early (replay.Format o) j = j
fault_is_early (replay.Broken n) j = j
fault_is_early replay.ReadFault j = j
fault_is_early replay.NoMemory j = j

pub out_refuses : (e : OutFault) → IsStreamRefusal false (status_of_out e)
out_refuses write_fault = tt
out_refuses no_room = tt

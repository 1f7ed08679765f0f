-- A turn goes on from where its instruction is known, or ends before.
use Rattle.std.proofs.Common.{◌≡◌, ℕ, List, [], ◌++◌, length, Option, None, Some, Ok, Err, refl, sym, ap, subst, ◌∙◌}
use Rattle.cx_decode.specs.Decoding.{decoded}
use Rattle.cx_decode.specs.Groups.{group_of}
use Rattle.cx_decode.specs.declared.ins.Ins.{Ins}
use Rattle.cx_decode.specs.declared.kept.Known.{Known}
use Rattle.cx_csr.specs.Keeps.{Keeps}
use Rattle.cx_machine.specs.Machine.{pages_of}
use Rattle.cx_map.specs.Bytes.{AreBytes}
use Rattle.cx_trap.specs.Pending.{pending_of}
use Rattle.cx_hart.specs.Begin.{begun, fetched_and_decoded, going, going_of}
use Rattle.cx_hart.specs.Ends.{End, found, ◌>>=◌}
use Rattle.cx_hart.specs.Fetch.{fetched}
use Rattle.cx_hart.specs.Legal.{illegal, instruction}
use Rattle.cx_hart.specs.Looks.{Look, told}
use Rattle.cx_hart.specs.Phases.{looks_behind, unseen, ◌>>=◌ as phase_then}
use Rattle.cx_hart.specs.Surroundings.{Surroundings}
use Rattle.cx_hart.specs.Turn.{executed, fetched_and_executed, turn, unless_interrupted}
use Rattle.cx_hart.specs.declared.findings.Going.{Going}
use Rattle.cx_hart.specs.Conclude.{IsCause}
use Rattle.cx_hart.specs.declared.findings.Stop.{Stop}
use Rattle.cx_hart.specs.declared.findings.Stop.TheVariants.{Interrupt}
use Rattle.cx_hart.specs.declared.record.StepRec.{StepRec}
use Rattle.cx_hart.proofs.Keepable.{FitsGiven, IsKeepable}
use Rattle.cx_hart.proofs.Stops.{Comes, stop_cause}
use Rattle.cx_hart.proofs.Telling.{told_append}
use Rattle.cx_hart.proofs.Turns.{turn_comes}
use Rattle.cx_hart.proofs.GoingOn.{GoesAs}

-- ---- a decoded word

pub going_known : (word : ℕ) (k : Known) → Some k.ins ≡ decoded word → k.group ≡ group_of k.ins.op
    → Ok (record { word = word; ins = k.ins; group = k.group }) ≡ going_of word
going_known word k one group = rw (← one, group) refl

pub going_none : (word : ℕ) → None ≡ decoded word → illegal word ≡ going_of word
going_none word none = rw (← none) refl

-- ---- the turn behind it

module _ (here : Surroundings) where
  told_nothing : (looks : List Look) (r : StepRec) → told (looks ++ []) r ≡ told looks r
  told_nothing looks r = told_append looks [] r

  ins_goes : (word : ℕ) (e : End Ins) (looks : List Look) (g : Going) → Ok g ≡ (e >>= λ i. found (going word i))
      → GoesAs (e >>= λ i. (executed here word i).end) (looks ++ looks_behind e (executed here word)) (looks ++ [])
      (executed here g.word g.ins)
  ins_goes word (Err stop) looks g is = absurd cc
  ins_goes word (Ok i) looks g is =
      let same : going word i ≡ g = cc in
      subst
      (λ (to : Going). GoesAs (executed here word i).end (looks ++ (executed here word i).looks) (looks ++ [])
      (executed here to.word to.ins)) same
      (record {
        ends = refl;
        tells = λ r. told_append looks (executed here word i).looks r
            ∙ ap (told (executed here word i).looks) (sym (told_nothing looks r));
      })

  ins_stops : (word : ℕ) (e : End Ins) (looks : List Look) (stop : Stop)
      → Err stop ≡ (e >>= λ i. found (going word i))
      → GoesAs (e >>= λ i. (executed here word i).end) (looks ++ looks_behind e (executed here word)) (looks ++ [])
      (unseen (Err stop))
  ins_stops word (Ok i) looks stop is = absurd cc
  ins_stops word (Err other) looks stop is =
      let same : other ≡ stop = cc in record { ends = ap (λ s. Err s) same; tells = λ r. refl }

  fetch_goes : (e : End ℕ) (looks : List Look) (g : Going) → Ok g ≡ (e >>= going_of)
      → GoesAs (e >>= λ word. instruction word >>= λ i. (executed here word i).end)
      (looks ++ looks_behind e (λ word. phase_then (unseen (instruction word)) (executed here word)))
      (looks ++ looks_behind e (λ word. unseen (going_of word))) (executed here g.word g.ins)
  fetch_goes (Err stop) looks g is = absurd cc
  fetch_goes (Ok word) looks g is = ins_goes word (instruction word) looks g is

  fetch_stops : (e : End ℕ) (looks : List Look) (stop : Stop) → Err stop ≡ (e >>= going_of)
      → GoesAs (e >>= λ word. instruction word >>= λ i. (executed here word i).end)
      (looks ++ looks_behind e (λ word. phase_then (unseen (instruction word)) (executed here word)))
      (looks ++ looks_behind e (λ word. unseen (going_of word))) (unseen (Err stop))
  fetch_stops (Ok word) looks stop is = ins_stops word (instruction word) looks stop is
  fetch_stops (Err other) looks stop is =
      let same : other ≡ stop = cc in record { ends = ap (λ s. Err s) same; tells = λ r. refl }

  pending_goes : (o : Option ℕ) (g : Going) → Ok g ≡ (unless_interrupted o (fetched_and_decoded here)).end
      → GoesAs (unless_interrupted o (fetched_and_executed here)).end
      (unless_interrupted o (fetched_and_executed here)).looks (unless_interrupted o (fetched_and_decoded here)).looks
      (executed here g.word g.ins)
  pending_goes None g is = fetch_goes (fetched here).end (fetched here).looks g is
  pending_goes (Some n) g is = absurd cc

  pending_stops : (o : Option ℕ) (stop : Stop) → Err stop ≡ (unless_interrupted o (fetched_and_decoded here)).end
      → GoesAs (unless_interrupted o (fetched_and_executed here)).end
      (unless_interrupted o (fetched_and_executed here)).looks (unless_interrupted o (fetched_and_decoded here)).looks
      (unseen (Err stop))
  pending_stops None stop is = fetch_stops (fetched here).end (fetched here).looks stop is
  pending_stops (Some n) stop is =
      let same : Interrupt n ≡ stop = cc in record { ends = ap (λ s. Err s) same; tells = λ r. refl }

  pub turn_goes : (g : Going) → Ok g ≡ (begun here).end
      → GoesAs (turn here).end (turn here).looks (begun here).looks (executed here g.word g.ins)
  unfolding begun turn
  turn_goes g is = pending_goes (pending_of here.state) g is

  pub turn_stops : (stop : Stop) → Err stop ≡ (begun here).end
      → GoesAs (turn here).end (turn here).looks (begun here).looks (unseen (Err stop))
  unfolding begun turn
  turn_stops stop is = pending_stops (pending_of here.state) stop is

  -- a turn that ends before ends in a cause of the hart
  pub begun_cause : (stop : Stop) → Keeps (pages_of here.memory) here.state → AreBytes here.memory
      → FitsGiven here.given → Err stop ≡ (begun here).end → IsCause stop
  begun_cause stop k bytes fits is =
      stop_cause stop
      (subst (Comes (IsKeepable (pages_of here.memory) (length here.memory) here.state)) (turn_stops stop is).ends
      (turn_comes (pages_of here.memory) here k fits bytes refl))

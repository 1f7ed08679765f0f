-- One observation more, and its line.
use Rattle.std.proofs.Common.{◌≡◌, ℕ, ◌+◌, List, [], ◌∷◌, ◌++◌, length, Option, Ok, Err}
use Rattle.std.proofs.Common.{arith, refl, ap, sym, subst, ◌∙◌, length-append}
use Rattle.std.proofs.lemmas.List.{append-nil}
use Rattle.cx_codec.specs.Blocks.{HasFront, StandsFor}
use Rattle.cx_codec.specs.Puts.{Puts, Putting}
use Rattle.cx_codec.specs.declared.fault.OutFault.{OutFault}
use Rattle.cx_codec.specs.declared.fault.OutFault.TheVariants.{WriteFault as write_fault}
use Rattle.cx_codec.proofs.Blocks.{front_longer}
use Rattle.cx_observe.specs.declared.obs.Obs.{Obs}
use Rattle.cx_print.specs.Lines.{obs_line}
use Rattle.cx_commands.specs.Observed.{observation_lines}
use Rattle.cx_commands.proofs.Streams.{blocks_front}
use Rattle.cx_tellers.specs.Showing.{observation_lines_on}

line_more : (os : List Obs) (o : Obs) (count : ℕ) → count ≡ length os
    → observation_lines 0 (os ++ o ∷ []) ≡ observation_lines 0 os ++ obs_line count o
line_more os o count is =
    let last : 0 + length os ≡ count = omega (arith, is) in
    observation_lines_on 0 os (o ∷ [])
    ∙ ap (λ (n : ℕ). observation_lines 0 os ++ observation_lines n (o ∷ [])) last
    ∙ ap (λ (t : List ℕ). observation_lines 0 os ++ t) (append-nil (obs_line count o))

pub count_more : (os : List Obs) (o : Obs) (count next : ℕ) → count ≡ length os → next ≡ count + 1
    → next ≡ length (os ++ o ∷ [])
count_more os o count next is more = omega (arith, is, more, length-append os (o ∷ []))

-- a line that was put
pub shown_put : {old new : Putting} {u : Unit {0}} (os : List Obs) (o : Obs) (base : Option (List ℕ)) (count : ℕ)
    → count ≡ length os → StandsFor base (observation_lines 0 os) old.output.bytes old.held
    → Puts write_fault (obs_line count o) old new (Ok u)
    → StandsFor base (observation_lines 0 (os ++ o ∷ [])) new.output.bytes new.held
shown_put {old} {new} os o base count is told puts =
    subst (λ (t : List ℕ). StandsFor base t new.output.bytes new.held) (sym (line_more os o count is))
    (puts.stands base (observation_lines 0 os) told)

-- one that was refused
pub shown_refused : {old new : Putting} {e : OutFault} (os : List Obs) (o : Obs) (base : Option (List ℕ)) (count : ℕ)
    → count ≡ length os → StandsFor base (observation_lines 0 os) old.output.bytes old.held
    → Puts {X = Unit {0}} write_fault (obs_line count o) old new (Err e)
    → HasFront base (observation_lines 0 (os ++ o ∷ [])) new.held
shown_refused {old} {new} os o base count is told puts =
    subst (λ (t : List ℕ). HasFront base t new.held) (sym (line_more os o count is))
    (puts.refused base (observation_lines 0 os) told)

-- and one that wasn't put
pub shown_unput : (os : List Obs) (o : Obs) (base held : Option (List ℕ)) (waiting : List ℕ)
    → StandsFor base (observation_lines 0 os) waiting held → HasFront base (observation_lines 0 (os ++ o ∷ [])) held
shown_unput os o base held waiting told =
    subst (λ (t : List ℕ). HasFront base t held) (sym (line_more os o (length os) refl))
    (front_longer base held (observation_lines 0 os) (obs_line (length os) o)
    (blocks_front base held (observation_lines 0 os) waiting told))

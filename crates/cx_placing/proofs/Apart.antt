-- The bytes that are gathered are at addresses of their own: those that were accessed since the last call.
use Rattle.std.proofs.Common.{◌≡◌, ℕ, ◌+◌, ◌==◌, Bool, true, false, not, ◌⊎◌, inl, inr, List, [], ◌∷◌, ◌++◌}
use Rattle.std.proofs.Common.{Option, None, Some, cond, refl, sym, ap, ◌∙◌, arith}
use Rattle.std.proofs.lemmas.Bool.{cases_Bool, or_parts}
use Rattle.std.specs.Option.{option_or}
use Rattle.cx_slices.specs.Bytes.{Byte, BytesRise, byte_found, missing}
use Rattle.cx_slices.specs.Observed.{IsFaithful, Watch}
use Rattle.cx_slices.proofs.Bytes.{byte_found-below, byte_found-here}
use Rattle.cx_slices.proofs.Missing.{BytesRise-filter, BytesRise-missing, missing_byte}
use Rattle.cx_slices.proofs.Small.{none_is_some}
use Rattle.cx_placing.specs.Gathering.{
  AreApart,
  Gathered,
  gathered_by,
  gathered_none,
  gathered_of,
  gathered_on,
  missed_now,
}
use Rattle.cx_placing.specs.Touched.{accesses, first_touched, touching}
use Rattle.cx_placing.proofs.Cells.{byte_found-append, byte_if}
use Rattle.cx_placing.proofs.Heads.{found_first, not_seen}

pub rising_apart : (least : ℕ) (es : List Byte) → BytesRise least es → AreApart es
rising_apart least [] rises = tt
rising_apart least (e ∷ es) rises =
    (byte_found-below (e.0 + 1) e.0 es rises.1 (omega arith), rising_apart (e.0 + 1) es rises.1)

rest_none : (t : Bool) (b : ℕ) (rest : Option ℕ) → cond t (Some b) rest ≡ None → rest ≡ None
rest_none true b rest is = none_is_some b (sym is)
rest_none false b rest is = is

both_none : (first second : Option ℕ) → first ≡ None → second ≡ None → option_or first second ≡ None
both_none first second one two = ap (λ f. option_or f second) one ∙ two

-- Two lists, the first at addresses that pass a test, the second at others.
two_apart : (t : ℕ → Bool) (es fs : List Byte) → AreApart es → AreApart fs
    → ((a : ℕ) → t a ≡ false → byte_found es a ≡ None) → ((a : ℕ) → t a ≡ true → byte_found fs a ≡ None)
    → AreApart (es ++ fs)
two_apart t [] fs first second out within = second
two_apart t (e ∷ es) fs first second out within = (
  byte_found-append es fs e.0
      ∙ both_none (byte_found es e.0) (byte_found fs e.0) first.0 (within e.0 (passes (cases_Bool (t e.0)))),
  two_apart t es fs first.1 second (λ a is. rest_none (e.0 == a) e.1 (byte_found es a) (out a is)) within,
)
  where
    passes : (t e.0 ≡ true) ⊎ (t e.0 ≡ false) → t e.0 ≡ true
    passes (inl is) = is
    passes (inr is) = none_is_some e.1 (sym (out e.0 is) ∙ byte_found-here e.0 e.1 es)

-- The bytes are apart, and at addresses that were touched.
pub record AreMissed (g : Gathered) : Type 0 where
  pub apart : AreApart g.missed
  pub touched : (a : ℕ) → g.touched a ≡ false → byte_found g.missed a ≡ None

kept_out : (touched : Bool) (seen there : Option ℕ) → touched ≡ true
    → byte_if (not touched) (missing_byte seen there) ≡ None
kept_out true seen there is = refl
kept_out false seen there is = cc

unseen_out : (touched : Bool) (seen there : Option ℕ) → seen ≡ None
    → byte_if (not touched) (missing_byte seen there) ≡ None
unseen_out true seen there is = refl
unseen_out false seen there is = ap (λ s. missing_byte s there) is

pub missed_now-apart : {O : Type 0} (m : Watch O ℕ) (g : Gathered) (o : O) → IsFaithful m → AreMissed g
    → AreApart (missed_now m g o)
missed_now-apart m g o faithful are =
    two_apart g.touched g.missed (first_touched g.touched (missing g.known.map (m.seen o))) are.apart
    (rising_apart 0 (first_touched g.touched (missing g.known.map (m.seen o)))
    (BytesRise-filter (λ e. not (g.touched e.0)) 0 (missing g.known.map (m.seen o))
    (BytesRise-missing g.known.map (m.seen o) (faithful.rises o)))) are.touched
    (λ a is. found_first m g.known g.touched o a faithful
    ∙ kept_out (g.touched a) (byte_found (m.seen o) a) (g.known.map a) is)

none_out : {O : Type 0} (m : Watch O ℕ) (g : Gathered) (o : O) (a : ℕ) → IsFaithful m → AreMissed g
    → touching m o g.touched a ≡ false → byte_found (missed_now m g o) a ≡ None
none_out m g o a faithful are out =
    let parts : (g.touched a ≡ false) × (accesses m o a ≡ false) = or_parts (g.touched a) (accesses m o a) out in
    byte_found-append g.missed (first_touched g.touched (missing g.known.map (m.seen o))) a
    ∙ both_none (byte_found g.missed a) (byte_found (first_touched g.touched (missing g.known.map (m.seen o))) a)
    (are.touched a parts.0)
    (found_first m g.known g.touched o a faithful
    ∙ unseen_out (g.touched a) (byte_found (m.seen o) a) (g.known.map a) (not_seen m o a faithful parts.1))

missed_by : {O : Type 0} (m : Watch O ℕ) (g : Gathered) (o : O) (call : Option ℕ) → IsFaithful m → AreMissed g
    → AreMissed (gathered_by m g o call)
missed_by m g o None faithful are =
    record { apart = missed_now-apart m g o faithful are; touched = λ a out. none_out m g o a faithful are out }
missed_by m g o (Some number) faithful are = record { apart = tt; touched = λ a out. refl }

missed_on : {O : Type 0} (m : Watch O ℕ) (called : O → Option ℕ) (g : Gathered) (os : List O) → IsFaithful m
    → AreMissed g → AreMissed (gathered_on m called g os)
missed_on m called g [] faithful are = are
missed_on m called g (o ∷ os) faithful are = missed_on m called (gathered_by m g o (called o)) os faithful
    (missed_by m g o (called o) faithful are)

pub missed_of : {O : Type 0} (m : Watch O ℕ) (called : O → Option ℕ) (os : List O) → IsFaithful m
    → AreMissed (gathered_of m called os)
missed_of m called os faithful = missed_on m called (gathered_none m) os faithful
    (record { apart = tt; touched = λ a out. refl })

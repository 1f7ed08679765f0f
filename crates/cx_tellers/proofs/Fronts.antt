-- What stands in front of the records: the header and the pages.
use Rattle.std.proofs.Common.{◌≡◌, ℕ, suc, ◌+◌, Bool, List, ◌++◌, if◌then◌else◌, Option, Ok, Err, ap, arith, refl}
use Rattle.cx_codec.specs.Blocks.{Waiting}
use Rattle.cx_codec.specs.Puts.{Puts, Putting, Starts}
use Rattle.cx_codec.proofs.Blocks.{front_longer}
use Rattle.cx_ram.specs.PhysicalMemory.{is_zero, page_of}
use Rattle.cx_log.specs.Text.{page_count}

pub page_counted : (memory : List ℕ) (k : ℕ) (zeros : Bool) → is_zero (page_of memory k) ≡ zeros
    → page_count memory (k + 1) ≡ page_count memory k + (if zeros then 0 else 1)
page_counted memory k zeros is = let next : k + 1 ≡ suc k = omega arith in rw (next, is) refl

-- a text was begun, and one more was put,
pub starts_on : {X Y E : Type 0} {fault : E} {kept : X → Waiting} {x x' : X} {y : Y} {new : Putting}
    {held held' : Option (List ℕ)} {faults faults' : ℕ} (a b : List ℕ)
    → Starts fault a kept held held' faults faults' (Ok x)
    → Puts fault b (record { output = kept x; held = held'; faults = faults' }) new (Ok y) → kept x' ≡ new.output
    → Starts fault (a ++ b) kept held new.held faults new.faults (Ok x')
starts_on {held} a b first second same = record {
  told = λ told. second.told (first.told told);
  stands = rw same (second.stands held a first.stands);
  refused = tt;
  live = rw same second.live;
  cause = record {
    later = omega (arith, first.cause.later, second.cause.later);
    fits = λ small. second.cause.fits (first.cause.fits small);
    failed = λ is. cc;
  };
}

-- the second was refused,
pub starts_stop : {X Y E : Type 0} {fault e : E} {kept : X → Waiting} {x : X} {new : Putting}
    {held held' : Option (List ℕ)} {faults faults' : ℕ} (a b : List ℕ)
    → Starts fault a kept held held' faults faults' (Ok x)
    → Puts {X = Y} fault b (record { output = kept x; held = held'; faults = faults' }) new (Err e)
    → Starts fault (a ++ b) kept held new.held faults new.faults (Err e)
starts_stop {X} {E = E} {fault} {e} {held = held} {faults} {faults'} a b first second = record {
  told = λ told. second.told (first.told told);
  stands = tt;
  refused = second.refused held a first.stands;
  live = tt;
  cause = record {
    later = omega (arith, first.cause.later, second.cause.later);
    fits = λ small. second.cause.fits (first.cause.fits small);
    failed = λ is.
        let same : e ≡ fault = cc in
        let rose = second.cause.failed (ap (λ (x : E). Err x) same) in
        omega (arith, rose, first.cause.later);
  };
}

-- or the first
pub starts_short : {X E : Type 0} {fault e : E} {kept : X → Waiting} {held held' : Option (List ℕ)} {faults faults' : ℕ}
    (a b : List ℕ) → Starts fault a kept held held' faults faults' (Err e)
    → Starts fault (a ++ b) kept held held' faults faults' (Err e)
starts_short {held = held} {held' = held'} a b first = record {
  told = first.told;
  stands = tt;
  refused = front_longer held held' a b first.refused;
  live = tt;
  cause = first.cause;
}

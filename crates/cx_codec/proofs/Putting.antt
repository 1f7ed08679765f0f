-- Texts that are put one after another.
use Rattle.std.proofs.Common.{
  ◌≡◌,
  ℕ,
  true,
  List,
  [],
  ◌++◌,
  arith,
  refl,
  ap,
  subst,
  Option,
  Result,
  Ok,
  Err,
  append_assoc,
}
use Rattle.std.proofs.lemmas.List.{append-nil}
use Rattle.cx_io.specs.Cause.{HasCause}
use Rattle.cx_codec.specs.Blocks.{Waiting, StandsFor, whole, part}
use Rattle.cx_codec.specs.Puts.{Putting, Puts, Starts, Finishes}
use Rattle.cx_codec.proofs.Blocks.{front_longer, appends_none}

-- two calls one after another
cause_on : {X Y E : Type 0} {fault : E} {a b c : ℕ} {x : X} {result : Result Y E} → HasCause fault a b (Ok x)
    → HasCause fault b c result → HasCause fault a c result
cause_on first then = record {
  later = omega (arith, first.later, then.later);
  fits = λ small. then.fits (first.fits small);
  failed = λ is. let rose = then.failed is in omega (arith, first.later);
}

cause_fails : {X Y E : Type 0} {fault e : E} {a b : ℕ} → HasCause {T = X} fault a b (Err e)
    → HasCause {T = Y} fault a b (Err e)
cause_fails {X} {Y} {E} {fault} {e} first = record {
  later = first.later;
  fits = first.fits;
  failed = λ is. let same : e ≡ fault = cc in first.failed (ap (λ (x : E). Err x) same);
}

cause_none : {X E : Type 0} {fault : E} {a : ℕ} {x : X} → HasCause fault a a (Ok x)
cause_none = record { later = omega arith; fits = λ small. small; failed = λ is. cc }

-- Nothing was put.
pub puts_none : {X E : Type 0} {fault : E} {s : Putting} {x : X} → s.output.live ≡ true → Puts fault [] s s (Ok x)
puts_none {s} live = record {
  told = λ told. told;
  stands = λ base put before. rw (append-nil put) before;
  refused = tt;
  live = live;
  cause = cause_none;
}

-- One text behind another,
pub puts_on : {X Y E : Type 0} {fault : E} {old mid new : Putting} {x : X} {result : Result Y E} (a b : List ℕ)
    → Puts fault a old mid (Ok x) → Puts fault b mid new result → Puts fault (a ++ b) old new result
puts_on {Y} {E} {fault} {old} {mid} {new} {result} a b first then = by_result result then
  where
    by_result : (r : Result Y E) → Puts fault b mid new r → Puts fault (a ++ b) old new r
    by_result (Ok y) then = record {
      told = λ told. then.told (first.told told);
      stands = λ base put before. rw (← append_assoc put a b)
          (then.stands base (put ++ a) (first.stands base put before));
      refused = tt;
      live = then.live;
      cause = cause_on first.cause then.cause;
    }
    by_result (Err e) then = record {
      told = λ told. then.told (first.told told);
      stands = tt;
      refused = λ base put before. rw (← append_assoc put a b)
          (then.refused base (put ++ a) (first.stands base put before));
      live = then.live;
      cause = cause_on first.cause then.cause;
    }

-- and the first of them, which was refused.
pub puts_fails : {X Y E : Type 0} {fault e : E} {old new : Putting} (a b : List ℕ)
    → Puts {X = X} fault a old new (Err e) → Puts {X = Y} fault (a ++ b) old new (Err e)
puts_fails {old} {new} a b first = record {
  told = first.told;
  stands = tt;
  refused = λ base put before. rw (← append_assoc put a b)
      (front_longer base new.held (put ++ a) b (first.refused base put before));
  live = first.live;
  cause = cause_fails first.cause;
}

-- the same text by another name
pub puts_along : {X E : Type 0} {fault : E} {old new : Putting} {result : Result X E} (a b : List ℕ) → a ≡ b
    → Puts fault a old new result → Puts fault b old new result
puts_along {fault} {old} {new} {result} a b same first =
    subst (λ (text : List ℕ). Puts fault text old new result) same first

-- The same where the last text is put and all is handed to the sink.
pub finishes_on : {X Y E : Type 0} {fault : E} {old mid : Putting} {held : Option (List ℕ)} {faults : ℕ} {x : X}
    {result : Result Y E} (a b : List ℕ)
    → Puts fault a old mid (Ok x) → Finishes fault b mid held faults result
    → Finishes fault (a ++ b) old held faults result
finishes_on {Y} {E} {fault} {old} {mid} {held} {faults} {result} a b first then = by_result result then
  where
    by_result : (r : Result Y E) → Finishes fault b mid held faults r → Finishes fault (a ++ b) old held faults r
    by_result (Ok y) then = record {
      told = λ told. then.told (first.told told);
      written = λ base put before. rw (← append_assoc put a b)
          (then.written base (put ++ a) (first.stands base put before));
      refused = tt;
      cause = cause_on first.cause then.cause;
    }
    by_result (Err e) then = record {
      told = λ told. then.told (first.told told);
      written = tt;
      refused = λ base put before. rw (← append_assoc put a b)
          (then.refused base (put ++ a) (first.stands base put before));
      cause = cause_on first.cause then.cause;
    }

pub finishes_fails : {X Y E : Type 0} {fault e : E} {old new : Putting} (a b : List ℕ)
    → Puts {X = X} fault a old new (Err e)
    → Finishes {X = Y} fault (a ++ b) old new.held new.faults (Err e)
finishes_fails {old} {new} a b first = record {
  told = first.told;
  written = tt;
  refused = λ base put before. rw (← append_assoc put a b)
      (front_longer base new.held (put ++ a) b (first.refused base put before));
  cause = cause_fails first.cause;
}

pub finishes_along : {X E : Type 0} {fault : E} {old : Putting} {held : Option (List ℕ)} {faults : ℕ}
    {result : Result X E} (a b : List ℕ) → a ≡ b
    → Finishes fault a old held faults result → Finishes fault b old held faults result
finishes_along {fault} {old} {held} {faults} {result} a b same first =
    subst (λ (text : List ℕ). Finishes fault text old held faults result) same first

-- before the first text
pub nothing_put : (base : Option (List ℕ)) → StandsFor base [] [] base
unfolding whole part
nothing_put base = record { waits = refl; written = appends_none base }

-- The first text of an output that has put nothing.
pub starts_on : {X Y E : Type 0} {fault : E} {old new : Putting} {x : X} {y : Y} (kept : Y → Waiting) (text : List ℕ)
    → old.output.bytes ≡ []
    → Puts fault text old new (Ok x) → kept y ≡ new.output
    → Starts fault text kept old.held new.held old.faults new.faults (Ok y)
starts_on {fault} {old} {new} {y} kept text nothing first same = record {
  told = first.told;
  stands = rw same (first.stands old.held [] (rw nothing (nothing_put old.held)));
  refused = tt;
  live = rw same first.live;
  cause = record { later = first.cause.later; fits = first.cause.fits; failed = λ is. cc };
}

pub starts_fails : {X Y E : Type 0} {fault e : E} {old new : Putting} (kept : Y → Waiting) (text : List ℕ)
    → old.output.bytes ≡ []
    → Puts {X = X} fault text old new (Err e) → Starts fault text kept old.held new.held old.faults new.faults (Err e)
starts_fails {old} {new} kept text nothing first = record {
  told = first.told;
  stands = tt;
  refused = first.refused old.held [] (rw nothing (nothing_put old.held));
  live = tt;
  cause = cause_fails first.cause;
}

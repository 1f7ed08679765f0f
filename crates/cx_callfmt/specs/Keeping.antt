-- A list that texts are put behind, and how puts follow one another there.
use Rattle.std.specs.Prelude.{◌≡◌, ℕ, List, [], ◌++◌, Result, Ok, Err, OnErr, OnOk}
use Rattle.std.proofs.Common.{sym, ap, ◌∙◌, append_assoc}
use Rattle.std.proofs.lemmas.List.{append-nil}
use Rattle.cx_codec.specs.declared.fault.OutFault.{OutFault}
use Rattle.cx_codec.specs.Reads.{Begins}
use Rattle.cx_codec.proofs.Following.{begins_on}

-- The text stands behind what was there. Where memory was refused, what was there is the front.
pub record Grows (text old new : List ℕ) (result : Result (Unit {0}) OutFault) : Type 0 where
  pub put : OnOk result (new ≡ old ++ text)
  pub front : OnErr result (Begins old new)

pub grows_none : (items : List ℕ) → Grows [] items items (Ok tt)
grows_none items = record { put = sym (append-nil items); front = tt }

pub grows_fails : (a b old new : List ℕ) (e : OutFault) → Grows a old new (Err e) → Grows (a ++ b) old new (Err e)
grows_fails a b old new e first = record { put = tt; front = first.front }

pub grows_on : (a b old mid new : List ℕ) (r : Result (Unit {0}) OutFault) → Grows a old mid (Ok tt) → Grows b mid new r
    → Grows (a ++ b) old new r
grows_on a b old mid new (Ok x) first then = record {
  put = then.put ∙ ap (λ (xs : List ℕ). xs ++ b) first.put ∙ append_assoc old a b;
  front = tt;
}
grows_on a b old mid new (Err e) first then = record {
  put = tt;
  front = begins_on (record { rest = a; parts = first.put }) then.front;
}

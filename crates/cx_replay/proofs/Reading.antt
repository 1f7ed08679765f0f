-- How the records of an input are read, one step ahead.
use Rattle.std.proofs.Common.{◌≡◌, ℕ, suc, ◌<◌, ◌≤◌, List, [], ◌∷◌, ◌++◌, Bool, true, false, Option, None}
use Rattle.std.proofs.Common.{Some, ap, sym, subst, ◌∙◌, arith, append_assoc, append-nil}
use Rattle.cx_log.specs.declared.item.Item.{Item}
use Rattle.cx_log.specs.Item.{entry_of}
use Rattle.cx_log.specs.Recording.{Recorded}
use Rattle.cx_log.specs.Records.{Ends, Entry, Put}
use Rattle.cx_log.specs.Scan.{Scan}
use Rattle.cx_machine.specs.Due.{Due, nothing_due}
use Rattle.cx_run.specs.Due.{due_at}
use Rattle.cx_run.specs.Events.{AllBelow, NoneBelow}
use Rattle.cx_run.proofs.LaterEvents.{due_at-front, due_at-later, none_below_less}
use Rattle.cx_replay.specs.Handing.{handed, handed_by, last_mark, marked_by, marked_by_record}
use Rattle.cx_replay.specs.Records.{GaveEnd, GavePut, RisesFrom, in_front}
use Rattle.cx_replay.specs.Replaying.{AllAt, Gathers, IsAhead, IsRead, Progress, Settled, records_of, waiting_of}
use Rattle.cx_replay.proofs.Handing.{all_below-push, all_below_less, due_at-below, due_at-past, due_at-push}
use Rattle.cx_replay.proofs.Handing.{last_mark-push}

-- ---- nothing is due between the steps of two records

at_is_none_below : (n upto : ℕ) (events : List Recorded) → n ≤ upto → AllAt upto events → NoneBelow n events
at_is_none_below n upto [] less at = tt
at_is_none_below n upto (r ∷ events) less at =
    (let first = at.0 in omega arith, at_is_none_below n upto events less at.1)

none_below-append : (n : ℕ) (front rest : List Recorded) → NoneBelow n front → NoneBelow n rest
    → NoneBelow n (front ++ rest)
none_below-append n [] rest first second = second
none_below-append n (r ∷ front) rest first second = (first.0, none_below-append n front rest first.1 second)

ahead_none_below : (ended : Bool) (n upto : ℕ) (rest : Scan) → n ≤ upto → IsAhead ended upto rest
    → NoneBelow n rest.events
ahead_none_below true n upto rest less ahead = rw ahead.0 tt
ahead_none_below false n upto rest less ahead = none_below_less n upto rest.events less ahead.events

pub ahead_settles : (ended : Bool) (upto : ℕ) (rest : Scan) → IsAhead ended upto rest → upto ≤ rest.upto
ahead_settles true upto rest ahead = omega (arith, ahead.1)
ahead_settles false upto rest ahead = ahead.upto

pub between : {whole : Scan} {p : Progress} {bytes : List ℕ} {Has : Scan → Type 0} → IsRead whole p.at p bytes Has
    → p.at < p.upto
    → Settled whole nothing_due p bytes Has
between {whole} {p} {bytes} {Has} read less =
    let waits : List Recorded = waiting_of bytes p.waiting in
    let later : NoneBelow (suc p.at) (waits ++ read.rest.events) = none_below-append (suc p.at) waits read.rest.events
    (at_is_none_below (suc p.at) p.upto waits (omega arith) read.waits) (ahead_none_below p.ended (suc p.at) p.upto
    read.rest (omega arith) read.ahead) in
    let none : due_at ((read.past ++ waits) ++ read.rest.events) p.at ≡ nothing_due = rw append_assoc
    (due_at-past read.past (waits ++ read.rest.events) p.at read.below ∙ due_at-later (waits ++ read.rest.events) p.at
    later) in
    record {
      read = record {
        rest = read.rest;
        here = read.here;
        past = read.past;
        parts = read.parts;
        below = all_below_less p.at (suc p.at) read.past (omega arith) read.below;
        waits = read.waits;
        ahead = read.ahead;
        asks = read.asks;
        marked = read.marked;
      };
      within = less;
      due_is = sym (ap (λ (s : Scan). due_at s.events p.at) read.parts ∙ none);
    }

-- ---- the records of the next step

taken_in : {whole : Scan} {Has : Scan → Type 0} (at upto : ℕ) (marked : Option ℕ) (e : Entry) (rest : Scan)
    (past : List Recorded) → Has rest
    → whole ≡ in_front (past ++ records_of e) rest → AllBelow at past → AllAt upto (records_of e) → RisesFrom upto rest
    → marked ≡ last_mark past → at ≡ upto
    → Gathers whole at (handed_by e nothing_due) (marked_by e marked) Has
taken_in at upto marked (Put r) rest past here parts below waits rises is same = record {
  rest = rest;
  here = here;
  taken = past ++ r ∷ [];
  parts = parts;
  below = all_below-push (suc at) past r (all_below_less at (suc at) past (omega arith) below) (let there = waits.0 in
      omega arith);
  due_is = sym (due_at-push past r at (waits.0 ∙ sym same) ∙ ap (handed r.event) (due_at-below past at below));
  marked_is = ap (marked_by_record r) is ∙ sym (last_mark-push past r);
  rises = subst (λ (n : ℕ). RisesFrom n rest) (sym same) rises;
}
taken_in at upto marked (Ends end) rest past here parts below waits rises is same = record {
  rest = rest;
  here = here;
  taken = past;
  parts = parts ∙ ap (λ (events : List Recorded). in_front events rest) (append-nil past);
  below = all_below_less at (suc at) past (omega arith) below;
  due_is = sym (due_at-below past at below);
  marked_is = is;
  rises = subst (λ (n : ℕ). RisesFrom n rest) (sym same) rises;
}

-- Nothing waits,
pub first : {whole : Scan} {p : Progress} {bytes : List ℕ} {Has : Scan → Type 0} → IsRead whole p.at p bytes Has
    → p.ended ≡ false → p.at ≡ p.upto → p.waiting ≡ None → Gathers whole p.at nothing_due p.marked Has
first {whole} {p} {bytes} {Has} read more at none =
    let parts : whole ≡ in_front (read.past ++ []) read.rest = rw none at read.parts in
    record {
      rest = read.rest;
      here = read.here;
      taken = read.past;
      parts = parts ∙ ap (λ (events : List Recorded). in_front events read.rest) (append-nil read.past);
      below = all_below_less p.at (suc p.at) read.past (omega arith) read.below;
      due_is = sym (due_at-below read.past p.at read.below);
      marked_is = read.marked;
      rises = rw at (rw more at read.ahead);
    }

-- or a record does, and is taken in.
pub waiting : {whole : Scan} {p : Progress} {bytes : List ℕ} {Has : Scan → Type 0} (item : Item)
    → IsRead whole p.at p bytes Has
    → p.ended ≡ false → p.at ≡ p.upto → p.waiting ≡ Some item
    → Gathers whole p.at (handed_by (entry_of bytes item) nothing_due) (marked_by (entry_of bytes item) p.marked) Has
waiting {p = p} {bytes = bytes} item read more at some =
    taken_in p.at p.upto p.marked (entry_of bytes item) read.rest read.past read.here (rw some at read.parts) read.below
    (rw some at read.waits)
    (rw more at read.ahead) read.marked at

-- A record more of this step.
pub more : {whole : Scan} {at : ℕ} {due : Due} {marked : Option ℕ} {Has Has' : Scan → Type 0} (r : Recorded)
    (g : Gathers whole at due marked Has)
    → GavePut Has' g.rest r → r.step ≡ at → Gathers whole at (handed r.event due) (marked_by_record r marked) Has'
more {whole} {at} r g put here = record {
  rest = put.behind;
  here = put.here;
  taken = g.taken ++ r ∷ [];
  parts = g.parts ∙ ap (in_front g.taken) put.parts ∙ ap (λ (events : List Recorded). record {
    events = events;
    upto =
        put.behind.upto;
    stop = put.behind.stop;
  }) (sym (append_assoc g.taken (r ∷ []) put.behind.events));
  below = all_below-push (suc at) g.taken r g.below (omega arith);
  due_is = ap (handed r.event) g.due_is ∙ sym (due_at-push g.taken r at here);
  marked_is = ap (marked_by_record r) g.marked_is ∙ sym (last_mark-push g.taken r);
  rises = subst (λ (n : ℕ). RisesFrom n put.behind) here put.rises;
}

-- A record of a later step settles this one.
pub later : {whole : Scan} {at : ℕ} {due : Due} {p : Progress} {bytes : List ℕ} {Has Has' : Scan
    → Type 0} (r : Recorded)
    (g : Gathers whole at due p.marked Has) → GavePut Has' g.rest r → waiting_of bytes p.waiting ≡ r ∷ [] → at < r.step
    → p.at ≡ at
    → p.upto ≡ r.step → p.ended ≡ false → Settled whole due p bytes Has'
later {whole} {at} {due} {p} {bytes} r g put waits less here upto more =
    let above : NoneBelow (suc at) (r ∷ put.behind.events) =
    (less, none_below_less (suc at) r.step put.behind.events less put.rises.events) in
    let parts : whole ≡ in_front (g.taken ++ r ∷ []) put.behind = g.parts ∙ ap (in_front g.taken) put.parts
    ∙ ap (λ (events : List Recorded). record { events = events; upto = put.behind.upto; stop = put.behind.stop })
    (sym (append_assoc g.taken (r ∷ []) put.behind.events)) in
    let due_is : due_at whole.events at ≡ due_at g.taken at =
    ap (λ (s : Scan). due_at s.events at) (g.parts ∙ ap (in_front g.taken) put.parts)
    ∙ due_at-front g.taken (r ∷ put.behind.events) at above in
    record {
      read = record {
        rest = put.behind;
        here = put.here;
        past = g.taken;
        parts = rw waits parts;
        below = rw here g.below;
        waits = rw waits (sym upto, tt);
        ahead = rw (more, upto) put.rises;
        asks = λ going none. absurd (let wrong : ◌≡◌ {A = List Recorded} (r ∷ []) [] = sym waits ∙ none in cc);
        marked = g.marked_is;
      };
      within = omega arith;
      due_is = g.due_is ∙ sym due_is ∙ ap (due_at whole.events) (sym here);
    }

-- So does End.
pub ended : {whole : Scan} {at end : ℕ} {due : Due} {p : Progress} {bytes : List ℕ} {Has Has' : Scan → Type 0}
    (g : Gathers whole at due p.marked Has) → GaveEnd Has' g.rest end → waiting_of bytes p.waiting ≡ [] → at < end
    → p.at ≡ at
    → p.upto ≡ end → p.ended ≡ true → Settled whole due p bytes Has'
ended {whole} {at} {end} {due} {p} {bytes} g gave waits less here upto last =
    let parts : whole ≡ in_front (g.taken ++ []) g.rest =
    g.parts ∙ ap (λ (events : List Recorded). in_front events g.rest) (sym (append-nil g.taken)) in
    let due_is : due_at whole.events at ≡ due_at g.taken at = ap (λ (s : Scan). due_at s.events at) g.parts
    ∙ due_at-front g.taken g.rest.events at (rw gave.none tt) in
    record {
      read = record {
        rest = g.rest;
        here = gave.here;
        past = g.taken;
        parts = rw waits parts;
        below = rw here g.below;
        waits = rw waits tt;
        ahead = rw last (gave.none, gave.upto ∙ sym upto);
        asks = λ going none. absurd (let wrong : true ≡ false = sym last ∙ going in cc);
        marked = g.marked_is;
      };
      within = omega arith;
      due_is = g.due_is ∙ sym due_is ∙ ap (due_at whole.events) (sym here);
    }

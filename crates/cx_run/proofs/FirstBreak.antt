-- What records that were read settle, whatever follows.
use Rattle.std.proofs.Common.{
  ◌≡◌,
  ℕ,
  zero,
  suc,
  ◌+◌,
  ◌-◌,
  ◌<◌,
  ◌≤◌,
  ◌++◌,
  Bool,
  List,
  length,
  Some,
  Result,
  Ok,
  Err,
  arith,
  refl,
}
use Rattle.cx_codec.specs.Place.{Place}
use Rattle.cx_codec.proofs.Texts.{bytes_behind}
use Rattle.cx_log.specs.Order.{behind_it}
use Rattle.cx_log.specs.declared.order.Behind.{Behind}
use Rattle.cx_log.specs.Reading.{Opened}
use Rattle.cx_log.specs.Recording.{Recorded, Recording}
use Rattle.cx_log.specs.Records.{Ends, Entry, Put, record_at}
use Rattle.cx_log.specs.Scan.{Scan, decoded, scan, scan_on, scan_within}
use Rattle.cx_log.proofs.RecordOnce.{record_once}
use Rattle.cx_machine.specs.Step.{Step}
use Rattle.cx_map.specs.Bytes.{AreBytes}
use Rattle.cx_run.specs.Events.{NoneBelow}
use Rattle.cx_run.specs.FirstBad.{Broken, bad_behind}
use Rattle.cx_run.specs.Run.{built_steps}
use Rattle.cx_run.proofs.GoodInputs.{bad_step}
use Rattle.cx_run.proofs.LaterEvents.{break_stays, more_begins_alike, none_below_less}
use Rattle.cx_run.proofs.StandingLines.{order_rises}

-- a scan that stands at a step or above
pub record Rises (step : ℕ) (s : Scan) : Type 0 where
  pub events : NoneBelow step s.events
  pub upto : step ≤ s.upto

rises_on : (pages : ℕ) (rest : Behind → Place → Scan)
    → ((b : Behind) (q : Place) → AreBytes q.ahead → Rises b.step (rest b q))
    → (behind : Behind) (p : Place) (r : Result (Entry × Place) ℕ) → AreBytes p.ahead → record_at pages behind p ≡ r
    → Rises behind.step (scan_on rest behind r)
rises_on pages rest later behind p (Err o) are read = record { events = tt; upto = omega arith }
rises_on pages rest later behind p (Ok x) are read = by_entry x.0 x.1 read
  where
    by_entry : (e : Entry) (q : Place) → record_at pages behind p ≡ Ok (e, q)
        → Rises behind.step (scan_on rest behind (Ok (e, q)))
    by_entry (Ends end) q found =
        let stood = record_once pages behind p q (Ends end) are found in
        record { events = tt; upto = omega (arith, stood.may.above) }
    by_entry (Put r) q found =
        let stood = record_once pages behind p q (Put r) are found in
        let above = order_rises pages behind r stood.may in
        let behind_r = later (behind_it behind r) q (bytes_behind p q _ are stood.takes) in
        record {
          events = (above, none_below_less behind.step r.step _ above behind_r.events);
          upto = omega (arith, above, behind_r.upto);
        }

rises_within : (most pages : ℕ) (behind : Behind) (p : Place) → AreBytes p.ahead
    → Rises behind.step (scan_within most pages behind p)
rises_within zero pages behind p are = record { events = tt; upto = omega arith }
rises_within (suc most) pages behind p are =
    rises_on pages (scan_within most pages) (rises_within most pages) behind p (record_at pages behind p) are refl

pub scan_rises : (pages : ℕ) (behind : Behind) (p : Place) → AreBytes p.ahead → Rises behind.step (scan pages behind p)
unfolding scan
scan_rises pages behind p are = rises_within (length p.ahead) pages behind p are

pub break_is_first : {Rec : Type 0} (steps : Bool → Step Rec) (o : Opened) (front : List Recorded) (rest : Scan) (m : ℕ)
    → NoneBelow (o.header.base + m) rest.events → o.header.base + m ≤ rest.upto
    → built_steps (steps o.header.split) (decoded o (record rest { events = front })) m < m
    → bad_behind steps o (record rest { events = front ++ rest.events })
    ≡ Some (Broken (o.header.base + built_steps (steps o.header.split) (decoded o (record rest { events = front })) m))
break_is_first steps o front rest m later upto fewer =
    let R : Recording = decoded o (record rest { events = front }) in
    let S : Recording = decoded o (record rest { events = front ++ rest.events }) in
    let n : ℕ = rest.upto - o.header.base in
    let stays = break_stays (steps o.header.split) R S m n (more_begins_alike R rest.events m later) fewer
    (omega (arith, upto)) in
    bad_step S (built_steps (steps o.header.split) S n) _ _ (λ whole. omega (arith, whole, stays, fewer, upto))
    (rw stays refl)

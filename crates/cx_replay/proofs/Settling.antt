-- How the next step is settled, or the input is at its end.
use Rattle.std.proofs.Common.{◌≡◌, ℕ, List, true, false, Option, None, Some, IfSome}
use Rattle.std.proofs.Common.{Ok, Err, inl, refl, ap, sym, subst, ◌∙◌}
use Rattle.std.proofs.lemmas.List.Elements.{All-nil}
use Rattle.cx_log.specs.declared.fault.LogFault.{LogFault}
use Rattle.cx_log.specs.declared.fault.LogFault.TheVariants.{Format, ReadFault, NoMemory}
use Rattle.cx_log.specs.declared.item.Item.{Item}
use Rattle.cx_log.specs.Item.{entry_of}
use Rattle.cx_log.specs.Scan.{Scan, bad_field}
use Rattle.cx_machine.specs.Due.{Due, IsDue, nothing_due}
use Rattle.cx_machine.specs.Transfers.{IsTransfer}
use Rattle.cx_map.specs.Map.{size_of_pages}
use Rattle.cx_replay.specs.Fault.{replay_fault_of}
use Rattle.cx_replay.specs.Gathering.{FailsOn, IsGathering, Stops}
use Rattle.cx_replay.specs.Handing.{handed_by, marked_by}
use Rattle.cx_replay.specs.Records.{SeesEnd, Seen}
use Rattle.cx_replay.specs.Replaying.{Gathers, IsRead, IsSound, Progress}
use Rattle.cx_replay.proofs.Reading.{first, waiting}
use Rattle.cx_replay.proofs.Turning.{due_fits}

-- ---- behind End

end_upto : {whole : Scan} {p : Progress} {bytes : List ℕ} {Has : Scan → Type 0} → IsRead whole p.at p bytes Has
    → p.ended ≡ true → p.at ≡ p.upto
    → whole.upto ≡ p.at
end_upto {p = p} read last at = ap (λ (s : Scan). s.upto) read.parts ∙ (rw last at read.ahead).1 ∙ sym at

end_stop : {whole : Scan} {p : Progress} {bytes : List ℕ} {Has : Scan → Type 0} (field : Option ℕ)
    (read : IsRead whole p.at p bytes Has) → p.ended ≡ true
    → p.at ≡ p.upto → bad_field read.rest.stop ≡ field → Stops whole p.at field
end_stop field read last at bad = record {
  upto = end_upto read last at;
  bad =
      ap (λ (s : Scan). bad_field s.stop) read.parts ∙ bad;
}

pub end_fails : {whole : Scan} {p : Progress} {bytes : List ℕ} {Has : Scan → Type 0} (Has' : Scan → Type 0) (end : ℕ)
    (may cut : Type 0) (e : LogFault)
    (read : IsRead whole p.at p bytes Has) → p.ended ≡ true → p.at ≡ p.upto → SeesEnd Has' read.rest may cut (Err e)
    → FailsOn whole p.at end may cut (replay_fault_of e)
end_fails Has' end may cut (Format o) read last at sees = λ h. end_stop (Some o) read last at (sees h)
end_fails Has' end may cut ReadFault read last at sees = λ h. inl (end_stop None read last at (sees h))
end_fails Has' end may cut NoMemory read last at sees = tt

pub end_comes : {whole : Scan} {p : Progress} {bytes : List ℕ} {Has : Scan → Type 0} (bytes' : List ℕ) (Has' : Scan
    → Type 0) (may cut : Type 0) (u : Unit {0})
    (read : IsRead whole p.at p bytes Has) → p.ended ≡ true → p.at ≡ p.upto → bytes' ≡ bytes
    → SeesEnd Has' read.rest may cut (Ok u)
    → (whole.upto ≡ p.at) × (may → Stops whole p.at None × IsRead whole p.at p bytes' Has')
end_comes {whole} {p} {bytes} bytes' Has' may cut u read last at same sees = (
  end_upto read last at,
  λ h.
      let still : IsRead whole p.at p bytes Has' = record {
        rest = read.rest;
        here = (sees h).here;
        past = read.past;
        parts = read.parts;
        below = read.below;
        waits = read.waits;
        ahead = read.ahead;
        asks = read.asks;
        marked = read.marked;
      } in
      (end_stop None read last at (sees h).good, subst (λ (bs : List ℕ). IsRead whole p.at p bs Has') (sym same) still),
)

-- ---- the record that waits is taken in

-- what is due and where the replay stands, once the record that waits was taken in
pub record TookWaiting (p q : Progress) (bytes : List ℕ) (due : Due) : Type 0 where
  pub none : p.waiting ≡ None → (due ≡ nothing_due) × (q ≡ p)
  pub some : IfSome p.waiting (λ item. (due ≡ handed_by (entry_of bytes item) nothing_due)
      × (q ≡ record p { marked = marked_by (entry_of bytes item) p.marked }))

pub gathers_waiting : {whole : Scan} {bytes : List ℕ} {Has : Scan → Type 0} (p q : Progress) (due : Due)
    → IsRead whole p.at p bytes Has
    → p.ended ≡ false → p.at ≡ p.upto → TookWaiting p q bytes due → Gathers whole q.at due q.marked Has
gathers_waiting {whole} {bytes} {Has} p q due read more at took = by_waiting p.waiting refl
  where
    by_waiting : (w : Option Item) → p.waiting ≡ w → Gathers whole q.at due q.marked Has
    by_waiting None is =
        let both = took.none is in
        rw (both.0, both.1) (first read more at is)
    by_waiting (Some item) is =
        let both = rw is at took.some in
        rw (both.0, both.1) (waiting item read more at is)

nothing_fits : (pages : ℕ) → IsDue pages nothing_due
nothing_fits pages = record { transfers = All-nil (IsTransfer (size_of_pages pages)); lines = tt; value = tt }

pub gathering_waiting : (p q : Progress) (due : Due) (r : Seen) → IsSound p r → p.ended ≡ false → p.at ≡ p.upto
    → TookWaiting p q r.bytes due
    → IsGathering q due r
gathering_waiting p q due r sound more at took = by_waiting p.waiting refl
  where
    by_waiting : (w : Option Item) → p.waiting ≡ w → IsGathering q due r
    by_waiting None is =
        let both = took.none is in
        rw (both.0, both.1) (record {
          live = sound.live;
          more = sound.ended ∙ more;
          going = more;
          last = sound.last more
              ∙ sym at;
          handed = nothing_fits r.pages;
        })
    by_waiting (Some item) is =
        let both = rw is at took.some in
        rw (both.0, both.1) (record {
          live = sound.live;
          more = sound.ended ∙ more;
          going = more;
          last = sound.last more ∙ sym at;
          handed = due_fits r.pages item.step r.bytes item.what nothing_due (rw is at sound.fits)
              (nothing_fits r.pages);
        })

-- A record that was read settles the next step, is handed to it, or isn't there.
use Rattle.std.proofs.Common.{◌≡◌, ℕ, ◌^◌, ◌<◌, ◌≤◌, ◌||◌, nat_lt, List, [], ◌∷◌, Bool, true}
use Rattle.std.proofs.Common.{false, if◌then◌else◌, Option, None, Some, Err, IfSome, IsTrue, inr, refl}
use Rattle.std.proofs.Common.{ap, sym, ◌∙◌, arith, unwrap_or}
use Rattle.std.proofs.lemmas.Bool.{ltb-true, ltb-false}
use Rattle.std.proofs.lemmas.List.Elements.{All-push}
use Rattle.cx_csr.specs.declared.lines.Lines as lines
use Rattle.cx_log.specs.declared.fault.LogFault.{LogFault}
use Rattle.cx_log.specs.declared.fault.LogFault.TheVariants.{Format, ReadFault, NoMemory}
use Rattle.cx_log.specs.declared.item.Item.{Item}
use Rattle.cx_log.specs.declared.item.What.{What}
use Rattle.cx_log.specs.declared.item.What.TheVariants as what
use Rattle.cx_log.specs.Item.{entry_of, entry_with, is_end}
use Rattle.cx_log.specs.Recording.{Recorded}
use Rattle.cx_log.specs.Records.{Ends, Entry, Put}
use Rattle.cx_log.specs.Scan.{Scan, bad_field}
use Rattle.cx_machine.specs.Due.{AreLines, Due, IsDue}
use Rattle.cx_machine.specs.Transfers.{IsTransfer}
use Rattle.cx_map.specs.Map.{size_of_pages}
use Rattle.cx_replay.specs.Fault.{replay_fault_of}
use Rattle.cx_replay.specs.Gathering.{FailsOn, IsGathering, IsReady, Stops}
use Rattle.cx_replay.specs.Handing.{handed_by, marked_by}
use Rattle.cx_replay.specs.Records.{Fits, GaveEntry, GaveItem, IsNext, ReadsRecord, Seen, in_front, stopped}
use Rattle.cx_replay.specs.Replaying.{Gathers, Progress, Settled, settled_by, settles, waiting_of}
use Rattle.cx_replay.proofs.Reading.{ended, later, more}
use Rattle.cx_replay.proofs.Scanning.{ends_where, is_ends}

-- ---- it isn't there

pub stops : {whole : Scan} {at : ℕ} {due : Due} {marked : Option ℕ} {Has : Scan → Type 0} (field : ℕ)
    (g : Gathers whole at due marked Has)
    → g.rest ≡ stopped at field → Stops whole at (Some field)
stops {whole} {at} field g is =
    let parts : whole ≡ in_front g.taken (stopped at field) = g.parts ∙ ap (in_front g.taken) is in
    record { upto = ap (λ (s : Scan). s.upto) parts; bad = ap (λ (s : Scan). bad_field s.stop) parts }

pub record_fails : {whole : Scan} {at : ℕ} {due : Due} {marked : Option ℕ} {Has : Scan → Type 0} (last : ℕ)
    (bytes : List ℕ) (Has' : Scan → Type 0) (end : ℕ)
    (may cut : Type 0) (e : LogFault) (g : Gathers whole at due marked Has) → last ≡ at
    → ReadsRecord last bytes Has' g.rest end may cut (Err e) → FailsOn whole at end may cut (replay_fault_of e)
record_fails last bytes Has' end may cut (Format o) g here reads = λ h. stops o g (rw here at (reads h))
record_fails last bytes Has' end may cut ReadFault g here reads = λ h. inr (stops end g (rw here at (reads h)))
record_fails last bytes Has' end may cut NoMemory g here reads = tt

-- ---- what an item is

step_of : Entry → ℕ
step_of (Put r) = r.step
step_of (Ends end) = end

step_where : (bytes : List ℕ) (step : ℕ) (w : What) → step_of (entry_with bytes step w) ≡ step
unfolding step_of
step_where bytes step (what.Dma place) = refl
step_where bytes step (what.Lines lines) = refl
step_where bytes step (what.Value v) = refl
step_where bytes step what.Mark = refl
step_where bytes step what.End = refl

-- a record at a step, and no End
pub record IsRecord (bytes : List ℕ) (item : Item) (r : Recorded) : Type 0 where
  pub more : is_end item.what ≡ false
  pub step : r.step ≡ item.step

pub record_is : (bytes : List ℕ) (item : Item) (r : Recorded) → entry_of bytes item ≡ Put r → IsRecord bytes item r
unfolding is_ends step_of
record_is bytes item r is = record {
  more = ends_where bytes item.step item.what ∙ ap is_ends is;
  step = sym (ap step_of is) ∙ step_where bytes item.step item.what;
}

record IsEnd (bytes : List ℕ) (item : Item) (end : ℕ) : Type 0 where
  last : is_end item.what ≡ true
  step : end ≡ item.step

end_is : (bytes : List ℕ) (item : Item) (end : ℕ) → entry_of bytes item ≡ Ends end → IsEnd bytes item end
unfolding is_ends step_of
end_is bytes item end is = record {
  last = ends_where bytes item.step item.what ∙ ap is_ends is;
  step = sym (ap step_of is) ∙ step_where bytes item.step item.what;
}

-- ---- what becomes of the progress

pub progress_settled : (p q : Progress) (item : Item) → true ≡ settles p.at item
    → q ≡ (if settles p.at item then settled_by item p else p)
    → q ≡ settled_by item p
progress_settled p q item settled is = is ∙ rw (← settled) refl

pub progress_stays : (p q : Progress) (item : Item) → false ≡ settles p.at item
    → q ≡ (if settles p.at item then settled_by item p else p)
    → q ≡ p
progress_stays p q item going is = is ∙ rw (← going) refl

-- ---- it settles the next step

pub turn_settled : {whole : Scan} {due : Due} {Has : Scan → Type 0} (bytes : List ℕ) (Has' : Scan
    → Type 0) (p : Progress) (item : Item) (last now : ℕ)
    (g : Gathers whole p.at due p.marked Has) → GaveEntry Has' g.rest (entry_of bytes item) → settles p.at item ≡ true
    → last ≡ p.at
    → IsNext last now item.step (is_end item.what) → Settled whole due (settled_by item p) bytes Has'
turn_settled {whole} {due} {Has} bytes Has' p item last now g gave settled here next =
    by_entry (entry_of bytes item) refl gave
  where
    by_entry : (e : Entry) → entry_of bytes item ≡ e → GaveEntry Has' g.rest e
        → Settled whole due (settled_by item p) bytes Has'
    by_entry (Put r) is put =
        let at = record_is bytes item r is in
        let less : nat_lt p.at item.step ≡ true = rw at.more at settled in
        let waits : waiting_of bytes (settled_by item p).waiting ≡ r ∷ [] = rw (at.more, is) refl in
        later {p = settled_by item p} r g put waits (rw at.step (ltb-true p.at item.step less)) refl (sym at.step)
        at.more
    by_entry (Ends end) is put =
        let at = end_is bytes item end is in
        let above : last < item.step = rw at.last at next in
        let waits : waiting_of bytes (settled_by item p).waiting ≡ [] = rw at.last refl in
        ended {p = settled_by item p} g put waits (omega (arith, above, here, at.step)) refl (sym at.step) at.last

pub turn_ready : (p : Progress) (due : Due) (old new : Seen) (item : Item) → IsGathering p due old
    → GaveItem old new item → settles p.at item ≡ true
    → IsTrue new.live → new.pages ≡ old.pages → IsReady (settled_by item p) due new
turn_ready p due old new item was gave settled live pages = by_end (is_end item.what) refl
  where
    by_end : (b : Bool) → is_end item.what ≡ b → IsReady (settled_by item p) due new
    by_end true is =
        let above : old.last < item.step = rw is at gave.next in
        let less : p.at < item.step = omega (arith, above, was.last) in
        record {
          sound = record {
            within = omega (arith, less);
            last = λ no. cc;
            ended = gave.ended;
            fits = rw is tt;
            live =
                live;
          };
          within = less;
          handed = rw pages was.handed;
        }
    by_end false is =
        let next : (old.last ≤ item.step) × (new.last ≡ item.step) = rw is at gave.next in
        let less : p.at < item.step = ltb-true p.at item.step (rw is at settled) in
        record {
          sound = record {
            within = omega (arith, less);
            last = λ no. next.1;
            ended = gave.ended;
            fits =
                rw is gave.fits;
            live = live;
          };
          within = less;
          handed = rw pages was.handed;
        }

-- ---- it is one of the next step

pub turn_more : {whole : Scan} {due : Due} {Has : Scan → Type 0} (bytes : List ℕ) (Has' : Scan → Type 0) (p : Progress)
    (item : Item) (last now : ℕ)
    (g : Gathers whole p.at due p.marked Has) → GaveEntry Has' g.rest (entry_of bytes item) → settles p.at item ≡ false
    → last ≡ p.at
    → IsNext last now item.step (is_end item.what)
    → Gathers whole p.at (handed_by (entry_of bytes item) due) (marked_by (entry_of bytes item) p.marked) Has'
turn_more {whole} {due} {Has} bytes Has' p item last now g gave settled here next =
    by_entry (entry_of bytes item) refl gave
  where
    by_entry : (e : Entry) → entry_of bytes item ≡ e → GaveEntry Has' g.rest e
        → Gathers whole p.at (handed_by e due) (marked_by e p.marked) Has'
    by_entry (Put r) is put =
        let at = record_is bytes item r is in
        let most : item.step ≤ p.at = ltb-false p.at item.step (rw at.more at settled) in
        let least : (last ≤ item.step) × (now ≡ item.step) = rw at.more at next in
        more r g put (omega (arith, most, least.0, here, at.step))
    by_entry (Ends end) is put =
        let at = end_is bytes item end is in
        let wrong : true ≡ false = rw at.last at settled in
        cc

lines_handed : (before : Option lines.Lines) (now : lines.Lines) → IfSome before AreLines → AreLines now
    → AreLines (unwrap_or before now)
lines_handed None now well fits = fits
lines_handed (Some before) now well fits = well

value_handed : (before : Option ℕ) (now : ℕ) → IfSome before (λ v. v < 2 ^ 32) → now < 2 ^ 32
    → unwrap_or before now < 2 ^ 32
value_handed None now well fits = fits
value_handed (Some before) now well fits = well

-- What fits stays so with one more that fits.
pub due_fits : (pages step : ℕ) (bytes : List ℕ) (w : What) (due : Due) → Fits pages bytes w → IsDue pages due
    → IsDue pages (handed_by (entry_with bytes step w) due)
due_fits pages step bytes (what.Dma place) due fits well = record {
  transfers = All-push (IsTransfer (size_of_pages pages)) due.transfers (record { place = place; bytes = bytes })
      well.transfers fits;
  lines = well.lines;
  value = well.value;
}
due_fits pages step bytes (what.Lines set) due fits well =
    record { transfers = well.transfers; lines = lines_handed due.lines set well.lines fits; value = well.value }
due_fits pages step bytes (what.Value v) due fits well =
    record { transfers = well.transfers; lines = well.lines; value = value_handed due.value v well.value fits }
due_fits pages step bytes what.Mark due fits well = well
due_fits pages step bytes what.End due fits well = well

pub turn_gathers : (p : Progress) (due : Due) (old new : Seen) (item : Item) (marked : Option ℕ) → IsGathering p due old
    → GaveItem old new item
    → settles p.at item ≡ false → IsTrue new.live → new.pages ≡ old.pages
    → IsGathering (record p { marked = marked }) (handed_by (entry_of new.bytes item) due) new
turn_gathers p due old new item marked was gave settled live pages =
    let more : is_end item.what ≡ false = no_end (is_end item.what) settled in
    let most : item.step ≤ p.at = ltb-false p.at item.step (rw more at settled) in
    let next : (old.last ≤ item.step) × (new.last ≡ item.step) = rw more at gave.next in
    record {
      live = live;
      more = gave.ended ∙ more;
      going = was.going;
      last = omega (arith, most, next.0, next.1, was.last);
      handed = due_fits new.pages item.step new.bytes item.what due gave.fits (rw pages was.handed);
    }
  where
    no_end : (b : Bool) → (b || nat_lt p.at item.step) ≡ false → b ≡ false
    no_end true wrong = cc
    no_end false is = refl

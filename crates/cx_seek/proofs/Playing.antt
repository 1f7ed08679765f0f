-- A machine that takes the steps of a run again.
use Rattle.std.proofs.Common.{◌≡◌, ℕ, ◌+◌, ◌*◌, ◌-◌, ◌/◌, ◌<◌, ◌≤◌, Bool, true, false, Some, drop, get_or, length, refl, sym, ap}
use Rattle.std.proofs.Common.{subst, ◌∙◌, arith}
use Rattle.std.specs.List.{slice_get}
use Rattle.cx_hart.specs.HartStep.{hart_step}
use Rattle.cx_hart.specs.Whole.{Whole, machine_at, machine_of}
use Rattle.cx_hart.specs.declared.record.StepRec.{StepRec}
use Rattle.cx_log.specs.Recording.{Recording}
use Rattle.cx_machine.specs.Due.{Due}
use Rattle.cx_machine.specs.Machine.{MachineState}
use Rattle.cx_replay.specs.Gathering.{IsCarriedOut}
use Rattle.cx_run.specs.Due.{due_at}
use Rattle.cx_seek.specs.Checkpoints.{IsMachineAt}
use Rattle.cx_seek.specs.Dues.{Hands, covers, due_in, index_behind}
use Rattle.cx_seek.specs.Seeking.{IsCourse, IsOf, IsRunOf, IsSameMachine, Seeking, StandsIn, taken}
use Rattle.cx_seek.specs.declared.checkpoint.Checkpoint.{Checkpoint}
use Rattle.cx_seek.specs.declared.course.Course.{Course}
use Rattle.cx_seek.specs.declared.player.Player.{Player}
use Rattle.cx_csr.specs.Keeps.{Keeps}
use Rattle.cx_machine.specs.Machine.{pages_of}
use Rattle.std.proofs.lemmas.Option.{slice_get_read}
use Rattle.cx_seek.proofs.Intervals.{interval-some}
use Rattle.cx_seek.proofs.Spacing.{index_within}
use Rattle.cx_seek.proofs.Hands.{hands_here, hands_none, hands_on}
use Rattle.cx_seek.proofs.Standing.{goes_on, is_taken}

-- the step that was carried out, as the run's
carried_in : (R : Recording) (c : Course) (p : Player) (due : Due) (after : MachineState) (rec : StepRec)
    → IsRunOf R c p.machine → StandsIn R c.notes p → p.at < c.end → due ≡ due_in c.notes p.next p.at
    → hart_step p.machine.split (machine_of p.machine) due ≡ Some (record { machine = after; rec = rec })
    → hart_step R.split (machine_of p.machine) (due_at R.events p.at) ≡ Some (record { machine = after; rec = rec })
carried_in R c p due after rec run stands below is goes =
    let here : due ≡ due_at R.events p.at = is ∙ hands_here R.events p.at R.end p.next c.notes stands.hands
    (let e = run.end in omega (arith, e)) in
    ap (λ (d : Due). hart_step R.split (machine_of p.machine) d) (sym here)
    ∙ ap (λ (flag : Bool). hart_step flag (machine_of p.machine) due) (sym run.split) ∙ goes

pub stands_on : (R : Recording) (c : Course) (p : Player) (due : Due) (after : Whole) (Known : StepRec → Type 0)
    → IsRunOf R c p.machine → StandsIn R c.notes p → c.base ≤ p.at → p.at < c.end → due ≡ due_in c.notes p.next p.at
    → IsCarriedOut (hart_step p.machine.split (machine_of p.machine) due) Known (machine_of after) true
    → StandsIn R c.notes (record { machine = after; at = p.at + 1; next = index_behind c.notes p.next p.at })
stands_on R c p due after Known run stands above below is carried = record {
  there = goes_on R p.at (machine_of p.machine) (machine_of after) carried.0 (let e = run.base in omega (arith, e))
      stands.there (carried_in R c p due (machine_of after) carried.0 run stands below is carried.1.0);
  hands = hands_on R.events p.at R.end p.next c.notes stands.hands (let e = run.end in omega (arith, e));
}

pub takes_it : (R : Recording) (c : Course) (p : Player) (due : Due) (after : Whole) (told : StepRec)
    → IsRunOf R c p.machine → StandsIn R c.notes p → p.at < c.end → due ≡ due_in c.notes p.next p.at
    → IsCarriedOut (hart_step p.machine.split (machine_of p.machine) due) (λ rec. told ≡ rec) (machine_of after) true
    → taken R p.at ≡ Some (record { machine = machine_of after; rec = told })
takes_it R c p due after told run stands below is carried =
    is_taken R p.at (machine_of p.machine) (machine_of after) carried.0 stands.there
    (carried_in R c p due (machine_of after) carried.0 run stands below is carried.1.0)
    ∙ ap (λ (rec : StepRec). Some (record { machine = machine_of after; rec = rec })) (sym carried.1.1)

-- ---- the machine keeps its moments

pub same_machine : (m : Whole) → IsSameMachine m m
same_machine m = record { size = refl; split = refl; saved = refl }

pub same_machine_on : (a b c : Whole) → IsSameMachine a b → IsSameMachine b c → IsSameMachine a c
same_machine_on a b c first last = record {
  size = last.size ∙ first.size;
  split = last.split ∙ first.split;
  saved = last.saved ∙ first.saved;
}

pub run_stays : (R : Recording) (c : Course) (old new : Whole) → IsSameMachine old new → IsRunOf R c old
    → IsRunOf R c new
run_stays R c old new same run = record {
  base = run.base;
  end = run.end;
  pages = run.pages;
  split = same.split ∙ run.split;
  unbroken = run.unbroken;
  checkpoints = rw same.saved run.checkpoints;
}

-- ---- back to a checkpoint

pub stands_back : (R : Recording) (c : Course) (old new : Whole) (x : Checkpoint) (n index : ℕ) → IsRunOf R c old
    → slice_get c.checkpoints.items index ≡ Some x → machine_at old.saved x.moment ≡ Some (machine_of new)
    → StandsIn R c.notes (record { machine = new; at = c.base + index * c.distance; next = x.next })
stands_back R c old new x n index run at is =
    let there = run.checkpoints index x at in
    let step : R.base + index * c.distance ≡ c.base + index * c.distance = ap (λ (b : ℕ). b + index * c.distance)
    (sym run.base) in
    let same : there.machine ≡ machine_of new = cc in
    record {
      there = subst (λ (k : ℕ). IsMachineAt R k (machine_of new)) step
          (subst (λ (m : MachineState). IsMachineAt R (R.base + index * c.distance) m) same there.there);
      hands = subst (λ (k : ℕ). Hands R.events k R.end (drop x.next c.notes)) step there.hands;
    }

-- ---- what devices write

pub covered_by : (R : Recording) (s : Seeking) (handed : Due) (place : ℕ) (r : Bool) → IsOf R s → s.player.at < R.end
    → handed ≡ due_in s.course.notes s.player.next s.player.at → r ≡ covers handed.transfers place
    → r ≡ covers (due_at R.events s.player.at).transfers place
covered_by R s handed place r is below handed_is answer =
    answer ∙ ap (λ (d : Due). covers d.transfers place)
    (handed_is ∙ hands_here R.events s.player.at R.end s.player.next s.course.notes is.stands.hands below)

pub covered_none : (R : Recording) (s : Seeking) (handed : Due) (place : ℕ) (r : Bool) → IsOf R s → s.player.at ≡ R.end
    → handed ≡ due_in s.course.notes s.player.next s.player.at → r ≡ covers handed.transfers place → r ≡ false
covered_none R s handed place r is at handed_is answer =
    let hands : Hands R.events s.player.at s.player.at (drop s.player.next s.course.notes) =
    subst (λ (n : ℕ). Hands R.events s.player.at n (drop s.player.next s.course.notes)) (sym at) is.stands.hands in
    answer ∙ ap (λ (d : Due). covers d.transfers place)
    (handed_is ∙ hands_none R.events s.player.at s.player.next s.course.notes hands)

-- ---- the checkpoint to which a machine is put back

pub is_back : (c : Course) (m : Whole) (n : ℕ) (x : Checkpoint) → IsCourse c m → c.base ≤ n → n ≤ c.end
    → x ≡ get_or c.checkpoints.items ((n - c.base) / c.distance) x
    → slice_get c.checkpoints.items ((n - c.base) / c.distance) ≡ Some x
is_back c m n x course above below is =
    let least : 1024 ≤ c.distance = rw course.distance (interval-some (c.end - c.base)) in
    slice_get_read c.checkpoints.items (length c.checkpoints.items) ((n - c.base) / c.distance) x refl
    (index_within (n - c.base) (c.end - c.base) (length c.checkpoints.items) c.distance (omega (arith, least))
    course.spaced (omega arith)) is

pub keeps_back : (c : Course) (m : Whole) (n : ℕ) (x : Checkpoint) → IsCourse c m → c.base ≤ n → n ≤ c.end
    → x ≡ get_or c.checkpoints.items ((n - c.base) / c.distance) x → Keeps (pages_of m.memory) x.moment.state
keeps_back c m n x course above below is =
    let size = course.size in
    let count : pages_of m.memory ≡ c.pages = omega (arith, size) in
    subst (λ (k : ℕ). Keeps k x.moment.state) (sym count)
    (course.held.held ((n - c.base) / c.distance) x (is_back c m n x course above below is)).keeps

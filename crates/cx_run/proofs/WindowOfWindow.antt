-- A window of a window is a window.
use Rattle.std.proofs.Common.{◌≡◌, ℕ, ◌+◌, ◌-◌, ◌<◌, ◌≤◌, List, ◌++◌, length, drop, Bool, true, Some, refl, sym, ap}
use Rattle.std.proofs.Common.{subst, ◌∙◌, arith}
use Rattle.std.proofs.lemmas.List.{drop-drop}
use Rattle.std.proofs.lemmas.Option.{same_Some}
use Rattle.cx_ram.specs.PhysicalMemory.{page_of}
use Rattle.cx_log.specs.Recording.{Recording}
use Rattle.cx_log.specs.Order.{KeepsRules}
use Rattle.cx_machine.specs.Machine.{MachineState}
use Rattle.cx_machine.specs.Step.{Step, IsFramed}
use Rattle.cx_run.specs.Run.{Run, run_of}
use Rattle.cx_run.specs.Window.{is_read, kept_pages, events_between, window_from, IsWindow}
use Rattle.cx_run.specs.Alone.{AgreeOnPages, RunsAlone}
use Rattle.cx_run.proofs.Runs.{BeginsWith, run_of-begins, length-records}
use Rattle.cx_run.proofs.PagesRead.{is_read-longer}
use Rattle.cx_run.proofs.KeptPages.{kept_pages-agree, page_of-agree}
use Rattle.cx_run.proofs.Events.{events_between-inner}
use Rattle.cx_run.proofs.Alone.{window_runs_alone}

-- The inner window's memory: the pages that are read in it are read in the outer one, so they are at hand there.
inner_memory : {Rec : Type 0} (reads : Rec → List ℕ) (m n pages : ℕ) (p q : MachineState)
    (records inner rest : List Rec) → m ≤ n → m ≤ length records
    → AgreeOnPages (is_read reads (drop m (records ++ rest))) p q → inner ≡ drop m records
    → kept_pages (is_read reads (drop (n - m) inner)) q.memory pages ≡ kept_pages (is_read reads (drop n records))
    p.memory pages
inner_memory {Rec} reads m n pages p q records inner rest from within agree is =
    kept_pages-agree (is_read reads (drop (n - m) inner)) (is_read reads (drop n records)) q.memory p.memory pages
    same_test same_page
  where
    same_records : drop (n - m) inner ≡ drop n records
    same_records = let place : m + (n - m) ≡ n = omega arith in rw (is, drop-drop (n - m) m records, place) refl

    same_test : (k : ℕ) → k < pages → is_read reads (drop (n - m) inner) k ≡ is_read reads (drop n records) k
    same_test k below = rw same_records refl

    in_outer : (k : ℕ) → is_read reads (drop n records) k ≡ true → is_read reads (drop m (records ++ rest)) k ≡ true
    in_outer k some =
        let same : drop n records ≡ drop (n - m) (drop m records) = sym same_records ∙ ap (drop (n - m)) is in
        is_read-longer reads k m (n - m) records rest within (rw same at some)

    same_page : (k : ℕ) → k < pages → is_read reads (drop n records) k ≡ true → page_of q.memory k ≡ page_of p.memory k
    same_page k below some =
        page_of-agree p.memory q.memory k agree.size (λ i here. agree.bytes i (rw here (in_outer k some)))

same_windows : {Rec : Type 0} (reads : Rec → List ℕ) (R W : Recording) (c d : ℕ)
    (before after there_before there_after : Run Rec) → W.version ≡ R.version → W.split ≡ R.split → W.pages ≡ R.pages
    → before.machine.state ≡ there_before.machine.state
    → kept_pages (is_read reads (drop (c - W.base) after.records)) before.machine.memory R.pages ≡ kept_pages
    (is_read reads (drop (c - R.base) there_after.records)) there_before.machine.memory R.pages
    → events_between c d W.events ≡ events_between c d R.events → window_from reads W c d before after ≡ window_from
    reads R c d there_before there_after
same_windows reads R W c d before after there_before there_after version split pages state memory events =
    rw (version, split, pages, state, memory, events) refl

pub window_of_window : {Rec : Type 0} (step : Step Rec) (reads : Rec → List ℕ) (R W V : Recording) (a b c d : ℕ)
    → IsFramed step reads → KeepsRules R
    → IsWindow step reads R a b W → IsWindow step reads W c d V → IsWindow step reads R c d V
window_of_window {Rec} step reads R W V a b c d frame rules w v = record {
  from = omega (arith, from_base, from_a, inner, to_b, to_end);
  some = v.some;
  to = omega (arith, from_base, from_a, inner, to_b, to_end);
  before = at_c.there;
  up_to_a = rw place_c at at_c.in_the_whole;
  after = at_d.there;
  up_to_b = rw place_d at at_d.in_the_whole;
  is = v.is ∙ same_windows reads R W c d v.before v.after at_c.there at_d.there (rw w.is refl) (rw w.is refl) pages
      state memory events;
}
  where
    base : W.base ≡ a
    base = rw w.is refl

    end : W.end ≡ b
    end = rw w.is refl

    pages : W.pages ≡ R.pages
    pages = rw w.is refl

    from_base : R.base ≤ a
    from_base = w.from

    from_a : a ≤ c
    from_a = rw base at v.from

    inner : c < d
    inner = v.some

    to_b : d ≤ b
    to_b = rw end at v.to

    to_end : b ≤ R.end
    to_end = w.to

    keep : ℕ → Bool
    keep = is_read reads (drop (a - R.base) w.after.records)

    at_c : RunsAlone step keep R a W (c - a)
    at_c = window_runs_alone step reads R W a b (c - a) frame rules w
        (omega (arith, from_base, from_a, inner, to_b, to_end))

    at_d : RunsAlone step keep R a W (d - a)
    at_d = window_runs_alone step reads R W a b (d - a) frame rules w
        (omega (arith, from_base, from_a, inner, to_b, to_end))

    place_c : a - R.base + (c - a) ≡ c - R.base
    place_c = omega (arith, from_base, from_a, inner, to_b, to_end)

    place_d : a - R.base + (d - a) ≡ d - R.base
    place_d = omega (arith, from_base, from_a, inner, to_b, to_end)

    same_c : at_c.here ≡ v.before
    same_c = same_Some at_c.here v.before (sym at_c.alone ∙ subst (λ n. run_of step W n ≡ Some v.before)
        (ap (λ n. c - n) base) v.up_to_a)

    same_d : at_d.here ≡ v.after
    same_d = same_Some at_d.here v.after (sym at_d.alone ∙ subst (λ n. run_of step W n ≡ Some v.after)
        (ap (λ n. d - n) base) v.up_to_b)

    state : v.before.machine.state ≡ at_c.there.machine.state
    state = ap (λ (r : Run Rec). r.machine.state) (sym same_c) ∙ at_c.machine.state

    records : v.after.records ≡ drop (a - R.base) at_d.there.records
    records = ap (λ (r : Run Rec). r.records) (sym same_d) ∙ at_d.records

    longer : BeginsWith step R (d - R.base) w.after
    longer = run_of-begins step R (d - R.base) (b - R.base) w.after
        (omega (arith, from_base, from_a, inner, to_b, to_end)) w.up_to_b

    front : longer.run ≡ at_d.there
    front = same_Some longer.run at_d.there (sym longer.is ∙ rw place_d at at_d.in_the_whole)

    whole : w.after.records ≡ at_d.there.records ++ longer.rest
    whole = longer.records ∙ ap (λ (r : Run Rec). r.records ++ longer.rest) front

    so_many : length at_d.there.records ≡ d - R.base
    so_many = rw place_d at (length-records step R (a - R.base + (d - a)) at_d.there at_d.in_the_whole)

    agree : AgreeOnPages (is_read reads (drop (a - R.base) (at_d.there.records ++ longer.rest))) at_c.there.machine
        v.before.machine
    agree =
        subst (λ (r : Run Rec). AgreeOnPages (is_read reads (drop (a - R.base) (at_d.there.records ++ longer.rest)))
        at_c.there.machine r.machine) same_c
        (subst (λ (rs : List Rec). AgreeOnPages (is_read reads (drop (a - R.base) rs)) at_c.there.machine
        at_c.here.machine) whole at_c.machine)

    place : c - W.base ≡ c - R.base - (a - R.base)
    place = rw base (omega (arith, from_base, from_a))

    memory : kept_pages (is_read reads (drop (c - W.base) v.after.records)) v.before.machine.memory R.pages ≡ kept_pages
        (is_read reads (drop (c - R.base) at_d.there.records)) at_c.there.machine.memory R.pages
    memory = rw place (inner_memory reads (a - R.base) (c - R.base) R.pages at_c.there.machine v.before.machine
        at_d.there.records v.after.records longer.rest (omega (arith, from_base, from_a))
        (omega (arith, so_many, from_base, from_a, inner)) agree records)

    events : events_between c d W.events ≡ events_between c d R.events
    events = rw w.is (events_between-inner a b c d R.events from_a to_b)

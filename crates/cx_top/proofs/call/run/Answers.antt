use Rattle.std.proofs.Common.{◌≡◌, Some, map, refl}
use Rattle.std.specs.String.{string_bytes}
use Rattle.cx_words.specs.declared.command.Command.TheVariants.{Window, TraceWindow, TraceAll, Record, RecordSeed}
use Rattle.cx_words.specs.declared.command.Command.TheVariants.{Calls, Inspect, Make, Process, Relog, Replay}
use Rattle.cx_words.specs.declared.command.Command.TheVariants.{Roots, TraceRoot, Upgrade}
use Rattle.cx_words.specs.Parse.{parse}
use Rattle.cx_commands.specs.Call.{input_behind}
use Rattle.cx_commands.proofs.Carrying.{carries_as, carries_image, carries_unasked}
use Rattle.cx_commands.proofs.Written.{writes_leaves, writes_says}
use Rattle.cx_commands.proofs.Recordings.{carries_steps}
use Rattle.cx_querying.proofs.QueriesCounted.{queries_are_counted}
use Rattle.cx_top.proofs.StepCounts.{count_of}
use Rattle.cx_top.proofs.call.run.Goals as goal

pub returns-in-Some-Window-clause-carries : goal.returns-in-Some-Window-clause-carries
returns-in-Some-Window-clause-carries g c told input begins are =
    carries_unasked _ (Some (Window c.in-Some-Window.from c.in-Some-Window.to)) _ _ _ _ _ _ _ _ (cc) tt refl
    (c.window.ensures.answer told input begins are) (c.window.ensures.leaves told input begins are)

pub returns-in-Some-TraceWindow-clause-carries : goal.returns-in-Some-TraceWindow-clause-carries
returns-in-Some-TraceWindow-clause-carries g c told input begins are =
    carries_unasked _ (Some (TraceWindow c.in-Some-TraceWindow.from c.in-Some-TraceWindow.to)) _ _ _ _ _ _ _ _ (cc) tt refl
    (c.trace_window.ensures.answer told input begins are) (c.trace_window.ensures.leaves told input begins are)

pub returns-in-Some-TraceAll-clause-carries : goal.returns-in-Some-TraceAll-clause-carries
returns-in-Some-TraceAll-clause-carries g c told input begins are =
    carries_unasked _ (Some TraceAll) _ _ _ _ _ _ _ _ (cc) tt refl
    (c.stream-in-Some-TraceAll.ensures.answer told input begins are)
    (c.stream-in-Some-TraceAll.ensures.leaves told input begins are)

pub returns-in-Some-Process-clause-carries : goal.returns-in-Some-Process-clause-carries
returns-in-Some-Process-clause-carries g c told input begins are =
    carries_unasked _ (Some (Process c.in-Some-Process.root)) _ _ _ _ _ _ _ _ (cc) tt refl
    (c.stream.ensures.answer told input begins are) (c.stream.ensures.leaves told input begins are)

pub returns-in-Some-Calls-clause-carries : goal.returns-in-Some-Calls-clause-carries
returns-in-Some-Calls-clause-carries g c told input begins are =
    carries_unasked _ (Some (Calls c.in-Some-Calls.root)) _ _ _ _ _ _ _ _ (cc) tt refl
    (c.stream-in-Some-Calls.ensures.answer told input begins are)
    (c.stream-in-Some-Calls.ensures.leaves told input begins are)

pub returns-in-Some-Relog-clause-carries : goal.returns-in-Some-Relog-clause-carries
returns-in-Some-Relog-clause-carries g c told input begins are =
    carries_unasked _ (Some Relog) _ _ _ _ _ _ _ _ (cc) tt refl (c.relog.ensures.answer told input begins are)
    (c.relog.ensures.leaves told input begins are)

pub returns-in-Some-TraceRoot-clause-carries : goal.returns-in-Some-TraceRoot-clause-carries
returns-in-Some-TraceRoot-clause-carries g c told input begins are =
    carries_unasked _ (Some (TraceRoot c.in-Some-TraceRoot.root)) _ _ _ _ _ _ _ _ (cc) tt refl
    (c.stream-in-Some-TraceRoot.ensures.answer told input begins are)
    (c.stream-in-Some-TraceRoot.ensures.leaves told input begins are)

pub returns-in-Some-Roots-clause-carries : goal.returns-in-Some-Roots-clause-carries
returns-in-Some-Roots-clause-carries g c told input begins are =
    carries_unasked _ (Some Roots) _ _ _ _ _ _ _ _ (cc) tt refl
    (c.roots.ensures.answer told input begins are) (c.roots.ensures.leaves told input begins are)

pub returns-in-Some-Inspect-clause-carries : goal.returns-in-Some-Inspect-clause-carries
returns-in-Some-Inspect-clause-carries g c told input begins are =
    carries_unasked _ (Some (Inspect c.in-Some-Inspect.count)) _ _ _ _ _ _ _ _ (cc) tt refl
    (c.inspect.ensures.answer told input begins are) (c.inspect.ensures.leaves told input begins are)

pub returns-in-Some-Make-clause-carries : goal.returns-in-Some-Make-clause-carries
returns-in-Some-Make-clause-carries g c told input begins are =
    let w = c.make.ensures.writes in
    let bytes = input_behind (g.S.Source.given c.args.source.now) input in
    carries_image _ (Some (Make c.in-Some-Make.n)) _ w.image _ _ _ _ _ _ _ (cc) w.is refl
    (writes_says w.image bytes _ _ _ _ _ w.writes) (writes_leaves w.image bytes _ _ _ _ _ w.writes)

pub returns-in-Some-Replay-clause-carries : goal.returns-in-Some-Replay-clause-carries
returns-in-Some-Replay-clause-carries g c told input begins are =
    carries_unasked _ (Some Replay) _ _ _ _ _ _ _ _ (cc) tt refl
    (c.replay.ensures.answer told input begins are) (c.replay.ensures.leaves told input begins are)

pub returns-in-Some-Upgrade-clause-carries : goal.returns-in-Some-Upgrade-clause-carries
returns-in-Some-Upgrade-clause-carries g c told input begins are =
    carries_unasked _ (Some Upgrade) _ _ _ _ _ _ _ _ (cc) tt refl
    (c.stream-in-Some-Upgrade.ensures.answer told input begins are)
    (c.stream-in-Some-Upgrade.ensures.leaves told input begins are)

pub returns-in-Some-Record-clause-carries : goal.returns-in-Some-Record-clause-carries
returns-in-Some-Record-clause-carries g c told input begins are =
    carries_as _ (Some (Record c.in-Some-Record.steps)) _ _ _ _ _ _ _ _ _ (cc)
    (carries_steps c.in-Some-Record.steps _ _ _ _ _ _ _ _ _ (c.record_steps.ensures.records told input begins))

pub returns-in-Some-RecordSeed-clause-carries : goal.returns-in-Some-RecordSeed-clause-carries
returns-in-Some-RecordSeed-clause-carries g c told input begins are =
    carries_unasked _ (Some (RecordSeed c.in-Some-RecordSeed.steps c.in-Some-RecordSeed.seed)) _ _ _ _ _ _ _ _ (cc) tt
    (c.record_seed.ensures.asks told input begins, refl) (c.record_seed.ensures.answer told input begins)
    (c.record_seed.ensures.leaves told input begins)

pub record_steps-requires-clause-some : goal.record_steps-requires-clause-some
record_steps-requires-clause-some g c =
    let is : parse (map string_bytes c.args.words.now) ≡ Some (Record c.in-Some-Record.steps) = cc in
    (count_of (map string_bytes c.args.words.now) _ is).0

pub record_steps-requires-clause-most : goal.record_steps-requires-clause-most
record_steps-requires-clause-most g c =
    let is : parse (map string_bytes c.args.words.now) ≡ Some (Record c.in-Some-Record.steps) = cc in
    (count_of (map string_bytes c.args.words.now) _ is).1

pub record_seed-requires-clause-some : goal.record_seed-requires-clause-some
record_seed-requires-clause-some g c =
    let is : parse (map string_bytes c.args.words.now)
    ≡ Some (RecordSeed c.in-Some-RecordSeed.steps c.in-Some-RecordSeed.seed) = cc in
    (count_of (map string_bytes c.args.words.now) _ is).0

pub record_seed-requires-clause-most : goal.record_seed-requires-clause-most
record_seed-requires-clause-most g c =
    let is : parse (map string_bytes c.args.words.now)
    ≡ Some (RecordSeed c.in-Some-RecordSeed.steps c.in-Some-RecordSeed.seed) = cc in
    (count_of (map string_bytes c.args.words.now) _ is).1

pub inspect-requires : goal.inspect-requires
inspect-requires g c =
    let is : parse (map string_bytes c.args.words.now) ≡ Some (Inspect c.in-Some-Inspect.count) = cc in
    queries_are_counted (map string_bytes c.args.words.now) _ is

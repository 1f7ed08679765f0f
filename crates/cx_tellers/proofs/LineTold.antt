-- A line more.
use Rattle.std.proofs.Common.{◌≡◌, ℕ, ◌+◌, List, [], ◌∷◌, ◌++◌, length, Option, Result, Ok, Err, ap, sym, ◌∙◌}
use Rattle.cx_codec.specs.Blocks.{StandsFor}
use Rattle.cx_codec.specs.Puts.{Puts, Putting}
use Rattle.cx_codec.specs.declared.fault.OutFault.{OutFault}
use Rattle.cx_codec.specs.declared.fault.OutFault.TheVariants.{WriteFault as write_fault}
use Rattle.cx_hart.specs.declared.record.StepRec.{StepRec}
use Rattle.cx_log.specs.Reading.{Opened}
use Rattle.cx_log.specs.Scan.{Scan}
use Rattle.cx_print.specs.Lines.{step_line}
use Rattle.cx_commands.specs.Growing.{line_more}
use Rattle.cx_commands.specs.Streaming.{TellsOn}
use Rattle.cx_commands.specs.Trace.{line_text, lines_from}

pub line_told : {old new : Putting} {result : Result (Unit {0}) OutFault} (o : Opened) (whole : Scan)
    (given : List StepRec) (base : Option (List ℕ)) (step : ℕ) (rec : StepRec) → step ≡ o.header.base + length given
    → StandsFor base (line_text o whole given) old.output.bytes old.held
    → Puts write_fault (step_line step rec) old new result
    → TellsOn base (line_text o whole (given ++ rec ∷ [])) new.output.bytes new.held (Unit {0}) result
line_told {old} {new} {result} o whole given base step rec at told puts = by_result result puts
  where
    line : lines_from o.header.base (given ++ rec ∷ []) ≡ lines_from o.header.base given ++ step_line step rec
    line = line_more o.header.base given rec ∙ ap (λ (n : ℕ). lines_from o.header.base given ++ step_line n rec)
        (sym at)

    by_result : (r : Result (Unit {0}) OutFault) → Puts write_fault (step_line step rec) old new r
        → TellsOn base (line_text o whole (given ++ rec ∷ [])) new.output.bytes new.held (Unit {0}) r
    by_result (Ok u) puts =
        record { stands = rw line (puts.stands base (lines_from o.header.base given) told); keeps = tt }
    by_result (Err e) puts = rw line (puts.refused base (lines_from o.header.base given) told)

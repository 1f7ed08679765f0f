-- The number and the line of each status.
use Rattle.std.specs.Prelude.{ℕ, List, ◌++◌, codes}
use Rattle.std.specs.Fmt.{decimal}
use Rattle.cx_commands.specs.declared.status.Status.{Status}
use Rattle.cx_commands.specs.declared.status.Status.TheVariants.{Done, Usage, Format, Broken, NotThere, ReadFault}
use Rattle.cx_commands.specs.declared.status.Status.TheVariants.{WriteFault, WorldFault, NoMemory, NotBuilt}

abbrev pub status_number : Status → ℕ
status_number Done = 0
status_number Usage = 1
status_number (Format offset) = 2
status_number (Broken step) = 3
status_number NotThere = 4
status_number ReadFault = 5
status_number WriteFault = 6
status_number WorldFault = 7
status_number NoMemory = 8
status_number (NotBuilt step) = 9

abbrev pub status_line : Status → List ℕ
status_line Done = codes "done"
status_line Usage = codes "usage"
status_line (Format offset) = codes "format at " ++ decimal offset
status_line (Broken step) = codes "broken at " ++ decimal step
status_line NotThere = codes "not there"
status_line ReadFault = codes "read fault"
status_line WriteFault = codes "write fault"
status_line WorldFault = codes "world fault"
status_line NoMemory = codes "no memory"
status_line (NotBuilt step) = codes "not built at " ++ decimal step

-- Which status a fault becomes.
use Rattle.cx_codec.specs.declared.fault.OutFault.{OutFault}
use Rattle.cx_codec.specs.declared.fault.OutFault.TheVariants.{WriteFault as write_fault, NoMemory as no_room}
use Rattle.cx_live.specs.declared.fault.ImageFault.{ImageFault}
use Rattle.cx_live.specs.declared.fault.ImageFault.TheVariants as image
use Rattle.cx_log.specs.declared.fault.LogFault.{LogFault}
use Rattle.cx_log.specs.declared.fault.LogFault.TheVariants.{Format as bad_field, ReadFault as read_fault}
use Rattle.cx_log.specs.declared.fault.LogFault.TheVariants.{NoMemory as no_memory}
use Rattle.cx_record.specs.declared.fault.RecordFault.{RecordFault}
use Rattle.cx_record.specs.declared.fault.RecordFault.TheVariants as recorder
use Rattle.cx_replay.specs.declared.fault.ReplayFault.{ReplayFault}
use Rattle.cx_replay.specs.declared.fault.ReplayFault.TheVariants as replay
use Rattle.cx_commands.specs.declared.status.Status.{Status}
use Rattle.cx_commands.specs.declared.status.Status.TheVariants.{Broken, Format, ReadFault, WriteFault, WorldFault, NoMemory}

abbrev pub status_of_log : LogFault → Status
status_of_log (bad_field o) = Format o
status_of_log read_fault = ReadFault
status_of_log no_memory = NoMemory

abbrev pub status_of_out : OutFault → Status
status_of_out write_fault = WriteFault
status_of_out no_room = NoMemory

abbrev pub status_of_replay : ReplayFault → Status
status_of_replay (replay.Format o) = Format o
status_of_replay (replay.Broken n) = Broken n
status_of_replay replay.ReadFault = ReadFault
status_of_replay replay.NoMemory = NoMemory

abbrev pub status_of_image : ImageFault → Status
status_of_image (image.Format o) = Format o
status_of_image image.ReadFault = ReadFault
status_of_image image.NoMemory = NoMemory

abbrev pub status_of_record : RecordFault → Status
status_of_record recorder.WorldFault = WorldFault
status_of_record recorder.WriteFault = WriteFault
status_of_record recorder.NoMemory = NoMemory

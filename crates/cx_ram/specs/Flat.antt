-- The memories of a pool of frames, each as one flat list of bytes.
use Rattle.std.specs.Prelude.{map}
use Rattle.std.specs.List.{concat}
use Rattle.std.specs.Option.{option_map}
use Rattle.cx_pages.specs.Memories.{Memory, Memories}
use Rattle.cx_ram.specs.PhysicalMemory.{PhysicalMemory, SavedMemory}

-- a memory with its pages joined
abbrev pub flat : Memory → SavedMemory
flat m = record { memory = concat m.pages; stamps = m.stamps }

-- what contracts see of a pool as physical memory
abbrev pub physical : Memories → PhysicalMemory
physical m = record {
  memory = concat m.current.pages;
  stamps = m.current.stamps;
  saved = map (option_map flat) m.saved;
  used = m.used;
  spare = m.spare;
}

use Rattle.std.proofs.Common.{◌≡◌, length, sym}
use Rattle.cx_machine.specs.Machine.{pages_of}
use Rattle.cx_map.specs.Map.{size_of_pages}
use Rattle.cx_live.proofs.Sizes.{pages_are, size_is}
use Rattle.cx_live.proofs.image.Image.is_image.Goals as goal

pub returns : goal.returns
returns c =
    let size : length c.self.inside.machine.memory ≡ size_of_pages c.pages.result =
    rw c.ram.ensures.memory at c.pages.ensures.whole in
    let pages : c.pages.result ≡ pages_of c.self.inside.machine.memory = pages_are _ _ size in
    rw (← c.self.view_is) (record {
      version = c.self.invariant.version_is;
      pages = rw pages at c.pages.ensures.count;
      memory = record { size = sym (size_is _ _ size); bytes = rw c.ram.ensures.memory at c.pages.ensures.bytes };
      disk = c.self.invariant.disk_is;
      disk_bytes = c.are_vector_bytes.ensures;
      console = c.self.invariant.console_is;
      console_bytes = c.are_vector_bytes-2.ensures;
    })

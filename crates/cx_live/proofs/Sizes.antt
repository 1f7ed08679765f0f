-- Pages of a memory that is whole pages.
use Rattle.std.proofs.Common.{◌≡◌, ℕ, ◌<◌, List, length, arith}
use Rattle.cx_machine.specs.Machine.{pages_of}
use Rattle.cx_map.specs.Map.{size_of_pages}
use Rattle.cx_ram.specs.PhysicalMemory.{IsPage}

pub pages_are : (memory : List ℕ) (pages : ℕ) → length memory ≡ size_of_pages pages → pages ≡ pages_of memory
pages_are memory pages size = omega (arith, size)

pub is_page : (memory : List ℕ) (pages number : ℕ) → length memory ≡ size_of_pages pages → number < pages_of memory
    → IsPage memory number
is_page memory pages number size below = omega (arith, size, below)

pub size_is : (memory : List ℕ) (pages : ℕ) → length memory ≡ size_of_pages pages
    → size_of_pages (pages_of memory) ≡ length memory
size_is memory pages size = omega (arith, size)

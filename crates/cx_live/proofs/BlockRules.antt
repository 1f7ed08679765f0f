-- The block device keeps its rules, and what it moves to RAM fits there.
use Rattle.std.proofs.Common.{◌≡◌, ℕ, ◌+◌, ◌-◌, ◌*◌, ◌/◌, ◌%◌, ◌^◌, ◌<◌, ◌≤◌, Bool, true, false, if◌then◌else◌, ◌==◌, ◌&&◌}
use Rattle.std.proofs.Common.{Option, None, Some, IfSome, List, [], ◌∷◌, length, take, drop, refl, sym, ap, subst, ◌∙◌, arith}
use Rattle.std.proofs.Common.{length-take, length-drop}
use Rattle.std.proofs.lemmas.Bool.Decides.{nat_tests}
use Rattle.std.proofs.lemmas.List.Elements.{All-cons, All-nil}
use Rattle.cx_block.specs.Block.{BlockDevice, IsDisk, after_store, after_store_at, block_at_reset, done, fits, is_busy}
use Rattle.cx_block.specs.Block.{sectors_of, size_of, unless_busy, with_command, with_sectors, word_load, word_load_at}
use Rattle.cx_block.specs.Sound.{IsBlock, IsReady}
use Rattle.cx_block.specs.declared.disk.TheConstants.{SECTOR_SIZE}
use Rattle.cx_block.specs.declared.states.TheConstants.{BUSY, IDLE, TO_RAM}
use Rattle.cx_hart.specs.declared.record.Touch.{Touch}
use Rattle.cx_machine.specs.Transfers.{AreTransfers, IsTransfer, Transfer}
use Rattle.cx_map.specs.Bytes.{AreBytes}
use Rattle.cx_map.specs.Map.{IsInRam, ram_index, size_of_pages}
use Rattle.cx_map.proofs.BytesLemmas.{AreBytes-drop, AreBytes-take}
use Rattle.cx_ram.specs.LittleEndian.{written}
use Rattle.cx_ram.proofs.LoadsAndWrites.{length-written}
use Rattle.cx_ram.proofs.SameWrites.{written_byte}
use Rattle.cx_walk.specs.Devices.{device_at}
use Rattle.cx_walk.specs.declared.device.DeviceWord.{DeviceWord}
use Rattle.cx_walk.specs.declared.device.DeviceWord.TheVariants as word
use Rattle.cx_live.specs.Live.{after_completion, completed, completes, moved, moves_of, ram_bytes, transfer_of}
use Rattle.cx_live.specs.Live.{transfers_due}
use Rattle.cx_live.specs.Rules.{KeepsBlock}
use Rattle.cx_live.specs.Turn.{block_after_write, word_of}
use Rattle.cx_live.proofs.DeviceRules.{word_small}
use Rattle.cx_live.proofs.Inside.{fits_inside}

-- ---- loads

block_load_small : (pages : ℕ) (w : DeviceWord) (b : BlockDevice) → KeepsBlock pages b → word_load w b < 2 ^ 32
block_load_small pages word.BlockSector b keeps = keeps.sector
block_load_small pages word.BlockAddress b keeps = keeps.address
block_load_small pages word.BlockCount b keeps = keeps.count
block_load_small pages word.BlockCommand b keeps = keeps.command
block_load_small pages word.BlockState b keeps = omega (arith, keeps.sound.state)
block_load_small pages w b keeps = omega arith

pub block_load_small_at : (pages : ℕ) (o : Option DeviceWord) (b : BlockDevice) → KeepsBlock pages b
    → word_load_at o b < 2 ^ 32
block_load_small_at pages None b keeps = omega arith
block_load_small_at pages (Some w) b keeps = block_load_small pages w b keeps

-- ---- what it is busy with

busy_is : (b : BlockDevice) → is_busy b ≡ true → b.state ≡ BUSY
busy_is b busy = grind (arith, nat_tests)

sectors_size : (b : BlockDevice) → IsReady b.sector b.count (length b.disk) → length (sectors_of b) ≡ size_of b
sectors_size b ready =
    let there : 512 * (b.sector + b.count) ≤ length b.disk = ready.there in
    omega (
      arith,
      length-take (size_of b) (drop (SECTOR_SIZE * b.sector) b.disk),
      length-drop (SECTOR_SIZE * b.sector) b.disk,
      there,
    )

transfer_fits : (pages : ℕ) (b : BlockDevice) → KeepsBlock pages b → b.state ≡ BUSY
    → IsTransfer (size_of_pages pages) (transfer_of b)
transfer_fits pages b keeps busy =
    let ready = keeps.sound.ready busy in
    let size = sectors_size b ready in
    let some : 1 ≤ b.count = ready.some in
    let most : b.count ≤ 8 = ready.most in
    record {
      some = omega (arith, size, some);
      most = omega (arith, size, most);
      ram =
          subst (λ n. IsInRam (size_of_pages pages) b.address n) (sym size)
          (fits_inside pages b.command b (keeps.fits busy));
      bytes = AreBytes-take (size_of b) (drop (SECTOR_SIZE * b.sector) b.disk)
          (AreBytes-drop (SECTOR_SIZE * b.sector) b.disk keeps.disk);
    }

moves_fit_by : (pages : ℕ) (b : BlockDevice) (t : Bool) → IsTransfer (size_of_pages pages) (transfer_of b)
    → AreTransfers (size_of_pages pages) (if t then transfer_of b ∷ [] else [])
moves_fit_by pages b true fit = All-cons (IsTransfer (size_of_pages pages)) (transfer_of b) [] fit
    (All-nil (IsTransfer (size_of_pages pages)))
moves_fit_by pages b false fit = All-nil (IsTransfer (size_of_pages pages))

busy_completes : (block : Bool) (b : BlockDevice) → completes block b ≡ true → b.state ≡ BUSY
busy_completes true b is = busy_is b is
busy_completes false b is = absurd cc

pub transfers_fit : (pages : ℕ) (block : Bool) (b : BlockDevice) → KeepsBlock pages b
    → AreTransfers (size_of_pages pages) (transfers_due block b)
transfers_fit pages block b keeps = by_test (completes block b) refl
  where
    by_test : (t : Bool) → completes block b ≡ t
        → AreTransfers (size_of_pages pages) (if t then moves_of b else [])
    by_test true is = moves_fit_by pages b (b.command == TO_RAM) (transfer_fits pages b keeps (busy_completes block b is))
    by_test false is = All-nil (IsTransfer (size_of_pages pages))

few_by : (b : BlockDevice) (s t : Bool)
    → length {A = Transfer} (if s then (if t then transfer_of b ∷ [] else []) else []) ≤ 1
few_by b true true = omega arith
few_by b true false = omega arith
few_by b false t = omega arith

pub few_transfers : (block : Bool) (b : BlockDevice) → length (transfers_due block b) ≤ 1
few_transfers block b = few_by b (completes block b) (b.command == TO_RAM)

-- ---- a command is completed

done_keeps : (pages : ℕ) (b : BlockDevice) → KeepsBlock pages b → KeepsBlock pages (done b)
done_keeps pages b keeps = record {
  sound = record { disk = keeps.sound.disk; state = omega arith; ready = λ busy. absurd (omega (arith, busy)) };
  sector = keeps.sector;
  address = keeps.address;
  count = keeps.count;
  command = keeps.command;
  disk = keeps.disk;
  fits = λ busy. absurd (omega (arith, busy));
}

from_ram_keeps : (pages : ℕ) (memory : List ℕ) (b : BlockDevice) → length memory ≡ size_of_pages pages
    → AreBytes memory → KeepsBlock pages b → b.state ≡ BUSY
    → KeepsBlock pages (done (with_sectors (ram_bytes memory b) b))
from_ram_keeps pages memory b size bytes keeps busy =
    let ready = keeps.sound.ready busy in
    let there : 512 * (b.sector + b.count) ≤ length b.disk = ready.there in
    let few : length (ram_bytes memory b) ≤ size_of b =
    omega (arith, length-take (size_of b) (drop (ram_index b.address) memory)) in
    let same : length (written b.disk (SECTOR_SIZE * b.sector) (ram_bytes memory b)) ≡ length b.disk =
    length-written b.disk (SECTOR_SIZE * b.sector) (ram_bytes memory b) (omega (arith, few, there)) in
    record {
      sound = record {
        disk = record {
          whole = subst (λ n. n % SECTOR_SIZE ≡ 0) (sym same) keeps.sound.disk.whole;
          most = omega (arith, same, keeps.sound.disk.most);
        };
        state = omega arith;
        ready = λ is. absurd (omega (arith, is));
      };
      sector = keeps.sector;
      address = keeps.address;
      count = keeps.count;
      command = keeps.command;
      disk = written_byte b.disk (SECTOR_SIZE * b.sector) (ram_bytes memory b) (λ n. n < 256) keeps.disk
          (AreBytes-take (size_of b) (drop (ram_index b.address) memory)
          (AreBytes-drop (ram_index b.address) memory bytes));
      fits = λ is. absurd (omega (arith, is));
    }

completed_keeps : (pages : ℕ) (memory : List ℕ) (b : BlockDevice) (t : Bool) → length memory ≡ size_of_pages pages
    → AreBytes memory → KeepsBlock pages b → b.state ≡ BUSY
    → KeepsBlock pages (done (if t then b else with_sectors (ram_bytes memory b) b))
completed_keeps pages memory b true size bytes keeps busy = done_keeps pages b keeps
completed_keeps pages memory b false size bytes keeps busy = from_ram_keeps pages memory b size bytes keeps busy

pub completion_keeps : (pages : ℕ) (block : Bool) (memory : List ℕ) (b : BlockDevice)
    → length memory ≡ size_of_pages pages → AreBytes memory → KeepsBlock pages b
    → KeepsBlock pages (after_completion block memory b)
completion_keeps pages block memory b size bytes keeps = by_test (completes block b) refl
  where
    by_test : (t : Bool) → completes block b ≡ t → KeepsBlock pages (if t then completed memory b else b)
    by_test true is = completed_keeps pages memory b (b.command == TO_RAM) size bytes keeps (busy_completes block b is)
    by_test false is = keeps

-- ---- stores

not_busy : (b : BlockDevice) → is_busy b ≡ false → b.state ≡ BUSY → ⊥
not_busy b is busy = grind (arith, nat_tests)

unless_keeps : (pages : ℕ) (b now : BlockDevice) → KeepsBlock pages b → (is_busy b ≡ false → KeepsBlock pages now)
    → KeepsBlock pages (unless_busy b now)
unless_keeps pages b now keeps free = by_test (is_busy b) refl
  where
    by_test : (t : Bool) → is_busy b ≡ t → KeepsBlock pages (if t then b else now)
    by_test true is = keeps
    by_test false is = free is

ready_where_it_fits : (pages v : ℕ) (b : BlockDevice) → fits pages v b ≡ true → IsReady b.sector b.count (length b.disk)
unfolding fits
ready_where_it_fits pages v b fit = record {
  some = grind (arith, nat_tests);
  most = grind (arith, nat_tests);
  there = grind (arith, nat_tests);
}

fits_again : (pages v : ℕ) (b : BlockDevice) (state : ℕ) → fits pages v b ≡ true
    → fits pages v (record b { command = v; state = state }) ≡ true
unfolding fits
fits_again pages v b state fit = fit

command_keeps_by : (pages v : ℕ) (b : BlockDevice) (t : Bool) → fits pages v b ≡ t → v < 2 ^ 32 → KeepsBlock pages b
    → KeepsBlock pages (record b { command = v; state = if t then 1 else 3 })
command_keeps_by pages v b true is small keeps = record {
  sound = record {
    disk = keeps.sound.disk;
    state = omega arith;
    ready = λ busy. ready_where_it_fits pages v b is;
  };
  sector = keeps.sector;
  address = keeps.address;
  count = keeps.count;
  command = small;
  disk = keeps.disk;
  fits = λ busy. fits_again pages v b 1 is;
}
command_keeps_by pages v b false is small keeps = record {
  sound = record { disk = keeps.sound.disk; state = omega arith; ready = λ busy. absurd (omega (arith, busy)) };
  sector = keeps.sector;
  address = keeps.address;
  count = keeps.count;
  command = small;
  disk = keeps.disk;
  fits = λ busy. absurd (omega (arith, busy));
}

store_keeps : (pages : ℕ) (w : DeviceWord) (v : ℕ) (b : BlockDevice) → v < 2 ^ 32 → KeepsBlock pages b
    → KeepsBlock pages (after_store w pages v b)
store_keeps pages word.BlockSector v b small keeps =
    unless_keeps pages b (record b { sector = v }) keeps (λ free. record {
      sound = record { disk = keeps.sound.disk; state = keeps.sound.state; ready = λ is. absurd (not_busy b free is) };
      sector = small;
      address = keeps.address;
      count = keeps.count;
      command = keeps.command;
      disk = keeps.disk;
      fits = λ is. absurd (not_busy b free is);
    })
store_keeps pages word.BlockAddress v b small keeps =
    unless_keeps pages b (record b { address = v }) keeps (λ free. record {
      sound = record { disk = keeps.sound.disk; state = keeps.sound.state; ready = λ is. absurd (not_busy b free is) };
      sector = keeps.sector;
      address = small;
      count = keeps.count;
      command = keeps.command;
      disk = keeps.disk;
      fits = λ is. absurd (not_busy b free is);
    })
store_keeps pages word.BlockCount v b small keeps =
    unless_keeps pages b (record b { count = v }) keeps (λ free. record {
      sound = record { disk = keeps.sound.disk; state = keeps.sound.state; ready = λ is. absurd (not_busy b free is) };
      sector = keeps.sector;
      address = keeps.address;
      count = small;
      command = keeps.command;
      disk = keeps.disk;
      fits = λ is. absurd (not_busy b free is);
    })
store_keeps pages word.BlockCommand v b small keeps =
    unless_keeps pages b (with_command pages v b) keeps
    (λ free. command_keeps_by pages v b (fits pages v b) refl small keeps)
store_keeps pages word.BlockState v b small keeps =
    unless_keeps pages b (record b { state = IDLE }) keeps (λ free. record {
      sound = record { disk = keeps.sound.disk; state = omega arith; ready = λ is. absurd (omega (arith, is)) };
      sector = keeps.sector;
      address = keeps.address;
      count = keeps.count;
      command = keeps.command;
      disk = keeps.disk;
      fits = λ is. absurd (omega (arith, is));
    })
store_keeps pages w v b small keeps = keeps

store_keeps_at : (pages : ℕ) (o : Option DeviceWord) (v : ℕ) (b : BlockDevice) → v < 2 ^ 32 → KeepsBlock pages b
    → KeepsBlock pages (after_store_at o pages v b)
store_keeps_at pages None v b small keeps = keeps
store_keeps_at pages (Some w) v b small keeps = store_keeps pages w v b small keeps

pub block_write_keeps : (pages : ℕ) (write : Option Touch) (b : BlockDevice) → IfSome write (λ t. AreBytes t.bytes)
    → KeepsBlock pages b → KeepsBlock pages (block_after_write write pages b)
block_write_keeps pages None b bytes keeps = keeps
block_write_keeps pages (Some t) b bytes keeps =
    store_keeps_at pages (device_at t.pa) (word_of t) b (word_small t bytes) keeps

-- ---- at reset

pub block_at_reset_keeps : (pages : ℕ) (disk : List ℕ) → IsDisk disk → AreBytes disk
    → KeepsBlock pages (block_at_reset disk)
block_at_reset_keeps pages disk is bytes = record {
  sound = record { disk = is; state = omega arith; ready = λ busy. absurd (omega (arith, busy)) };
  sector = omega arith;
  address = omega arith;
  count = omega arith;
  command = omega arith;
  disk = bytes;
  fits = λ busy. absurd (omega (arith, busy));
}

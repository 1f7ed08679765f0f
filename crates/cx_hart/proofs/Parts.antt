-- What an access touches is well formed.
use Rattle.std.proofs.Common.{◌≡◌, ℕ, zero, suc, ◌-◌, ◌/◌, ◌^◌, ◌*◌, List, length, replicate, take, Option, None, Some}
use Rattle.std.proofs.Common.{refl, sym, ap, subst, arith}
use Rattle.std.specs.Option.{option_map}
use Rattle.cx_ram.specs.LittleEndian.{low_bytes}
use Rattle.cx_ram.specs.PhysicalMemory.{IsAccessLength}
use Rattle.cx_hart.specs.Accesses.{first_write, second_write_of}
use Rattle.cx_hart.specs.Stretches.{IsOutside, IsPart, IsRest, IsTarget}
use Rattle.cx_hart.specs.Touches.{padded, touch}
use Rattle.cx_hart.specs.WellFormed.{AreParts, IsTouch}
use Rattle.cx_hart.specs.declared.findings.Part.{Part}
use Rattle.cx_hart.specs.declared.findings.Target.{Target}
use Rattle.cx_hart.specs.declared.findings.Target.TheVariants.{Memory, Device}
use Rattle.cx_hart.proofs.Padded.{take_front}

pub low_length : (len value : ℕ) → length (low_bytes len value) ≡ len
unfolding low_bytes
low_length zero value = refl
low_length (suc len) value = ap suc (low_length len (value / 256))

padded_bytes : (bytes : List ℕ) (len : ℕ) → length bytes ≡ len → padded 4 bytes ≡ padded 4 (take len (padded 4 bytes))
padded_bytes bytes len e =
    ap (padded 4) (sym (subst (λ n. take n (padded 4 bytes) ≡ bytes) e
    (take_front bytes (replicate (4 - length bytes) 0))))

pub touch_formed : (part : Part) (value : ℕ) → IsAccessLength part.len → IsTouch (touch part value)
unfolding touch
touch_formed part value fits =
    record { length = fits; bytes = padded_bytes (low_bytes part.len value) part.len (low_length part.len value) }

pub no_parts : AreParts None None
no_parts = record { first = tt; second = tt }

pub one_part : (part : Part) (value : ℕ) → IsAccessLength part.len → AreParts (Some (touch part value)) None
one_part part value fits = record { first = touch_formed part value fits; second = tt }

pub word_part : (part : Part) (value : ℕ) → IsOutside part.pa part.len → AreParts (Some (touch part value)) None
word_part part value outside = one_part part value (omega (arith, outside.whole), omega (arith, outside.whole))

pub two_parts : (size : ℕ) (first more : Part) (low high : ℕ) → IsPart size first → IsRest size first more
    → AreParts (Some (touch first low)) (Some (touch more high))
unfolding touch
two_parts size first more low high inside rest = record {
  first = touch_formed first low inside.length;
  second = record { touch = touch_formed more high rest.inside.length; there = refl; whole = rest.whole };
}

pub written_parts : (size : ℕ) (target : Target) (w : Option ℕ) → IsTarget size target
    → AreParts (option_map (first_write target) w) (second_write_of target w)
written_parts size target None inside = no_parts
written_parts size (Memory first None) (Some v) inside = one_part first v inside.0.length
written_parts size (Memory first (Some more)) (Some v) inside = two_parts size first more v (v / 2 ^ (8 * first.len))
    inside.0 inside.1
written_parts size (Device part) (Some v) inside = word_part part v inside

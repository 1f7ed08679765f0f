-- The bytes of a head, gathered one by one.
use Rattle.std.proofs.Common.{◌≡◌, ℕ, ◌^◌, refl, ap, sym, List, [], ◌∷◌, ◌++◌, append_assoc, Bool, true, false}
use Rattle.std.proofs.Common.{Option, None, Some, Result, Ok, Err}
use Rattle.std.proofs.lemmas.List.{append-nil}
use Rattle.cx_codec.specs.Place.{Place, Reader, done, read_on}
use Rattle.cx_codec.specs.Reads.{Reads, Standing, always}
use Rattle.cx_codec.proofs.Composing.{fails, gives}
use Rattle.cx_codec.proofs.Midway.{Midway, step, end}
use Rattle.cx_slices.specs.Bytes.{Byte}
use Rattle.cx_slicefmt.specs.declared.fault.SliceFault.{SliceFault}
use Rattle.cx_slicefmt.specs.declared.fault.SliceFault.TheVariants.{Format, ReadFault}
use Rattle.cx_slicefmt.specs.Fault.{slice_met}
use Rattle.cx_callfmt.specs.declared.fault.CallFault.{CallFault}
use Rattle.cx_callfmt.specs.Gathering.{NoMore, More, Taken, as_taken, bytes_onto, call_fault_of, call_met, one_onto, taken_by}
use Rattle.cx_callfmt.specs.Handing.{Handed, Pending, next_byte_at, rest_at, rest_behind}
use Rattle.cx_callfmt.proofs.HandedOut.{rest_is_next}

pub call_met_same : (e : SliceFault) → call_met (call_fault_of e) ≡ slice_met e
call_met_same (Format o) = refl
call_met_same ReadFault = refl

-- ---- what is left, by the next byte

abbrev pub on_taken : ℕ → Taken → Reader (List Byte)
on_taken at (NoMore bytes) = done bytes
on_taken at (More bytes left) = bytes_onto bytes left

rest_part : (front : List Byte) (byte : Byte) (r : Result (List Byte × Place) ℕ)
    → read_on (read_on r (λ bytes. done (byte ∷ bytes))) (λ bytes. done (front ++ bytes))
    ≡ read_on r (λ bytes. done ((front ++ byte ∷ []) ++ bytes))
rest_part front byte (Ok x) = ap (λ (bytes : List Byte). Ok (bytes, x.1)) (sym (append_assoc front (byte ∷ []) x.0))
rest_part front byte (Err o) = refl

next_part : (front : List Byte) (at : ℕ) (r : Result (Option Handed × Place) ℕ)
    → read_on (read_on r (rest_behind (2 ^ 32))) (λ bytes. done (front ++ bytes))
    ≡ read_on (read_on r (λ next. done (taken_by front next))) (on_taken at)
unfolding bytes_onto
next_part front at (Err o) = refl
next_part front at (Ok x) = by_next x.0 x.1
  where
    by_next : (o : Option Handed) (q : Place)
        → read_on (rest_behind (2 ^ 32) o q) (λ bytes. done (front ++ bytes)) ≡ on_taken at (taken_by front o) q
    by_next None q = ap (λ (bytes : List Byte). Ok (bytes, q)) (append-nil front)
    by_next (Some h) q = rest_part front h.byte (rest_at (2 ^ 32) h.left q)

pub next_onto : (front : List Byte) (w : Pending) (p : Place)
    → bytes_onto front w p ≡ read_on (one_onto front w p) (on_taken p.at)
unfolding bytes_onto one_onto
next_onto front w p = rw (rest_is_next (2 ^ 32) w p) (next_part front p.at (next_byte_at (2 ^ 32) w p))

-- ---- the loop

-- what is left to read, by whether there is more
abbrev pub left_of : Bool → List Byte → Pending → Reader (List Byte)
left_of true bytes w = bytes_onto bytes w
left_of false bytes w = done bytes

one_taken : {whole : Reader (List Byte)} {old mid new : Standing} (front bytes : List Byte) (w v : Pending)
    (more : Bool) → Midway whole old (bytes_onto front w) mid
    → Reads call_met (as_taken bytes v) (one_onto front w) mid new (Ok more)
    → Midway whole old (left_of more bytes v) new
one_taken {mid = mid} front bytes w v true so_far call =
    step on_taken so_far (next_onto front w) (λ q. refl) call
one_taken {mid = mid} front bytes w v false so_far call =
    step on_taken so_far (next_onto front w) (λ q. refl) call

pub more_taken : {whole : Reader (List Byte)} {old mid new : Standing} (front bytes : List Byte) (w v : Pending)
    (going more : Bool) → going ≡ true → Midway whole old (left_of going front w) mid
    → Reads call_met (as_taken bytes v) (one_onto front w) mid new (Ok more)
    → Midway whole old (left_of more bytes v) new
more_taken front bytes w v true more is so_far call = one_taken front bytes w v more so_far call
more_taken front bytes w v false more is so_far call = cc

pub more_fails : {whole : Reader (List Byte)} {old mid new : Standing} {e : CallFault} (front bytes all : List Byte)
    (w v : Pending) (going : Bool) → going ≡ true → Midway whole old (left_of going front w) mid
    → Reads {X = Bool} call_met (as_taken bytes v) (one_onto front w) mid new (Err e)
    → Reads {X = Unit {0}} call_met (always all) whole old new (Err e)
more_fails front bytes all w v true is so_far call = end so_far (fails on_taken (next_onto front w) refl call)
more_fails front bytes all w v false is so_far call = cc

pub all_taken : {whole : Reader (List Byte)} {old mid : Standing} (bytes : List Byte) (w : Pending) (more : Bool)
    → more ≡ false → Midway whole old (left_of more bytes w) mid
    → Reads call_met (always bytes) whole old mid (Ok (tt {0}))
all_taken bytes w true is so_far = cc
all_taken bytes w false is so_far = end so_far (gives so_far.follows.told (λ p. refl))

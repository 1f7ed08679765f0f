-- What comes next in a slice: a group, or the end with nothing behind it.
use Rattle.std.proofs.Common.{◌≡◌, ℕ, inl, inr, refl, ◌∙◌, IfOk, Result, Ok, Err}
use Rattle.cx_codec.specs.Checks.{close_at}
use Rattle.cx_codec.specs.Place.{Place, done, end_of, read_on}
use Rattle.cx_codec.specs.Reads.{EndsIn, Ends, GivesIn, MayBe, Reads, Standing, always, place_in}
use Rattle.cx_codec.proofs.Following.{begins_on, follows_on}
use Rattle.cx_slicefmt.specs.declared.fault.SliceFault.{SliceFault}
use Rattle.cx_slicefmt.specs.declared.fault.SliceFault.TheVariants.{Format, ReadFault}
use Rattle.cx_slicefmt.specs.declared.items.Either.{Either}
use Rattle.cx_slicefmt.specs.declared.items.Either.TheVariants.{Group, End}
use Rattle.cx_slicefmt.specs.declared.items.GroupItems.{GroupItems}
use Rattle.cx_slicefmt.specs.Engine.{NextIn, Nexts, entry_in}
use Rattle.cx_slicefmt.specs.Fault.{slice_met}
use Rattle.cx_slicefmt.specs.Reading.{entry_at, next_at}
use Rattle.cx_slicefmt.specs.Rules.{EndAt, process}

-- where the entry isn't there,
refused_in : (least o : ℕ) (p : Place) → entry_at process least p ≡ Err o → next_at process least p ≡ Err o
unfolding next_at
refused_in least o p bad = rw bad refl

by_fault : (least : ℕ) (p after : Place) (may cut : Type 0) (e : SliceFault)
    → GivesIn {X = Either} slice_met entry_in (entry_at process least p) after (end_of p) may cut (Err e)
    → NextIn least p after may cut (Err e)
by_fault least p after may cut (Format o) gives = λ h. refused_in least o p (gives h)
by_fault least p after may cut ReadFault gives = λ h. inl (gives h)

pub next_fails : {old new : Standing} {e : SliceFault} (least : ℕ)
    → Reads {X = Either} slice_met entry_in (entry_at process least) old new (Err e) → Nexts least old new (Err e)
next_fails {old} {new} {e} least first = record {
  follows = first.follows;
  next = λ input begins. by_fault least (place_in old input) (place_in new input) (MayBe new input)
      (input ≡ new.given) e (first.reads input begins);
}

-- where a group is,
pub next_group : {old new : Standing} {index : ℕ} {items : GroupItems} (least : ℕ)
    → Reads slice_met entry_in (entry_at process least) old new (Ok (Group index items))
    → Nexts least old new (Ok (Group index items))
next_group {old} {new} least first = record { follows = first.follows; next = λ input begins. first.reads input begins }

-- and where the end is.
behind_end : (least count : ℕ) (p q : Place) → entry_at process least p ≡ Ok (EndAt count, q)
    → next_at process least p ≡ read_on (close_at q) (λ nothing. done (EndAt count))
unfolding next_at
behind_end least count p q read = rw read refl

by_close : (least count : ℕ) (p q after : Place) (may cut : Type 0) (result : Result Either SliceFault)
    → entry_at process least p ≡ Ok (EndAt count, q) → IfOk result (λ e. e ≡ End count)
    → EndsIn slice_met (always tt) tt (close_at q) after may cut result → NextIn least p after may cut result
by_close least count p q after may cut (Ok e) read is ends = rw is (
  record { behind = q; read = read },
  λ h. behind_end least count p q read ∙ rw (ends h) refl,
)
by_close least count p q after may cut (Err (Format o)) read is ends =
    λ h. behind_end least count p q read ∙ rw (ends h) refl
by_close least count p q after may cut (Err ReadFault) read is ends =
    λ h. inr (record { count = count; read = behind_end least count p q read ∙ rw (ends h) refl })

pub next_ends : {old mid new : Standing} {result : Result Either SliceFault} (least count : ℕ)
    → Reads slice_met entry_in (entry_at process least) old mid (Ok (End count))
    → Ends slice_met (always tt) tt close_at mid new result → IfOk result (λ e. e ≡ End count)
    → Nexts least old new result
next_ends {old} {mid} {new} {result} least count first last is = record {
  follows = follows_on first.follows last.follows;
  next = λ input begins. by_close least count (place_in old input) (place_in mid input) (place_in new input)
      (MayBe new input) (input ≡ new.given) result (first.reads input (begins_on last.follows.grows begins)) is
      (last.ends input begins);
}

-- a call that closes, and gives another value
pub ends_as : {X Y : Type 0} {old new : Standing} {e e' : SliceFault} → slice_met e' ≡ slice_met e
    → Ends {X = X} slice_met (always tt) tt close_at old new (Err e)
    → Ends {X = Y} slice_met (always tt) tt close_at old new (Err e')
ends_as same first = record { follows = first.follows; ends = λ input begins. rw same (first.ends input begins) }

pub ends_with : {X Y : Type 0} {old new : Standing} {x : X} (y : Y)
    → Ends slice_met (always tt) tt close_at old new (Ok x)
    → Ends slice_met (always tt) tt close_at old new (Ok y)
ends_with y first = record { follows = first.follows; ends = λ input begins. first.ends input begins }

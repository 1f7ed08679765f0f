-- What comes next in a call slice: what a record begins with, or the end with nothing behind it.
use Rattle.std.proofs.Common.{◌≡◌, ℕ, inl, inr, refl, ◌∙◌, IfOk, Result, Ok, Err}
use Rattle.cx_codec.specs.Checks.{close_at}
use Rattle.cx_codec.specs.Place.{Place, done, end_of, read_on}
use Rattle.cx_codec.specs.Reads.{EndsIn, Ends, GivesIn, MayBe, Reads, Standing, always, place_in}
use Rattle.cx_codec.proofs.Following.{begins_on, follows_on}
use Rattle.cx_slicefmt.specs.declared.fault.SliceFault.{SliceFault}
use Rattle.cx_slicefmt.specs.declared.fault.SliceFault.TheVariants.{Format, ReadFault}
use Rattle.cx_slicefmt.specs.Fault.{slice_met}
use Rattle.cx_callfmt.specs.declared.found.CallFound.{CallFound}
use Rattle.cx_callfmt.specs.declared.found.CallFound.TheVariants.{Items, Value, Call, End}
use Rattle.cx_callfmt.specs.declared.found.HeadFound.{HeadFound}
use Rattle.cx_callfmt.specs.Beginning.{BegunEnd, begun_at}
use Rattle.cx_callfmt.specs.Engine.{CallNextIn, CallNexts, begun_in}
use Rattle.cx_callfmt.specs.Reading.{next_record_at, record_at}
use Rattle.cx_callfmt.specs.Rules.{Behind, EndsAt}
use Rattle.cx_callfmt.proofs.Begins.{records_begin}

-- where the record isn't there,
begun_bad : (behind : Behind) (o : ℕ) (p : Place) → begun_at behind p ≡ Err o → record_at behind p ≡ Err o
begun_bad behind o p bad = records_begin behind p ∙ rw bad refl

refused_in : (behind : Behind) (o : ℕ) (p : Place) → record_at behind p ≡ Err o → next_record_at behind p ≡ Err o
unfolding next_record_at
refused_in behind o p bad = rw bad refl

by_fault : (behind : Behind) (p after : Place) (may cut : Type 0) (e : SliceFault)
    → GivesIn {X = CallFound} slice_met begun_in (begun_at behind p) after (end_of p) may cut (Err e)
    → CallNextIn behind p after may cut (Err e)
by_fault behind p after may cut (Format o) gives = λ h. refused_in behind o p (begun_bad behind o p (gives h))
by_fault behind p after may cut ReadFault gives = λ h. inl (begun_bad behind (end_of p) p (gives h))

pub calls_fail : {old new : Standing} {e : SliceFault} (behind : Behind)
    → Reads {X = CallFound} slice_met begun_in (begun_at behind) old new (Err e) → CallNexts behind old new (Err e)
calls_fail {old} {new} {e} behind first = record {
  follows = first.follows;
  next = λ input begins. by_fault behind (place_in old input) (place_in new input) (MayBe new input)
      (input ≡ new.given) e (first.reads input begins);
}

-- where it is,
pub calls_items : {old new : Standing} {index : ℕ} {h : HeadFound} (behind : Behind)
    → Reads slice_met begun_in (begun_at behind) old new (Ok (Items index h))
    → CallNexts behind old new (Ok (Items index h))
calls_items behind first = record { follows = first.follows; next = λ input begins. first.reads input begins }

pub calls_value : {old new : Standing} {index word : ℕ} (behind : Behind)
    → Reads slice_met begun_in (begun_at behind) old new (Ok (Value index word))
    → CallNexts behind old new (Ok (Value index word))
calls_value behind first = record { follows = first.follows; next = λ input begins. first.reads input begins }

pub calls_call : {old new : Standing} {index number : ℕ} {h : HeadFound} (behind : Behind)
    → Reads slice_met begun_in (begun_at behind) old new (Ok (Call index number h))
    → CallNexts behind old new (Ok (Call index number h))
calls_call behind first = record { follows = first.follows; next = λ input begins. first.reads input begins }

-- and where the end is.
end_is : (behind : Behind) (count : ℕ) (p q : Place) → begun_at behind p ≡ Ok (BegunEnd count, q)
    → record_at behind p ≡ Ok (EndsAt count, q)
end_is behind count p q read = records_begin behind p ∙ rw read refl

behind_end : (behind : Behind) (count : ℕ) (p q : Place) → begun_at behind p ≡ Ok (BegunEnd count, q)
    → next_record_at behind p ≡ read_on (close_at q) (λ nothing. done (EndsAt count))
unfolding next_record_at
behind_end behind count p q read = rw (end_is behind count p q read) refl

by_close : (behind : Behind) (count : ℕ) (p q after : Place) (may cut : Type 0) (result : Result CallFound SliceFault)
    → begun_at behind p ≡ Ok (BegunEnd count, q) → IfOk result (λ e. e ≡ End count)
    → EndsIn slice_met (always tt) tt (close_at q) after may cut result → CallNextIn behind p after may cut result
by_close behind count p q after may cut (Ok e) read is ends = rw is (
  record { after = q; read = end_is behind count p q read },
  λ h. behind_end behind count p q read ∙ rw (ends h) refl,
)
by_close behind count p q after may cut (Err (Format o)) read is ends =
    λ h. behind_end behind count p q read ∙ rw (ends h) refl
by_close behind count p q after may cut (Err ReadFault) read is ends =
    λ h. inr (record { count = count; read = behind_end behind count p q read ∙ rw (ends h) refl })

pub calls_end : {old mid new : Standing} {result : Result CallFound SliceFault} (behind : Behind) (count : ℕ)
    → Reads slice_met begun_in (begun_at behind) old mid (Ok (End count))
    → Ends slice_met (always tt) tt close_at mid new result → IfOk result (λ e. e ≡ End count)
    → CallNexts behind old new result
calls_end {old} {mid} {new} {result} behind count first last is = record {
  follows = follows_on first.follows last.follows;
  next = λ input begins. by_close behind count (place_in old input) (place_in mid input) (place_in new input)
      (MayBe new input) (input ≡ new.given) result (first.reads input (begins_on last.follows.grows begins)) is
      (last.ends input begins);
}

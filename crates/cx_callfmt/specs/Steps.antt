-- The steps of a slice by its calls, where they can be spelled.
use Rattle.std.specs.Prelude.{ℕ, ◌<◌, ◌^◌, List, length, IfSome}
use Rattle.std.specs.List.{AllByRecursion}
use Rattle.cx_slicefmt.specs.Rules.{IsHead, head_in}
use Rattle.cx_placing.specs.Placing.{Call, CallSlice, Placed}
use Rattle.cx_placing.specs.Records.{records_from}
use Rattle.cx_callfmt.specs.Rules.{calls}
use Rattle.cx_callfmt.specs.Text.{call_slice_text}

pub record CallFits (c : Call) : Type 0 where
  pub number : c.number < 2 ^ 32
  pub head : IsHead calls c.head

pub record PlacedFits (p : Placed ℕ) : Type 0 where
  pub head : IsHead calls (head_in p.items)
  pub given : IfSome p.items.given (λ word. word < 2 ^ 32)
  pub call : IfSome p.call CallFits

-- The start's head and the steps fit.
pub record SliceFits (slice : CallSlice ℕ) : Type 0 where
  pub head : IsHead calls slice.head
  pub steps : AllByRecursion PlacedFits slice.steps

-- the text of a slice by its calls
abbrev pub text_of_calls : CallSlice ℕ → List ℕ
text_of_calls slice = call_slice_text slice.head (records_from 0 slice.steps) (length slice.steps)

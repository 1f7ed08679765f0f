-- A loop of a reader: what the whole reads from where it began is what is left to read from here.
use Rattle.std.proofs.Common.{◌≡◌, ℕ, List, IsSome, refl, ◌∙◌, Result, Ok}
use Rattle.cx_codec.specs.Place.{Place, Reader, end_of, read_on}
use Rattle.cx_codec.specs.Reads.{Begins, Follows, MayBe, Met, GivesIn, Reads, Standing, place_in}
use Rattle.cx_codec.proofs.Composing.{goes}
use Rattle.cx_codec.proofs.Following.{begins_on, follows_none, follows_on, end_stays}

pub record Midway {Y : Type 0} (whole : Reader Y) (old : Standing) (rest : Reader Y) (mid : Standing) : Type 0 where
  pub follows : Follows old mid
  pub read : (input : List ℕ) → Begins mid.given input → whole (place_in old input) ≡ rest (place_in mid input)

-- where it begins,
pub begin : {Y : Type 0} {whole rest : Reader Y} (s : Standing) → IsSome s.left
    → ((p : Place) → whole p ≡ rest p) → Midway whole s rest s
begin s told same = record { follows = follows_none s told; read = λ input begins. same (place_in s input) }

-- one call further,
pub step : {X Y Z E : Type 0} {met : E → Met} {view : X → Y} {whole rest next : Reader Z} {a : Reader Y}
    {old mid new : Standing} {x : X} (f : ℕ → Y → Reader Z) → Midway whole old rest mid
    → ((p : Place) → rest p ≡ read_on (a p) (f p.at)) → ((q : Place) → f mid.hand.at (view x) q ≡ next q)
    → Reads met view a mid new (Ok x) → Midway whole old next new
step {view} {whole} {rest} {next} {a} {old} {mid} {new} {x} f so_far parts same call = record {
  follows = follows_on so_far.follows call.follows;
  read = λ input begins.
      let earlier = begins_on call.follows.grows begins in
      let read : a (place_in mid input) ≡ Ok (view x, place_in new input) = call.reads input begins in
      let then : rest (place_in mid input) ≡ f mid.hand.at (view x) (place_in new input) = parts (place_in mid input)
      ∙ rw read refl in
      so_far.read input earlier ∙ then ∙ same (place_in new input);
}

-- and where what is left is read.
pub end : {X Y E : Type 0} {met : E → Met} {view : X → Y} {whole rest : Reader Y} {old mid new : Standing}
    {result : Result X E} → Midway whole old rest mid → Reads met view rest mid new result
    → Reads met view whole old new result
end {Y = Y} {met} {view} {whole} {rest} {old} {mid} {new} {result} so_far last = record {
  follows = follows_on so_far.follows last.follows;
  reads = λ input begins.
      let earlier = begins_on last.follows.grows begins in
      along_here (rest (place_in mid input)) (whole (place_in old input)) (place_in new input)
      (end_of (place_in mid input)) (end_of (place_in old input)) (MayBe new input) (input ≡ new.given)
      (so_far.read input earlier) (end_stays so_far.follows input earlier) (last.reads input begins);
}
  where
    along_here : (read read' : Result (Y × Place) ℕ) (after : Place) (end end' : ℕ) (may cut : Type 0) → read' ≡ read
        → end' ≡ end → GivesIn met view read after end may cut result → GivesIn met view read' after end' may cut result
    along_here read read' after end end' may cut same ends gives = rw (same, ends) gives

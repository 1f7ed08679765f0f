-- What the payload of a record comes to.
use Rattle.std.proofs.Common.{◌≡◌, ℕ, refl, Ok, Err}
use Rattle.cx_codec.specs.Place.{Reader, done}
use Rattle.cx_codec.specs.Reads.{Met, Standing, Reads}
use Rattle.cx_codec.proofs.Composing.{fails, goes, gives}
use Rattle.cx_log.specs.Item.{put_event}
use Rattle.cx_log.specs.Recording.{Event}
use Rattle.cx_log.specs.Records.{Entry, put_at}

pub puts_fails : {X W E F : Type 0} {met : E → Met} {met' : F → Met} {view : X → Event} {view' : W
    → Entry} {field : Reader Event}
    {old new : Standing} {e : E} {e' : F} (step : ℕ) → met' e' ≡ met e
    → Reads met view field old new (Err e) → Reads met' view' (put_at step field) old new (Err e')
puts_fails {field = field} step same first =
    fails {reader = put_at step field} (λ at event. done (put_event step event)) (λ p. refl) same first

pub puts_event : {X W E F : Type 0} {met : E → Met} {met' : F → Met} {view : X → Event} {view' : W
    → Entry} {field : Reader Event}
    {old new : Standing} {x : X} {y : W} (step : ℕ) → view' y ≡ put_event step (view x)
    → Reads met view field old new (Ok x) → Reads met' view' (put_at step field) old new (Ok y)
puts_event {field = field} step same first =
    goes {reader = put_at step field} (λ at event. done (put_event step event)) (λ p. refl) first
    (gives first.follows.told (λ p. rw same refl))

-- A walk of user mode with nothing in its way, and the flags of its entries (Privileged 1.12, section 4.3.1).
use Rattle.std.specs.Prelude.{ℕ, [], ◌∷◌, Some, Ok}
use Rattle.cx_walk.specs.declared.kind.Kind.{Kind}
use Rattle.cx_walk.specs.declared.kind.Kind.TheVariants.{Fetch, Load, Store, Reserve, Atomic}
use Rattle.cx_walk.specs.declared.quickly.QuickWalk.{QuickWalk}
use Rattle.cx_walk.specs.declared.quickly.TheConstants.{FETCHES, LOADS, STORES}
use Rattle.cx_walk.specs.declared.walk.Place.TheVariants.{Ram}
use Rattle.cx_walk.specs.declared.walk.Walk.{Walk}

-- the flags of a page that an access of user mode goes through
abbrev pub open_flags : Kind → ℕ
open_flags Fetch = FETCHES
open_flags Load = LOADS
open_flags Reserve = LOADS
open_flags Store = STORES
open_flags Atomic = STORES

-- the walk through two entries to RAM
abbrev pub quick_walk : QuickWalk → Walk
quick_walk q = record {
  count = 2;
  places = q.first ∷ q.second ∷ [];
  address = Some q.place;
  answer = Ok (Ram q.place);
}

-- What a shadow shows has room in it.
use Rattle.std.proofs.Common.{◌≡◌, ℕ, ◌/◌, ◌%◌, true, List, [], ◌∷◌, Option, None, Some, is_some, refl}
use Rattle.std.proofs.Common.{Result, Ok, Err, IfOk}
use Rattle.std.specs.Global.{Box, Vec}
use Rattle.std.specs.Option.{option_and_then}
use Rattle.cx_map.specs.declared.TheConstants.{PAGE_SIZE}
use Rattle.cx_observe.specs.Seeing.{bytes_shown, seen_by, sights}
use Rattle.cx_observe.specs.declared.obs.Obs.{Obs}
use Rattle.cx_program.specs.Knowing.{HasRoom, IsKnown, known_by}
use Rattle.cx_program.specs.declared.standing.Standing.{Standing}
use Rattle.cx_program.proofs.Pages.{AreHeld-sorted}
use Rattle.cx_shadow.proofs.Several.{held_on}
use Rattle.cx_shadow.specs.Cells.{AreHeld, byte_in, byte_of, is_held, page_numbered}
use Rattle.cx_shadow.specs.declared.page.Page.{Page}
use Rattle.cx_shadow.specs.declared.shadow.Shadow.{Shadow}
use Rattle.cx_slices.specs.Bytes.{Byte, Shows}

held_by_page : (i b : ℕ) (o : Option Page) → option_and_then (byte_in i) o ≡ Some b → is_some o ≡ true
held_by_page i b None is = absurd cc
held_by_page i b (Some p) is = refl

held_where_known : (s : Shadow) (a b : ℕ) → byte_of s a ≡ Some b → is_held s a ≡ true
unfolding byte_of is_held
held_where_known s a b is = held_by_page (a % PAGE_SIZE) b (page_numbered s.regions.items (a / PAGE_SIZE)) is

shown_held : (s : Shadow) (es : List Byte) → Shows (byte_of s) es → AreHeld s es
shown_held s [] shows = tt
shown_held s (e ∷ es) shows = (held_where_known s e.0 e.1 shows.0, shown_held s es shows.1)

-- There is room for what a step sees that stands already.
known_held : (s : Standing) (then : Shadow) (o : Obs) → IsKnown (known_by s) o
    → ((a : ℕ) → is_held s.shadow a ≡ true → is_held then a ≡ true) → AreHeld then (bytes_shown o.write)
    → HasRoom then o
known_held s then o known keeps written = record {
  seen = AreHeld-sorted then (sights o) (held_on s.shadow then keeps (sights o)
      (shown_held s.shadow (sights o) known.bytes));
  written = written;
}

pub known_room : {E : Type 0} (s : Standing) (then : Shadow) (o : Obs) (r : Result (Unit {0}) E)
    → IsKnown (known_by s) o → ((a : ℕ) → is_held s.shadow a ≡ true → is_held then a ≡ true)
    → IfOk r (λ done. AreHeld then (bytes_shown o.write)) → IfOk r (λ done. HasRoom then o)
known_room s then o (Ok done) known keeps written = known_held s then o known keeps written
known_room s then o (Err e) known keeps written = tt

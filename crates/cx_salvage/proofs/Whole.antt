-- What is saved of an input without a bad place.
use Rattle.std.proofs.Common.{◌≡◌, ℕ, Bool, List, None, Some, Result, Ok, Err, refl, ap, sym, ◌∙◌}
use Rattle.cx_codec.specs.Place.{Place}
use Rattle.cx_log.specs.Reading.{Opened, opened_at, start_of}
use Rattle.cx_log.specs.Scan.{scan_behind}
use Rattle.cx_machine.specs.Step.{Step}
use Rattle.cx_map.specs.Bytes.{AreBytes}
use Rattle.cx_run.specs.FirstBad.{bad_in, first_bad}
use Rattle.cx_run.proofs.GoodInputs.{good_behind}
use Rattle.cx_salvage.specs.Salvage.{salvage_in, salvage_of, saved, saved_by}

pub saved_whole : {Rec : Type 0} (steps : Bool → Step Rec) (bytes : List ℕ) → AreBytes bytes
    → first_bad steps bytes ≡ None → salvage_of steps bytes ≡ Some bytes
unfolding salvage_of first_bad
saved_whole steps bytes are good = by_opening (opened_at (start_of bytes)) refl good
  where
    by_opening : (r : Result (Opened × Place) ℕ) → opened_at (start_of bytes) ≡ r → bad_in steps r ≡ None
        → salvage_in steps r ≡ Some bytes
    by_opening (Err x) opened e = cc
    by_opening (Ok x) opened e =
        let is = good_behind steps bytes x.0 x.1 are opened e in
        ap (saved_by steps x.0 (scan_behind x.0 x.1)) e ∙ ap (λ (t : List ℕ). Some t) (sym is.text)

pub saved_behind : {Rec : Type 0} (steps : Bool → Step Rec) (bytes : List ℕ) (o : Opened) (p : Place)
    → opened_at (start_of bytes) ≡ Ok (o, p) → salvage_of steps bytes ≡ saved steps o (scan_behind o p)
unfolding salvage_of
saved_behind steps bytes o p opened = ap (salvage_in steps) opened

pub not_saved : {Rec : Type 0} (steps : Bool → Step Rec) (bytes : List ℕ) (offset : ℕ)
    → opened_at (start_of bytes) ≡ Err offset → salvage_of steps bytes ≡ None
unfolding salvage_of
not_saved steps bytes offset opened = ap (salvage_in steps) opened

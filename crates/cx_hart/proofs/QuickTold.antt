-- Accesses of user mode that go through two entries to RAM.
use Rattle.std.proofs.Common.{◌≡◌, ℕ, [], ◌∷◌, Ok, sym, ap, refl}
use Rattle.cx_walk.specs.declared.kind.Kind.{Kind}
use Rattle.cx_walk.specs.declared.quickly.QuickWalk.{QuickWalk}
use Rattle.cx_walk.specs.declared.walk.Place.TheVariants.{Ram}
use Rattle.cx_hart.specs.Fetch.{IsQuick, translated}
use Rattle.cx_hart.specs.Looks.{Entry, told}
use Rattle.cx_hart.specs.Surroundings.{Surroundings}
use Rattle.cx_hart.specs.declared.record.StepRec.{StepRec}

pub quick_place : (here : Surroundings) (kind : Kind) (va len : ℕ) (q : QuickWalk) → IsQuick here kind va len q
    → Ok (Ram q.place) ≡ (translated here kind va len).end
unfolding translated
quick_place here kind va len q is = rw is.walk refl

pub quick_looks : (here : Surroundings) (kind : Kind) (va len : ℕ) (q : QuickWalk) → IsQuick here kind va len q
    → (translated here kind va len).looks ≡ Entry q.first q.first_entry ∷ Entry q.second q.second_entry ∷ []
unfolding translated
quick_looks here kind va len q is = rw (is.walk, is.first, is.second) refl

pub quick_told : (here : Surroundings) (kind : Kind) (va len : ℕ) (q : QuickWalk) (rec : StepRec)
    → IsQuick here kind va len q
    → told (Entry q.second q.second_entry ∷ []) (told (Entry q.first q.first_entry ∷ []) rec)
    ≡ told (translated here kind va len).looks rec
quick_told here kind va len q rec is = sym (ap (λ looks. told looks rec) (quick_looks here kind va len q is))

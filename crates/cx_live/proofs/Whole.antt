-- What reading an image and then the input's end says of the input.
use Rattle.std.proofs.Common.{◌≡◌, ℕ, Result, Ok, Err, refl}
use Rattle.cx_codec.specs.Place.{Place}
use Rattle.cx_codec.specs.Reads.{MeetsEnd, MeetsIn}
use Rattle.cx_log.specs.declared.fault.LogFault.{LogFault}
use Rattle.cx_log.specs.declared.fault.LogFault.TheVariants as log
use Rattle.cx_log.specs.Fault.{log_met}
use Rattle.cx_codec.specs.Checks.{close_at}
use Rattle.cx_live.specs.Fault.{IsImageRead, image_fault_of}
use Rattle.cx_live.specs.Image.{Image}
use Rattle.cx_live.specs.Reading.{image_at, image_or_bad, whole_image_at}

pub image_refused : (p : Place) (end : ℕ) (whole cut : Type 0) (e : LogFault)
    → MeetsIn (log_met e) (image_at p) end whole cut
    → IsImageRead (image_or_bad (whole_image_at p)) end whole cut (Err (image_fault_of e))
unfolding whole_image_at
image_refused p end whole cut (log.Format o) meets = λ h. rw (meets h) refl
image_refused p end whole cut log.ReadFault meets = λ h. rw (meets h) refl
image_refused p end whole cut log.NoMemory meets = tt

pub end_refused : (p mid after : Place) (end : ℕ) (whole cut : Type 0) (image : Image) (e : LogFault)
    → image_at p ≡ Ok (image, mid) → MeetsEnd (log_met e) tt (close_at mid) after whole cut
    → IsImageRead (image_or_bad (whole_image_at p)) end whole cut (Err (image_fault_of e))
unfolding whole_image_at
end_refused p mid after end whole cut image (log.Format o) read meets = λ h. rw (read, meets h) refl
end_refused p mid after end whole cut image log.ReadFault read meets = λ h. rw (read, meets h) tt
end_refused p mid after end whole cut image log.NoMemory read meets = tt

pub image_given : (p mid after : Place) (end : ℕ) (whole cut : Type 0) (image : Image)
    → image_at p ≡ Ok (image, mid) → (whole → close_at mid ≡ Ok (tt, after))
    → IsImageRead (image_or_bad (whole_image_at p)) end whole cut (Ok image)
unfolding whole_image_at
image_given p mid after end whole cut image read closed = λ h. rw (read, closed h) refl

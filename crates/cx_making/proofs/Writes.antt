-- What a text that was written is, as what a command writes by an image.
use Rattle.std.proofs.Common.{ℕ, List, [], Option, refl, inl, inr}
use Rattle.cx_codec.specs.Blocks.{HasFront}
use Rattle.cx_codec.specs.declared.fault.OutFault.{OutFault}
use Rattle.cx_codec.specs.declared.fault.OutFault.TheVariants.{WriteFault as write_fault, NoMemory as no_room}
use Rattle.cx_gen.specs.Made.{IsMade}
use Rattle.cx_commands.specs.Faults.{status_of_out}
use Rattle.cx_commands.specs.Make.{IsImageOf, Writes, WritesByImage}
use Rattle.cx_commands.specs.declared.status.Status.{Status}
use Rattle.cx_commands.specs.declared.status.Status.TheVariants as status
use Rattle.cx_commands.proofs.Doings.{no_front}

pub writes_front : (text : List ℕ) (held now : Option (List ℕ)) (e : OutFault) → HasFront held text now
    → Writes text held now (status_of_out e)
writes_front text held now write_fault front = front
writes_front text held now no_room front = front

image_is : (n : ℕ) (image : List ℕ) (answer : Status) → IsMade n image → IsImageOf n image answer
image_is n image status.NoMemory made = inl made
image_is n image status.Done made = made
image_is n image status.Usage made = made
image_is n image (status.Format o) made = made
image_is n image (status.Broken s) made = made
image_is n image status.NotThere made = made
image_is n image status.ReadFault made = made
image_is n image status.WriteFault made = made
image_is n image status.WorldFault made = made
image_is n image (status.NotBuilt s) made = made

pub by_image : (n : ℕ) (image : List ℕ) (text : List ℕ → List ℕ) (held now : Option (List ℕ)) (answer : Status)
    → IsMade n image → Writes (text image) held now answer → WritesByImage n text held now answer
by_image n image text held now answer made writes = record {
  image = image;
  is = image_is n image answer made;
  writes = writes;
}

-- no image was made, and nothing was written
pub by_no_image : (n : ℕ) (text : List ℕ → List ℕ) (held : Option (List ℕ))
    → WritesByImage n text held held status.NoMemory
by_no_image n text held = record { image = []; is = inr refl; writes = no_front held (text []) }

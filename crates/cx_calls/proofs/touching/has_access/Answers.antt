use Rattle.std.proofs.Common.{◌≡◌, List, ap, is_some, refl, sym, ◌∙◌}
use Rattle.cx_observe.specs.Seeing.{bytes_on, bytes_shown}
use Rattle.cx_slices.specs.Bytes.{Byte, byte_found}
use Rattle.cx_calls.proofs.touching.has_access.Goals as goal

pub returns-in-Some : goal.returns-in-Some
returns-in-Some c = λ yes a there.
    let shown : bytes_shown c.args.access.now ≡ bytes_on c.in-Some.access.va c.front.result.now
    = ap bytes_shown c.in-Some.is ∙ ap (bytes_on c.in-Some.access.va) (sym c.front.ensures.bytes) in
    c.has_run.ensures yes c.front.result.now refl a
    (ap (λ (es : List Byte). is_some (byte_found es a)) (sym shown) ∙ there)

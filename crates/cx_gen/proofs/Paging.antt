-- The pages of a text, one behind another.
use Rattle.std.proofs.Common.{◌≡◌, ℕ, suc, ◌+◌, List, ◌++◌, ◌∙◌, ap, append_assoc, arith}
use Rattle.cx_log.specs.Text.{page_text, pages_text}

pub page_behind : (text front memory : List ℕ) (k : ℕ) (now new : List ℕ)
    → now ≡ text ++ (front ++ pages_text memory k) → new ≡ now ++ page_text memory k
    → new ≡ text ++ (front ++ pages_text memory (k + 1))
page_behind text front memory k now new was is =
    let next : k + 1 ≡ suc k = omega arith in
    rw (next, is, was) (append_assoc text (front ++ pages_text memory k) (page_text memory k)
    ∙ ap (λ (t : List ℕ). text ++ t) (append_assoc front (pages_text memory k) (page_text memory k)))

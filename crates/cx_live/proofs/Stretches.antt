-- Bytes of RAM in a row, page by page.
use Rattle.std.proofs.Common.{◌≡◌, ℕ, ◌+◌, ◌-◌, ◌*◌, ◌/◌, ◌%◌, ◌≤◌, List, take, drop, ◌++◌, arith, ap, sym, ◌∙◌}
use Rattle.std.proofs.Math.Seq.{take-add}
use Rattle.std.proofs.lemmas.List.{drop-take, take-take, drop-drop}
use Rattle.cx_map.specs.declared.TheConstants.{PAGE_SIZE}
use Rattle.cx_ram.specs.PhysicalMemory.{page_of}

-- a stretch inside one page
pub in_page : (m : List ℕ) (i n : ℕ) → i % PAGE_SIZE + n ≤ PAGE_SIZE
    → take n (drop (i % PAGE_SIZE) (page_of m (i / PAGE_SIZE))) ≡ take n (drop i m)
in_page m i n inside =
    let rest : PAGE_SIZE ≡ i % PAGE_SIZE + (PAGE_SIZE - i % PAGE_SIZE) = omega (arith, inside) in
    let fewer : n ≤ PAGE_SIZE - i % PAGE_SIZE = omega (arith, inside) in
    let whole : i / PAGE_SIZE * PAGE_SIZE + i % PAGE_SIZE ≡ i = omega arith in
    let page : List ℕ = drop (i / PAGE_SIZE * PAGE_SIZE) m in
    let cut : drop (i % PAGE_SIZE) (take PAGE_SIZE page) ≡ take (PAGE_SIZE - i % PAGE_SIZE) (drop (i % PAGE_SIZE) page)
    = ap (λ (k : ℕ). drop (i % PAGE_SIZE) (take k page)) rest
    ∙ drop-take (i % PAGE_SIZE) (PAGE_SIZE - i % PAGE_SIZE) page in
    ap (take n) cut ∙ take-take n (PAGE_SIZE - i % PAGE_SIZE) (drop (i % PAGE_SIZE) page) fewer
    ∙ ap (take n) (drop-drop (i % PAGE_SIZE) (i / PAGE_SIZE * PAGE_SIZE) m ∙ ap (λ (k : ℕ). drop k m) whole)

-- one stretch behind another
pub two_stretches : (m : List ℕ) (i n k : ℕ)
    → take n (drop i m) ++ take k (drop (i + n) m) ≡ take (n + k) (drop i m)
two_stretches m i n k = sym (take-add n k (drop i m)
    ∙ ap (λ (xs : List ℕ). take n (drop i m) ++ take k xs) (drop-drop n i m))

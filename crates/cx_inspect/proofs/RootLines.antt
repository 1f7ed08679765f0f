-- The lines of one root more.
use Rattle.std.proofs.Common.{◌≡◌, ℕ, zero, suc, ◌+◌, ◌≤◌, List, [], ◌∷◌, ◌++◌, take, drop, length, slice_get, Some}
use Rattle.std.proofs.Common.{Result, Ok, Err, arith, refl, ap, sym, subst, ◌∙◌}
use Rattle.std.proofs.lemmas.List.{append-nil, take_all, take-append-drop}
use Rattle.std.proofs.lemmas.List.Concat.{flat_map-append}
use Rattle.std.specs.List.{flat_map}
use Rattle.cx_codec.specs.Puts.{Puts, Putting}
use Rattle.cx_codec.specs.declared.fault.OutFault.{OutFault}
use Rattle.cx_codec.specs.declared.fault.OutFault.TheVariants.{WriteFault}
use Rattle.cx_codec.proofs.Putting.{puts_fails, puts_on}
use Rattle.cx_print.specs.Lines.{root_line}
use Rattle.cx_inspect.specs.Lines.{root_lines}
use Rattle.cx_inspect.specs.declared.roots.Tally.{Tally}

one_more : {X : Type 0} (xs : List X) (i : ℕ) (x : X) → slice_get xs i ≡ Some x
    → take (suc i) xs ≡ take i xs ++ x ∷ []
one_more [] i x is = cc
one_more (y ∷ ys) zero x is = let same : y ≡ x = cc in ap (λ z. z ∷ []) same
one_more (y ∷ ys) (suc i) x is = ap (λ zs. y ∷ zs) (one_more ys i x is)

pub no_roots : root_lines [] ≡ []
unfolding root_lines
no_roots = refl

-- the line of the root at a place, behind those before it
pub one_more_root : (roots : List (ℕ × Tally)) (i : ℕ) (e : ℕ × Tally) → slice_get roots i ≡ Some e
    → root_lines (take (i + 1) roots) ≡ root_lines (take i roots) ++ root_line e.0 e.1.steps e.1.first
unfolding root_lines
one_more_root roots i e is =
    let line = λ (t : ℕ × Tally). root_line t.0 t.1.steps t.1.first in
    let next : i + 1 ≡ suc i = omega arith in
    ap (λ (n : ℕ). flat_map line (take n roots)) next
    ∙ ap (flat_map line) (one_more roots i e is)
    ∙ flat_map-append line (take i roots) (e ∷ [])
    ∙ ap (λ (t : List ℕ). flat_map line (take i roots) ++ t) (append-nil (line e))

-- all of them are those up to a place and those behind it
pub roots_cut : (roots : List (ℕ × Tally)) (i : ℕ)
    → root_lines roots ≡ root_lines (take i roots) ++ root_lines (drop i roots)
unfolding root_lines
roots_cut roots i =
    let line = λ (t : ℕ × Tally). root_line t.0 t.1.steps t.1.first in
    ap (flat_map line) (sym (take-append-drop i roots)) ∙ flat_map-append line (take i roots) (drop i roots)

pub all_roots : (roots : List (ℕ × Tally)) (i : ℕ) → length roots ≤ i
    → root_lines (take i roots) ≡ root_lines roots
all_roots roots i all = ap root_lines (take_all i roots all)

-- ---- put

pub root_put : {X Y : Type 0} {old mid new : Putting} {x : X} {result : Result Y OutFault} (roots : List (ℕ × Tally))
    (i : ℕ) (e : ℕ × Tally) → slice_get roots i ≡ Some e
    → Puts WriteFault (root_lines (take i roots)) old mid (Ok x)
    → Puts WriteFault (root_line e.0 e.1.steps e.1.first) mid new result
    → Puts WriteFault (root_lines (take (i + 1) roots)) old new result
root_put {X} {Y} {old} {mid} {new} {x} {result} roots i e is first then =
    subst (λ (t : List ℕ). Puts WriteFault t old new result) (sym (one_more_root roots i e is))
    (puts_on (root_lines (take i roots)) (root_line e.0 e.1.steps e.1.first) first then)

pub root_refused : {X Y : Type 0} {old mid new : Putting} {x : X} {fault : OutFault} (roots : List (ℕ × Tally))
    (i : ℕ) (e : ℕ × Tally) → slice_get roots i ≡ Some e
    → Puts WriteFault (root_lines (take i roots)) old mid (Ok x)
    → Puts {X = Y} WriteFault (root_line e.0 e.1.steps e.1.first) mid new (Err fault)
    → Puts {X = Y} WriteFault (root_lines roots) old new (Err fault)
root_refused {X} {Y} {old} {mid} {new} {x} {fault} roots i e is first then =
    subst (λ (t : List ℕ). Puts {X = Y} WriteFault t old new (Err fault)) (sym (roots_cut roots (i + 1)))
    (puts_fails (root_lines (take (i + 1) roots)) (root_lines (drop (i + 1) roots)) (root_put roots i e is first then))

pub roots_put : {X : Type 0} {old new : Putting} {x : X} (roots : List (ℕ × Tally)) (i : ℕ) → length roots ≤ i
    → Puts WriteFault (root_lines (take i roots)) old new (Ok x) → Puts WriteFault (root_lines roots) old new (Ok x)
roots_put {X} {old} {new} {x} roots i all put =
    subst (λ (t : List ℕ). Puts WriteFault t old new (Ok x)) (all_roots roots i all) put

-- The interrupt that is to be taken is one of the six.
use Rattle.std.proofs.Common.{ℕ, ◌+◌, ◌^◌, ◌<◌, Bool, true, false, cond, Option, None, Some, refl, arith, IsTrue}
use Rattle.std.specs.Prelude.{IfSome}
use Rattle.std.proofs.lemmas.Bool.Decides.{nat_tests}
use Rattle.cx_csr.specs.declared.state.State.{State}
use Rattle.cx_csr.specs.Bits.{is_set}
use Rattle.cx_trap.specs.Causes.{is_cause}
use Rattle.cx_trap.specs.Pending.{first_of, first_or, pending_of, to_machine, to_supervisor}
use Rattle.cx_csr.specs.declared.causes.TheConstants.{INTERRUPT_BIT}
use Rattle.cx_csr.specs.declared.interrupts.TheConstants.{SSI, MSI, STI, MTI, SEI, MEI}

-- with bit 31 a cause
abbrev IsNumber : Option ℕ → Type 0
IsNumber o = IfSome o (λ i. IsTrue (is_cause (i + INTERRUPT_BIT)))

number_of_tests : (a b c d e f : Bool)
    → IsNumber (cond a (Some MEI)
    (cond b (Some MSI) (cond c (Some MTI) (cond d (Some SEI) (cond e (Some SSI) (cond f (Some STI) None))))))
number_of_tests true b c d e f = refl
number_of_tests false true c d e f = refl
number_of_tests false false true d e f = refl
number_of_tests false false false true e f = refl
number_of_tests false false false false true f = refl
number_of_tests false false false false false true = refl
number_of_tests false false false false false false = tt

number_of_first : (bits : ℕ) → IsNumber (first_of bits)
number_of_first bits = number_of_tests (is_set bits MEI) (is_set bits MSI) (is_set bits MTI) (is_set bits SEI)
    (is_set bits SSI) (is_set bits STI)

number_of_either : (o p : Option ℕ) → IsNumber o → IsNumber p → IsNumber (first_or o p)
number_of_either None p h i = i
number_of_either (Some n) p h i = h

pub pending_number : (s : State) → IfSome (pending_of s) (λ i. IsTrue (is_cause (i + INTERRUPT_BIT)))
unfolding pending_of
pending_number s = number_of_either (first_of (to_machine s)) (first_of (to_supervisor s))
    (number_of_first (to_machine s)) (number_of_first (to_supervisor s))

pub cause_small : (cause : ℕ) → IsTrue (is_cause cause) → cause < 2 ^ 32
cause_small cause h = grind (arith, nat_tests)

-- A word passes the test of a rule exactly where it obeys the rule.
use Rattle.std.proofs.Common.{◌≡◌, ◌≢◌, ℕ, zero, suc, ◌+◌, ◌%◌, ◌^◌, eqb, not, true}
use Rattle.std.proofs.lemmas.Bool.{ltb-true, leb-true, eqb-true, eqb-false, lt-ltb, le-leb, eq-eqb, ne_eqb, not-true}
use Rattle.std.proofs.lemmas.Bool.{not_from_false, and_parts, and_from}
use Rattle.cx_csr.specs.declared.modes.TheConstants.{RESERVED_MODE, MACHINE}
use Rattle.cx_csr.specs.declared.rules.Rule.{Rule}
use Rattle.cx_csr.specs.declared.rules.Rule.TheVariants.{Any, Aligned, Within, Mode, Status, Flag, Place}
use Rattle.cx_csr.specs.declared.status.TheConstants.{MPP_RESERVED}
use Rattle.cx_csr.specs.Rules.{Admits, admits, IsPlaceBehind, is_place_behind}

not_equal : (a b : ℕ) → not (eqb a b) ≡ true → a ≢ b
not_equal a b passed = eqb-false a b (not-true (eqb a b) passed)

different : (a b : ℕ) → a ≢ b → not (eqb a b) ≡ true
different a b apart = not_from_false (eqb a b) (ne_eqb a b apart)

place_obeys : (pages before word : ℕ) → is_place_behind pages before word ≡ true → IsPlaceBehind pages before word
place_obeys pages zero word passed = eqb-true word 0 passed
place_obeys pages (suc flag) word passed =
    let outer = and_parts _ _ passed in
    let inner = and_parts _ _ outer.0 in
    record {
      inside = record { low = leb-true _ word inner.0; high = leb-true (word + 4) _ inner.1 };
      multiple = eqb-true (word % 4) 0 outer.1;
    }

place_passes : (pages before word : ℕ) → IsPlaceBehind pages before word → is_place_behind pages before word ≡ true
place_passes pages zero word rule = eq-eqb word 0 rule
place_passes pages (suc flag) word rule =
    and_from _ _ (and_from _ _ (le-leb _ word rule.inside.low) (le-leb (word + 4) _ rule.inside.high))
    (eq-eqb (word % 4) 0 rule.multiple)

pub obeys : (pages before word : ℕ) (rule : Rule) → admits pages before rule word ≡ true → Admits pages before rule word
obeys pages before word Any passed = ltb-true word (2 ^ 32) passed
obeys pages before word Aligned passed =
    let parts = and_parts _ _ passed in
    record { wide = ltb-true word (2 ^ 32) parts.0; multiple = eqb-true (word % 4) 0 parts.1 }
obeys pages before word (Within mask) passed = eqb-true _ word passed
obeys pages before word Mode passed =
    let parts = and_parts _ _ passed in
    record { most = leb-true word MACHINE parts.0; served = not_equal word RESERVED_MODE parts.1 }
obeys pages before word Status passed =
    let parts = and_parts _ _ passed in
    record { within = eqb-true _ word parts.0; previous = not_equal _ MPP_RESERVED parts.1 }
obeys pages before word Flag passed = leb-true word 1 passed
obeys pages before word Place passed = place_obeys pages before word passed

pub passes : (pages before word : ℕ) (rule : Rule) → Admits pages before rule word
    → admits pages before rule word ≡ true
passes pages before word Any rule = lt-ltb word (2 ^ 32) rule
passes pages before word Aligned rule =
    and_from _ _ (lt-ltb word (2 ^ 32) rule.wide) (eq-eqb (word % 4) 0 rule.multiple)
passes pages before word (Within mask) rule = eq-eqb _ word rule
passes pages before word Mode rule =
    and_from _ _ (le-leb word MACHINE rule.most) (different word RESERVED_MODE rule.served)
passes pages before word Status rule = and_from _ _ (eq-eqb _ word rule.within) (different _ MPP_RESERVED rule.previous)
passes pages before word Flag rule = le-leb word 1 rule
passes pages before word Place rule = place_passes pages before word rule

-- Steps at which a record may stand.
use Rattle.std.proofs.Common.{◌≡◌, ℕ, ◌<◌, false, arith, refl}
use Rattle.std.proofs.lemmas.Bool.{lt-leb, le-ltb}
use Rattle.cx_log.specs.declared.limits.TheConstants.{STEP_LIMIT}
use Rattle.cx_log.specs.declared.kind.Kind.{Kind}
use Rattle.cx_log.specs.declared.kind.Kind.TheVariants as kind
use Rattle.cx_log.specs.Order.{Behind}
use Rattle.cx_log.specs.Records.{may_stand, is_small}

not_small : (k : Kind) (step : ℕ) → STEP_LIMIT < step → is_small step k ≡ false
not_small kind.End step far = lt-leb step STEP_LIMIT far
not_small kind.Dma step far = le-ltb step STEP_LIMIT (omega arith)
not_small kind.Lines step far = le-ltb step STEP_LIMIT (omega arith)
not_small kind.Value step far = le-ltb step STEP_LIMIT (omega arith)
not_small kind.Mark step far = le-ltb step STEP_LIMIT (omega arith)

-- none does so far
pub may_stand-far : (behind : Behind) (k : Kind) (step : ℕ) → STEP_LIMIT < step → may_stand behind k step ≡ false
may_stand-far behind k step far = rw (not_small k step far) refl

pub ruleset far = may_stand-far

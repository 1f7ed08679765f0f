use Rattle.cx_codec.proofs.Putting.{puts_none}
use Rattle.cx_log.proofs.text.put_version.Goals as goal

pub returns-then-version-eq1 : goal.returns-then-version-eq1
returns-then-version-eq1 g c =
    rw c.if-version-eq1.true (puts_none c.requires)

-- The page has a frame of its own when its bytes are written.
use Rattle.std.proofs.Common.{refl, sym, subst}
use Rattle.std.proofs.lemmas.Bool.{both_ways}
use Rattle.cx_pages.specs.Memories.{HasOwn}
use Rattle.cx_pages.proofs.Owning.{own_beside, own_kept, own_written}
use Rattle.cx_pages.proofs.pool.Pool.write.Goals as goal
use Rattle.cx_pages.proofs.pool.Pool.write.Goals.{then-shared, else-shared}

pub returns-clause-own : goal.returns-clause-own
returns-clause-own c = elim c.if-shared.branch [
  | then-shared w ↦
      own_written c.args.page c.args.self.now c.if-shared.self c.write_own.new.self
      (subst (HasOwn c.args.page c.args.self.now) (sym w.self-is) w.take_frame.ensures.own)
      c.write_own.ensures.stamps c.write_own.ensures.saved c.write_own.ensures.counts.0 c.write_own.ensures.counts.1
  | else-shared w ↦
      own_written c.args.page c.args.self.now c.if-shared.self c.write_own.new.self
      (subst (HasOwn c.args.page c.args.self.now) (sym w.self-is)
      (own_kept c.args.page c.args.self.now c.args.self.now (λ shared. both_ways _ w.if-shared.false
      (c.shared.ensures.1 shared)) refl refl refl refl))
      c.write_own.ensures.stamps c.write_own.ensures.saved c.write_own.ensures.counts.0 c.write_own.ensures.counts.1
]

pub returns-clause-others : goal.returns-clause-others
returns-clause-others c = own_beside c.args.page c.args.self.now c.write_own.new.self (returns-clause-own c)

use Rattle.std.proofs.Common.{[], ◌∷◌, ◌++◌, refl, sym, ◌∙◌, arith}
use Rattle.std.proofs.Math.Logic.{∥∥₁_map}
use Rattle.cx_program.specs.Knowing.{known_by}
use Rattle.cx_process.proofs.Standing.{in_order_of_some, same_for_some, slices_step}
use Rattle.cx_process.proofs.slicer.Slicer.feed.Goals as goal

pub learn-requires-clause-order : goal.learn-requires-clause-order
learn-requires-clause-order g c = in_order_of_some (known_by c.args.self.now.standing) c.args.self.now.count
    c.args.self.now.groups.least c.args.self.now.slicing

-- Nothing has changed where room is refused,
pub invariant_of-self : goal.invariant_of-self
invariant_of-self g c = record {
  slicing = same_for_some (known_by c.args.self.now.standing) (known_by c.hold_for.new.self) c.args.self.now.count
      c.args.self.now.groups.least c.args.self.now.groups.least c.args.self.now.slicing c.hold_for.ensures.known refl;
  most = c.args.self.now.most;
}

-- nor what it stands for where its writer is refused.
pub invariant_of-self-in-Break-branch-2 : goal.invariant_of-self-in-Break-branch-2
invariant_of-self-in-Break-branch-2 g c = record {
  slicing = same_for_some (known_by c.args.self.now.standing) (known_by c.learn.new.standing) c.args.self.now.count
      c.args.self.now.groups.least c.learn.new.groups.least c.args.self.now.slicing
      (c.in_err-learn.ensures.stays ∙ c.in_ok-hold_for.ensures.known) c.in_err-learn.ensures.refused;
  most = c.args.self.now.most;
}

pub invariant_of-self-2 : goal.invariant_of-self-2
invariant_of-self-2 g c = record {
  slicing = ∥∥₁_map c.args.self.now.slicing (λ x. (
    x.0 ++ c.args.obs.now ∷ [],
    slices_step c.args.obs.now (known_by c.args.self.now.standing) (known_by c.hold_for.new.self)
        (known_by c.learn.new.standing) (known_by c.go_on.new.self) c.args.self.now.count c.args.self.now.groups.least
        c.learn.new.groups.least c.in_ok-hold_for.ensures.known c.in_ok-learn.ensures.least c.in_ok-learn.ensures.known
        c.go_on.ensures.known x.0 x.1,
  ));
  most = omega (arith, c.requires.most);
}

pub returns-in_err-learn-clause-pages : goal.returns-in_err-learn-clause-pages
returns-in_err-learn-clause-pages g c = λ a held. c.in_ok-hold_for.ensures.only a
    (sym (c.in_err-learn.ensures.holds a) ∙ held)

pub returns-clause-pages : goal.returns-clause-pages
returns-clause-pages g c = λ a held. c.in_ok-hold_for.ensures.only a
    (sym (c.in_ok-learn.ensures.holds a) ∙ (sym (c.go_on.ensures.holds a) ∙ held))

pub returns-clause-stands : goal.returns-clause-stands
returns-clause-stands g c = slices_step c.args.obs.now (known_by c.args.self.now.standing) (known_by c.hold_for.new.self)
    (known_by c.learn.new.standing) (known_by c.go_on.new.self) c.args.self.now.count c.args.self.now.groups.least
    c.learn.new.groups.least c.in_ok-hold_for.ensures.known c.in_ok-learn.ensures.least c.in_ok-learn.ensures.known
    c.go_on.ensures.known

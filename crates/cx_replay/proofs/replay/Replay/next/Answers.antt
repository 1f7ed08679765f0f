use Rattle.cx_replay.proofs.replay.Replay.next.Goals as goal

pub returns-then-branch-clause-answers : goal.returns-then-branch-clause-answers
returns-then-branch-clause-answers g c told input begins end o whole given stands =
    rw c.if-branch.true at (c.in_ok-next_into.ensures.answers told input begins end o whole given stands)

pub returns-clause-answers : goal.returns-clause-answers
returns-clause-answers g c told input begins end o whole given stands =
    rw c.if-branch.false at (c.in_ok-next_into.ensures.answers told input begins end o whole given stands)

use Rattle.std.proofs.Common.{◌<◌, ◌^◌, arith}
use Rattle.std.proofs.lemmas.List.Elements.{All-from_get_or}
use Rattle.cx_csr.proofs.WordLists.{keeps-state_of, words_of-state_of}
use Rattle.cx_csr.proofs.state.State.from_fitting_words.Goals as goal

pub returns-clause-keeps : goal.returns-clause-keeps
returns-clause-keeps c =
    rw c.made.ensures (keeps-state_of c.args.pages c.args.words.now (omega arith)
    (All-from_get_or (λ w. w < 2 ^ 32) c.args.words.now 0 (λ i _. c.fits-words i)) c.requires)

pub returns-clause-words : goal.returns-clause-words
returns-clause-words c = rw c.made.ensures (words_of-state_of c.args.pages c.args.words.now (omega arith) c.requires)

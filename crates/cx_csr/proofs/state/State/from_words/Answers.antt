-- A state that keeps the rules has words that fit, so that none is a first bad one.
use Rattle.std.proofs.Common.{sym, ap, subst, Ok, ◌∙◌}
use Rattle.cx_csr.specs.Rules.{AllFit}
use Rattle.cx_csr.proofs.WordLists.{fit_from_keeps}
use Rattle.cx_csr.proofs.SameWords.{same_from_words}
use Rattle.cx_csr.proofs.state.State.from_words.Goals as goal

pub returns-in-Some-clause-back : goal.returns-in-Some-clause-back
returns-in-Some-clause-back c s keeps e =
    let fit : AllFit c.args.pages c.args.words.now = subst (AllFit c.args.pages) e (fit_from_keeps c.args.pages s keeps)
    in
    let bad = c.in-Some.ensures in
    absurd (bad.bad (fit c.in-Some.index bad.place))

pub returns-in-None-clause-back : goal.returns-in-None-clause-back
returns-in-None-clause-back c s keeps e =
    let own = c.from_fitting_words.ensures in
    ap Ok (same_from_words c.args.pages c.args.pages c.from_fitting_words.result s own.keeps keeps (own.words ∙ sym e))

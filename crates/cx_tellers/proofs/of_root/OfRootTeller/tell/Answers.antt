use Rattle.std.proofs.Common.{sym}
use Rattle.cx_commands.specs.Observed.{observations_in}
use Rattle.cx_tellers.proofs.ShownTold.{nothing_told, shown_told}
use Rattle.cx_tellers.proofs.Taken.{formed, shows_possible}
use Rattle.cx_tellers.proofs.of_root.OfRootTeller.tell.Goals as goal

pub returns-in-Some-clause-tells : goal.returns-in-Some-clause-tells
returns-in-Some-clause-tells g c asked o whole given base ordered at within due so_far =
    shown_told g.L.ObservationTeller.text (g.L.ObservationTeller.keeps c.tell.new.self) asked c.args.self.now.root
    given c.args.rec.now c.in-Some.obs base _ _ _ so_far.keeps.same (sym c.in-Some.ensures)
    (c.tell.ensures.tells (observations_in asked given) base
    (record { stands = so_far.stands; keeps = so_far.keeps.keeps }))

pub returns-in-None-clause-tells : goal.returns-in-None-clause-tells
returns-in-None-clause-tells g c asked o whole given base ordered at within due so_far =
    nothing_told g.L.ObservationTeller.text (g.L.ObservationTeller.keeps c.args.self.now.teller) asked
    c.args.self.now.root given c.args.rec.now base _ _ (sym c.in-None.ensures) so_far

pub observe-requires : goal.observe-requires
observe-requires g c = formed c.args.rec.now c.requires.taken

pub tell-requires-clause-takes : goal.tell-requires-clause-takes
tell-requires-clause-takes g c =
    g.met.L.ObservationTeller.possible c.in-Some.obs
    (shows_possible c.args.rec.now c.args.self.now.root c.in-Some.obs c.requires.taken (sym c.in-Some.ensures))

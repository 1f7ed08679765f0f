use Rattle.std.proofs.lemmas.Result.{err_from_is_err_and}
use Rattle.std.proofs.Common.{refl, sym}
use Rattle.cx_codec.proofs.Composing.{fails, goes, gives}
use Rattle.cx_commands.specs.Opening.{behind_magic_at, filled_at}
use Rattle.cx_live.proofs.Filling.{refused_unread}
use Rattle.cx_telling.proofs.opening.open_behind.Goals as goal

pub returns-in_err-reader-clause-opens : goal.returns-in_err-reader-clause-opens
returns-in_err-reader-clause-opens g c told =
    let p = err_from_is_err_and c.from_residual.result c.from_residual.ensures.1 in
    let opened = c.in_err-reader.ensures.opens told in
    rw (p.1, p.2) (record {
      behind = opened.behind;
      reads = fails {reader = behind_magic_at} (λ start. filled_at) (λ p. refl) refl opened.reads;
      keeps = tt;
    })

pub returns-in_err-machine-clause-opens : goal.returns-in_err-machine-clause-opens
returns-in_err-machine-clause-opens g c told =
    let p = err_from_is_err_and c.from_residual-in_err-machine.result c.from_residual-in_err-machine.ensures.1 in
    let opened = c.in_ok-reader.ensures.opens told in
    rw (p.1, p.2) (record {
      behind = opened.behind;
      reads = refused_unread opened.reads.follows refl;
      keeps = tt;
    })

pub returns-in_err-fill-clause-opens : goal.returns-in_err-fill-clause-opens
returns-in_err-fill-clause-opens g c told =
    let p = err_from_is_err_and c.from_residual-in_err-fill.result c.from_residual-in_err-fill.ensures.1 in
    let opened = c.in_ok-reader.ensures.opens told in
    let header = rw (sym opened.keeps) at opened.reads in
    let at_first = c.in_ok-reader.ensures.opened in
    let pages = rw (at_first.left, at_first.least, c.in_ok-machine.ensures.memory, c.header.ensures.header)
    at (c.in_err-fill.ensures.reads header.follows.told) in
    rw (p.1, p.2) (record {
      behind = c.fill.new.reader.input;
      reads = goes {reader = behind_magic_at} (λ start. filled_at) (λ p. refl) header
          (fails _ (λ p. refl) refl pages);
      keeps = tt;
    })

pub returns-clause-opens : goal.returns-clause-opens
returns-clause-opens g c told =
    let opened = c.in_ok-reader.ensures.opens told in
    let header = rw (sym opened.keeps) at opened.reads in
    let at_first = c.in_ok-reader.ensures.opened in
    let pages = rw (at_first.left, at_first.least, c.in_ok-machine.ensures.memory, c.header.ensures.header)
    at (c.in_ok-fill.ensures.reads header.follows.told) in
    record {
      behind = c.fill.new.reader.input;
      reads = goes {reader = behind_magic_at} (λ start. filled_at) (λ p. refl) header
          (goes _ (λ p. refl) pages (gives pages.follows.told (λ p. rw c.in_ok-fill.ensures.header refl)));
      keeps = refl;
    }

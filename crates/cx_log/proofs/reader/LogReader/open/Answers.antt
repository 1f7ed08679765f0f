use Rattle.std.proofs.lemmas.Result.{err_from_is_err_and}
use Rattle.std.proofs.Common.{refl}
use Rattle.cx_log.specs.Engine.{opened_header_at}
use Rattle.cx_codec.proofs.Composing.{fails, goes, gives}
use Rattle.cx_log.proofs.Beginning.{begins_behind}
use Rattle.cx_log.proofs.reader.LogReader.open.Goals as goal

pub returns-in_err-header-clause-opens : goal.returns-in_err-header-clause-opens
unfolding opened_header_at
returns-in_err-header-clause-opens g c told =
    let p = err_from_is_err_and c.from_residual-in_err-header.result c.from_residual-in_err-header.ensures.1 in
    rw (p.1, p.2) (record {
      behind = c.header.new.bytes;
      reads = fails {reader = opened_header_at} _ (λ p. refl) refl
          (c.in_err-header.ensures.reads told);
      keeps = tt;
    })

pub returns-clause-opens : goal.returns-clause-opens
unfolding opened_header_at
returns-clause-opens g c told =
    let header = c.in_ok-header.ensures.reads told in
    record {
      behind = c.begin_behind.new.bytes;
      reads = goes {reader = opened_header_at} _ (λ p. refl) header (goes _ (λ p. refl)
          (begins_behind _ _ _ _ c.begin_behind.ensures header.follows.told) (gives header.follows.told (λ p. refl)));
      keeps = refl;
    }

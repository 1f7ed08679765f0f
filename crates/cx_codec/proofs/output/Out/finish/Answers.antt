use Rattle.std.proofs.Common.{rules}
use Rattle.std.proofs.lemmas.List.{append-nil}
use Rattle.std.proofs.lemmas.Result.{err_from_is_err_and}
use Rattle.cx_codec.proofs.Blocks.{all_written, finish_front, finish_whole}
use Rattle.cx_codec.proofs.output.Out.finish.Goals as goal

pub returns-in_err-write_all : goal.returns-in_err-write_all
returns-in_err-write_all g c =
    let p = err_from_is_err_and c.from_residual.result c.from_residual.ensures.1 in
    rw (p.1, p.2) (record {
      told = search rules;
      written = tt;
      refused = λ base put before. rw append-nil (finish_front _ _ _ _ _ before (rw c.waiting.ensures at c.in_err-write_all.ensures.err));
      cause = search rules;
    })

pub returns-in_err-flush : goal.returns-in_err-flush
returns-in_err-flush g c =
    let p = err_from_is_err_and c.from_residual-in_err-flush.result c.from_residual-in_err-flush.ensures.1 in
    rw p.1 (record {
      told = search rules;
      written = tt;
      refused = λ base put before. rw append-nil (finish_whole _ _ _ _ _ _ before (rw c.waiting.ensures at c.in_ok-write_all.ensures.ok) c.in_err-flush.ensures.bytes);
      cause = search rules;
    })

pub returns : goal.returns
returns g c = record {
  told = search rules;
  written = λ base put before. rw append-nil (all_written _ _ _ _ _ _ before (rw c.waiting.ensures at c.in_ok-write_all.ensures.ok) c.in_ok-flush.ensures.bytes);
  refused = tt;
  cause = search rules;
}

use Rattle.std.proofs.Common.{refl}
use Rattle.std.proofs.lemmas.Result.{err_from_is_err_and}
use Rattle.cx_log.specs.Text.{header_text, pages_text}
use Rattle.cx_commands.specs.Upgrade.{upgraded_header}
use Rattle.cx_tellers.proofs.Fronts.{starts_on, starts_short, starts_stop}
use Rattle.cx_tellers.proofs.front.start_upgraded.Goals as goal

pub returns-in_err-writer-clause-starts : goal.returns-in_err-writer-clause-starts
returns-in_err-writer-clause-starts g c =
    let p = err_from_is_err_and c.from_residual.result c.from_residual.ensures.1 in
    let header = c.args.header.now in
    let memory = c.args.ram.now.memory in
    let first = rw c.upgraded.ensures.header at c.in_err-writer.ensures.starts in
    rw (p.1, p.2) (starts_short (header_text (upgraded_header header memory)) (pages_text memory header.pages) first)

pub returns-in_err-put_pages-clause-starts : goal.returns-in_err-put_pages-clause-starts
returns-in_err-put_pages-clause-starts g c =
    let p = err_from_is_err_and c.from_residual-in_err-put_pages.result c.from_residual-in_err-put_pages.ensures.1 in
    let header = c.args.header.now in
    let memory = c.args.ram.now.memory in
    let first = rw c.upgraded.ensures.header at c.in_ok-writer.ensures.starts in
    rw (p.1, p.2) (starts_stop (header_text (upgraded_header header memory)) (pages_text memory header.pages) first
    c.in_err-put_pages.ensures.puts)

pub returns-clause-starts : goal.returns-clause-starts
returns-clause-starts g c =
    let header = c.args.header.now in
    let memory = c.args.ram.now.memory in
    let first = rw c.upgraded.ensures.header at c.in_ok-writer.ensures.starts in
    starts_on (header_text (upgraded_header header memory)) (pages_text memory header.pages) first
    c.in_ok-put_pages.ensures.puts refl

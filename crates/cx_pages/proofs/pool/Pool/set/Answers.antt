-- One byte is written.
use Rattle.std.proofs.Common.{[], ◌∙◌, set, ap, arith}
use Rattle.cx_pages.specs.Frames.{IsWhole}
use Rattle.cx_pages.specs.Memories.{page_of}
use Rattle.std.proofs.lemmas.List.Elements.{All-get_or}
use Rattle.cx_pages.proofs.Framing.{splice_one}
use Rattle.cx_pages.proofs.pool.Pool.set.Goals as goal

pub returns-clause-pages : goal.returns-clause-pages
returns-clause-pages c =
    let whole : IsWhole (page_of c.args.self.now.current c.args.page) = All-get_or IsWhole c.args.self.now.current.pages
    c.args.page [] c.requires.page c.pages.ensures.whole in
    c.write.ensures.pages
    ∙ ap (set c.args.self.now.current.pages c.args.page) (splice_one (page_of c.args.self.now.current c.args.page)
    c.args.offset c.args.byte (omega (arith, whole.size, c.requires.offset)))

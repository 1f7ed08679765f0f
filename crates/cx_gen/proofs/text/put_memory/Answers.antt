use Rattle.cx_codec.specs.Varint.{varint}
use Rattle.cx_log.specs.Text.{page_count}
use Rattle.cx_gen.proofs.Paging.{page_behind}
use Rattle.cx_gen.proofs.text.put_memory.Goals as goal

pub loop-page-preserved : goal.loop-page-preserved
loop-page-preserved c = record {
  put = page_behind c.args.text.now.items (varint (page_count c.args.ram.now.memory c.args.pages))
      c.args.ram.now.memory c.loop-page.page c.loop-page.text.items c.put_page.new.text.items
      c.loop-page.invariant.put c.in_ok-put_page.ensures;
}

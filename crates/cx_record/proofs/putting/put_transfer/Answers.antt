use Rattle.cx_map.specs.Map.{size_of_pages}
use Rattle.cx_run.proofs.TapedOrder.{transfer_puts}
use Rattle.cx_record.proofs.PutRecords.{one_transfer}
use Rattle.cx_record.proofs.putting.put_transfer.Goals as goal

pub dma-requires-clause-rules : goal.dma-requires-clause-rules
dma-requires-clause-rules g c =
    (transfer_puts c.args.writer.now.header.pages c.args.step c.args.writer.now.behind _ c.requires.within
    c.requires.small
    (one_transfer (size_of_pages c.args.writer.now.header.pages) c.in-Some.place c.args.dma c.args.bytes.now
    c.in-Some.is c.requires.fits)).0

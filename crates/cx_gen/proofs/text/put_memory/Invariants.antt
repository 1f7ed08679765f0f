use Rattle.std.proofs.Common.{◌≡◌, ◌++◌}
use Rattle.cx_codec.specs.Varint.{varint}
use Rattle.cx_log.specs.Text.{page_count, pages_text}
use Rattle.cx_gen.proofs.text.put_memory.Given as goal

abbrev pub invariant-loop-page : goal.invariant-loop-page
invariant-loop-page l = record {
  put : l.text.items
      ≡ l.fn.text.items ++ (varint (page_count l.ram.memory l.pages) ++ pages_text l.ram.memory l.page);
}

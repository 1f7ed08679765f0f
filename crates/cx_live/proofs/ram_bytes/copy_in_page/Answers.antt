use Rattle.std.proofs.Common.{◌≡◌, ◌+◌, ◌-◌, ◌%◌, length, arith, ◌∙◌}
use Rattle.cx_map.specs.declared.TheConstants.{PAGE_SIZE}
use Rattle.cx_live.proofs.Stretches.{in_page}
use Rattle.cx_live.proofs.ram_bytes.copy_in_page.Goals as goal

pub returns : goal.returns
returns c =
    let many : c.args.index % PAGE_SIZE + length c.args.into.now - c.args.index % PAGE_SIZE ≡ length c.args.into.now =
    omega arith in
    c.copy_from_slice.ensures.after ∙ rw (many, c.page_bytes.ensures) (in_page _ _ _ c.requires.page)

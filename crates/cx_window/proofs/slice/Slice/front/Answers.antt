use Rattle.std.proofs.Common.{ap, arith, refl}
use Rattle.cx_window.specs.Slice.{Sliced}
use Rattle.cx_window.proofs.slice.Slice.front.Goals as goal

pub returns : goal.returns
returns c =
    let whole = c.self.invariant.0 in
    record {
      header = rw (c.count.ensures.count, ← c.self.view_is) refl;
      rules = record {
        version = whole.header.version;
        pages = whole.header.pages;
        base = whole.header.base;
        start = whole.header.start;
        count = omega (arith, c.count.ensures.within, ap (λ (s : Sliced). s.header.pages) c.self.view_is);
      };
    }

use Rattle.std.proofs.Common.{◌≡◌, ◌+◌, ◌++◌, take}
use Rattle.arrayvec.specs.ArrayVec.{array_vec_len}
use Rattle.cx_slices.specs.Stretches.{bytes_from}
use Rattle.cx_slicefmt.proofs.pieces.push_run.Given as goal

abbrev pub invariant-loop-index : goal.invariant-loop-index
invariant-loop-index l =
    record {
      items : l.into.items ≡ l.fn.into.items ++ bytes_from l.run.va (take l.index l.run.bytes);
      len : array_vec_len l.into ≡ array_vec_len l.fn.into + l.index;
    }

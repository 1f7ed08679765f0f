use Rattle.std.proofs.lemmas.Result.{err_from_is_err_and}
use Rattle.cx_codec.proofs.Following.{begins_on, follows_on}
use Rattle.cx_live.proofs.Whole.{end_refused, image_given, image_refused}
use Rattle.cx_live.proofs.image.Image.read.Goals as goal

pub returns-in_err-image-clause-image : goal.returns-in_err-image-clause-image
returns-in_err-image-clause-image g c told =
    let p = err_from_is_err_and c.from_residual.result c.from_residual.ensures.1 in
    let first = c.in_err-image.ensures.reads told in
    rw (p.1, p.2) (record {
      behind = c.image.new.bytes;
      follows = first.follows;
      reads = λ input begins. image_refused _ _ _ _ _ (first.reads input begins);
    })

pub returns-in_err-close-clause-image : goal.returns-in_err-close-clause-image
returns-in_err-close-clause-image g c told =
    let p = err_from_is_err_and c.from_residual-in_err-close.result c.from_residual-in_err-close.ensures.1 in
    let first = c.in_ok-image.ensures.reads told in
    let last = c.in_err-close.ensures.ends first.follows.told in
    rw (p.1, p.2) (record {
      behind = c.close.new.bytes;
      follows = follows_on first.follows last.follows;
      reads = λ input begins.
          end_refused _ _ _ _ _ _ _ _ (first.reads input (begins_on last.follows.grows begins))
          (last.ends input begins);
    })

pub returns-clause-image : goal.returns-clause-image
returns-clause-image g c told =
    let first = c.in_ok-image.ensures.reads told in
    let last = c.in_ok-close.ensures.ends first.follows.told in
    record {
      behind = c.close.new.bytes;
      follows = follows_on first.follows last.follows;
      reads = λ input begins.
          image_given _ _ _ 0 _ (Unit {0}) _ (first.reads input (begins_on last.follows.grows begins)) (last.ends input begins);
    }

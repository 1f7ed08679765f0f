use Rattle.std.proofs.Common.{arith, ap, ◌∙◌, ◌≡◌, ◌+◌, ◌-◌, ◌≤◌, [], length}
use Rattle.std.proofs.lemmas.List.{nil_from_length}
use Rattle.cx_codec.specs.Place.{Place}
use Rattle.cx_codec.proofs.Following.{begins_on, follows_on}
use Rattle.cx_codec.proofs.Parts.{length_left}
use Rattle.cx_codec.proofs.Taking.{moved_on, held_on, follows_moved, copied_to_end, copied_to_fault}
use Rattle.cx_codec.proofs.buffer.Buffer.copy.Goals as goal

pub loop-count-preserved : goal.loop-count-preserved
loop-count-preserved g c =
    let inv = c.loop-count.invariant in
    let more : c.give-count.result ≤ length c.refill.new.self.ahead = omega (arith, c.give-count.ensures.count) in
    let at : c.give-count.new.self.at ≡ c.refill.new.self.at + c.give-count.result =
    ap (λ (p : Place). p.at) c.give-count.ensures.place in
    let limit : c.give-count.new.self.limit ≡ c.refill.new.self.limit =
    ap (λ (p : Place). p.limit) c.give-count.ensures.place in
    let stays_at : c.refill.new.self.at ≡ c.loop-count.self.at = ap (λ (p : Place). p.at) c.refill.ensures.place in
    let stays_limit : c.refill.new.self.limit ≡ c.loop-count.self.limit =
    ap (λ (p : Place). p.limit) c.refill.ensures.place in
    let room : c.loop-count.count + c.give-count.result ≤ c.args.self.now.limit - c.args.self.now.at =
    omega (arith, c.give-count.ensures.count) in
    record {
      within = omega (arith, c.give-count.ensures.count);
      reach = omega arith;
      at = omega arith;
      limit = omega arith;
      inside = omega (arith, c.refill.ensures.within);
      follows = λ told.
          let so_far = inv.follows told in
          follows_moved _ _ (follows_on so_far (c.refill.ensures.refills so_far.told).follows) more
          c.give-count.ensures.place;
      moved = λ told input begins.
          let so_far = inv.follows told in
          let refilled = c.refill.ensures.refills so_far.told in
          moved_on _ _ _ _ _ input so_far refilled
          (inv.moved told input (begins_on refilled.follows.grows begins)) begins more room
          c.give-count.ensures.moved c.give-count.ensures.place;
      held = λ all.
          let held = inv.held all in
          let left = length_left _ _ _ _ held.1 in
          let same = c.refill.ensures.held (omega arith) in (
            same.1 ∙ held.0,
            held_on _ _ _ _ _ _ _ _ held.1 same.0 more room c.give-count.ensures.moved
                c.give-count.ensures.place,
          );
      later = omega (arith, c.refill.ensures.cause.later);
      fits = λ small. c.refill.ensures.cause.fits (inv.fits small);
    }

pub returns-in-Err-clause-copies : goal.returns-in-Err-clause-copies
returns-in-Err-clause-copies g c told =
    let inv = c.loop-count.invariant in
    let so_far = inv.follows told in
    let refilled = c.refill.ensures.refills so_far.told in
    record {
      follows = follows_on so_far refilled.follows;
      copies = λ input begins cut. copied_to_fault _ _ input so_far refilled
          (inv.moved told input (begins_on refilled.follows.grows begins)) begins c.in-Err.ensures.failed cut
          (omega (arith, c.loop-count-test.true));
    }

pub returns-in-Ok-false-clause-copies : goal.returns-in-Ok-false-clause-copies
returns-in-Ok-false-clause-copies g c told =
    let inv = c.loop-count.invariant in
    let so_far = inv.follows told in
    let refilled = c.refill.ensures.refills so_far.told in
    let size : length c.refill.new.self.ahead ≡ 0 = grind arith in
    let none : c.refill.new.self.ahead ≡ [] = nil_from_length c.refill.new.self.ahead size in
    let ended = rw c.in-Ok-false.field-0-test at (c.in-Ok-false.ensures.end so_far.told) in
    record {
      follows = follows_on so_far refilled.follows;
      copies = λ input begins.
          let before = inv.moved told input (begins_on refilled.follows.grows begins) in (
            rw (refilled.stays input begins) before,
            λ short may. copied_to_end _ _ input so_far refilled before begins none (may ended),
          );
    }

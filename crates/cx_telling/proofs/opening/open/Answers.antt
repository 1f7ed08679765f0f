use Rattle.std.proofs.lemmas.Result.{err_from_is_err_and}
use Rattle.std.proofs.Common.{refl, [], ◌^◌, true}
use Rattle.cx_codec.proofs.Composing.{breaks, fails, goes}
use Rattle.cx_codec.proofs.Following.{follows_none}
use Rattle.cx_commands.specs.Opening.{begun_at, behind_kind}
use Rattle.cx_telling.proofs.Composed.{begun_parts}
use Rattle.cx_live.proofs.Filling.{refused_unread}
use Rattle.cx_telling.proofs.opening.open.Goals as goal

pub returns-in_err-bytes-clause-opens : goal.returns-in_err-bytes-clause-opens
returns-in_err-bytes-clause-opens g c told =
    let p = err_from_is_err_and c.from_residual.result c.from_residual.ensures.1 in
    rw (p.1, p.2) (record {
      behind = record { ready = []; at = 0; limit = 2 ^ 60; live = true };
      reads = refused_unread (follows_none _ told) refl;
      keeps = tt;
    })

pub returns-in_err-magic-clause-opens : goal.returns-in_err-magic-clause-opens
returns-in_err-magic-clause-opens g c told =
    let p = err_from_is_err_and c.from_residual-in_err-magic.result c.from_residual-in_err-magic.ensures.1 in
    let magic = rw c.in_ok-bytes.ensures at (c.in_err-magic.ensures.reads told) in
    rw (p.1, p.2) (record {
      behind = c.read_magic.new.bytes;
      reads = fails {reader = begun_at} behind_kind begun_parts refl magic;
      keeps = tt;
    })

pub returns-in-Recording-clause-opens : goal.returns-in-Recording-clause-opens
returns-in-Recording-clause-opens g c told =
    let magic = rw (c.in_ok-bytes.ensures, c.in-Recording.is) at (c.in_ok-magic.ensures.reads told) in
    let opened = c.open_behind.ensures.opens magic.follows.told in
    record {
      behind = opened.behind;
      reads = goes {reader = begun_at} behind_kind begun_parts magic opened.reads;
      keeps = opened.keeps;
    }

pub returns-in-Process-clause-opens : goal.returns-in-Process-clause-opens
returns-in-Process-clause-opens g c told =
    let magic = rw (c.in_ok-bytes.ensures, c.in-Process.is) at (c.in_ok-magic.ensures.reads told) in
    record {
      behind = c.read_magic.new.bytes;
      reads = goes {reader = begun_at} behind_kind begun_parts magic
          (breaks 0 magic.follows.told refl (λ p. refl));
      keeps = tt;
    }

pub returns-in-Calls-clause-opens : goal.returns-in-Calls-clause-opens
returns-in-Calls-clause-opens g c told =
    let magic = rw (c.in_ok-bytes.ensures, c.in-Calls.is) at (c.in_ok-magic.ensures.reads told) in
    record {
      behind = c.read_magic.new.bytes;
      reads = goes {reader = begun_at} behind_kind begun_parts magic
          (breaks 0 magic.follows.told refl (λ p. refl));
      keeps = tt;
    }

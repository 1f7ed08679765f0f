use Rattle.std.proofs.Common.{◌≡◌, true, sym, ℕ, length, subst}
use Rattle.cx_walk.specs.Mode.{is_bare}
use Rattle.cx_map.specs.Map.{IsInRam}
use Rattle.cx_hart.specs.Fetch.{walk_in}
use Rattle.cx_hart.specs.Stretches.{bare_walk as the_bare_walk}
use Rattle.cx_hart.specs.Surroundings.{Surroundings}
use Rattle.cx_hart.proofs.BareWalks.{bare_walk}
use Rattle.cx_hart.proofs.fetch.is_direct.Goals as goal

pub returns : goal.returns
returns c inside =
    let ram = c.here.inside.ram.now.memory in
    let bytes = subst (λ (n : ℕ). IsInRam (length ram) c.args.va n) c.from.ensures (c.contains.ensures.inside.0 inside)
    in
    let bare = subst (λ (here : Surroundings). is_bare here.state c.args.kind ≡ true) (sym c.here.view_is) c.requires in
    subst (λ (here : Surroundings). walk_in here c.args.kind c.args.va c.args.len ≡ the_bare_walk c.args.va)
    c.here.view_is
    (bare_walk _ c.args.kind c.args.va c.args.len c.pages.result bare bytes
    c.pages.ensures.whole)

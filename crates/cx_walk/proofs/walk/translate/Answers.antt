-- What holds of every walk holds of the one that is returned.
use Rattle.std.proofs.Common.{◌≡◌, ℕ, Some, IfOk, sym, subst, ap, ◌∙◌}
use Rattle.cx_walk.specs.declared.walk.Walk.{Walk}
use Rattle.cx_walk.specs.Bytes.{word_in}
use Rattle.cx_walk.specs.Walks.{IsFound, address_of, walk_of, walk_to}
use Rattle.cx_walk.proofs.Found.{walk_stands, walk_found}
use Rattle.cx_walk.proofs.walk.translate.Goals as goal

pub returns-clause-address : goal.returns-clause-address
unfolding walk_of
returns-clause-address g c =
    let P : Walk → Type 0 = λ walk. IfOk walk.answer (λ place. walk.address ≡ Some (address_of place)) in
    let e = c.end.ensures ∙ ap (walk_to c.pages.result c.args.kind c.args.len) c.follow.ensures in
    subst P (sym e) (walk_stands (word_in (g.V.Words.bytes c.args.view.now)) c.pages.result c.args.state.now c.args.kind
    c.args.va c.args.len)

pub returns-clause-found : goal.returns-clause-found
unfolding walk_of
returns-clause-found g c =
    let P : Walk → Type 0 = λ walk. IfOk walk.answer (IsFound c.pages.result c.args.kind c.args.len) in
    let e = c.end.ensures ∙ ap (walk_to c.pages.result c.args.kind c.args.len) c.follow.ensures in
    let found = subst P (sym e) (walk_found (word_in (g.V.Words.bytes c.args.view.now)) c.pages.result c.args.state.now
    c.args.kind c.args.va c.args.len c.requires.length c.requires.aligned) in
    subst (λ (pages : ℕ). IfOk c.end.result.answer (IsFound pages c.args.kind c.args.len)) c.pages.ensures.count found

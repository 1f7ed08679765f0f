use Rattle.std.proofs.Common.{◌≡◌, true, ℕ, sym, subst, rules}
use Rattle.cx_csr.specs.Rules.{is_in_ram}
use Rattle.cx_map.specs.Map.{size_of_pages}
use Rattle.cx_walk.specs.Bytes.{word_in}
use Rattle.cx_walk.specs.Entry.{is_open, is_pointer}
use Rattle.cx_walk.specs.declared.entry.Size.TheVariants.{Page}
use Rattle.cx_walk.proofs.QuickWalks.{user_walk}
use Rattle.cx_walk.proofs.quickly.walk_quickly.Goals as goal

pub returns-clause-walk : goal.returns-clause-walk
returns-clause-walk g c =
    let points : is_pointer c.in-Some.first_entry ≡ true = search rules in
    let opens : is_open c.args.state.now c.args.kind Page c.in-Some-word.second_entry ≡ true = search rules in
    let inside : is_in_ram (size_of_pages c.pages.result) c.physical_address-place.result c.args.len ≡ true =
    search rules in
    user_walk (word_in (g.V.Words.bytes c.args.view.now)) (g.V.Words.pages c.args.view.now) c.args.state.now c.args.kind
    c.args.va c.args.len c.first_place-first.result c.in-Some.first_entry c.second_place-second.result
    c.in-Some-word.second_entry c.physical_address-place.result c.requires.translated c.first_place-first.ensures
    (sym c.in-Some.ensures.word) points c.second_place-second.ensures (sym c.in-Some-word.ensures.word) opens
    c.physical_address-place.ensures
    (subst (λ (n : ℕ). is_in_ram (size_of_pages n) c.physical_address-place.result c.args.len ≡ true)
    c.pages.ensures.count inside)

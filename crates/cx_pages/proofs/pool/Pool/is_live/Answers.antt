-- The table under the number tells.
use Rattle.std.proofs.Common.{◌≡◌, ℕ, ◌<◌, ◌≤◌, [], ◌∙◌, false, inl, inr, length, get_or, refl, sym, subst, arith}
use Rattle.std.proofs.lemmas.Bool.{both_ways, cases_Bool, not-true}
use Rattle.std.proofs.lemmas.List.{get_or_read}
use Rattle.cx_pages.specs.Memories.{IsLive}
use Rattle.cx_pages.proofs.Sharing.{live_long, long_live, not_empty}
use Rattle.cx_pages.proofs.pool.Pool.is_live.Goals as goal

pub returns : goal.returns
returns c =
    let n : ℕ = c.snap.inside.number in
    let there : n < length c.self.inside.tables.items = omega (arith, c.len.ensures) in
    let is : c.index-table.result.now ≡ get_or c.self.inside.tables.items n [] =
    get_or_read c.self.inside.tables.items n c.index-table.result.now there c.index-table.ensures [] in (
      λ t. let full : c.is_empty.result ≡ false = not-true _ t in
          let long : 1 ≤ length c.index-table.result.now = not_empty _ (λ e. both_ways _ full (c.is_empty.ensures.1 e))
          in
          subst (IsLive c.args.self.now) c.snap.view_is (long_live _ _ _ _ c.args.self.now n c.self.view_is
          (rw is at long)),
      λ live. elim (cases_Bool c.is_empty.result) [
        | inl bare ↦
            let long = live_long _ _ _ _ c.args.self.now n c.self.view_is
            (subst (IsLive c.args.self.now) (sym c.snap.view_is) live) in
            let none : length (get_or c.self.inside.tables.items n []) ≡ 0 =
            rw (sym is ∙ c.is_empty.ensures.0 bare) refl in
            absurd (omega arith)
        | inr full ↦ rw full refl
      ],
    )

-- What one mask tells of the flags of an entry.
use Rattle.std.proofs.Common.{◌≡◌, ◌<◌, ℕ, true, bit_and, min, refl, sym, ap, ◌∙◌, arith}
use Rattle.std.specs.Int.{bit_at}
use Rattle.std.proofs.lemmas.Nat.Bits.{bit_at_and, bit_at-lt}
use Rattle.cx_csr.specs.declared.state.State.{State}
use Rattle.cx_walk.specs.Entry.{is_open, is_pointer}
use Rattle.cx_walk.specs.Quick.{open_flags}
use Rattle.cx_walk.specs.declared.entry.Size.TheVariants.{Page}
use Rattle.cx_walk.specs.declared.kind.Kind.{Kind}
use Rattle.cx_walk.specs.declared.kind.Kind.TheVariants.{Fetch, Load, Store, Reserve, Atomic}

-- a bit that the mask has is that of the word
under : (e mask flags k : ℕ) → bit_and e mask ≡ flags → bit_at mask k ≡ 1 → bit_at e k ≡ bit_at flags k
under e mask flags k is here =
    let both : bit_at flags k ≡ min (bit_at e k) (bit_at mask k) = ap (λ (n : ℕ). bit_at n k) (sym is)
    ∙ bit_at_and e mask k in
    let small : bit_at e k < 2 = bit_at-lt e k in
    omega arith

pub pointer_flags : (e : ℕ) → bit_and e 0xdf ≡ 1 → is_pointer e ≡ true
pointer_flags e is =
    let v : bit_at e 0 ≡ 1 = under e 0xdf 1 0 is refl in
    let r : bit_at e 1 ≡ 0 = under e 0xdf 1 1 is refl in
    let w : bit_at e 2 ≡ 0 = under e 0xdf 1 2 is refl in
    let x : bit_at e 3 ≡ 0 = under e 0xdf 1 3 is refl in
    let u : bit_at e 4 ≡ 0 = under e 0xdf 1 4 is refl in
    let a : bit_at e 6 ≡ 0 = under e 0xdf 1 6 is refl in
    let d : bit_at e 7 ≡ 0 = under e 0xdf 1 7 is refl in
    rw (v, r, w, x, u, a, d) refl

-- In user mode no access has the privilege of another mode.
pub leaf_flags : (s : State) (kind : Kind) (e : ℕ) → s.mode ≡ 0 → bit_and e (open_flags kind) ≡ open_flags kind
    → is_open s kind Page e ≡ true
unfolding is_open
leaf_flags s Fetch e user is =
    let v : bit_at e 0 ≡ 1 = under e 0x5b 0x5b 0 is refl in
    let r : bit_at e 1 ≡ 1 = under e 0x5b 0x5b 1 is refl in
    let x : bit_at e 3 ≡ 1 = under e 0x5b 0x5b 3 is refl in
    let u : bit_at e 4 ≡ 1 = under e 0x5b 0x5b 4 is refl in
    let a : bit_at e 6 ≡ 1 = under e 0x5b 0x5b 6 is refl in
    rw (user, v, r, x, u, a) refl
leaf_flags s Load e user is =
    let v : bit_at e 0 ≡ 1 = under e 0x53 0x53 0 is refl in
    let r : bit_at e 1 ≡ 1 = under e 0x53 0x53 1 is refl in
    let u : bit_at e 4 ≡ 1 = under e 0x53 0x53 4 is refl in
    let a : bit_at e 6 ≡ 1 = under e 0x53 0x53 6 is refl in
    rw (user, v, r, u, a) refl
leaf_flags s Reserve e user is =
    let v : bit_at e 0 ≡ 1 = under e 0x53 0x53 0 is refl in
    let r : bit_at e 1 ≡ 1 = under e 0x53 0x53 1 is refl in
    let u : bit_at e 4 ≡ 1 = under e 0x53 0x53 4 is refl in
    let a : bit_at e 6 ≡ 1 = under e 0x53 0x53 6 is refl in
    rw (user, v, r, u, a) refl
leaf_flags s Store e user is =
    let v : bit_at e 0 ≡ 1 = under e 0xd7 0xd7 0 is refl in
    let r : bit_at e 1 ≡ 1 = under e 0xd7 0xd7 1 is refl in
    let w : bit_at e 2 ≡ 1 = under e 0xd7 0xd7 2 is refl in
    let u : bit_at e 4 ≡ 1 = under e 0xd7 0xd7 4 is refl in
    let a : bit_at e 6 ≡ 1 = under e 0xd7 0xd7 6 is refl in
    let d : bit_at e 7 ≡ 1 = under e 0xd7 0xd7 7 is refl in
    rw (user, v, r, w, u, a, d) refl
leaf_flags s Atomic e user is =
    let v : bit_at e 0 ≡ 1 = under e 0xd7 0xd7 0 is refl in
    let r : bit_at e 1 ≡ 1 = under e 0xd7 0xd7 1 is refl in
    let w : bit_at e 2 ≡ 1 = under e 0xd7 0xd7 2 is refl in
    let u : bit_at e 4 ≡ 1 = under e 0xd7 0xd7 4 is refl in
    let a : bit_at e 6 ≡ 1 = under e 0xd7 0xd7 6 is refl in
    let d : bit_at e 7 ≡ 1 = under e 0xd7 0xd7 7 is refl in
    rw (user, v, r, w, u, a, d) refl

-- The word at a place, over two views.
use Rattle.std.proofs.Common.{◌≡◌, ℕ, ◌+◌, Option, None, Some, refl, subst, arith}
use Rattle.cx_walk.specs.Agreement.{AgreesAt}
use Rattle.cx_walk.specs.Bytes.{word_in, four_bytes}

-- where a byte is missing, the word is
four_none : (a b c d e f g h : Option ℕ) → (a ≡ None → e ≡ None) → (b ≡ None → f ≡ None) → (c ≡ None → g ≡ None)
    → (d ≡ None → h ≡ None) → four_bytes a b c d ≡ None → four_bytes e f g h ≡ None
four_none None b c d e f g h p q r s none = rw (p refl) refl
four_none (Some a) b c d None f g h p q r s none = refl
four_none (Some a) None c d (Some e) f g h p q r s none = rw (q refl) refl
four_none (Some a) (Some b) c d (Some e) None g h p q r s none = refl
four_none (Some a) (Some b) None d (Some e) (Some f) g h p q r s none = rw (r refl) refl
four_none (Some a) (Some b) (Some c) d (Some e) (Some f) None h p q r s none = refl
four_none (Some a) (Some b) (Some c) None (Some e) (Some f) (Some g) h p q r s none = rw (s refl) refl
four_none (Some a) (Some b) (Some c) (Some d) (Some e) (Some f) (Some g) h p q r s none = cc

module _ (first second : ℕ → Option ℕ) where
  pub no_word : ((p : ℕ) → first p ≡ None → second p ≡ None) → (place : ℕ) → word_in first place ≡ None
      → word_in second place ≡ None
  unfolding word_in
  no_word outside place =
      four_none (first place) (first (place + 1)) (first (place + 2)) (first (place + 3)) (second place)
      (second (place + 1)) (second (place + 2)) (second (place + 3))
      (outside place) (outside (place + 1)) (outside (place + 2)) (outside (place + 3))

  pub same_word_at : (place : ℕ) → AgreesAt first second place → word_in second place ≡ word_in first place
  unfolding word_in
  same_word_at place agrees =
      let none : second place ≡ first place = subst (λ p. second p ≡ first p) (omega arith) (agrees 0 (omega arith)) in
      rw (none, agrees 1 (omega arith), agrees 2 (omega arith), agrees 3 (omega arith)) refl

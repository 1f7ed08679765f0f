use Rattle.std.proofs.Common.{ℕ, List, ◌++◌, ◌∷◌, ap, drop, ◌∙◌, arith}
use Rattle.cx_csr.specs.Words.{words_of}
use Rattle.cx_csr.proofs.WordLists.{words_put}
use Rattle.cx_csr.proofs.state.State.to_words.Goals as goal

pub returns : goal.returns
unfolding words_of
returns c =
    let s = c.args.self.now in
    rw (c.copy_from_slice.ensures.after, c.copy_from_slice-2.ensures.after) (words_put s.pc s.x c.rest_to_words.result
    (omega arith) ∙ ap (λ (rest : List ℕ). (s.pc ∷ drop 1 s.x) ++ rest) c.rest_to_words.ensures)

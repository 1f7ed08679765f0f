use Rattle.std.proofs.Common.{◌≡◌, ℕ, List, ◌++◌, length, take, drop, ap, ◌∙◌}
use Rattle.cx_print.specs.Words.{spaced_words}
use Rattle.cx_print.proofs.Spellings.{program_in_front}
use Rattle.cx_print.proofs.line.put_program.Goals as goal

pub returns-clause-text : goal.returns-clause-text
returns-clause-text c =
    let x = c.args.obs.now.x in
    let size : length x ≡ 32 = search in
    c.put_words.ensures.text
    ∙ ap (λ (t : List ℕ). t ++ spaced_words (take 31 (drop 1 x))) c.push_bytes.ensures.text
    ∙ ap (λ (t : List ℕ). (c.args.line.now ++ t) ++ spaced_words (take 31 (drop 1 x))) c.spaced_word.ensures
    ∙ program_in_front c.args.line.now c.args.obs.now.pc x size

-- The lines of answers.
use Rattle.std.specs.Prelude.{ℕ, List, [], ◌∷◌, ◌++◌, Bool, true, false, codes}
use Rattle.std.specs.Fmt.{decimal}
use Rattle.std.specs.List.{flat_map, list_all}
use Rattle.cx_log.specs.Recording.{Recording}
use Rattle.cx_print.specs.Hex.{hex}
use Rattle.cx_print.specs.Lines.{ended_text, state_line}
use Rattle.cx_words.specs.declared.question.Query.{Query}
use Rattle.cx_words.specs.declared.question.Query.TheVariants.{State, Writer, Reader, Trap}
use Rattle.cx_answer.specs.AnswerOf.{answer_of, is_query_there, is_trap}
use Rattle.cx_answer.specs.declared.reply.Answer.{Answer}
use Rattle.cx_answer.specs.declared.reply.Answer.TheVariants as answer

-- The answers that a query may have: the state; a step, a transfer or nothing; a step or nothing; and a step that took
-- a trap or an interrupt, or nothing.
abbrev pub is_listed : Query → Answer → Bool
is_listed (State n) (answer.State s) = true
is_listed (State n) _ = false
is_listed (Writer place n) (answer.State s) = false
is_listed (Writer place n) _ = true
is_listed (Reader place n) (answer.Step m ended) = true
is_listed (Reader place n) answer.Nothing = true
is_listed (Reader place n) _ = false
is_listed (Trap n) (answer.Step m ended) = is_trap ended
is_listed (Trap n) answer.Nothing = true
is_listed (Trap n) _ = false

-- which step or transfer touched a byte
abbrev pub touch_text : Answer → List ℕ
touch_text (answer.State s) = []
touch_text (answer.Step m ended) = codes " step " ++ decimal m
touch_text (answer.Dma m) = codes " dma " ++ decimal m
touch_text answer.Nothing = codes " none"

-- which step took a trap, and how it ended
abbrev pub trap_text : Answer → List ℕ
trap_text (answer.State s) = []
trap_text (answer.Step m ended) = codes " step " ++ decimal m ++ codes " " ++ ended_text ended
trap_text (answer.Dma m) = []
trap_text answer.Nothing = codes " none"

-- the line of an answer of a state
abbrev pub answered_state : ℕ → Answer → List ℕ
answered_state n (answer.State s) = state_line n s
answered_state n _ = []

-- the line of what touched a byte, behind the name of the query
abbrev pub byte_line : List ℕ → ℕ → ℕ → Answer → List ℕ
byte_line name n place given = name ++ hex 8 place ++ codes " " ++ decimal n ++ touch_text given ++ 10 ∷ []

-- the line of the trap before a step
abbrev pub trap_line : ℕ → Answer → List ℕ
trap_line n given = codes "trap " ++ decimal n ++ trap_text given ++ 10 ∷ []

-- The line of an answer that its query may have.
unfoldable pub answer_line : Query → Answer → List ℕ
answer_line (State n) given = answered_state n given
answer_line (Writer place n) given = byte_line (codes "writer ") n place given
answer_line (Reader place n) given = byte_line (codes "reader ") n place given
answer_line (Trap n) given = trap_line n given

-- the lines of the answers to queries about a recording, in order
unfoldable pub answer_lines : Recording → List Query → List ℕ
answer_lines R queries = flat_map (λ query. answer_line query (answer_of R query)) queries

-- whether the steps and places of all queries are there
abbrev pub are_there : Recording → List Query → Bool
are_there R queries = list_all (is_query_there R.base R.end R.pages) queries

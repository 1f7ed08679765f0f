-- What is written of the observations of a program as their slice by calls.
use Rattle.std.specs.Prelude.{ℕ, List, [], ◌++◌, length, Option, None, Some}
use Rattle.cx_callfmt.specs.Steps.{text_of_calls}
use Rattle.cx_callfmt.specs.Text.{call_end_text, call_magic, last_index, record_text, records_text}
use Rattle.cx_calls.specs.Calling.{called}
use Rattle.cx_calls.specs.Gathers.{behind_last}
use Rattle.cx_observe.specs.User.{user}
use Rattle.cx_observe.specs.declared.obs.Obs.{Obs}
use Rattle.cx_placing.specs.Gathering.{Gathered, behind_now, call_put, gathered_of, missed_now, words_now}
use Rattle.cx_placing.specs.Placing.{calls_of}
use Rattle.cx_placing.specs.Records.{CallFront, Calls, Record}
use Rattle.cx_slicefmt.specs.Rules.{Head}
use Rattle.cx_slicefmt.specs.Text.{head_text}
use Rattle.cx_slices.specs.Bytes.{Byte, sorted}

abbrev pub start_text : Option Head → List ℕ
start_text None = []
start_text (Some head) = head_text head

-- the text of what a slice begins with
unfoldable pub call_front_text : CallFront → List ℕ
call_front_text f = call_magic ++ (start_text f.start ++ records_text 0 f.records)

-- what is written of them before their last call, and whole
abbrev pub calls_begun : List Obs → List ℕ
calls_begun os = call_front_text (call_put user called os)

abbrev pub calls_text : List Obs → List ℕ
calls_text os = text_of_calls (calls_of user called os)

-- ---- what is put at the next call or at the end

-- the last call or the start, with what it is handed, behind records whose last index this is
abbrev pub last_text : ℕ → Option (ℕ × ℕ) → Head → List ℕ
last_text before None head = head_text head
last_text before (Some call) head = record_text before (record { index = call.0; what = Calls call.1 head })

-- it and the records behind it, behind what was put
abbrev pub let_go_text : CallFront → Option (ℕ × ℕ) → List (Option ℕ) → List Byte → List Record → List ℕ
let_go_text put last words missed behind =
    last_text (last_index 0 put.records) last (record { words = words; bytes = sorted missed })
    ++ records_text (behind_last last).index behind

abbrev pub added_now : Gathered → Obs → Option ℕ → List ℕ
added_now g o None = []
added_now g o (Some number) =
    let_go_text g.put g.last (words_now user g o) (missed_now user g o) (behind_now user g o)

-- what an observation more adds, which is nothing where it is no call
abbrev pub calls_added : List Obs → Obs → List ℕ
calls_added os o = added_now (gathered_of user called os) o (called o)

abbrev pub ending_of : Gathered → ℕ → List ℕ
ending_of g count = let_go_text g.put g.last g.words g.missed g.behind
    ++ call_end_text (last_index (behind_last g.last).index g.behind) count

-- what the end adds, with the number of observations
abbrev pub calls_ending : List Obs → List ℕ
calls_ending os = ending_of (gathered_of user called os) (length os)

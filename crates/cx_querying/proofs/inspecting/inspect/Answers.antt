use Rattle.std.proofs.Common.{◌∙◌, List, ap, subst, map}
use Rattle.std.specs.List.{list_all}
use Rattle.std.specs.String.{string_bytes}
use Rattle.std.specs.Io.KnownBytes.{Appends}
use Rattle.cx_answer.specs.AnswerOf.{is_query_there}
use Rattle.cx_answer.specs.Lines.{answer_lines}
use Rattle.cx_codec.specs.Blocks.{HasFront}
use Rattle.cx_words.specs.Queries.{queries_behind}
use Rattle.cx_words.specs.declared.question.Query.{Query}
use Rattle.cx_commands.specs.Call.{input_behind}
use Rattle.cx_commands.proofs.Inspecting.{inspect_lacks, inspect_unread, inspect_unwritten, inspect_written}
use Rattle.cx_querying.proofs.inspecting.inspect.Goals as goal

pub returns-in-Err-read_seeker-clause-answer : goal.returns-in-Err-read_seeker-clause-answer
returns-in-Err-read_seeker-clause-answer g c told input begins are =
    c.in-Err-read_seeker.ensures.reads told (queries_behind (map string_bytes c.args.words.now)) input begins are

pub returns-in-Err-read_seeker-clause-leaves : goal.returns-in-Err-read_seeker-clause-leaves
returns-in-Err-read_seeker-clause-leaves g c told input begins are =
    inspect_unread _ _ _ _ _ c.in-Err-read_seeker.status c.in-Err-read_seeker.ensures.kind

pub returns-then-not-all_there-clause-answer : goal.returns-then-not-all_there-clause-answer
returns-then-not-all_there-clause-answer g c told input begins are =
    let queries = queries_behind (map string_bytes c.args.words.now) in
    let course = c.in-Ok-read_seeker.seeker.course in
    let is = c.all_there.ensures ∙ ap (list_all (is_query_there course.base course.end course.pages))
    (c.deref.ensures.value ∙ c.in-Ok.ensures) in
    λ h. inspect_lacks queries _ c.in-Ok-read_seeker.seeker c.all_there.result
    (c.in-Ok-read_seeker.ensures.reads told queries input begins are h) c.if-not-all_there.true is

pub returns-in-Ok-put_answers-clause-answer : goal.returns-in-Ok-put_answers-clause-answer
returns-in-Ok-put_answers-clause-answer g c told input begins are =
    let queries = queries_behind (map string_bytes c.args.words.now) in
    let course = c.in-Ok-read_seeker.seeker.course in
    let bytes = input_behind (g.S.Source.given c.args.source.now) input in
    let held = g.T.Sink.held c.args.sink.now in
    let held_now = g.T.Sink.held c.put_answers.new.sink in
    let is = c.all_there.ensures ∙ ap (list_all (is_query_there course.base course.end course.pages))
    (c.deref.ensures.value ∙ c.in-Ok.ensures) in
    (inspect_written queries bytes _ (Unit {0}) held held_now c.in-Ok-read_seeker.seeker c.all_there.result
    c.if-not-all_there.false is (c.in-Ok-read_seeker.ensures.reads told queries input begins are)
    (λ R of. subst (λ (qs : List Query). Appends held held_now (answer_lines R qs))
    (c.deref-2.ensures.value ∙ c.in-Ok.ensures) (c.in-Ok-put_answers.ensures.puts R of))).0

pub returns-in-Ok-put_answers-clause-leaves : goal.returns-in-Ok-put_answers-clause-leaves
returns-in-Ok-put_answers-clause-leaves g c told input begins are =
    let queries = queries_behind (map string_bytes c.args.words.now) in
    let course = c.in-Ok-read_seeker.seeker.course in
    let bytes = input_behind (g.S.Source.given c.args.source.now) input in
    let held = g.T.Sink.held c.args.sink.now in
    let held_now = g.T.Sink.held c.put_answers.new.sink in
    let is = c.all_there.ensures ∙ ap (list_all (is_query_there course.base course.end course.pages))
    (c.deref.ensures.value ∙ c.in-Ok.ensures) in
    (inspect_written queries bytes _ (Unit {0}) held held_now c.in-Ok-read_seeker.seeker c.all_there.result
    c.if-not-all_there.false is (c.in-Ok-read_seeker.ensures.reads told queries input begins are)
    (λ R of. subst (λ (qs : List Query). Appends held held_now (answer_lines R qs))
    (c.deref-2.ensures.value ∙ c.in-Ok.ensures) (c.in-Ok-put_answers.ensures.puts R of))).1

pub returns-clause-answer : goal.returns-clause-answer
returns-clause-answer g c told input begins are =
    let queries = queries_behind (map string_bytes c.args.words.now) in
    let course = c.in-Ok-read_seeker.seeker.course in
    let bytes = input_behind (g.S.Source.given c.args.source.now) input in
    let held = g.T.Sink.held c.args.sink.now in
    let held_now = g.T.Sink.held c.put_answers.new.sink in
    let is = c.all_there.ensures ∙ ap (list_all (is_query_there course.base course.end course.pages))
    (c.deref.ensures.value ∙ c.in-Ok.ensures) in
    rw c.from.ensures (inspect_unwritten queries bytes _ _ held held_now c.in-Ok-read_seeker.seeker c.all_there.result
    c.in-Err-put_answers.fault c.if-not-all_there.false is
    (c.in-Ok-read_seeker.ensures.reads told queries input begins are)
    (λ R of. subst (λ (qs : List Query). HasFront held (answer_lines R qs) held_now)
    (c.deref-2.ensures.value ∙ c.in-Ok.ensures) (c.in-Err-put_answers.ensures.puts R of))).0

pub returns-clause-leaves : goal.returns-clause-leaves
returns-clause-leaves g c told input begins are =
    let queries = queries_behind (map string_bytes c.args.words.now) in
    let course = c.in-Ok-read_seeker.seeker.course in
    let bytes = input_behind (g.S.Source.given c.args.source.now) input in
    let held = g.T.Sink.held c.args.sink.now in
    let held_now = g.T.Sink.held c.put_answers.new.sink in
    let is = c.all_there.ensures ∙ ap (list_all (is_query_there course.base course.end course.pages))
    (c.deref.ensures.value ∙ c.in-Ok.ensures) in
    rw c.from.ensures (inspect_unwritten queries bytes _ _ held held_now c.in-Ok-read_seeker.seeker c.all_there.result
    c.in-Err-put_answers.fault c.if-not-all_there.false is
    (c.in-Ok-read_seeker.ensures.reads told queries input begins are)
    (λ R of. subst (λ (qs : List Query). HasFront held (answer_lines R qs) held_now)
    (c.deref-2.ensures.value ∙ c.in-Ok.ensures) (c.in-Err-put_answers.ensures.puts R of))).1

-- The text of a call slice grows by what each observation adds.
use Rattle.std.proofs.Common.{◌≡◌, ℕ, suc, List, [], ◌∷◌, ◌++◌, length, Option, None, Some, refl, sym, ap, ap₂, ◌∙◌, append_assoc}
use Rattle.std.proofs.lemmas.List.{append-nil}
use Rattle.cx_callfmt.proofs.Texts.{body_ends, last_more, one_more, records_more}
use Rattle.cx_callfmt.specs.Steps.{text_of_calls}
use Rattle.cx_callfmt.specs.Text.{call_end_text, call_magic, call_slice_body, last_index, record_text, records_text}
use Rattle.cx_observe.specs.User.{user}
use Rattle.cx_observe.specs.declared.obs.Obs.{Obs}
use Rattle.cx_placing.proofs.Gathering.{PutBefore, call_put-push, put-gathered, whole-gathered}
use Rattle.cx_placing.specs.Gathering.{Gathered, all_gathered, behind_now, call_put, gathered_of, let_go, missed_now, put_now, words_now}
use Rattle.cx_placing.specs.Placing.{CallSlice, calls_of, placed_from, touched_behind}
use Rattle.cx_placing.specs.Records.{CallFront, Calls, Record, nothing_put, records_from, whole_front}
use Rattle.cx_placing.specs.Touched.{Touched}
use Rattle.cx_slicefmt.specs.Text.{head_text}
use Rattle.cx_slices.specs.Bytes.{Byte, sorted}
use Rattle.cx_slices.specs.Items.{Known, after}
use Rattle.std.proofs.Common.{is_some, Bool}
use Rattle.cx_calls.proofs.Placed.{IsPlaced, last_let_go, placed_of}
use Rattle.cx_calls.specs.Begun.{
  added_now,
  call_front_text,
  calls_added,
  calls_begun,
  calls_ending,
  calls_text,
  ending_of,
  let_go_text,
  start_text,
}
use Rattle.cx_calls.specs.Calling.{called}
use Rattle.cx_calls.specs.Gathers.{behind_last}

nothing_text : call_front_text nothing_put ≡ call_magic
unfolding call_front_text
nothing_text = append-nil call_magic

pub begins : calls_begun [] ≡ call_magic
unfolding call_put
begins = nothing_text

-- the records with a call and those behind it
with_call : (R behind : List Record) (c : Record)
    → records_text 0 ((R ++ c ∷ []) ++ behind)
    ≡ records_text 0 R ++ (record_text (last_index 0 R) c ++ records_text c.index behind)
with_call R behind c = records_more 0 (R ++ c ∷ []) behind
    ∙ (ap₂ (λ (xs : List ℕ) (n : ℕ). xs ++ records_text n behind) (one_more 0 R c) (last_more 0 R (c ∷ []))
    ∙ append_assoc (records_text 0 R) (record_text (last_index 0 R) c) (records_text c.index behind))

pub front_grows : (put : CallFront) (last : Option (ℕ × ℕ)) (words : List (Option ℕ)) (missed : List Byte)
    (behind : List Record) → PutBefore last put
    → call_front_text (let_go put last words missed behind)
    ≡ call_front_text put ++ let_go_text put last words missed behind
unfolding call_front_text
front_grows put None words missed behind before =
    rw before (ap (λ (xs : List ℕ).
    xs ++ (head_text (record { words = words; bytes = sorted missed }) ++ records_text 0 behind))
    (sym (append-nil call_magic)))
front_grows put (Some call) words missed behind before =
    let c : Record = record {
      index = call.0;
      what = Calls call.1 (record { words = words; bytes = sorted missed });
    } in
    let more : List ℕ = record_text (last_index 0 put.records) c ++ records_text call.0 behind in
    ap (λ (xs : List ℕ). call_magic ++ (start_text put.start ++ xs)) (with_call put.records behind c)
    ∙ (ap (λ (xs : List ℕ). call_magic ++ xs)
    (sym (append_assoc (start_text put.start) (records_text 0 put.records) more))
    ∙ sym (append_assoc call_magic (start_text put.start ++ records_text 0 put.records) more))

grows_by : (g : Gathered) (o : Obs) (call : Option ℕ) → IsPlaced g
    → call_front_text (put_now user g o call) ≡ call_front_text g.put ++ added_now g o call
grows_by g o None placed = sym (append-nil (call_front_text g.put))
grows_by g o (Some number) placed =
    front_grows g.put g.last (words_now user g o) (missed_now user g o) (behind_now user g o) placed.before

pub grows : (os : List Obs) (o : Obs) → calls_begun (os ++ o ∷ []) ≡ calls_begun os ++ calls_added os o
grows os o = ap call_front_text (call_put-push user called os o)
    ∙ (grows_by (gathered_of user called os) o (called o) (placed_of user called os)
    ∙ ap (λ (f : CallFront). call_front_text f ++ calls_added os o) (put-gathered user called os))

-- ---- the end

pub steps_from : (w : Known) (touched : Touched) (first : Bool) (os : List Obs)
    → length (placed_from user called w touched first os) ≡ length os
steps_from w touched first [] = refl
steps_from w touched first (o ∷ os) = ap suc
    (steps_from (after user w o) (touched_behind user (called o) o touched) (is_some (called o)) os)

slice_ends : (slice : CallSlice ℕ)
    → text_of_calls slice
    ≡ call_front_text (whole_front slice)
    ++ call_end_text (last_index 0 (whole_front slice).records) (length slice.steps)
unfolding call_front_text call_slice_body
slice_ends slice = body_ends slice.head (records_from 0 slice.steps) (length slice.steps)

all_ends : (g : Gathered) (count : ℕ) → IsPlaced g
    → call_front_text (all_gathered g) ++ call_end_text (last_index 0 (all_gathered g).records) count
    ≡ call_front_text g.put ++ ending_of g count
all_ends g count placed =
    let told : List ℕ = let_go_text g.put g.last g.words g.missed g.behind in
    ap₂ (λ (xs : List ℕ) (n : ℕ). xs ++ call_end_text n count)
    (front_grows g.put g.last g.words g.missed g.behind placed.before)
    (last_let_go g.put g.last g.words g.missed g.behind placed.before)
    ∙ append_assoc (call_front_text g.put) told
    (call_end_text (last_index (behind_last g.last).index g.behind) count)

pub ends : (os : List Obs) → calls_text os ≡ calls_begun os ++ calls_ending os
ends os = slice_ends (calls_of user called os)
    ∙ (ap₂ (λ (f : CallFront) (n : ℕ). call_front_text f ++ call_end_text (last_index 0 f.records) n)
    (whole-gathered user called os) (all_steps os)
    ∙ (all_ends (gathered_of user called os) (length os) (placed_of user called os)
    ∙ ap (λ (f : CallFront). call_front_text f ++ calls_ending os) (put-gathered user called os)))
  where
    all_steps : (os : List Obs) → length (calls_of user called os).steps ≡ length os
    all_steps [] = refl
    all_steps (o ∷ os) = ap suc (steps_from _ _ _ os)

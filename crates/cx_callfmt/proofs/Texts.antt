-- The text of records, in the parts that are put, and how it grows.
use Rattle.std.proofs.Common.{◌≡◌, ℕ, ◌-◌, refl, ap, sym, ◌∙◌, List, [], ◌∷◌, ◌++◌, append_assoc}
use Rattle.std.proofs.lemmas.List.{append-nil}
use Rattle.cx_codec.specs.Varint.{varint}
use Rattle.cx_slicefmt.specs.Rules.{Head}
use Rattle.cx_slicefmt.specs.Text.{head_text}
use Rattle.cx_placing.specs.Records.{Record}
use Rattle.cx_callfmt.specs.Rules.{Behind, behind_record}
use Rattle.cx_callfmt.specs.Text.{
  call_end_text,
  call_magic,
  call_slice_body,
  call_slice_text,
  ended_records_text,
  last_index,
  payload,
  record_text,
  records_text,
  tag,
}
use Rattle.cx_callfmt.specs.Writing.{behind_records}

pub record_parts : (before : ℕ) (r : Record)
    → ((tag r.what ∷ []) ++ varint (r.index - before)) ++ payload r.what ≡ record_text before r
unfolding record_text
record_parts before r = append_assoc (tag r.what ∷ []) (varint (r.index - before)) (payload r.what)

-- ---- records behind records

pub records_more : (before : ℕ) (rs ss : List Record)
    → records_text before (rs ++ ss) ≡ records_text before rs ++ records_text (last_index before rs) ss
records_more before [] ss = refl
records_more before (r ∷ rs) ss =
    ap (λ (xs : List ℕ). record_text before r ++ xs) (records_more r.index rs ss)
    ∙ sym (append_assoc (record_text before r) (records_text r.index rs) (records_text (last_index r.index rs) ss))

pub one_more : (before : ℕ) (rs : List Record) (r : Record)
    → records_text before (rs ++ r ∷ []) ≡ records_text before rs ++ record_text (last_index before rs) r
one_more before rs r = records_more before rs (r ∷ [])
    ∙ ap (λ (xs : List ℕ). records_text before rs ++ xs) (append-nil (record_text (last_index before rs) r))

pub ended_parts : (before : ℕ) (rs : List Record) (count : ℕ)
    → ended_records_text before rs count ≡ records_text before rs ++ call_end_text (last_index before rs) count
ended_parts before [] count = refl
ended_parts before (r ∷ rs) count =
    ap (λ (xs : List ℕ). record_text before r ++ xs) (ended_parts r.index rs count)
    ∙ sym (append_assoc (record_text before r) (records_text r.index rs) (call_end_text (last_index r.index rs) count))

pub last_more : (before : ℕ) (rs ss : List Record) → last_index before (rs ++ ss) ≡ last_index (last_index before rs) ss
last_more before [] ss = refl
last_more before (r ∷ rs) ss = last_more r.index rs ss

pub behind_more : (behind : Behind) (rs ss : List Record)
    → behind_records behind (rs ++ ss) ≡ behind_records (behind_records behind rs) ss
behind_more behind [] ss = refl
behind_more behind (r ∷ rs) ss = behind_more (behind_record r) rs ss

pub behind_index : (behind : Behind) (rs : List Record)
    → (behind_records behind rs).index ≡ last_index behind.index rs
behind_index behind [] = refl
behind_index behind (r ∷ rs) = behind_index (behind_record r) rs

pub body_more : (head : Head) (rs ss : List Record)
    → call_slice_body head (rs ++ ss) ≡ call_slice_body head rs ++ records_text (last_index 0 rs) ss
unfolding call_slice_body
body_more head rs ss =
    let more : List ℕ = records_text (last_index 0 rs) ss in
    ap (λ (xs : List ℕ). call_magic ++ (head_text head ++ xs)) (records_more 0 rs ss)
    ∙ (ap (λ (xs : List ℕ). call_magic ++ xs) (sym (append_assoc (head_text head) (records_text 0 rs) more))
    ∙ sym (append_assoc call_magic (head_text head ++ records_text 0 rs) more))

pub body_ends : (head : Head) (rs : List Record) (count : ℕ)
    → call_slice_text head rs count ≡ call_slice_body head rs ++ call_end_text (last_index 0 rs) count
unfolding call_slice_body call_slice_text
body_ends head rs count =
    let more : List ℕ = call_end_text (last_index 0 rs) count in
    ap (λ (xs : List ℕ). call_magic ++ (head_text head ++ xs)) (ended_parts 0 rs count)
    ∙ (ap (λ (xs : List ℕ). call_magic ++ xs) (sym (append_assoc (head_text head) (records_text 0 rs) more))
    ∙ sym (append_assoc call_magic (head_text head ++ records_text 0 rs) more))

-- What a writer of call slices holds, and records that are kept for it.
use Rattle.std.specs.Prelude.{◌≡◌, ℕ, List, [], ◌∷◌}
use Rattle.cx_codec.specs.Blocks.{Waiting}
use Rattle.cx_placing.specs.Records.{Record}
use Rattle.cx_callfmt.specs.Rules.{Behind, behind_record}
use Rattle.cx_callfmt.specs.Text.{records_text}

-- the output, and where the next record may stand
pub record CallWriting : Type 0 where
  pub output : Waiting
  pub behind : Behind

abbrev pub call_output_of : CallWriting → Waiting
call_output_of w = w.output

-- the text of records, and where the next may stand
pub record Kept : Type 0 where
  pub text : List ℕ
  pub behind : Behind

-- where the next record may stand behind these
abbrev pub behind_records : Behind → List Record → Behind
behind_records behind [] = behind
behind_records behind (r ∷ rs) = behind_records (behind_record r) rs

-- They are the text of these records from here on.
pub record AreOf (behind : Behind) (kept : Kept) (records : List Record) : Type 0 where
  pub text : kept.text ≡ records_text behind.index records
  pub next : kept.behind ≡ behind_records behind records

-- the same for some records
abbrev pub AreKept : Behind → Kept → Type 0
AreKept behind kept = ∥ ((records : List Record) × AreOf behind kept records) ∥₁

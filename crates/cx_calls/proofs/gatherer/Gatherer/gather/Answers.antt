use Rattle.std.proofs.Common.{ap, ◌∙◌, ◌++◌}
use Rattle.std.specs.Global.{Vec}
use Rattle.cx_callfmt.specs.Text.{records_text}
use Rattle.cx_callfmt.specs.Writing.{Kept, behind_records}
use Rattle.cx_placing.specs.Records.{item_records}
use Rattle.cx_marks.specs.Marked.{is_marked}
use Rattle.cx_placing.specs.Touched.{first_touched, touched_again}
use Rattle.cx_shadow.specs.Cells.{byte_of}
use Rattle.cx_slices.specs.Bytes.{Byte, missing}
use Rattle.cx_slices.specs.Words.{changes}
use Rattle.cx_calls.proofs.Taking.{again_rises, taken}
use Rattle.cx_calls.proofs.gatherer.Gatherer.gather.Goals as goal

pub keep-requires-clause-rises : goal.keep-requires-clause-rises
keep-requires-clause-rises c = again_rises c.bytes_missed-bytes.result.again.items c.as_slice-3.result.now
    (byte_of c.hold.new.self.shadow) (is_marked c.hold_marks.new.touched) c.args.obs.now
    (c.as_slice-3.ensures.value ∙ c.bytes_seen-seen.ensures) c.bytes_missed-bytes.ensures.again

pub returns-clause-takes : goal.returns-clause-takes
returns-clause-takes c = λ g was. taken g c.args.obs.now c.args.self.now c.go_on.new.self c.hold.new.self
    c.hold_marks.new.touched c.changes-words.result c.bytes_missed-bytes.result.first.items
    c.bytes_missed-bytes.result.again.items was c.in_ok-hold.ensures.known c.in_ok-hold_marks.ensures.marks
    (record {
      words_are = c.changes-words.ensures ∙ ap (changes c.hold.new.self.words) c.words_told.ensures;
      first_are = c.bytes_missed-bytes.ensures.first
          ∙ ap (λ es. first_touched (is_marked c.hold_marks.new.touched) (missing (byte_of c.hold.new.self.shadow) es))
          (c.as_slice-3.ensures.value ∙ c.bytes_seen-seen.ensures);
      again_are = c.bytes_missed-bytes.ensures.again
          ∙ ap (λ es. touched_again (is_marked c.hold_marks.new.touched) (missing (byte_of c.hold.new.self.shadow) es))
          (c.as_slice-3.ensures.value ∙ c.bytes_seen-seen.ensures);
    })
    (record {
      missed = ap (λ (v : Vec Byte). v.items) c.go_on.ensures.missed ∙ c.in_ok-keep.ensures.missed;
      text = ap (λ (k : Kept). k.text) c.go_on.ensures.behind ∙ (c.in_ok-keep.ensures.text
          ∙ ap (λ ws. c.args.self.now.behind.text ++ records_text c.args.self.now.behind.behind.index
          (item_records c.args.self.now.count (record {
            words = ws;
            bytes = c.bytes_missed-bytes.result.again.items;
            given = c.args.obs.now.value;
          }))) c.words_placed-placed.ensures);
      next = ap (λ (k : Kept). k.behind) c.go_on.ensures.behind ∙ (c.in_ok-keep.ensures.behind
          ∙ ap (λ ws. behind_records c.args.self.now.behind.behind (item_records c.args.self.now.count (record {
            words = ws;
            bytes = c.bytes_missed-bytes.result.again.items;
            given = c.args.obs.now.value;
          }))) c.words_placed-placed.ensures);
      words_are = c.go_on.ensures.words;
      first_is = c.go_on.ensures.first;
      count = c.go_on.ensures.count;
      last = c.go_on.ensures.last;
    }) c.go_on.ensures.known c.go_on.ensures.touched

-- A recording that keeps the rules is read back from its text, and what was read as one keeps them and is its text.
use Rattle.std.proofs.Common.{◌≡◌, ℕ, zero, suc, ◌≤◌, List, [], ◌++◌, length, replicate, cond, arith, refl, ap, sym}
use Rattle.std.proofs.Common.{◌∙◌, Bool, true, false, Result, Ok, Err, append_assoc}
use Rattle.std.proofs.lemmas.List.{append-nil}
use Rattle.std.specs.Str.{bytes_eq}
use Rattle.std.proofs.lemmas.Slice.Eq.{bytes_eq-Decides}
use Rattle.cx_map.specs.Bytes.{AreBytes}
use Rattle.cx_map.specs.Map.{size_of_pages}
use Rattle.cx_codec.specs.Place.{behind_text, Place, Reader, Takes, read_on, done, bad}
use Rattle.cx_codec.specs.Fields.{bytes_at}
use Rattle.cx_codec.proofs.ReadBack.{bytes_again}
use Rattle.cx_machine.specs.Machine.{IsMemory}
use Rattle.cx_ram.specs.PhysicalMemory.{is_zero, page_of}
use Rattle.cx_log.specs.declared.header.Header.{Header}
use Rattle.cx_log.specs.declared.limits.TheConstants.{MOST_TEXT}
use Rattle.cx_log.specs.Order.{IsHeader, KeepsRules, at_start}
use Rattle.cx_log.specs.Reading.{Opened, magic_at, pages_at, opened_at, start_of}
use Rattle.cx_log.specs.Recording.{Recording}
use Rattle.cx_log.specs.Scan.{Scan, scan_behind, begin_records, decoded, whole_recording, recording_at}
use Rattle.cx_log.specs.Text.{magic, behind_magic, header_text, header_of, page_count, pages_text, records_text}
use Rattle.cx_log.specs.Text.{recording_text}
use Rattle.cx_codec.proofs.Composing.{bound}
use Rattle.cx_codec.proofs.ReadOnce.{bytes_once}
use Rattle.cx_codec.proofs.Texts.{takes_first, takes_second, takes_both, takes_along, bytes_behind}
use Rattle.cx_log.proofs.Done.{done_pair, same_ok}
use Rattle.cx_log.proofs.Headers.{header_again, header_once}
use Rattle.cx_log.proofs.Pages.{pages_again, pages_once}
use Rattle.cx_log.proofs.Scans.{Scanned, records_again, records_once}

-- the magic
magic_again : (p after : Place) → Takes p magic after → magic_at p ≡ Ok (tt, after)
unfolding magic_at
magic_again p after takes = let read : bytes_at 4 p ≡ Ok (magic, after) = bytes_again p after magic takes in
    rw read refl

magic_by : (o : ℕ) (bytes : List ℕ) (x : Unit {0}) (q after : Place) (t : Bool) → bytes_eq bytes magic ≡ t
    → cond {A = Reader (Unit {0})} t (done tt) (bad o) q ≡ Ok (x, after) → (bytes_eq bytes magic ≡ true) × (q ≡ after)
magic_by o bytes x q after true same e = (same, ap (λ (y : Unit {0} × Place). y.1) (done_pair tt x q after e))
magic_by o bytes x q after false other e = cc

magic_once : (p after : Place) (x : Unit {0}) → magic_at p ≡ Ok (x, after) → Takes p magic after
unfolding magic_at
magic_once p after x read =
    let first = bound _ _ (x, after) read in
    let stood = bytes_once 4 p first.mid first.value first.read in
    let tested = magic_by p.at first.value x first.mid after (bytes_eq first.value magic) refl first.then in
    takes_along p first.mid after first.value magic ((bytes_eq-Decides first.value magic).0 tested.0) tested.1
    stood.stand

-- What stands before the records: a header, and the memory of the pages that it counts.
pub record IsOpened (o : Opened) : Type 0 where
  pub header : IsHeader o.header
  pub memory : IsMemory o.header.pages o.memory
  pub count : page_count o.memory o.header.pages ≡ o.header.count

abbrev pub opened_text : Opened → List ℕ
opened_text o = magic ++ (behind_magic o.header ++ pages_text o.memory o.header.pages)

pub opened_again : (o : Opened) (p after : Place) → IsOpened o → Takes p (opened_text o) after
    → opened_at p ≡ Ok (o, after)
unfolding opened_at
opened_again o p after is takes =
    let head : List ℕ = behind_magic o.header in
    let pages : List ℕ = pages_text o.memory o.header.pages in
    let q : Place = behind_text p magic ((head ++ pages) ++ after.ahead) in
    let more = takes_second p after magic (head ++ pages) takes in
    let r : Place = behind_text q head (pages ++ after.ahead) in
    let first = magic_again p q (takes_first p after magic (head ++ pages) takes) in
    let second = header_again o.header q r is.header (takes_first q after head pages more) in
    let third = pages_again o.header.pages o.memory r after is.header.pages is.memory
    (takes_second q after head pages more) in
    rw (first, second, rw is.count at third) refl

-- what was read as such
pub record OpenedStood (p : Place) (o : Opened) (after : Place) : Type 0 where
  pub is : IsOpened o
  pub takes : Takes p (opened_text o) after

opened_along : (p : Place) (x y : Opened × Place) → OpenedStood p x.0 x.1 → x ≡ y → OpenedStood p y.0 y.1
opened_along p x y stood same = rw (← same) stood

memory_once : (h : Header) (o : Opened) (p q r after : Place) → Takes p magic q → IsHeader h
    → Takes q (behind_magic h) r → AreBytes r.ahead
    → read_on (pages_at h.pages h.count 0 (replicate (size_of_pages h.pages) 0) r)
    (λ memory. done (record { header = h; memory = memory })) ≡ Ok (o, after) → OpenedStood p o after
memory_once h o p q r after first is second are read =
    let parts = bound _ _ (o, after) read in
    let stood = pages_once h.pages h.count r parts.mid parts.value is.pages are parts.read in
    opened_along p (record { header = h; memory = parts.value }, parts.mid) (o, after) (record {
      is = record { header = is; memory = stood.is; count = stood.counted };
      takes = takes_both p q parts.mid magic _ first (takes_both q r parts.mid (behind_magic h)
          (pages_text parts.value h.pages) second stood.takes);
    }) (done_pair _ o parts.mid after parts.then)

pub opened_once : (o : Opened) (p after : Place) → AreBytes p.ahead → opened_at p ≡ Ok (o, after)
    → OpenedStood p o after
unfolding opened_at
opened_once o p after are read =
    let first = bound _ _ (o, after) read in
    let start = magic_once p first.mid first.value first.read in
    let are_q : AreBytes first.mid.ahead = bytes_behind p first.mid magic are start in
    let second = bound _ _ (o, after) first.then in
    let header = header_once second.value first.mid second.mid are_q second.read in
    memory_once second.value o p first.mid second.mid after start header.is header.takes
    (bytes_behind first.mid second.mid (behind_magic second.value) are_q header.takes) second.then

-- the records, within their own limit
begun : (p after : Place) (text : List ℕ) → Takes p text after → length text ≤ MOST_TEXT
    → Takes (begin_records p) text (record after { limit = (begin_records p).limit })
begun p after text takes small = record {
  ahead = takes.ahead;
  there = takes.there;
  limit = refl;
  within = omega (arith, takes.within, small);
}

recording_parts : (R : Recording)
    → recording_text R ≡ opened_text (record {
      header = header_of R;
      memory =
          R.memory;
    }) ++ records_text R.base R.events R.end
unfolding recording_text header_text
recording_parts R = ap (λ (xs : List ℕ). magic ++ xs) (sym (append_assoc (behind_magic (header_of R))
    (pages_text R.memory R.pages) (records_text R.base R.events R.end)))

cond_few : (t : Bool) → cond t 0 1 ≤ 1
cond_few true = omega arith
cond_few false = omega arith

pub few_pages : (m : List ℕ) (n : ℕ) → page_count m n ≤ n
few_pages m zero = omega arith
few_pages m (suc n) = omega (arith, few_pages m n, cond_few (is_zero (page_of m n)))

opened_of : Recording → Opened
opened_of R = record { header = header_of R; memory = R.memory }

is_opened : (R : Recording) → KeepsRules R → IsOpened (opened_of R)
unfolding opened_of
is_opened R rules = record {
  header = record {
    version = rules.version;
    pages = rules.pages;
    base = rules.base;
    start = rules.start;
    count =
        few_pages R.memory R.pages;
  };
  memory = rules.memory;
  count = refl;
}

pub recording_again : (R : Recording) (p after : Place) → KeepsRules R → Takes p (recording_text R) after
    → (end : Place) × (recording_at p ≡ Ok (R, end)) × (end.at ≡ after.at) × (end.ahead ≡ after.ahead)
unfolding recording_at opened_of
recording_again R p after rules takes =
    let o : Opened = opened_of R in
    let records : List ℕ = records_text R.base R.events R.end in
    let whole : Takes p (opened_text o ++ records) after = takes_along p after after _ _ (recording_parts R) refl takes
    in
    let q : Place = behind_text p (opened_text o) (records ++ after.ahead) in
    let end : Place = record after { limit = (begin_records q).limit } in
    let opened = opened_again o p q (is_opened R rules) (takes_first p after (opened_text o) records whole) in
    let scanned = records_again R.pages (at_start R.base R.start) R.events R.end
    (begin_records q) end rules.pages rules.events (begun q after records
    (takes_second p after (opened_text o) records whole) rules.size) in
    (end, rw (opened, scanned) refl, refl, refl)

-- What was read as a recording.
pub record RecordingStood (p : Place) (R : Recording) (after : Place) : Type 0 where
  pub rules : KeepsRules R
  pub text : p.ahead ≡ recording_text R ++ after.ahead

recording_along : (p after : Place) (R S : Recording) → RecordingStood p R after → R ≡ S → RecordingStood p S after
recording_along p after R S stood same = rw (← same) stood

pub whole_of : (o : Opened) (s : Scan) (R : Recording) (after : Place) (r : Result Place ℕ) → s.stop ≡ r
    → whole_recording o s r ≡ Ok (R, after) → (s.stop ≡ Ok after) × (decoded o s ≡ R)
whole_of o s R after (Err offset) stop e = cc
whole_of o s R after (Ok q) stop e =
    let same : ◌≡◌ {A = Recording × Place} (decoded o s, q) (R, after) = same_ok {X = Recording × Place} _ _ e in
    (stop ∙ ap (λ (x : Recording × Place). Ok x.1) same, ap (λ (x : Recording × Place). x.0) same)

decoded_stood : (o : Opened) (s : Scan) (p q after : Place) → OpenedStood p o q
    → Scanned o.header.pages (at_start o.header.base o.header.start) (begin_records q) s after
    → RecordingStood p (decoded o s) after
unfolding recording_text header_text
decoded_stood o s p q after opened scanned =
    let records : List ℕ = records_text o.header.base s.events s.upto in
    let counted : page_count o.memory o.header.pages ≡ o.header.count = opened.is.count in
    let header : header_of (decoded o s) ≡ o.header = rw counted refl in
    let parts : opened_text o ++ records ≡ recording_text (decoded o s) =
    ap (λ (h : Header). (magic ++ (behind_magic h ++ pages_text o.memory h.pages)) ++ records) (sym header) ∙ sym
    (recording_parts (decoded o s)) in
    record {
      rules = record {
        version = opened.is.header.version;
        pages = opened.is.header.pages;
        base = opened.is.header.base;
        start = opened.is.header.start;
        memory = opened.is.memory;
        events = scanned.order;
        size = omega (arith, scanned.takes.within);
      };
      text = opened.takes.ahead ∙ ap (λ (xs : List ℕ). opened_text o ++ xs) scanned.takes.ahead ∙ sym
          (append_assoc (opened_text o) records after.ahead)
          ∙ ap (λ (xs : List ℕ). xs ++ after.ahead) parts;
    }

pub recording_once : (R : Recording) (p after : Place) → AreBytes p.ahead → recording_at p ≡ Ok (R, after)
    → RecordingStood p R after
unfolding recording_at
recording_once R p after are read =
    let first = bound _ _ (R, after) read in
    let o = first.value in
    let opened = opened_once o p first.mid are first.read in
    let s : Scan = scan_behind o first.mid in
    let stop = whole_of o s R after s.stop refl first.then in
    let scanned = records_once o.header.pages (at_start o.header.base o.header.start)
    (begin_records first.mid) after (bytes_behind p first.mid (opened_text o) are opened.takes) stop.0 in
    recording_along p after (decoded o s) R (decoded_stood o s p first.mid after opened scanned) stop.1

-- One text is the text of one recording.
alone : List ℕ → Place
alone text = record { at = 0; limit = length text; ahead = text }

alone_takes : (text : List ℕ) → Takes (alone text) text (record { at = length text; limit = length text; ahead = [] })
unfolding alone
alone_takes text = record { ahead = sym (append-nil text); there = omega arith; limit = refl; within = omega arith }

pub same_recording : (R S : Recording) → KeepsRules R → KeepsRules S → recording_text R ≡ recording_text S → R ≡ S
same_recording R S rules rules' same =
    let first = recording_again R (alone (recording_text R)) _ rules (alone_takes (recording_text R)) in
    let second = recording_again S (alone (recording_text S)) _ rules' (alone_takes (recording_text S)) in
    let there : alone (recording_text R) ≡ alone (recording_text S) = ap alone same in
    let both : ◌≡◌ {A = Result (Recording × Place) ℕ} (Ok (R, first.0)) (Ok (S, second.0)) = sym first.1
    ∙ ap recording_at there ∙ second.1 in
    ap (λ (x : Recording × Place). x.0) (same_ok {X = Recording × Place} (R, first.0) (S, second.0) both)

pub same_input : (R : Recording) (bytes more : List ℕ) (p q : Place) → AreBytes bytes → AreBytes more
    → recording_at (start_of bytes) ≡ Ok (R, p) → recording_at (start_of more) ≡ Ok (R, q)
    → p.ahead ≡ [] → q.ahead ≡ [] → bytes ≡ more
same_input R bytes more p q are are_more read read_more none none_more =
    (recording_once R (start_of bytes) p are read).text ∙ ap (λ (xs : List ℕ). recording_text R ++ xs)
    (none ∙ sym none_more) ∙ sym (recording_once R (start_of more) q are_more read_more).text

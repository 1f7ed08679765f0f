-- A header that keeps the rules is read back from its text, and what was read as one keeps the rules and is its text.
use Rattle.std.proofs.Common.{◌≡◌, ℕ, zero, suc, ◌+◌, ◌-◌, ◌^◌, ◌<◌, ◌≤◌, List, [], ◌∷◌, ◌++◌, length, get_or, leb, eqb}
use Rattle.std.proofs.Common.{cond, All, arith, refl, ap, sym, ◌∙◌, inl, inr, Bool, true, false, Ok, append_assoc}
use Rattle.std.proofs.lemmas.Bool.{leb-true}
use Rattle.std.specs.Int.{w32, to_le_bytes}
use Rattle.cx_map.specs.Bytes.{AreBytes}
use Rattle.cx_map.specs.Map.{IsPageCount}
use Rattle.cx_map.specs.declared.TheConstants.{MOST_PAGES}
use Rattle.cx_csr.specs.Rules.{Admits, AllFit, FitsAt, admits, rule_at}
use Rattle.cx_csr.specs.Words.{state_of, words_of}
use Rattle.cx_csr.proofs.RuleTests.{obeys, passes}
use Rattle.cx_csr.proofs.StateAgain.{state_again}
use Rattle.cx_csr.proofs.WordLists.{fit_from_keeps, length-words_of, wide-words_of, words_of-state_of, keeps-state_of}
use Rattle.cx_codec.specs.Place.{behind_text, Place, Takes, ◌>>=◌, read_on, done}
use Rattle.cx_codec.specs.Fields.{byte_at, word_at}
use Rattle.cx_codec.specs.Varint.{varint}
use Rattle.cx_codec.proofs.ReadBack.{byte_again, word_again}
use Rattle.cx_log.specs.declared.header.Header.{Header}
use Rattle.cx_log.specs.declared.limits.TheConstants.{STEP_LIMIT}
use Rattle.cx_log.specs.Fields.{varint_between}
use Rattle.cx_log.specs.Order.{IsHeader, IsVersion}
use Rattle.cx_log.specs.Reading.{Announced, second_version_at, announced_by, announced_at, words_at, state_words_at}
use Rattle.cx_log.specs.Reading.{header_at}
use Rattle.cx_log.specs.Text.{version_text, words_text, behind_magic}
use Rattle.cx_codec.proofs.Composing.{bound}
use Rattle.cx_codec.proofs.ReadOnce.{byte_once, word_once}
use Rattle.cx_codec.proofs.Texts.{takes_first, takes_second, takes_both, takes_along, takes_nothing, bytes_behind}
use Rattle.cx_log.proofs.Done.{done_pair, nothing_taken}
use Rattle.cx_log.proofs.FieldTests.{checked_again, checked_once, Between, between_again, between_once}

-- Each word obeys its rule, behind the word before it; the first of them is word i.
abbrev Obey : ℕ → ℕ → ℕ → List ℕ → Type 0
Obey pages i before [] = Unit {0}
Obey pages i before (word ∷ words) = Admits pages before (rule_at i) word × Obey pages (i + 1) word words

words_again : (pages i before : ℕ) (words : List ℕ) (p after : Place) → All (λ w. w < 2 ^ 32) words
    → Obey pages i before words → Takes p (words_text words) after
    → words_at pages (length words) i before p ≡ Ok (words, after)
words_again pages i before [] p after wide obey takes = rw (nothing_taken p after takes) refl
words_again pages i before (word ∷ words) p after wide obey takes =
    let front : List ℕ = to_le_bytes w32 word in
    let small : word < 2 ^ 32 = wide 0 0 (omega arith) in
    let wide_more : All (λ w. w < 2 ^ 32) words = λ k d inside. wide (suc k) d (omega (arith, inside)) in
    let q : Place = behind_text p front (words_text words ++ after.ahead) in
    let first = checked_again (λ w. admits pages before (rule_at i) w) word_at p q word
    (word_again p q word small (takes_first p after front (words_text words) takes))
    (passes pages before word (rule_at i) obey.0) in
    rw (
      first,
      words_again pages (i + 1) word words q after wide_more obey.1
          (takes_second p after front (words_text words) takes),
    ) refl

-- the same by the place of each word
FitFrom : ℕ → ℕ → ℕ → List ℕ → Type 0
FitFrom pages i before words = (k : ℕ) → k < length words
    → Admits pages (get_or (before ∷ words) k 0) (rule_at (i + k)) (get_or words k 0)

obey_from : (pages i before : ℕ) (words : List ℕ) → FitFrom pages i before words → Obey pages i before words
unfolding FitFrom
obey_from pages i before [] fit = tt
obey_from pages i before (word ∷ words) fit =
    let here : i + 0 ≡ i = omega arith in
    let first : Admits pages before (rule_at (i + 0)) word = fit 0 (omega arith) in (
      rw here at first,
      obey_from pages (i + 1) word words (λ k inside.
          let next : i + suc k ≡ i + 1 + k = omega arith in
          let there : Admits pages (get_or (word ∷ words) k 0) (rule_at (i + suc k)) (get_or words k 0) = fit (suc k)
          (omega (arith, inside)) in
          rw next at there),
    )

from_obey : (pages i before : ℕ) (words : List ℕ) → Obey pages i before words → FitFrom pages i before words
unfolding FitFrom
from_obey pages i before [] obey k inside = absurd (omega (arith, inside))
from_obey pages i before (word ∷ words) obey zero inside = let here : i + 0 ≡ i = omega arith in rw here obey.0
from_obey pages i before (word ∷ words) obey (suc k) inside =
    let next : i + suc k ≡ i + 1 + k = omega arith in
    rw next (from_obey pages (i + 1) word words obey.1 k (omega (arith, inside)))

fit_from : (pages : ℕ) (words : List ℕ) → length words ≡ 58 → AllFit pages words → FitFrom pages 0 0 words
unfolding FitFrom
fit_from pages words size fit zero inside = fit 0 (omega arith)
fit_from pages words size fit (suc k) inside =
    let same : 0 + suc k ≡ suc k = omega arith in
    let last : suc k - 1 ≡ k = omega arith in
    let here : FitsAt pages words (suc k) = fit (suc k) (omega (arith, inside, size)) in
    rw same (rw last at here)

all_fit : (pages : ℕ) (words : List ℕ) → length words ≡ 58 → FitFrom pages 0 0 words → AllFit pages words
unfolding FitFrom
all_fit pages words size fit zero inside = fit 0 (omega (arith, size))
all_fit pages words size fit (suc k) inside =
    let same : 0 + suc k ≡ suc k = omega arith in
    let last : suc k - 1 ≡ k = omega arith in
    let here : Admits pages (get_or words k 0) (rule_at (0 + suc k)) (get_or words (suc k) 0) = fit (suc k)
    (omega (arith, inside, size)) in
    rw last (rw same at here)

in_front : (word : ℕ) (words : List ℕ) → word < 2 ^ 32 → All (λ w. w < 2 ^ 32) words
    → All (λ w. w < 2 ^ 32) (word ∷ words)
in_front word words small wide zero d inside = small
in_front word words small wide (suc k) d inside = wide k d (omega (arith, inside))

-- What was read as n words.
record WordsStood (pages n i before : ℕ) (p : Place) (words : List ℕ) (after : Place) : Type 0 where
  size : length words ≡ n
  wide : All (λ w. w < 2 ^ 32) words
  obey : Obey pages i before words
  takes : Takes p (words_text words) after

words_along : (pages n i before : ℕ) (p : Place) (x y : List ℕ × Place) → WordsStood pages n i before p x.0 x.1
    → x ≡ y → WordsStood pages n i before p y.0 y.1
words_along pages n i before p x y stood same = rw (← same) stood

words_once : (pages n i before : ℕ) (p after : Place) (words : List ℕ) → AreBytes p.ahead
    → words_at pages n i before p ≡ Ok (words, after) → WordsStood pages n i before p words after
words_once pages zero i before p after words are read =
    words_along pages 0 i before p ([], p) (words, after) (record {
      size = refl;
      wide = λ k d inside. absurd
          (omega (arith, inside));
      obey = tt;
      takes = takes_nothing p;
    }) (done_pair [] words p after read)
words_once pages (suc n) i before p after words are read =
    let first = bound _ _ (words, after) read in
    let passed = checked_once (λ w. admits pages before (rule_at i) w) word_at p first.mid first.value first.read in
    let word = word_once p first.mid first.value are passed.read in
    let second = bound _ _ (words, after) first.then in
    let rest = words_once pages n (i + 1) first.value first.mid second.mid second.value
    (bytes_behind p first.mid _ are word.0) second.read in
    words_along pages (suc n) i before p (first.value ∷ second.value, second.mid) (words, after) (record {
      size = omega (arith, rest.size);
      wide = in_front first.value second.value word.1 rest.wide;
      obey = (obeys pages before first.value (rule_at i) passed.good, rest.obey);
      takes = takes_both p first.mid second.mid (to_le_bytes w32 first.value)
          (words_text second.value) word.0 rest.takes;
    }) (done_pair (first.value ∷ second.value) words second.mid after second.then)

-- the announcement: version, flag and number of pages
announced_first : (p : Place) (n : ℕ) → 1 ≤ n
    → announced_by n p ≡ Ok (record { version = 1; split = false; pages = n }, p)
announced_first p zero some = absurd (omega (arith, some))
announced_first p (suc n) some = refl

flag_of : Bool → ℕ
flag_of split = cond split 1 0

flag_small : (split : Bool) → leb (flag_of split) 1 ≡ true
unfolding flag_of
flag_small true = refl
flag_small false = refl

flag_back : (split : Bool) → eqb (flag_of split) 1 ≡ split
unfolding flag_of
flag_back true = refl
flag_back false = refl

second_again : (p after : Place) (split : Bool) (pages : ℕ) → IsPageCount pages
    → Takes p (flag_of split ∷ varint pages) after
    → second_version_at p ≡ Ok (record { version = 2; split = split; pages = pages }, after)
unfolding second_version_at
second_again p after split pages count takes =
    let front : List ℕ = flag_of split ∷ [] in
    let q : Place = behind_text p front (varint pages ++ after.ahead) in
    let flag = checked_again (λ b. leb b 1) byte_at p q (flag_of split)
    (byte_again p q (flag_of split) (takes_first p after front (varint pages) takes)) (flag_small split) in
    let number = between_again q after 1 MOST_PAGES pages count.some count.most (omega (arith, count.most))
    (takes_second p after front (varint pages) takes) in
    rw (flag, number, flag_back split) refl

zero_spelled : varint 0 ≡ 0 ∷ []
unfolding varint
zero_spelled = refl

announced_again : (p after : Place) (version : ℕ) (split : Bool) (pages : ℕ) → IsVersion version split
    → IsPageCount pages → Takes p (version_text version split ++ varint pages) after
    → announced_at p ≡ Ok (record { version = version; split = split; pages = pages }, after)
unfolding announced_at flag_of
announced_again p after version split pages is count takes = elim is [
  | inl one ↦
      let text : Takes p (varint pages) after = rw one.0 at takes in
      let first = between_again p after 0 MOST_PAGES pages (omega arith) count.most (omega (arith, count.most)) text in
      rw (first, announced_first after pages count.some, one.0, one.1) refl
  | inr two ↦
      let rest : List ℕ = flag_of split ∷ varint pages in
      let text : Takes p ((0 ∷ []) ++ rest) after = rw two at takes in
      let q : Place = behind_text p (0 ∷ []) (rest ++ after.ahead) in
      let first = between_again p q 0 MOST_PAGES 0 (omega arith) (omega arith) (omega arith)
      (rw zero_spelled (takes_first p after (0 ∷ []) rest text)) in
      rw (first, second_again q after split pages count (takes_second p after (0 ∷ []) rest text), two) refl
]

-- What was read as an announcement.
record AnnouncedStood (p : Place) (a : Announced) (after : Place) : Type 0 where
  version : IsVersion a.version a.split
  count : IsPageCount a.pages
  takes : Takes p (version_text a.version a.split ++ varint a.pages) after

announced_along : (p : Place) (x y : Announced × Place) → AnnouncedStood p x.0 x.1 → x ≡ y → AnnouncedStood p y.0 y.1
announced_along p x y stood same = rw (← same) stood

flag_once : (n : ℕ) → n ≤ 1 → n ≡ cond (eqb n 1) 1 0
flag_once zero few = refl
flag_once (suc zero) few = refl
flag_once (suc (suc n)) few = absurd (omega (arith, few))

second_text : (flag pages : ℕ) → flag ≤ 1
    → varint 0 ++ (flag ∷ varint pages) ≡ version_text 2 (eqb flag 1) ++ varint pages
second_text flag pages few = ap (λ (xs : List ℕ). xs ++ (flag ∷ varint pages)) zero_spelled ∙ ap
    (λ (n : ℕ). 0 ∷ n ∷ varint pages) (flag_once flag few)

second_once : (p q after : Place) (a : Announced) → AreBytes q.ahead → Takes p (varint 0) q
    → second_version_at q ≡ Ok (a, after) → AnnouncedStood p a after
unfolding second_version_at
second_once p q after a are zero_takes read =
    let first = bound _ _ (a, after) read in
    let flag = first.value in
    let passed = checked_once (λ b. leb b 1) byte_at q first.mid flag first.read in
    let flag_takes = byte_once q first.mid flag passed.read in
    let second = bound _ _ (a, after) first.then in
    let number = between_once first.mid second.mid 1 MOST_PAGES second.value
    (bytes_behind q first.mid (flag ∷ []) are flag_takes) second.read in
    let rest = takes_both q first.mid second.mid (flag ∷ []) (varint second.value) flag_takes number.takes in
    announced_along p (record { version = 2; split = eqb flag 1; pages = second.value }, second.mid) (a, after)
    (record {
      version = inr refl;
      count = record { some = number.low; most = number.high };
      takes = takes_along p second.mid second.mid _ _ (second_text flag second.value
          (leb-true flag 1 passed.good)) refl (takes_both p q second.mid (varint 0)
          (flag ∷ varint second.value) zero_takes rest);
    }) (done_pair (record { version = 2; split = eqb flag 1; pages = second.value }) a second.mid after second.then)

announced_by_once : (n : ℕ) (p q after : Place) (a : Announced) → AreBytes q.ahead → n ≤ MOST_PAGES
    → Takes p (varint n) q → announced_by n q ≡ Ok (a, after) → AnnouncedStood p a after
announced_by_once zero p q after a are most first read = second_once p q after a are first read
announced_by_once (suc n) p q after a are most first read =
    announced_along p (record { version = 1; split = false; pages = suc n }, q) (a, after) (record {
      version = inl (refl, refl);
      count = record { some = omega arith; most = most };
      takes = first;
    }) (done_pair (record { version = 1; split = false; pages = suc n }) a q after read)

announced_once : (p after : Place) (a : Announced) → AreBytes p.ahead → announced_at p ≡ Ok (a, after)
    → AnnouncedStood p a after
unfolding announced_at
announced_once p after a are read =
    let first = bound _ _ (a, after) read in
    let number = between_once p first.mid 0 MOST_PAGES first.value are first.read in
    announced_by_once first.value p first.mid after a (bytes_behind p first.mid
    (varint first.value) are number.takes) number.high number.takes first.then

-- a header
header_text_parts : (h : Header)
    → behind_magic h ≡ (version_text h.version h.split ++ varint h.pages) ++ (varint h.base ++ (words_text
    (words_of h.start) ++ varint h.count))
header_text_parts h = sym (append_assoc (version_text h.version h.split) (varint h.pages) _)

pub header_again : (h : Header) (p after : Place) → IsHeader h → Takes p (behind_magic h) after
    → header_at p ≡ Ok (h, after)
unfolding header_at state_words_at
header_again h p after is takes =
    let front : List ℕ = version_text h.version h.split ++ varint h.pages in
    let words : List ℕ = words_text (words_of h.start) in
    let whole : Takes p (front ++ (varint h.base ++ (words ++ varint h.count))) after =
    takes_along p after after _ _ (header_text_parts h) refl takes in
    let q : Place = behind_text p front ((varint h.base ++ (words ++ varint h.count)) ++ after.ahead) in
    let more = takes_second p after front (varint h.base ++ (words ++ varint h.count)) whole in
    let r : Place = behind_text q (varint h.base) ((words ++ varint h.count) ++ after.ahead) in
    let last = takes_second q after (varint h.base) (words ++ varint h.count) more in
    let s : Place = behind_text r words (varint h.count ++ after.ahead) in
    let size : length (words_of h.start) ≡ 58 = length-words_of h.pages h.start is.start in
    let announced = announced_again p q h.version h.split h.pages is.version is.pages
    (takes_first p after front (varint h.base ++ (words ++ varint h.count)) whole) in
    let base = between_again q r 0 (STEP_LIMIT - 1) h.base (omega arith) (omega (arith, is.base))
    (omega (arith, is.base)) (takes_first q after (varint h.base) (words ++ varint h.count) more) in
    let state = words_again h.pages 0 0 (words_of h.start) r s (wide-words_of h.pages h.start is.pages.most is.start)
    (obey_from h.pages 0 0 (words_of h.start) (fit_from h.pages (words_of h.start) size
    (fit_from_keeps h.pages h.start is.start))) (takes_first r after words (varint h.count) last) in
    let count = between_again s after 0 h.pages h.count (omega arith) is.count
    (omega (arith, is.count, is.pages.most)) (takes_second r after words (varint h.count) last) in
    let state_words : words_at h.pages 58 0 0 r ≡ Ok (words_of h.start, s) = rw size at state in
    rw (announced, base, state_words, count, state_again h.pages h.start is.start) refl

-- What was read as a header.
pub record HeaderStood (p : Place) (h : Header) (after : Place) : Type 0 where
  pub is : IsHeader h
  pub takes : Takes p (behind_magic h) after

header_along : (p : Place) (x y : Header × Place) → HeaderStood p x.0 x.1 → x ≡ y → HeaderStood p y.0 y.1
header_along p x y stood same = rw (← same) stood

abbrev made : Announced → ℕ → List ℕ → ℕ → Header
made a base words count = record {
  version = a.version;
  split = a.split;
  pages = a.pages;
  base = base;
  start =
      state_of words;
  count = count;
}

made_stood : (a : Announced) (base count : ℕ) (words : List ℕ) (p q r s t : Place) → AnnouncedStood p a q
    → Between q 0 (STEP_LIMIT - 1) base r → WordsStood a.pages 58 0 0 r words s → Between s 0 a.pages count t
    → HeaderStood p (made a base words count) t
made_stood a base count words p q r s t announced number state last =
    let front : List ℕ = version_text a.version a.split ++ varint a.pages in
    let fit : AllFit a.pages words = all_fit a.pages words state.size (from_obey a.pages 0 0 words state.obey) in
    let text : words_text words ≡ words_text (words_of (state_of words)) = ap words_text
    (sym (words_of-state_of a.pages words state.size fit)) in
    let parts = takes_both p q t front (varint base ++ (words_text words ++ varint count)) announced.takes
    (takes_both q r t (varint base) (words_text words ++ varint count) number.takes
    (takes_both r s t (words_text words) (varint count) state.takes last.takes)) in
    let whole : front ++ (varint base ++ (words_text words ++ varint count)) ≡ behind_magic (made a base words count) =
    ap (λ (xs : List ℕ). front ++ (varint base ++ (xs ++ varint count))) text ∙ sym
    (header_text_parts (made a base words count)) in
    record {
      is = record {
        version = announced.version;
        pages = announced.count;
        base = omega (arith, number.high);
        start = keeps-state_of a.pages words state.size state.wide fit;
        count = last.high;
      };
      takes = takes_along p t t _ _ whole refl parts;
    }

count_once : (a : Announced) (base : ℕ) (words : List ℕ) (h : Header) (p q r s after : Place) → AnnouncedStood p a q
    → Between q 0 (STEP_LIMIT - 1) base r → WordsStood a.pages 58 0 0 r words s → AreBytes s.ahead
    → read_on (varint_between 0 a.pages s) (λ count. done (made a base words count)) ≡ Ok (h, after)
    → HeaderStood p h after
count_once a base words h p q r s after announced number state are read =
    let parts = bound _ _ (h, after) read in
    let last = between_once s parts.mid 0 a.pages parts.value are parts.read in
    header_along p (made a base words parts.value, parts.mid) (h, after)
    (made_stood a base parts.value words p q r s parts.mid announced number state last)
    (done_pair (made a base words parts.value) h parts.mid after parts.then)

state_once : (a : Announced) (base : ℕ) (h : Header) (p q r after : Place) → AnnouncedStood p a q
    → Between q 0 (STEP_LIMIT - 1) base r → AreBytes r.ahead
    → read_on (words_at a.pages 58 0 0 r) (λ words. varint_between 0 a.pages >>= (λ count. done
    (made a base words count))) ≡ Ok (h, after) → HeaderStood p h after
state_once a base h p q r after announced number are read =
    let parts = bound _ _ (h, after) read in
    let words = words_once a.pages 58 0 0 r parts.mid parts.value are parts.read in
    count_once a base parts.value h p q r parts.mid after announced number words
    (bytes_behind r parts.mid (words_text parts.value) are words.takes) parts.then

base_once : (a : Announced) (h : Header) (p q after : Place) → AnnouncedStood p a q → AreBytes q.ahead
    → read_on (varint_between 0 (STEP_LIMIT - 1) q)
    (λ base. words_at a.pages 58 0 0 >>= (λ words. varint_between 0 a.pages >>= (λ count. done
    (made a base words count)))) ≡ Ok (h, after) → HeaderStood p h after
base_once a h p q after announced are read =
    let parts = bound _ _ (h, after) read in
    let number = between_once q parts.mid 0 (STEP_LIMIT - 1) parts.value are parts.read in
    state_once a parts.value h p q parts.mid after announced number
    (bytes_behind q parts.mid (varint parts.value) are number.takes) parts.then

pub header_once : (h : Header) (p after : Place) → AreBytes p.ahead → header_at p ≡ Ok (h, after)
    → HeaderStood p h after
unfolding header_at state_words_at
header_once h p after are read =
    let first = bound _ _ (h, after) read in
    let announced = announced_once p first.mid first.value are first.read in
    base_once first.value h p first.mid after announced (bytes_behind p first.mid _ are announced.takes) first.then

-- What stands before the records, in the order in which it is read: the magic, the header, and the pages that are left.
use Rattle.std.proofs.Common.{◌≡◌, ℕ, zero, suc, ◌+◌, ◌*◌, List, refl, ◌∙◌, replicate, Result, Ok, Err, Bool, true}
use Rattle.std.proofs.Common.{false, codes, if◌then◌else◌}
use Rattle.std.specs.Str.{bytes_eq}
use Rattle.cx_map.specs.Map.{size_of_pages}
use Rattle.cx_map.specs.declared.TheConstants.{PAGE_SIZE}
use Rattle.cx_codec.specs.Fields.{bytes_at}
use Rattle.cx_codec.specs.Place.{Place, Reader, bad, read_on, done}
use Rattle.cx_ram.specs.LittleEndian.{written}
use Rattle.cx_log.specs.declared.header.Header.{Header}
use Rattle.cx_log.specs.Engine.{begin_behind, opened_header_at}
use Rattle.cx_log.specs.Reading.{Opened, Page, magic_at, header_at, page_at, pages_at, opened_at}
use Rattle.cx_log.specs.Text.{magic}
use Rattle.cx_commands.specs.declared.magic.Magic.TheVariants as kind
use Rattle.cx_commands.specs.Opening.{begun_at, behind_kind, behind_magic_at, filled_at, kind_at, magic_by, then_records}
use Rattle.cx_commands.specs.Opening.{turned_pages_at, with_memory}

-- the memory that a header begins with
abbrev blank : Header → List ℕ
blank header = replicate (size_of_pages header.pages) 0

abbrev put_at : Header → Reader Opened
put_at header p = read_on (pages_at header.pages header.count 0 (blank header) p)
    (λ memory. done (with_memory header memory))

among : (header : Header) (n : ℕ) (q : Place) (rest : Reader (List ℕ))
    → read_on (begin_behind n q) (λ begun r. read_on (rest r) (λ m. done (with_memory header m)))
    ≡ read_on (read_on (begin_behind n q) (λ begun. rest)) (λ m. done (with_memory header m))
among header zero q rest = refl
among header (suc n) q rest = refl

page_turned : (header : Header) (left : ℕ) (f f' : Page → Reader (List ℕ)) (read : Result (Page × Place) ℕ)
    → ((x : Page) (q : Place) → read_on (read_on (f x q) (λ m. done (with_memory header m))) then_records
    ≡ read_on (begin_behind left q) (λ begun r. read_on (f' x r) (λ m. done (with_memory header m))))
    → read_on (read_on (read_on read f) (λ m. done (with_memory header m))) then_records
    ≡ read_on (read_on read (λ page q. read_on (begin_behind left q) (λ begun. f' page)))
    (λ m. done (with_memory header m))
page_turned header left f f' (Ok x) others = others x.0 x.1 ∙ among header left x.1 (f' x.0)
page_turned header left f f' (Err o) others = refl

-- where the records begin behind the pages, they begin behind the last that was turned
pages_turned : (pages left least : ℕ) (memory : List ℕ) (header : Header) (p : Place)
    → read_on (read_on (pages_at pages left least memory p) (λ m. done (with_memory header m))) then_records
    ≡ read_on (begin_behind left p) (λ begun q.
    read_on (turned_pages_at pages left least memory q) (λ m. done (with_memory header m)))
pages_turned pages zero least memory header p = refl
pages_turned pages (suc left) least memory header p = page_turned header left
    (λ page. pages_at pages left (page.number + 1) (written memory (page.number * PAGE_SIZE) page.bytes))
    (λ page. turned_pages_at pages left (page.number + 1) (written memory (page.number * PAGE_SIZE) page.bytes))
    (page_at pages least p)
    (λ x q. pages_turned pages left (x.number + 1) (written memory (x.number * PAGE_SIZE) x.bytes) header q)

-- a value that begin_behind leaves as it is
kept : (n : ℕ) (header : Header) (p : Place)
    → read_on (begin_behind n p) (λ begun. filled_at header)
    ≡ read_on (read_on (begin_behind n p) (λ begun. done header)) filled_at
kept zero header p = refl
kept (suc n) header p = refl

header_turned : (read : Result (Header × Place) ℕ)
    → read_on (read_on read put_at) then_records
    ≡ read_on (read_on read (λ header q. read_on (begin_behind header.count q) (λ begun. done header))) filled_at
header_turned (Ok x) = pages_turned x.0.pages x.0.count 0 (blank x.0) x.0 x.1 ∙ kept x.0.count x.0 x.1
header_turned (Err o) = refl

-- the magic of a recording, and then the rest
recording_parts : (p : Place) → begun_at p ≡ read_on (magic_at p) (λ begun. behind_magic_at)
unfolding begun_at opened_at opened_header_at
recording_parts p = after (magic_at p)
  where
    after : (read : Result (Unit {0} × Place) ℕ)
        → read_on (read_on read (λ u q. read_on (header_at q) put_at)) then_records
        ≡ read_on read (λ begun. behind_magic_at)
    after (Ok x) = header_turned (header_at x.1)
    after (Err o) = refl

-- the magics of all kinds, of which only that of a recording goes on
kinds_apart : (p : Place) → read_on (magic_at p) (λ begun. behind_magic_at) ≡ read_on (kind_at p) (behind_kind p.at)
unfolding magic_at kind_at
kinds_apart p = after (bytes_at 4 p)
  where
    by_tests : (q : Place) (recording process calls : Bool)
        → read_on ((if recording then done {Y = Unit {0}} tt else bad p.at) q) (λ begun. behind_magic_at)
        ≡ read_on ((if recording then done kind.Recording else if process then done kind.Process else if calls then
        done kind.Calls else bad p.at) q) (behind_kind p.at)
    by_tests q true process calls = refl
    by_tests q false true calls = refl
    by_tests q false false true = refl
    by_tests q false false false = refl

    after : (read : Result (List ℕ × Place) ℕ)
        → read_on (read_on read (λ bytes. if bytes_eq bytes magic then done {Y = Unit {0}} tt else bad p.at))
        (λ begun. behind_magic_at)
        ≡ read_on (read_on read (magic_by p.at)) (behind_kind p.at)
    after (Ok x) =
        by_tests x.1 (bytes_eq x.0 (codes "CXR1")) (bytes_eq x.0 (codes "CXP1")) (bytes_eq x.0 (codes "CXC1"))
    after (Err o) = refl

pub begun_parts : (p : Place) → begun_at p ≡ read_on (kind_at p) (behind_kind p.at)
begun_parts p = recording_parts p ∙ kinds_apart p

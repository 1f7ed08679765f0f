-- An image that keeps the rules is read back from its text.
use Rattle.std.proofs.Common.{◌≡◌, ℕ, ◌+◌, ◌*◌, ◌/◌, ◌^◌, ◌<◌, ◌≤◌, List, [], ◌∷◌, ◌++◌, length}
use Rattle.std.proofs.Common.{Bool, true, false, cond, inl, inr, Ok, arith, refl, leb}
use Rattle.cx_block.specs.declared.disk.TheConstants.{MOST_SECTORS, SECTOR_SIZE}
use Rattle.cx_codec.specs.Fields.{byte_at, bytes_at}
use Rattle.cx_codec.specs.Place.{Place, Takes, behind_text}
use Rattle.cx_codec.specs.Varint.{varint}
use Rattle.cx_codec.proofs.ReadBack.{byte_again, bytes_again}
use Rattle.cx_codec.proofs.Texts.{takes_first, takes_second}
use Rattle.cx_log.proofs.Done.{nothing_taken}
use Rattle.cx_log.proofs.FieldTests.{between_again, checked_again}
use Rattle.cx_log.proofs.Pages.{pages_again}
use Rattle.cx_log.proofs.Recordings.{few_pages}
use Rattle.cx_log.specs.Order.{IsVersion}
use Rattle.cx_log.specs.Text.{page_count, pages_text}
use Rattle.cx_machine.specs.Machine.{IsMemory}
use Rattle.cx_map.specs.Map.{IsPageCount}
use Rattle.cx_map.specs.declared.TheConstants.{MOST_PAGES}
use Rattle.cx_live.specs.Image.{Image, IsImage}
use Rattle.cx_live.specs.Reading.{given_flag_at, image_at, ram_at, pieces_at, split_at, version_at}
use Rattle.cx_live.specs.Reading.{whole_image_at}
use Rattle.cx_live.specs.Text.{flag_text, image_text, image_magic, memory_text, pieces_text}
use Rattle.cx_live.specs.declared.limits.TheConstants.{MOST_CONSOLE}

-- pieces of some size
pieces_again : (most size count : ℕ) (bytes : List ℕ) (p after : Place) → length bytes / size ≡ count
    → length bytes ≡ count * size → count ≤ most → most < 2 ^ 64 → Takes p (pieces_text size bytes) after
    → pieces_at most size p ≡ Ok (bytes, after)
unfolding pieces_at
pieces_again most size count bytes p after number whole few small takes =
    let text : Takes p (varint count ++ bytes) after = rw number at takes in
    let q : Place = behind_text p (varint count) (bytes ++ after.ahead) in
    let first = between_again p q 0 most count (omega arith) few (omega (arith, few, small))
    (takes_first p after (varint count) bytes text) in
    let second : bytes_at (count * size) q ≡ Ok (bytes, after) =
    rw whole at (bytes_again q after bytes (takes_second p after (varint count) bytes text)) in
    rw first second

memory_again : (pages : ℕ) (memory : List ℕ) (p after : Place) → IsPageCount pages → IsMemory pages memory
    → Takes p (memory_text pages memory) after → ram_at pages p ≡ Ok (memory, after)
unfolding ram_at
memory_again pages memory p after count is takes =
    let number : ℕ = page_count memory pages in
    let text : List ℕ = pages_text memory pages in
    let q : Place = behind_text p (varint number) (text ++ after.ahead) in
    let few : number ≤ pages = few_pages memory pages in
    let first = between_again p q 0 pages number (omega arith) few (omega (arith, few, count.most))
    (takes_first p after (varint number) text takes) in
    rw first (pages_again pages memory q after count is (takes_second p after (varint number) text takes))

flag_again : (split : Bool) (p after : Place) → Takes p (cond split 1 0 ∷ []) after
    → given_flag_at p ≡ Ok (split, after)
unfolding given_flag_at
flag_again true p after takes = rw (checked_again (λ b. leb b 1) byte_at p after 1 (byte_again p after 1 takes) refl) refl
flag_again false p after takes = rw (checked_again (λ b. leb b 1) byte_at p after 0 (byte_again p after 0 takes) refl) refl

split_again : (version : ℕ) (split : Bool) (p after : Place) → IsVersion version split
    → Takes p (flag_text version split) after → split_at version p ≡ Ok (split, after)
split_again version split p after (inl first) takes =
    let none : Takes p [] after = rw first.0 at takes in
    rw (first.0, first.1, nothing_taken p after none) refl
split_again version split p after (inr second) takes =
    let text : Takes p (cond split 1 0 ∷ []) after = rw second at takes in
    rw second (flag_again split p after text)

magic_again : (version : ℕ) (split : Bool) (p after : Place) → IsVersion version split → Takes p (image_magic version) after
    → version_at p ≡ Ok (version, after)
unfolding version_at
magic_again version split p after (inl first) takes =
    let text : Takes p (image_magic 1) after = rw first.0 at takes in
    let read : bytes_at 4 p ≡ Ok (image_magic 1, after) = bytes_again p after (image_magic 1) text in
    rw (first.0, read) refl
magic_again version split p after (inr second) takes =
    let text : Takes p (image_magic 2) after = rw second at takes in
    let read : bytes_at 4 p ≡ Ok (image_magic 2, after) = bytes_again p after (image_magic 2) text in
    rw (second, read) refl

pub image_again : (image : Image) (p after : Place) → IsImage image → Takes p (image_text image) after
    → image_at p ≡ Ok (image, after)
unfolding image_text image_at
image_again image p after is takes =
    let m : List ℕ = image_magic image.version in
    let f : List ℕ = flag_text image.version image.split in
    let n : List ℕ = varint image.pages in
    let r : List ℕ = memory_text image.pages image.memory in
    let d : List ℕ = pieces_text SECTOR_SIZE image.disk in
    let c : List ℕ = pieces_text 1 image.console in
    let p1 : Place = behind_text p m ((f ++ (n ++ (r ++ (d ++ c)))) ++ after.ahead) in
    let t1 = takes_second p after m (f ++ (n ++ (r ++ (d ++ c)))) takes in
    let p2 : Place = behind_text p1 f ((n ++ (r ++ (d ++ c))) ++ after.ahead) in
    let t2 = takes_second p1 after f (n ++ (r ++ (d ++ c))) t1 in
    let p3 : Place = behind_text p2 n ((r ++ (d ++ c)) ++ after.ahead) in
    let t3 = takes_second p2 after n (r ++ (d ++ c)) t2 in
    let p4 : Place = behind_text p3 r ((d ++ c) ++ after.ahead) in
    let t4 = takes_second p3 after r (d ++ c) t3 in
    let p5 : Place = behind_text p4 d (c ++ after.ahead) in
    let t5 = takes_second p4 after d c t4 in
    let version = magic_again image.version image.split p p1 is.version
    (takes_first p after m (f ++ (n ++ (r ++ (d ++ c)))) takes) in
    let split = split_again image.version image.split p1 p2 is.version
    (takes_first p1 after f (n ++ (r ++ (d ++ c))) t1) in
    let pages = between_again p2 p3 1 MOST_PAGES image.pages is.pages.some is.pages.most
    (omega (arith, is.pages.most)) (takes_first p2 after n (r ++ (d ++ c)) t2) in
    let memory = memory_again image.pages image.memory p3 p4 is.pages is.memory (takes_first p3 after r (d ++ c) t3) in
    let disk = pieces_again MOST_SECTORS SECTOR_SIZE (length image.disk / SECTOR_SIZE) image.disk p4 p5 refl
    (omega (arith, is.disk.whole)) (omega (arith, is.disk.most)) (omega arith) (takes_first p4 after d c t4) in
    let console = pieces_again MOST_CONSOLE 1 (length image.console / 1) image.console p5 after refl
    (omega arith) (omega (arith, is.console)) (omega arith) t5 in
    rw (version, split, pages, memory, disk, console) refl

pub whole_again : (image : Image) (p after : Place) → IsImage image → Takes p (image_text image) after
    → after.ahead ≡ [] → whole_image_at p ≡ Ok (image, after)
unfolding whole_image_at
whole_again image p after is takes none = rw (image_again image p after is takes, none) refl

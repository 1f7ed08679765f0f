-- Where the records begin.
use Rattle.std.proofs.Common.{◌≡◌, ℕ, zero, suc, ◌-◌, ◌<◌, [], List, Option, IsSome, arith, refl, sym, Some, Ok}
use Rattle.std.proofs.lemmas.List.{append-nil}
use Rattle.cx_codec.specs.Place.{Place, Buffered, read_on, done}
use Rattle.cx_log.specs.Fault.{log_met}
use Rattle.cx_codec.specs.Reads.{Reads, always, over}
use Rattle.cx_codec.proofs.Composing.{gives}
use Rattle.cx_log.specs.Engine.{begin_behind, begun_by, turned_page_at}
use Rattle.cx_log.specs.Reading.{page_at}

begun_behind : (left : ℕ) (b : Buffered) (more : Option (List ℕ)) (given : List ℕ) → IsSome more
    → Reads log_met (always {X = Unit {0}} tt) (begin_behind left) (over b more given)
    (over (begun_by left b) more given) (Ok (tt {0}))
begun_behind zero b more given told = record {
  follows = record {
    told = told;
    same = refl;
    grows = record { rest = []; parts = sym (append-nil given) };
    level = refl;
  };
  reads = λ input begins. refl;
}
begun_behind (suc left) b more given told = gives told (λ p. refl)

pub begins_behind : (left : ℕ) (b : Buffered) {now : Buffered} (more : Option (List ℕ)) (given : List ℕ)
    → now ≡ begun_by left b → IsSome more
    → Reads log_met (always {X = Unit {0}} tt) (begin_behind left) (over b more given) (over now more given)
    (Ok (tt {0}))
begins_behind left b more given is told = rw is (begun_behind left b more given told)

-- a page that is left
pub turned_parts : (pages left least : ℕ) (p : Place) → 0 < left → turned_page_at pages left least p
    ≡ read_on (page_at pages least p) (λ page q. read_on (begin_behind (left - 1) q) (λ begun. done (Some page)))
unfolding turned_page_at
turned_parts pages zero least p some = absurd (omega arith)
turned_parts pages (suc left) least p some = let e : suc left - 1 ≡ left = omega arith in rw e refl

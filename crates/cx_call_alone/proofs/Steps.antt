-- One step alone, part by part.
use Rattle.std.proofs.Common.{◌≡◌, ℕ, ◌==◌, ◌&&◌, ◌||◌, Bool, true, false, List, [], Option, None, Some, is_some}
use Rattle.std.proofs.Common.{if◌then◌else◌, refl, sym, ap, subst, ◌∙◌, Ok, Err}
use Rattle.std.specs.Prelude.{option_and_then, option_map}
use Rattle.cx_alone.specs.Steps.{left_behind}
use Rattle.cx_alone.proofs.Steps.{left_as_after}
use Rattle.cx_marks.specs.Marked.{is_marked}
use Rattle.cx_observe.specs.Seeing.{left_by, seen_by}
use Rattle.cx_observe.specs.Stepping.{step_of}
use Rattle.cx_observe.specs.User.{user}
use Rattle.cx_observe.specs.declared.obs.Obs.{Obs}
use Rattle.cx_placing.specs.Called.{CallStanding, all_met, handed, if_met, is_call, may_stand, standing_behind, step_called}
use Rattle.cx_placing.specs.Called.{still_owed, words_with}
use Rattle.cx_placing.specs.Placing.{Placed}
use Rattle.cx_placing.specs.Touched.{Touched, touching}
use Rattle.cx_program.specs.Knowing.{known_by}
use Rattle.cx_shadow.specs.Cells.{byte_of}
use Rattle.cx_slices.specs.Alone.{if_seen}
use Rattle.cx_slices.specs.Bytes.{Byte, all_there, byte_found, with_bytes}
use Rattle.cx_slices.specs.Items.{Known, after}
use Rattle.cx_slices.specs.Words.{changed}
use Rattle.cx_calls.specs.Calling.{called}
use Rattle.cx_call_alone.specs.Owed.{Owes, owed_behind}
use Rattle.cx_call_alone.specs.Standing.{IsPut, IsStanding, Keeps, StepsTo, head_held, known_with, owed_marks, standing_by}
use Rattle.cx_alone.specs.declared.fault.Stop.{Stop}
use Rattle.cx_alone.specs.declared.fault.Stop.TheVariants as stop
use Rattle.cx_call_alone.specs.declared.items.HeadItems.{HeadItems}
use Rattle.cx_call_alone.specs.Stepping.{GoesBehind, LeftBy, call_held, RisesIn, is_call_by, number_of, placed_held}
use Rattle.cx_call_alone.specs.declared.called.Called.{Called}
use Rattle.cx_call_alone.specs.declared.items.CallItems.{CallItems}
use Rattle.cx_call_alone.proofs.Owed.{nil_is}

-- what is left to be met once the items were seen
if_settled : CallStanding → Placed ℕ → Obs → Option Obs
if_settled s p o =
    if all_met user o s.owed && is_call (called o) p.call (still_owed user o s.owed) then Some o else None

split_by : (s : CallStanding) (p : Placed ℕ) (o : Obs) (t : Bool)
    → (if t && (all_met user o s.owed && is_call (called o) p.call (still_owed user o s.owed)) then Some o else None)
    ≡ option_and_then (if_settled s p) (if t then Some o else None)
unfolding if_settled
split_by s p o true = refl
split_by s p o false = refl

split : (s : CallStanding) (p : Placed ℕ) (r : Option Obs) → option_and_then (if_met user called s p) r
    ≡ option_and_then (if_settled s p) (option_and_then (if_seen user p.items.bytes) r)
split s p None = refl
split s p (Some o) = split_by s p o (all_there (seen_by o) p.items.bytes)

step_by : (s : CallStanding) (p : Placed ℕ) (may : Bool) → may_stand s p.items ≡ may → step_called user called s p
    ≡ (if may then option_and_then (if_met user called s p)
    (step_of (changed s.known.words (words_with s.words p.items.words)) (with_bytes p.items.bytes s.known.map)
    p.items.given) else None)
step_by s p may is = ap (λ (t : Bool). if t then option_and_then (if_met user called s p)
    (step_of (changed s.known.words (words_with s.words p.items.words)) (with_bytes p.items.bytes s.known.map)
    p.items.given) else None) is

-- A step is tried from what is known once its items were put.
tried_is : (c c1 : Called) (owed : List Byte) (p : Placed ℕ) (tried : Option Obs)
    → may_stand (standing_by c owed) p.items ≡ true → known_by c1.standing ≡ known_with c p.items
    → option_and_then (if_seen user p.items.bytes) (step_of c1.standing.words (byte_of c1.standing.shadow) p.items.given)
    ≡ tried → step_called user called (standing_by c owed) p ≡ option_and_then (if_settled (standing_by c owed) p) tried
tried_is c c1 owed p tried may known went = step_by (standing_by c owed) p true may
    ∙ (split (standing_by c owed) p (step_of (known_with c p.items).words (known_with c p.items).map p.items.given)
    ∙ ap (option_and_then (if_settled (standing_by c owed) p))
    (ap (λ (k : Known). option_and_then (if_seen user p.items.bytes) (step_of k.words k.map p.items.given)) (sym known)
    ∙ went))

pub not_put : (s : CallStanding) (c : Called) (p : Placed ℕ) → IsStanding s c
    → may_stand (standing_by c []) p.items ≡ false → step_called user called s p ≡ None
not_put s c p stands may = step_by s p false (ap (λ t. may_stand t p.items) stands.is ∙ may)

pub not_taken : (s : CallStanding) (c c1 : Called) (p : Placed ℕ) → IsStanding s c
    → may_stand (standing_by c []) p.items ≡ true → known_by c1.standing ≡ known_with c p.items
    → option_and_then (if_seen user p.items.bytes) (step_of c1.standing.words (byte_of c1.standing.shadow) p.items.given)
    ≡ None → step_called user called s p ≡ None
not_taken s c c1 p stands may known went =
    ap (λ t. step_called user called t p) stands.is ∙ tried_is c c1 s.owed p None may known went

settled_so : (s : CallStanding) (p : Placed ℕ) (o : Obs) (met its : Bool) → all_met user o s.owed ≡ met
    → is_call (called o) p.call (still_owed user o s.owed) ≡ its
    → if_settled s p o ≡ (if met && its then Some o else None)
unfolding if_settled
settled_so s p o met its is it = rw (is, it) refl

pub taken : (s : CallStanding) (c c1 : Called) (p : Placed ℕ) (o : Obs) (met its : Bool) → IsStanding s c
    → may_stand (standing_by c []) p.items ≡ true → known_by c1.standing ≡ known_with c p.items
    → option_and_then (if_seen user p.items.bytes) (step_of c1.standing.words (byte_of c1.standing.shadow) p.items.given)
    ≡ Some o → all_met user o s.owed ≡ met → is_call (called o) p.call (still_owed user o s.owed) ≡ its
    → step_called user called s p ≡ (if met && its then Some o else None)
taken s c c1 p o met its stands may known went is it =
    ap (λ t. step_called user called t p) stands.is
    ∙ (tried_is c c1 s.owed p (Some o) may known went ∙ settled_so (standing_by c s.owed) p o met its is it)

pub not_met : (s : CallStanding) (c c1 : Called) (p : Placed ℕ) (o : Obs) → IsStanding s c
    → may_stand (standing_by c []) p.items ≡ true → known_by c1.standing ≡ known_with c p.items
    → option_and_then (if_seen user p.items.bytes) (step_of c1.standing.words (byte_of c1.standing.shadow) p.items.given)
    ≡ Some o → all_met user o s.owed ≡ false → step_called user called s p ≡ None
not_met s c c1 p o stands may known went is =
    taken s c c1 p o false (is_call (called o) p.call (still_owed user o s.owed)) stands may known went is refl

and_false : (t : Bool) → (t && false) ≡ false
and_false true = refl
and_false false = refl

pub not_called : (s : CallStanding) (c c1 : Called) (p : Placed ℕ) (o : Obs) → IsStanding s c
    → may_stand (standing_by c []) p.items ≡ true → known_by c1.standing ≡ known_with c p.items
    → option_and_then (if_seen user p.items.bytes) (step_of c1.standing.words (byte_of c1.standing.shadow) p.items.given)
    ≡ Some o → is_call (called o) p.call (still_owed user o s.owed) ≡ false → step_called user called s p ≡ None
not_called s c c1 p o stands may known went it =
    taken s c c1 p o (all_met user o s.owed) false stands may known went refl it
    ∙ ap (λ (t : Bool). if t then Some o else None) (and_false (all_met user o s.owed))

-- ---- what is owed meanwhile

pub owes_kept : (s : CallStanding) (c c1 : Called) → IsStanding s c → Keeps c c1
    → Owes (owed_marks c1.head c1.touched) c1.owes s.owed
owes_kept s c c1 stands keeps = rw (keeps.head, keeps.touched, keeps.owes) stands.owes

pub its_call : (calls : Option ℕ) (call : Option CallItems) (marks : ℕ → Bool) (count : ℕ) (owed : List Byte) (t : Bool)
    → Owes marks count owed → is_call_by calls (option_map number_of call) (count == 0) ≡ t
    → is_call calls (option_map call_held call) owed ≡ t
its_call calls call marks count owed t owes is = by_cases calls call ∙ is
  where
    by_cases : (calls : Option ℕ) (call : Option CallItems) → is_call calls (option_map call_held call) owed
        ≡ is_call_by calls (option_map number_of call) (count == 0)
    by_cases None None = refl
    by_cases None (Some call) = refl
    by_cases (Some number) None = refl
    by_cases (Some number) (Some call) =
        ap (λ (x : Bool). (number == call.number) && x) (sym (nil_is count marks owed owes))

-- ---- what stands behind it

seen_step : (bytes : List Byte) (r : Option Obs) (o : Obs) → option_and_then (if_seen user bytes) r ≡ Some o
    → (r ≡ Some o) × (all_there (seen_by o) bytes ≡ true)
seen_step bytes None o is = cc
seen_step bytes (Some q) o is = by_test (all_there (seen_by q) bytes) refl is
  where
    by_test : (t : Bool) → all_there (seen_by q) bytes ≡ t → (if t then Some q else None) ≡ Some o
        → (Some q ≡ Some o) × (all_there (seen_by o) bytes ≡ true)
    by_test true there is = (is, ap (λ (x : Option Obs). there_in x) (sym is) ∙ there)
      where
        there_in : Option Obs → Bool
        there_in None = true
        there_in (Some x) = all_there (seen_by x) bytes
    by_test false there is = cc

known_behind : (s : CallStanding) (c c1 c2 : Called) (p : Placed ℕ) (o : Obs) (now : Known) → IsStanding s c
    → known_by c1.standing ≡ known_with c p.items
    → option_and_then (if_seen user p.items.bytes) (step_of c1.standing.words (byte_of c1.standing.shadow) p.items.given)
    ≡ Some o → c2.standing ≡ c1.standing → now ≡ left_behind (known_by c2.standing) o → now ≡ after user s.known o
known_behind s c c1 c2 p o now stands known went same left =
    let saw = seen_step p.items.bytes (step_of c1.standing.words (byte_of c1.standing.shadow) p.items.given) o went in
    left_as_after (known_by c.standing) (known_by c2.standing) now (words_with c.words p.items.words) p.items.bytes
    p.items.given o
    (ap (λ (k : Known). step_of k.words k.map p.items.given) (sym known) ∙ saw.0) saw.1
    (ap known_by same ∙ known) left
    ∙ ap (λ t. after user t.known o) (sym stands.is)

pub left_standing : (s : CallStanding) (c c1 c2 new : Called) (p : Placed ℕ) (o : Obs) → IsStanding s c → Keeps c c1
    → known_by c1.standing ≡ known_with c p.items
    → option_and_then (if_seen user p.items.bytes) (step_of c1.standing.words (byte_of c1.standing.shadow) p.items.given)
    ≡ Some o → c2.standing ≡ c1.standing
    → ((a : ℕ) → is_marked c2.touched a ≡ (is_marked c1.touched a || is_some (byte_found (left_by o) a)))
    → Owes (owed_marks c2.head c2.touched) c2.owes (owed_behind (left_by o) s.owed) → LeftBy o c2 new
    → IsStanding (standing_behind user s o None) new
left_standing s c c1 c2 new p o stands keeps known went same marks owes left = record {
  is = ap (λ (k : Known). record {
    known = k;
    words = None;
    are_new = true;
    owed = still_owed user o s.owed;
    touched = touching user o s.touched;
  }) (sym (known_behind s c c1 c2 p o (known_by new.standing) stands known went same left.known))
      ∙ (ap (λ (t : Touched). record {
        known = known_by new.standing;
        words = None;
        are_new = true;
        owed = still_owed user o s.owed;
        touched = t;
      }) same_touched
      ∙ (ap (λ ws. record {
        known = known_by new.standing;
        words = ws;
        are_new = true;
        owed = still_owed user o s.owed;
        touched = is_marked new.touched;
      }) (sym left.words)
      ∙ ap (λ (t : Bool). record {
        known = known_by new.standing;
        words = new.words;
        are_new = t;
        owed = still_owed user o s.owed;
        touched = is_marked new.touched;
      }) (sym left.are_new)));
  owes = rw (left.head, left.touched, left.owes) owes;
}
  where
    at : (a : ℕ) → touching user o s.touched a ≡ is_marked new.touched a
    at a = ap (λ t. t.touched a || is_some (byte_found (left_by o) a)) stands.is
        ∙ (ap (λ m. is_marked m a || is_some (byte_found (left_by o) a)) (sym keeps.touched)
        ∙ (sym (marks a) ∙ ap (λ m. is_marked m a) (sym left.touched)))

    same_touched : touching user o s.touched ≡ is_marked new.touched
    same_touched = λ i. λ a. at a i

pub behind : (s : CallStanding) (c c1 c2 new : Called) (p : Placed ℕ) (call : Option CallItems) (o : Obs)
    → IsStanding s c → Keeps c c1 → known_by c1.standing ≡ known_with c p.items
    → option_and_then (if_seen user p.items.bytes) (step_of c1.standing.words (byte_of c1.standing.shadow) p.items.given)
    ≡ Some o → c2.standing ≡ c1.standing
    → ((a : ℕ) → is_marked c2.touched a ≡ (is_marked c1.touched a || is_some (byte_found (left_by o) a)))
    → Owes (owed_marks c2.head c2.touched) c2.owes (owed_behind (left_by o) s.owed) → RisesIn call
    → GoesBehind o call c2 new → IsStanding (standing_behind user s o (option_map call_held call)) new
behind s c c1 c2 new p None o stands keeps known went same marks owes rises goes =
    left_standing s c c1 c2 new p o stands keeps known went same marks owes goes
behind s c c1 c2 new p (Some call) o stands keeps known went same marks owes rises goes =
    subst (λ (k : Known). IsStanding (handed (head_held call.head) k) new)
    (known_behind s c c1 c2 p o (left_behind (known_by c2.standing) o) stands known went same refl) (goes rises)

-- ---- as code goes through it

pub put_refused : (s : CallStanding) (c new : Called) (items : HeadItems) (given : Option ℕ) (call : Option CallItems)
    (e : Stop) (bytes : List Byte) → IsStanding s c → bytes ≡ items.bytes.items
    → IsPut c (record { words = items.words; bytes = bytes; given = None }) new (Err e)
    → StepsTo s (placed_held items given call) new (Err e)
put_refused s c new items given call e bytes stands is put = by_kind e
    (subst (λ (bs : List Byte). IsPut c (record { words = items.words; bytes = bs; given = None }) new (Err e)) is put)
  where
    by_kind : (e : Stop)
        → IsPut c (record { words = items.words; bytes = items.bytes.items; given = None }) new (Err e)
        → StepsTo s (placed_held items given call) new (Err e)
    by_kind stop.Broken may = not_put s c (placed_held items given call) stands may
    by_kind stop.NoMemory may = tt

-- Items were put.
pub record WerePut (c c1 : Called) (p : Placed ℕ) : Type 0 where
  pub may : may_stand (standing_by c []) p.items ≡ true
  pub known : known_by c1.standing ≡ known_with c p.items
  pub keeps : Keeps c c1

pub were_put : (c c1 : Called) (items : HeadItems) (given : Option ℕ) (call : Option CallItems) (bytes : List Byte)
    (u : Unit {0}) → bytes ≡ items.bytes.items
    → IsPut c (record { words = items.words; bytes = bytes; given = None }) c1 (Ok u)
    → WerePut c c1 (placed_held items given call)
were_put c c1 items given call bytes u is put =
    let there = subst (λ (bs : List Byte). IsPut c (record { words = items.words; bytes = bs; given = None }) c1 (Ok u))
    is put in
    record { may = there.0; known = there.1; keeps = there.2 }

pub step_tried : (bytes items : List Byte) (r : Option Obs) (o : Obs) → bytes ≡ items
    → Some o ≡ option_and_then (if_seen user bytes) r → option_and_then (if_seen user items) r ≡ Some o
step_tried bytes items r o is went =
    ap (λ (bs : List Byte). option_and_then (if_seen user bs) r) (sym is) ∙ sym went

pub its_result : (calls calls2 number number2 : Option ℕ) (settled r b : Bool) → calls2 ≡ calls → number2 ≡ number
    → r ≡ is_call_by calls2 number2 settled → r ≡ b → is_call_by calls number settled ≡ b
its_result calls calls2 number number2 settled r b is same result it =
    ap (λ (n : Option ℕ). is_call_by n number settled) (sym is)
    ∙ (ap (λ (n : Option ℕ). is_call_by calls2 n settled) (sym same) ∙ (sym result ∙ it))

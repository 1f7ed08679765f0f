-- The runs of a group, read one after another.
use Rattle.std.proofs.Common.{◌≡◌, ℕ, suc, ◌+◌, ◌-◌, ◌<◌, ◌≤◌, List, [], ◌∷◌, ◌++◌, length, take, drop, get_or, subst}
use Rattle.std.proofs.Common.{arith, refl, ap, sym, ◌∙◌, Ok, Err, IsSome, append_assoc}
use Rattle.std.proofs.lemmas.List.{append-nil, length-take-le, take_at, take_more}
use Rattle.arrayvec.specs.ArrayVec.{ArrayVec}
use Rattle.cx_codec.specs.Place.{Place, Reader, done, read_on}
use Rattle.cx_codec.specs.Reads.{Standing, Reads}
use Rattle.cx_codec.proofs.Composing.{fails, gives}
use Rattle.cx_codec.proofs.Midway.{Midway, begin, step, end}
use Rattle.cx_slices.specs.Bytes.{Byte}
use Rattle.cx_slices.specs.Stretches.{Stretch, bytes_from, bytes_of_stretches}
use Rattle.cx_slicefmt.specs.declared.fault.SliceFault.{SliceFault}
use Rattle.cx_slicefmt.specs.declared.pieces.Run.{Run}
use Rattle.cx_slicefmt.specs.Engine.{pairs_of, run_bytes_at, stretch_of}
use Rattle.cx_slicefmt.specs.Fault.{slice_met}
use Rattle.cx_slicefmt.specs.Reading.{run_at, runs_at}
use Rattle.cx_slicefmt.proofs.WordLoop.{assoc}

-- what is left to read behind these bytes: n runs, from a least address on
unfoldable pub runs_left : List Byte → ℕ → ℕ → Reader (List Byte)
runs_left items n least p = read_on (runs_at 8 n least p) (λ ss. done (items ++ bytes_of_stretches ss))

pub runs_begin : {s : Standing} (count : ℕ) → IsSome s.left → Midway (run_bytes_at count) s (runs_left [] (count - 0) 0) s
unfolding run_bytes_at runs_left
runs_begin {s} count told = let all : count - 0 ≡ count = omega arith in rw all (begin s told (λ p. refl))

abbrev behind_one : List Byte → ℕ → ℕ → Stretch → Reader (List Byte)
behind_one items n at s p =
    read_on (runs_at 8 n (s.va + length s.bytes + 1) p) (λ ss. done (items ++ (bytes_from s.va s.bytes ++ bytes_of_stretches ss)))

one_run : (items : List Byte) (n m least : ℕ) → n ≡ suc m → (p : Place)
    → runs_left items n least p ≡ read_on (run_at 8 least p) (behind_one items m p.at)
unfolding runs_left
one_run items n m least more p = rw more (assoc (run_at 8 least p)
    (λ s q. read_on (runs_at 8 m (s.va + length s.bytes + 1) q) (λ rest. done (s ∷ rest)))
    (λ ss. done (items ++ bytes_of_stretches ss))
    ∙ ap (λ (f : Stretch → Reader (List Byte)). read_on (run_at 8 least p) f)
    (λ k s q. assoc (runs_at 8 m (s.va + length s.bytes + 1) q) (λ rest. done (s ∷ rest))
    (λ ss. done (items ++ bytes_of_stretches ss)) k))

put_run : (items : List Byte) (n at next : ℕ) (s : Stretch) → next ≡ s.va + length s.bytes + 1 → (q : Place)
    → behind_one items n at s q ≡ runs_left (items ++ bytes_from s.va s.bytes) n next q
unfolding runs_left
put_run items n at next s is q = rw is
    (ap (λ (f : List Stretch → Reader (List Byte)). read_on (runs_at 8 n (s.va + length s.bytes + 1) q) f)
    (λ k ss p. done (sym (append_assoc items (bytes_from s.va s.bytes) (bytes_of_stretches ss)) k) p))

pub run_next : {whole : Reader (List Byte)} {old mid new : Standing} {r : Run} (items items' : List Byte)
    (n m least next : ℕ) → Midway whole old (runs_left items n least) mid → n ≡ suc m
    → next ≡ r.va + length (take r.len r.bytes) + 1 → items' ≡ items ++ bytes_from r.va (take r.len r.bytes)
    → Reads slice_met stretch_of (run_at 8 least) mid new (Ok r)
    → Midway whole old (runs_left items' m next) new
run_next {mid = mid} {r = r} items items' n m least next so_far more is put call =
    rw put (step (behind_one items m) so_far (one_run items n m least more)
    (put_run items m mid.hand.at next (stretch_of r) is) call)

pub run_fails : {whole : Reader (List Byte)} {old mid new : Standing} {e e' : SliceFault} (items : List Byte)
    (n least : ℕ) → Midway whole old (runs_left items n least) mid → 1 ≤ n → slice_met e' ≡ slice_met e
    → Reads {X = Run} slice_met stretch_of (run_at 8 least) mid new (Err e)
    → Reads {X = ArrayVec Byte} slice_met pairs_of whole old new (Err e')
run_fails items n least so_far more same call =
    let is : n ≡ suc (n - 1) = omega (arith, more) in
    end so_far (fails (behind_one items (n - 1)) (one_run items n (n - 1) least is) same call)

pub runs_end : {whole : Reader (List Byte)} {old mid : Standing} (v : ArrayVec Byte) (items : List Byte) (n least : ℕ)
    → Midway whole old (runs_left items n least) mid → n ≡ 0 → v.items ≡ items
    → Reads slice_met pairs_of whole old mid (Ok v)
unfolding runs_left
runs_end v items n least so_far all same =
    end so_far (gives so_far.follows.told (λ p. rw (all, append-nil items, same) refl))

-- ---- a field at the front of its buffer

pub field_back : (field rest : List ℕ) (n : ℕ) → length field ≡ n → take n (field ++ drop n rest) ≡ field
field_back field rest n size = take_at field (drop n rest) n size

-- ---- the bytes of a run, one after another

pairs_append : (va : ℕ) (xs ys : List ℕ)
    → bytes_from va (xs ++ ys) ≡ bytes_from va xs ++ bytes_from (va + length xs) ys
pairs_append va [] ys = let none : va + 0 ≡ va = omega arith in rw none refl
pairs_append va (x ∷ xs) ys =
    let next : va + 1 + length xs ≡ va + suc (length xs) = omega arith in
    ap (λ (es : List Byte). (va, x) ∷ es) (subst (λ (n : ℕ). bytes_from (va + 1) (xs ++ ys)
    ≡ bytes_from (va + 1) xs ++ bytes_from n ys) next (pairs_append (va + 1) xs ys))

pub pairs_more : (va : ℕ) (bs : List ℕ) (i : ℕ) → i < length bs
    → bytes_from va (take (i + 1) bs) ≡ bytes_from va (take i bs) ++ (va + i, get_or bs i 0) ∷ []
pairs_more va bs i inside =
    let size : length (take i bs) ≡ i = length-take-le i bs (omega (arith, inside)) in
    ap (bytes_from va) (take_more bs i 0 inside) ∙ pairs_append va (take i bs) (get_or bs i 0 ∷ [])
    ∙ ap (λ (n : ℕ). bytes_from va (take i bs) ++ (va + n, get_or bs i 0) ∷ []) size

pub pair_put : (front items : List Byte) (va : ℕ) (bs : List ℕ) (i : ℕ) → i < length bs
    → items ≡ front ++ bytes_from va (take i bs)
    → items ++ (va + i, get_or bs i 0) ∷ [] ≡ front ++ bytes_from va (take (i + 1) bs)
pair_put front items va bs i inside so_far =
    ap (λ (es : List Byte). es ++ (va + i, get_or bs i 0) ∷ []) so_far
    ∙ append_assoc front (bytes_from va (take i bs)) ((va + i, get_or bs i 0) ∷ [])
    ∙ ap (λ (es : List Byte). front ++ es) (sym (pairs_more va bs i inside))

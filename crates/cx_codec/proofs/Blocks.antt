-- Bytes that go to a sink one after another, and in whole blocks.
use Rattle.std.proofs.Common.{
  ◌≡◌,
  ℕ,
  ◌+◌,
  ◌-◌,
  ◌*◌,
  ◌/◌,
  ◌<◌,
  ◌≤◌,
  List,
  [],
  ◌++◌,
  length,
  take,
  drop,
  arith,
  refl,
  ap,
  sym,
  ◌∙◌,
  Option,
  None,
  Some,
  IsSome,
  subst,
  append_assoc,
  length-append,
  length-drop,
}
use Rattle.std.proofs.lemmas.List.{
  append-nil,
  length-take-le,
  take_all,
  take-append-drop,
  take-append-le,
  drop-append-le,
  drop_all,
  take_at,
  drop_at,
}
use Rattle.std.proofs.Math.Seq.{take-add}
use Rattle.std.specs.Io.KnownBytes.{Appends, Keeps}
use Rattle.cx_codec.specs.Blocks.{whole, part, StandsFor, HasFront}

-- one piece after another
pub appends_both : (a b c : Option (List ℕ)) (xs ys : List ℕ) → Appends a b xs → Appends b c ys → Appends a c (xs ++ ys)
appends_both None b c xs ys first then = tt
appends_both (Some a) None c xs ys first then = absurd first
appends_both (Some a) (Some b) None xs ys first then = absurd then
appends_both (Some a) (Some b) (Some c) xs ys first then = then ∙ ap (λ zs. zs ++ ys) first ∙ append_assoc a xs ys

-- a sink that kept what it held
pub appends_kept : (a b c : Option (List ℕ)) (xs : List ℕ) → Appends a b xs → Keeps b c → Appends a c xs
appends_kept None b c xs first then = tt
appends_kept (Some a) None c xs first then = absurd first
appends_kept (Some a) (Some b) None xs first then = absurd then
appends_kept (Some a) (Some b) (Some c) xs first then = then ∙ first

pub appends_along : (a b : Option (List ℕ)) (xs ys : List ℕ) → Appends a b xs → xs ≡ ys → Appends a b ys
appends_along a b xs ys first same = rw same at first

-- nothing yet
pub appends_none : (a : Option (List ℕ)) → Appends a a []
appends_none None = tt
appends_none (Some a) = sym (append-nil a)

-- n more bytes of the piece
pub appends_more : (a b c : Option (List ℕ)) (bytes : List ℕ) (k n : ℕ) → Appends a b (take k bytes)
    → Appends b c (take n (drop k bytes)) → Appends a c (take (k + n) bytes)
appends_more a b c bytes k n first then = appends_along a c _ _ (appends_both a b c _ _ first then)
    (sym (take-add k n bytes))

-- what is told stays told
pub appends_told : (a b : Option (List ℕ)) (xs : List ℕ) → Appends a b xs → IsSome a → IsSome b
appends_told None b xs first told = cc
appends_told (Some a) None xs first told = absurd first
appends_told (Some a) (Some b) xs first told = refl

-- how many bytes wait
length-part : (put : List ℕ) → length (part put) ≡ length put - 4096 * (length put / 4096)
unfolding part
length-part put = length-drop (4096 * (length put / 4096)) put

whole-part : (put : List ℕ) → whole put ++ part put ≡ put
unfolding whole part
whole-part put = take-append-drop (4096 * (length put / 4096)) put

-- Bytes that fill the block: all that were put are whole blocks then.
pub block_full : (base held held' : Option (List ℕ)) (put waiting bytes : List ℕ) → StandsFor base put waiting held
    → length waiting + length bytes ≡ 4096 → Appends held held' (waiting ++ bytes)
    → StandsFor base (put ++ bytes) [] held'
unfolding whole part
block_full base held held' put waiting bytes before full written =
    let waits : length waiting ≡ length put - 4096 * (length put / 4096) = ap length before.waits ∙ length-part put in
    let sum : length (put ++ bytes) ≡ length put + length bytes = length-append put bytes in
    let blocks : 4096 * (length (put ++ bytes) / 4096) ≡ length (put ++ bytes) = omega arith in
    let parts : whole put ++ (waiting ++ bytes) ≡ put ++ bytes = sym (append_assoc (whole put) waiting bytes)
    ∙ ap (λ xs. xs ++ bytes) (ap (λ xs. whole put ++ xs) before.waits ∙ whole-part put) in
    record {
      waits = rw blocks (sym (drop_all (length (put ++ bytes)) (put ++ bytes) (omega arith)));
      written = rw (blocks, take_all (length (put ++ bytes)) (put ++ bytes) (omega arith))
          (appends_along _ _ _ _ (appends_both _ _ _ _ _ before.written written) parts);
    }

-- bytes that leave room in the block
pub block_kept : (base held : Option (List ℕ)) (put waiting bytes : List ℕ) → StandsFor base put waiting held
    → length waiting + length bytes < 4096 → StandsFor base (put ++ bytes) (waiting ++ bytes) held
unfolding whole part
block_kept base held put waiting bytes before short =
    let waits : length waiting ≡ length put - 4096 * (length put / 4096) = ap length before.waits ∙ length-part put in
    let sum : length (put ++ bytes) ≡ length put + length bytes = length-append put bytes in
    let blocks : 4096 * (length (put ++ bytes) / 4096) ≡ 4096 * (length put / 4096) = omega arith in
    let inside : 4096 * (length put / 4096) ≤ length put = omega arith in
    record {
      waits = rw (blocks, drop-append-le (4096 * (length put / 4096)) put bytes inside)
          (ap (λ xs. xs ++ bytes) before.waits);
      written = rw (blocks, take-append-le (4096 * (length put / 4096)) put bytes inside) before.written;
    }

-- what waited and the front of a piece that went to the sink before it refused
pub block_front : (base held held' : Option (List ℕ)) (put waiting bytes : List ℕ) (rest : List ℕ)
    → StandsFor base put waiting held → HasFront held (waiting ++ bytes) held'
    → HasFront base (put ++ (bytes ++ rest)) held'
unfolding whole part
block_front base held held' put waiting bytes rest before front =
    let done : whole put ++ part put ≡ put = whole-part put in
    let parts : whole put ++ (waiting ++ bytes) ≡ put ++ bytes = sym (append_assoc (whole put) waiting bytes)
    ∙ ap (λ xs. xs ++ bytes) (ap (λ xs. whole put ++ xs) before.waits ∙ done) in
    let regrouped : put ++ (bytes ++ rest) ≡ (whole put ++ (waiting ++ bytes)) ++ rest =
    sym (append_assoc put bytes rest) ∙ ap (λ xs. xs ++ rest) (sym parts) in
    let lengths : length (whole put ++ (waiting ++ bytes)) ≡ length (whole put) + length (waiting ++ bytes) =
    length-append (whole put) (waiting ++ bytes) in
    let all : length ((whole put ++ (waiting ++ bytes)) ++ rest) ≡ length
    (whole put ++ (waiting ++ bytes)) + length rest = length-append (whole put ++ (waiting ++ bytes)) rest in
    let inside : length (whole put) + front.count ≤ length (whole put ++ (waiting ++ bytes)) =
    let h : front.count ≤ length (waiting ++ bytes) = front.within in omega arith in
    rw regrouped (record {
      count = length (whole put) + front.count;
      within = omega arith;
      written = appends_along _ _ _ _ (appends_both _ _ _ _ _ before.written front.written)
          (sym (take-append-le _ _ rest inside
          ∙ take-add (length (whole put)) front.count (whole put ++ (waiting ++ bytes))
          ∙ rw (take_at (whole put) (waiting ++ bytes) _ refl, drop_at (whole put) (waiting ++ bytes) _ refl) refl));
    })

-- A piece goes out block by block: n more of its bytes fill the block,
pub piece_full : (base held held' : Option (List ℕ)) (put waiting waiting' bytes : List ℕ) (k r n : ℕ)
    → StandsFor base (put ++ take k bytes) waiting held → length waiting + r ≡ 4096 → k + r ≤ length bytes → n ≡ r
    → Appends held held' (waiting ++ take n (drop k bytes)) → waiting' ≡ []
    → StandsFor base (put ++ take (k + r) bytes) waiting' held'
piece_full base held held' put waiting waiting' bytes k r n before full inside same written empty =
    let left : length (drop k bytes) ≡ length bytes - k = length-drop k bytes in
    let size : length (take n (drop k bytes)) ≡ r = length-take-le n (drop k bytes) (omega arith) ∙ same in
    let parts : put ++ take (k + r) bytes ≡ (put ++ take k bytes) ++ take n (drop k bytes) =
    ap (λ xs. put ++ xs) (take-add k r bytes) ∙ sym (append_assoc put (take k bytes) (take r (drop k bytes)))
    ∙ ap (λ m. (put ++ take k bytes) ++ take m (drop k bytes)) (sym same) in
    rw (parts, empty) (block_full base held held' (put ++ take k bytes) waiting (take n (drop k bytes)) before
    (omega arith) written)

-- the rest of it waits,
pub piece_kept : (base held : Option (List ℕ)) (put waiting waiting' bytes rest : List ℕ) (k : ℕ)
    → StandsFor base (put ++ take k bytes) waiting held → rest ≡ drop k bytes → waiting' ≡ waiting ++ rest
    → length waiting + length rest < 4096 → StandsFor base (put ++ bytes) waiting' held
piece_kept base held put waiting waiting' bytes rest k before left kept short =
    let parts : put ++ bytes ≡ (put ++ take k bytes) ++ rest = ap (λ xs. put ++ xs) (sym (take-append-drop k bytes))
    ∙ sym (append_assoc put (take k bytes) (drop k bytes)) ∙ ap (λ xs. (put ++ take k bytes) ++ xs) (sym left) in
    rw (parts, kept) (block_kept base held (put ++ take k bytes) waiting rest before short)

-- and a refusal leaves a front of it in the sink.
pub piece_refused : (base held held' : Option (List ℕ)) (put waiting bytes : List ℕ) (k n : ℕ)
    → StandsFor base (put ++ take k bytes) waiting held → HasFront held (waiting ++ take n (drop k bytes)) held'
    → HasFront base (put ++ bytes) held'
piece_refused base held held' put waiting bytes k n before front =
    let split : bytes ≡ take k bytes ++ (take n (drop k bytes) ++ drop n (drop k bytes)) =
    sym (ap (λ xs. take k bytes ++ xs) (take-append-drop n (drop k bytes)) ∙ take-append-drop k bytes) in
    let parts : put ++ bytes ≡ (put ++ take k bytes) ++ (take n (drop k bytes) ++ drop n (drop k bytes)) =
    ap (λ xs. put ++ xs) split ∙ sym (append_assoc put (take k bytes) _) in
    subst (λ text. HasFront base text held') (sym parts)
    (block_front base held held' (put ++ take k bytes) waiting (take n (drop k bytes))
    (drop n (drop k bytes)) before front)

-- all that was put, once what waits has gone too
pub all_written : (base held held' held'' : Option (List ℕ)) (put waiting : List ℕ) → StandsFor base put waiting held
    → Appends held held' waiting → Keeps held' held'' → Appends base held'' put
all_written base held held' held'' put waiting before written kept =
    appends_kept base held' held'' put
    (appends_along _ _ _ _ (appends_both base held held' _ _ before.written written)
    (ap (λ xs. whole put ++ xs) before.waits ∙ whole-part put)) kept

-- a front of it, where the sink refused what waits
pub finish_front : (base held held' : Option (List ℕ)) (put waiting : List ℕ) → StandsFor base put waiting held
    → HasFront held waiting held' → HasFront base put held'
finish_front base held held' put waiting before front =
    let nothing : (text : List ℕ) → text ++ [] ≡ text = append-nil in
    let wide : HasFront held (waiting ++ []) held' = rw nothing front in
    subst (λ text. HasFront base text held') (nothing put) (block_front base held held' put waiting [] [] before wide)

-- all of it, where the sink refused to hand it on
pub finish_whole : (base held held' held'' : Option (List ℕ)) (put waiting : List ℕ) → StandsFor base put waiting held
    → Appends held held' waiting → Keeps held' held'' → HasFront base put held''
finish_whole base held held' held'' put waiting before written kept = record {
  count = length put;
  within = omega arith;
  written = appends_along _ _ _ _ (all_written base held held' held'' put waiting before written kept)
      (sym (take_all (length put) put (omega arith)));
}

-- a front of a text is a front of any longer one
pub front_longer : (base held : Option (List ℕ)) (text more : List ℕ) → HasFront base text held
    → HasFront base (text ++ more) held
front_longer base held text more front = record {
  count = front.count;
  within = omega (arith, front.within, length-append text more);
  written = appends_along base held (take front.count text) (take front.count (text ++ more)) front.written
      (sym (take-append-le front.count text more front.within));
}

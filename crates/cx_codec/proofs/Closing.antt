-- Whether an input ends behind its last field.
use Rattle.std.proofs.Common.{◌≡◌, ℕ, Bool, true, false, cond, eqb, length, refl, ap, ◌∙◌, Result, Ok, Err}
use Rattle.std.proofs.lemmas.Bool.{eqb-true}
use Rattle.cx_codec.specs.declared.fault.BytesFault.{BytesFault}
use Rattle.cx_codec.specs.declared.fault.BytesFault.TheVariants.{Bad, ReadFault}
use Rattle.cx_codec.specs.Fault.{bytes_met}
use Rattle.cx_codec.specs.Fields.{end_at}
use Rattle.cx_codec.specs.Checks.{close_at}
use Rattle.cx_codec.specs.Place.{Place}
use Rattle.cx_codec.specs.Reads.{BadAt, Cut, Ends, Met, Standing, always, place_in}

-- by whether bytes are ahead, and whether they are past the limit
told_end : (p q : Place) (b s t : Bool) → eqb (length p.ahead) 0 ≡ s
    → cond {A = Result (Bool × Place) ℕ} s (Ok (true, p)) (cond t (Err p.limit) (Ok (false, p))) ≡ Ok (b, q)
    → close_at p ≡ cond {A = Result (Unit {0} × Place) ℕ} b (Ok (tt, q)) (Err p.at)
told_end p q b true t none read =
    let same : ◌≡◌ {A = Bool × Place} (true, p) (b, q) = cc in
    let is : true ≡ b = ap (λ (x : Bool × Place). x.0) same in
    let there : p ≡ q = ap (λ (x : Bool × Place). x.1) same in
    rw (none, ← is) (ap (λ (x : Place). Ok (tt, x)) there)
told_end p q b false true some read = cc
told_end p q b false false some read =
    let same : ◌≡◌ {A = Bool × Place} (false, p) (b, q) = cc in
    let is : false ≡ b = ap (λ (x : Bool × Place). x.0) same in
    rw (some, ← is) refl

closes_as : (p q : Place) (b : Bool) → end_at p ≡ Ok (b, q) → close_at p ≡ cond {A = Result (Unit {0} × Place) ℕ} b
    (Ok (tt, q)) (Err p.at)
unfolding end_at
closes_as p q b read = told_end p q b (eqb (length p.ahead) 0) (eqb p.at p.limit) refl read

told_bad : (p : Place) (o : ℕ) (s t : Bool) → eqb (length p.ahead) 0 ≡ s → eqb p.at p.limit ≡ t
    → cond {A = Result (Bool × Place) ℕ} s (Ok (true, p)) (cond t (Err p.limit) (Ok (false, p))) ≡ Err o
    → close_at p ≡ Err o
told_bad p o true t none there read = cc
told_bad p o false true some there read =
    let is : p.limit ≡ o = cc in
    rw some (ap (λ (n : ℕ). Err n) (eqb-true p.at p.limit there ∙ is))
told_bad p o false false some there read = cc

closes_bad : (p : Place) (o : ℕ) → end_at p ≡ Err o → close_at p ≡ Err o
unfolding end_at
closes_bad p o read = told_bad p o (eqb (length p.ahead) 0) (eqb p.at p.limit) refl refl read

-- So a call that asks is followed by an answer: the input ended,
pub closes_here : {E : Type 0} {met : E → Met} {old new : Standing}
    → Ends bytes_met (λ (b : Bool). b) true end_at old new (Ok true)
    → Ends met (always tt) tt close_at old new (Ok (tt {0}))
closes_here {old = old} {new = new} first = record {
  follows = first.follows;
  ends = λ input begins may. closes_as (place_in old input) (place_in new input) true (first.ends input begins may);
}

-- or it didn't,
pub closes_later : {E : Type 0} {met : E → Met} {old new : Standing} {e : E}
    → Ends bytes_met (λ (b : Bool). b) true end_at old new (Ok false)
    → met e ≡ BadAt old.hand.at
    → Ends {X = Unit {0}} met (always tt) tt close_at old new (Err e)
closes_later {old = old} {new = new} first is = record {
  follows = first.follows;
  ends = λ input begins. rw is (λ may. closes_as (place_in old input) (place_in new input) false
      (first.ends input begins may));
}

-- or that wasn't found out.
pub close_fails : {E : Type 0} {met : E → Met} {old new : Standing} (e : BytesFault) (e' : E) → met e' ≡ bytes_met e
    → Ends {X = Bool} bytes_met (λ (b : Bool). b) true end_at old new (Err e)
    → Ends {X = Unit {0}} met (always tt) tt close_at old new (Err e')
close_fails {old = old} {new = new} (Bad o) e' same first = record {
  follows = first.follows;
  ends = λ input begins. rw same (λ may. closes_bad (place_in old input) o (first.ends input begins may));
}
close_fails {old = old} {new = new} ReadFault e' same first = record {
  follows = first.follows;
  ends = λ input begins. rw same (λ cut. closes_as (place_in old input) (place_in new input) true
      (first.ends input begins cut));
}

-- Whether an input ends at a place.
use Rattle.std.proofs.Common.{
  ◌≡◌,
  ◌≢◌,
  ℕ,
  ◌<◌,
  List,
  [],
  length,
  drop,
  arith,
  Ok,
  Err,
  Bool,
  true,
  false,
  unwrap_or,
  length-append,
}
use Rattle.std.proofs.lemmas.Bool.{ne_eqb, eq-eqb}
use Rattle.cx_codec.specs.Place.{Place}
use Rattle.cx_codec.specs.declared.fault.BytesFault.TheVariants.{Bad, ReadFault}
use Rattle.cx_codec.specs.Fault.{bytes_met}
use Rattle.cx_codec.specs.Fields.{end_at}
use Rattle.cx_codec.specs.Reads.{Standing, Ends, place_in}
use Rattle.cx_codec.specs.Window.{Refills}
use Rattle.cx_codec.proofs.Taking.{none_ahead}

end_here : (p : Place) → p.ahead ≡ [] → end_at p ≡ Ok (true, p)
unfolding end_at
end_here p none = rw none

some_ahead : (s : Standing) (input : List ℕ) → 0 < length s.hand.ahead → 0 < length (place_in s input).ahead
some_ahead s input some = omega (arith, length-append s.hand.ahead (drop (length s.given) input))

end_later : (p : Place) → 0 < length p.ahead → p.at ≢ p.limit → end_at p ≡ Ok (false, p)
unfolding end_at
end_later p some within = rw (ne_eqb (length p.ahead) 0 (omega arith), ne_eqb p.at p.limit within)

end_bad : (p : Place) → 0 < length p.ahead → p.at ≡ p.limit → end_at p ≡ Err p.at
unfolding end_at
end_bad p some there = rw (ne_eqb (length p.ahead) 0 (omega arith), there, eq-eqb p.limit p.limit)

-- So a call that asks answers it, once more was read.
pub ends_here : {old new : Standing} → Refills old new → new.hand.ahead ≡ [] → unwrap_or new.left [] ≡ []
    → Ends bytes_met (λ (b : Bool). b) true end_at old new (Ok true)
ends_here {old} {new} refills none ended = record {
  follows = refills.follows;
  ends = λ input begins may. rw (← refills.stays input begins)
      (end_here (place_in new input) (none_ahead new input none (may ended)));
}

pub ends_cut : {old new : Standing} → Refills old new → new.hand.ahead ≡ []
    → Ends {X = Bool} bytes_met (λ (b : Bool). b) true end_at old new (Err ReadFault)
ends_cut {old} {new} refills none = record {
  follows = refills.follows;
  ends = λ input begins cut. rw (← refills.stays input begins)
      (end_here (place_in new input) (none_ahead new input none cut));
}

pub ends_later : {old new : Standing} → Refills old new → 0 < length new.hand.ahead → new.hand.at ≢ new.hand.limit
    → Ends bytes_met (λ (b : Bool). b) true end_at old new (Ok false)
ends_later {old} {new} refills some within = record {
  follows = refills.follows;
  ends = λ input begins may. rw (← refills.stays input begins)
      (end_later (place_in new input) (some_ahead new input some) within);
}

pub ends_at_limit : {old new : Standing} (o : ℕ) → Refills old new → 0 < length new.hand.ahead
    → new.hand.at ≡ new.hand.limit → o ≡ new.hand.at
    → Ends {X = Bool} bytes_met (λ (b : Bool). b) true end_at old new (Err (Bad o))
ends_at_limit {old} {new} o refills some there is = record {
  follows = refills.follows;
  ends = λ input begins may. rw (is, ← refills.stays input begins)
      (end_bad (place_in new input) (some_ahead new input some) there);
}

-- The records of a window are never longer than those of the recording that it was cut from.
use Rattle.std.proofs.Common.{◌≡◌, ℕ, zero, suc, ◌+◌, ◌-◌, ◌/◌, ◌%◌, ◌<◌, ◌≤◌, List, [], ◌∷◌, length, Bool, true}
use Rattle.std.proofs.Common.{false, nat_lt, if◌then◌else◌, refl, inl, inr, arith, length-append}
use Rattle.std.proofs.lemmas.Bool.{cases_lt, cases_Bool, lt-ltb, le-ltb}
use Rattle.cx_codec.specs.Varint.{varint, varint_within}
use Rattle.cx_csr.specs.declared.state.State.{State}
use Rattle.cx_log.specs.Order.{InOrder, at_start, behind_it}
use Rattle.cx_log.specs.declared.order.Behind.{Behind}
use Rattle.cx_log.specs.Recording.{Recorded}
use Rattle.cx_log.specs.Text.{end_text, payload, record_text, records_text}
use Rattle.cx_run.specs.Window.{events_between, is_mark}
use Rattle.cx_run.proofs.Events.{is_between}
use Rattle.cx_run.proofs.WindowOrder.{kept, none_between, out_before, out_behind, out_mark}

-- ---- a smaller number has no longer spelling

within_shorter : (most m n : ℕ) → m ≤ n → length (varint_within most m) ≤ length (varint_within most n)
within_shorter zero m n least = omega arith
within_shorter (suc most) m n least =
    elim (cases_lt m 128) [
      | inl small ↦ rw (lt-ltb m 128 small) (one_at_least (nat_lt n 128))
      | inr large ↦
          let rest : length (varint_within most (m / 128)) ≤ length (varint_within most (n / 128)) =
          within_shorter most (m / 128) (n / 128) (omega arith) in
          rw (le-ltb m 128 large, le-ltb n 128 (omega arith)) (omega arith)
    ]
  where
    one_at_least : (t : Bool) → 1 ≤ length (if t then n ∷ [] else ((128 + n % 128) ∷ varint_within most (n / 128)))
    one_at_least true = omega arith
    one_at_least false = omega arith

varint_shorter : (m n : ℕ) → m ≤ n → length (varint m) ≤ length (varint n)
unfolding varint
varint_shorter m n least = within_shorter 10 m n least

-- ---- records by their lengths

length-end_text : (before end : ℕ) → length (end_text before end) ≡ suc (length (varint (end - before)))
unfolding end_text
length-end_text before end = refl

length-record_text : (before : ℕ) (r : Recorded)
    → length (record_text before r) ≡ suc (length (varint (r.step - before)) + length (payload r.event))
unfolding record_text
length-record_text before r = rw (length-append (varint (r.step - before)) (payload r.event)) refl

record_shorter : (last before : ℕ) (r : Recorded) → before ≤ last
    → length (record_text last r) ≤ length (record_text before r)
record_shorter last before r least =
    let less : length (varint (r.step - last)) ≤ length (varint (r.step - before)) =
    varint_shorter (r.step - last) (r.step - before) (omega arith) in
    omega (arith, length-record_text last r, length-record_text before r)

length-records_text : (before : ℕ) (r : Recorded) (events : List Recorded) (end : ℕ)
    → length (records_text before (r ∷ events) end) ≡ length (record_text before r) + length
    (records_text r.step events end)
length-records_text before r events end = length-append (record_text before r) (records_text r.step events end)

-- ---- along the events: last is the step of the last record that the window keeps, or its first step

abbrev IsShorter : ℕ → ℕ → ℕ → ℕ → List Recorded → ℕ → Type 0
IsShorter a b last before events end = length (records_text last (events_between a b events) b) ≤ length
    (records_text before events end)

-- a record that the window leaves out
skipped : (a b last before : ℕ) (r : Recorded) (events : List Recorded) (end : ℕ)
    → is_between a b r.step r.event ≡ false
    → IsShorter a b last r.step events end → IsShorter a b last before (r ∷ events) end
skipped a b last before r events end out rest = rw out (omega (arith, length-records_text before r events end))

-- one that it keeps
taken : (a b last before : ℕ) (r : Recorded) (events : List Recorded) (end : ℕ) → is_between a b r.step r.event ≡ true
    → before ≤ last → IsShorter a b r.step r.step events end → IsShorter a b last before (r ∷ events) end
taken a b last before r events end is least rest =
    let both : length (records_text last (r ∷ events_between a b events) b) ≤ length
    (records_text before (r ∷ events) end) =
    omega (
      arith,
      length-records_text before r events end,
      length-records_text last r (events_between a b events) b,
      record_shorter last before r least,
    ) in
    rw is both

-- The first record behind the window pays for its End.
ended : (pages a b last : ℕ) (behind : Behind) (r : Recorded) (events : List Recorded) (end : ℕ)
    → InOrder pages (behind_it behind r) events end
    → b ≤ r.step → behind.step ≤ last → IsShorter a b last behind.step (r ∷ events) end
ended pages a b last behind r events end order past least =
    let less : length (varint (b - last)) ≤ length (varint (r.step - behind.step)) =
    varint_shorter (b - last) (r.step - behind.step) (omega arith) in
    rw (out_behind a b r.step r.event past, none_between pages a b (behind_it behind r) events end order past)
    (omega (
      arith,
      length-end_text last b,
      length-records_text behind.step r events end,
      length-record_text behind.step
          r,
    ))

shorter : (pages a b : ℕ) (behind : Behind) (events : List Recorded) (end last : ℕ) → InOrder pages behind events end
    → b ≤ end
    → behind.step ≤ last → a ≤ last → last < b → IsShorter a b last behind.step events end
shorter pages a b behind [] end last order least before from to =
    let less : length (varint (b - last)) ≤ length (varint (end - behind.step)) =
    varint_shorter (b - last) (end - behind.step) (omega arith) in
    omega (arith, length-end_text last b, length-end_text behind.step end)
shorter pages a b behind (r ∷ events) end last order least before from to =
    let rest = λ (last' : ℕ) (above : r.step ≤ last') (from' : a ≤ last') (to' : last' < b). shorter pages a b
    (behind_it behind r) events end last' order.1 least above from' to' in
    elim (cases_lt r.step a) [
      | inl less ↦ skipped a b last behind.step r events end (out_before a b r.step r.event less)
          (rest last (omega arith) from to)
      | inr inside ↦
          elim (cases_lt r.step b) [
            | inl below ↦
                elim (cases_lt a r.step) [
                  | inl above ↦ taken a b last behind.step r events end (kept a b r.step r.event inside below
                      (λ is. above)) before (rest r.step (omega arith) inside below)
                  | inr here ↦
                      elim (cases_Bool (is_mark r.event)) [
                        | inl mark ↦ skipped a b last behind.step r events end
                            (out_mark a b r.step r.event mark (omega arith)) (rest last (omega arith) from to)
                        | inr other ↦ taken a b last behind.step r events end (kept a b r.step r.event inside below
                            (λ is. absurd (cc))) before (rest r.step (omega arith) inside below)
                      ]
                ]
            | inr past ↦ ended pages a b last behind r events end order.1 past before
          ]
    ]

pub window_is_shorter : (pages a b base end : ℕ) (start : State) (events : List Recorded)
    → InOrder pages (at_start base start) events end → base ≤ a → a < b → b ≤ end
    → length (records_text a (events_between a b events) b) ≤ length (records_text base events end)
window_is_shorter pages a b base end start events order from some to =
    shorter pages a b (at_start base start) events end a order to from (omega arith) some

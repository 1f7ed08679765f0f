-- Records that are put, one list behind another.
use Rattle.std.proofs.Common.{◌≡◌, ℕ, List, [], ◌++◌, Option, Some, Result, Ok, Err, sym, ap, subst, ◌∙◌}
use Rattle.std.proofs.Common.{append_assoc}
use Rattle.std.proofs.lemmas.List.Elements.{All-head}
use Rattle.cx_codec.specs.Blocks.{HasFront, StandsFor}
use Rattle.cx_codec.proofs.Blocks.{front_longer}
use Rattle.cx_codec.specs.declared.fault.OutFault.{OutFault}
use Rattle.cx_log.specs.Engine.{Writing}
use Rattle.cx_log.specs.Recording.{Recorded}
use Rattle.cx_log.specs.declared.order.Behind.{Behind}
use Rattle.cx_live.specs.Seen.{transfers_of}
use Rattle.cx_machine.specs.Transfers.{AreTransfers, IsTransfer}
use Rattle.cx_run.specs.SoFar.{behind_all, events_text}
use Rattle.cx_run.proofs.TextSoFar.{behind_on, text_on}
use Rattle.cx_record.specs.Putting.{PutAll, PutsEvents}

pub events_on : {old mid new : Writing} {held held' held'' : Option (List ℕ)} {result : Result (Unit {0}) OutFault}
    (xs ys : List Recorded) → PutAll xs old held mid held' → PutsEvents ys mid held' new held'' result
    → PutsEvents (xs ++ ys) old held new held'' result
events_on {old} {mid} {new} {held} {held'} {held''} {result} xs ys first next = by_result result next
  where
    text : (put : List ℕ) → (put ++ events_text old.behind xs) ++ events_text mid.behind ys
        ≡ put ++ events_text old.behind (xs ++ ys)
    text put = append_assoc put (events_text old.behind xs) (events_text mid.behind ys)
        ∙ ap (λ (t : List ℕ). put ++ t) (ap (λ (b : Behind). events_text old.behind xs ++ events_text b ys) first.behind
        ∙ sym (text_on old.behind xs ys))

    by_result : (r : Result (Unit {0}) OutFault) → PutsEvents ys mid held' new held'' r
        → PutsEvents (xs ++ ys) old held new held'' r
    by_result (Ok u) next = record {
      all = record {
        stands = λ base put stood. subst (λ (t : List ℕ). StandsFor base t new.output.bytes held'') (text put)
            (next.all.stands base (put ++ events_text old.behind xs) (first.stands base put stood));
        behind = next.all.behind ∙ ap (λ (b : Behind). behind_all b ys) first.behind
            ∙ sym (behind_on old.behind xs ys);
        header = next.all.header ∙ first.header;
        live = next.all.live;
      };
      front = tt;
    }
    by_result (Err e) next = record {
      all = tt;
      front = λ base put stood. subst (λ (t : List ℕ). HasFront base t held'') (text put)
          (next.front base (put ++ events_text old.behind xs) (first.stands base put stood));
    }

pub events_cut : {old new : Writing} {held held' : Option (List ℕ)} {e : OutFault} (xs ys : List Recorded)
    → PutsEvents xs old held new held' (Err e) → PutsEvents (xs ++ ys) old held new held' (Err e)
events_cut {old} {held' = held'} xs ys first = record {
  all = tt;
  front = λ base put stood. subst (λ (t : List ℕ). HasFront base t held')
      (append_assoc put (events_text old.behind xs) (events_text (behind_all old.behind xs) ys)
      ∙ ap (λ (t : List ℕ). put ++ t) (sym (text_on old.behind xs ys)))
      (front_longer base held' (put ++ events_text old.behind xs) (events_text (behind_all old.behind xs) ys)
      (first.front base put stood));
}

-- the one transfer to a place
pub one_transfer : (size place : ℕ) (dma : Option ℕ) (bytes : List ℕ) → dma ≡ Some place
    → AreTransfers size (transfers_of dma bytes) → IsTransfer size (record { place = place; bytes = bytes })
one_transfer size place dma bytes is are =
    All-head (IsTransfer size) (record { place = place; bytes = bytes }) []
    (subst (λ (o : Option ℕ). AreTransfers size (transfers_of o bytes)) is are)

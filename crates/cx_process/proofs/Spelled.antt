-- The items of a step can be spelled.
use Rattle.std.proofs.Common.{◌≡◌, ℕ, ◌^◌, ◌≤◌, ◌<◌, true, false, not, List, [], ◌∷◌, length, Option, None, Some, IfSome}
use Rattle.std.proofs.Common.{sym, ap, subst, ◌∙◌, arith}
use Rattle.std.proofs.lemmas.Bool.{ltb-true}
use Rattle.std.specs.List.{AllByRecursion}
use Rattle.cx_observe.proofs.Fitting.{few_items, observation_fits}
use Rattle.cx_observe.specs.Possible.{Possible, is_word}
use Rattle.cx_observe.specs.Seeing.{seen_by, sights}
use Rattle.cx_observe.specs.User.{user}
use Rattle.cx_observe.specs.declared.obs.Obs.{Obs}
use Rattle.cx_slicefmt.specs.Rules.{IsGroup, process}
use Rattle.cx_slices.proofs.Bytes.{BytesRise-sorted}
use Rattle.cx_slices.proofs.Missing.{BytesRise-missing, filter_fit}
use Rattle.cx_slices.proofs.Stretches.{few_stretches, short_stretches}
use Rattle.cx_slices.proofs.Words.{changes_fit}
use Rattle.cx_slices.specs.Bytes.{stands}
use Rattle.cx_slices.specs.Items.{Items, Known, ObservationFits, are_none, items_at}
use Rattle.cx_slices.specs.Stretches.{Stretch, stretches_of}

shorter : (n : ℕ) (ss : List Stretch) → n ≤ 8 → AllByRecursion (λ s. length s.bytes ≤ n) ss
    → AllByRecursion (λ s. length s.bytes ≤ 8) ss
shorter n [] few all = tt
shorter n (s ∷ ss) few all = (omega (arith, few, all.0), shorter n ss few all.1)

word_fits : (given : Option ℕ) → IfSome given (λ word. is_word word ≡ true) → IfSome given (λ word. word < 2 ^ 32)
word_fits None fits = fits
word_fits (Some word) fits = ltb-true word (2 ^ 32) fits

spelled_at : (w : Known) (o : Obs) (index least : ℕ) → length (items_at user w o).words ≡ 32
    → are_none (items_at user w o) ≡ false → Possible o → least ≤ index → index < 2 ^ 48
    → IsGroup process least (record { index = index; items = items_at user w o })
spelled_at w o index least size some possible order most =
    let fits : ObservationFits user is_word o = observation_fits o possible in
    let few : length (items_at user w o).bytes ≤ 8 = few_items w o possible in
    let runs : length (stretches_of (items_at user w o).bytes) ≤ length (items_at user w o).bytes
    = few_stretches (items_at user w o).bytes in
    record {
      from = order;
      below = most;
      head = record {
        count = size;
        words = changes_fit w.words (user.words o) fits.words;
        rises = BytesRise-missing w.map (seen_by o) (BytesRise-sorted (sights o));
        bytes = filter_fit (λ e. not (stands w.map e)) (seen_by o) fits.bytes;
        runs = omega (arith, few, runs);
        most = shorter (length (items_at user w o).bytes) (stretches_of (items_at user w o).bytes) few
            (short_stretches (items_at user w o).bytes);
      };
      given = word_fits o.value fits.given;
      some = some;
    }

pub spelled : (w : Known) (o : Obs) (index least : ℕ) (i : Items ℕ) → i ≡ items_at user w o → length i.words ≡ 32
    → are_none i ≡ false → Possible o → least ≤ index → index < 2 ^ 48
    → IsGroup process least (record { index = index; items = i })
spelled w o index least i is size some possible order most =
    subst (λ (j : Items ℕ). IsGroup process least (record { index = index; items = j })) (sym is)
    (spelled_at w o index least (ap (λ (j : Items ℕ). length j.words) (sym is) ∙ size) (ap are_none (sym is) ∙ some)
    possible order most)

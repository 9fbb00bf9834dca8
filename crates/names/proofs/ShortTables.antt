-- A table that leads to its chain's end from one more type is shortened: the store is among the targets, and the end is that of the table before. What
-- is shortened keeps every number beside the targets, and the target of each record that no chain leads on from.
use Prim.Native.Nat.{ℕ, suc, ◌+◌, ◌*◌, ◌-◌, ◌<◌, ◌≤◌, min}
use native.Mathlib.Decide.{ℕ_discrete, dec_lt}
use native.Mathlib.Omega.{arith}
use mathlib.Core.Path.{◌≡◌, refl, sym, ap, ap₂, ◌∙◌}
use mathlib.Core.Bool.{true, false, true≢false}
use mathlib.Core.List.{List, ◌++◌}
use lib.ListN.{length, get_or, take, drop, set, length-take}
use lib.Seq.{set_out, take-append_seam, drop-append_seam}
use Rattle.std.proofs.lemmas.List.{length-set, take-set-le, drop-set-lt, get_or-take, get_or-drop}
use Rattle.rules.proofs.Chains.{is_some, none-there}
use Rattle.rules.specs.Refusals.{max_records}
use Rattle.names.specs.View.{view_at, entry_of, target_part, context_by, targets_from, codes_from}
use Rattle.names.specs.SameEnds.{leads_on, SameEnds, with_target}
use Rattle.names.proofs.Entries.{entry_in, entry-out}
use Rattle.names.proofs.Targeted.{target-in, target-out, other-entry, own-entry}
use Rattle.names.specs.Ends.{EndsAt, TargetOf, own, at_end, beside_targets, Shortened}

-- a table that is not changed
pub shortened-itself : (sheet table : List ℕ) → Shortened sheet table table
shortened-itself sheet table = record { size = refl; others = refl; targets = λ k. own refl }

-- what a store among the targets leaves as it was
stored :
    {A : Type 0} (f : List ℕ → A) (table : List ℕ) (i place : ℕ) → (i < max_records → f (set table (targets_from + i) place) ≡ f table) →
    f (with_target table i place) ≡ f table
stored f table i place h = go (dec_lt i max_records)
  where
    go : Dec (i < max_records) → f (with_target table i place) ≡ f table
    go (yes l) = ap f (sym (target-in table i place l)) ∙ h l
    go (no l) = ap f (sym (target-out table i place (omega arith)))

pub beside_stored : (table : List ℕ) (i place : ℕ) → beside_targets (with_target table i place) ≡ beside_targets table
unfolding beside_targets
beside_stored table i place =
    ap₂ ◌++◌
    (stored (take targets_from) table i place (λ h. take-set-le targets_from table (targets_from + i) place (omega arith)))
    (stored (drop codes_from) table i place (λ h. drop-set-lt codes_from table (targets_from + i) place (omega arith)))

-- a table that leads to the end from a type that its chain leads on from
module _ (sheet table : List ℕ) (i e : ℕ) (leads : leads_on (context_by table sheet) (view_at sheet i) ≡ true) (ends : EndsAt table sheet i e) where
  target-now : (k : ℕ) → TargetOf sheet table (with_target table i (suc e)) k
  target-now k = go (ℕ_discrete k i) (dec_lt i max_records) (dec_lt (targets_from + i) (length table))
    where
      same : with_target table i (suc e) ≡ table → TargetOf sheet table (with_target table i (suc e)) k
      same q = own (ap (λ t. entry_of target_part t k) q)

      go : Dec (k ≡ i) → Dec (i < max_records) → Dec (targets_from + i < length table) → TargetOf sheet table (with_target table i (suc e)) k
      go (no n) x y = own (other-entry table i (suc e) target_part k (λ h q. n q))
      go (yes q) (no x) y = same (sym (target-out table i (suc e) (omega arith)))
      go (yes q) (yes x) (no y) = same (sym (target-in table i (suc e) x) ∙ set_out table (targets_from + i) (suc e) (omega arith))
      go (yes q) (yes x) (yes y) = rw q (at_end e leads ends (own-entry table i (suc e) x y))

  pub shortened-now : Shortened sheet table (with_target table i (suc e))
  shortened-now =
      record {
        size = stored length table i (suc e) (λ h. length-set table (targets_from + i) (suc e));
        others = beside_stored table i (suc e);
        targets = target-now;
      }

-- A target that a kept table has is read back by the first one: the chains end in the same types.
module _ (sheet a b : List ℕ) (same : SameEnds (context_by a sheet) (context_by b sheet)) where
  ends-before : (t e : ℕ) → EndsAt b sheet t e → EndsAt a sheet t e
  unfolding context_by
  ends-before t e ends =
      record { end = same.ends (view_at sheet t) ∙ ends.end; over = none-there _ (same.leads (view_at sheet e) ∙ ap is_some ends.over) }

  target-through : (c : List ℕ) (k : ℕ) → TargetOf sheet a b k → TargetOf sheet b c k → TargetOf sheet a c k
  target-through c k x (at_end e leads ends q) = at_end e (same.leads (view_at sheet k) ∙ leads) (ends-before k e ends) q
  target-through c k (own p) (own q) = own (q ∙ p)
  target-through c k (at_end e leads ends p) (own q) = at_end e leads ends (q ∙ p)

  pub shortened-through : (c : List ℕ) → Shortened sheet a b → Shortened sheet b c → Shortened sheet a c
  shortened-through c x y =
      record {
        size = y.size ∙ x.size;
        others = y.others ∙ x.others;
        targets = λ k. target-through c k (x.targets k) (y.targets k);
      }

-- what a shortened table keeps
module _ (sheet before after : List ℕ) (short : Shortened sheet before after) where
  seam : length (take targets_from after) ≡ length (take targets_from before)
  seam = length-take targets_from after ∙ ap (min targets_from) short.size ∙ sym (length-take targets_from before)

  front : take targets_from after ≡ take targets_from before
  unfolding beside_targets
  front = sym (take-append_seam (take targets_from after) (drop codes_from after)) ∙ ap₂ take seam short.others ∙ take-append_seam (take targets_from before) (drop codes_from before)

  back : drop codes_from after ≡ drop codes_from before
  unfolding beside_targets
  back = sym (drop-append_seam (take targets_from after) (drop codes_from after)) ∙ ap₂ drop seam short.others ∙ drop-append_seam (take targets_from before) (drop codes_from before)

  number-kept : (p : ℕ) → Dec (p < targets_from) → (targets_from ≤ p → codes_from ≤ p) → get_or after p 0 ≡ get_or before p 0
  number-kept p (yes l) h = sym (get_or-take targets_from after p 0 l) ∙ ap (λ t. get_or t p 0) front ∙ get_or-take targets_from before p 0 l
  number-kept p (no n) h =
      let past : codes_from ≤ p = h (omega arith) in
      let at : codes_from + (p - codes_from) ≡ p = omega arith in
      rw (← at) (sym (get_or-drop codes_from after (p - codes_from) 0) ∙ ap (λ t. get_or t (p - codes_from) 0) back ∙ get_or-drop codes_from before (p - codes_from) 0)

  pub entry-kept : (part i : ℕ) → (part ≡ target_part → ⊥) → entry_of part after i ≡ entry_of part before i
  entry-kept part i n = go (dec_lt i max_records)
    where
      beside : i < max_records → targets_from ≤ part * max_records + i → codes_from ≤ part * max_records + i
      beside l h = let more : 3 < part = omega arith in omega arith

      go : Dec (i < max_records) → entry_of part after i ≡ entry_of part before i
      go (yes l) =
          sym (entry_in part i after l) ∙ number-kept (part * max_records + i) (dec_lt (part * max_records + i) targets_from) (beside l) ∙ entry_in part i before l
      go (no l) = sym (entry-out part i after (omega arith)) ∙ entry-out part i before (omega arith)

  pub target-kept : (k : ℕ) → leads_on (context_by before sheet) (view_at sheet k) ≡ false → entry_of target_part after k ≡ entry_of target_part before k
  target-kept k stays = go (short.targets k)
    where
      go : TargetOf sheet before after k → entry_of target_part after k ≡ entry_of target_part before k
      go (own e) = e
      go (at_end e leads ends at) = absurd (true≢false (sym leads ∙ stays))

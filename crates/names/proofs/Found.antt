-- A walk over the records that the table is about, record by record: whether there is a wildcard, and how many declarations there are.
use Prim.Native.Nat.{ℕ, ◌+◌, ◌≤◌, ◌<◌}
use mathlib.Core.Path.{◌≡◌, refl, ◌∙◌, ap, ap₂}
use mathlib.Core.Bool.{Bool, true, false, ◌||◌, or_assoc, or-false}
use mathlib.Core.List.{List, [], ◌∷◌}
use native.Mathlib.Omega.{arith}
use lib.ListN.{length, drop}
use lib.Dec.{eqb}
use mir.Val.{bool_byte}
use Rattle.rules.specs.Words.{number_if, any_of, select}
use Rattle.rules.specs.Kind
use Rattle.rules.specs.Record.{is, decode, kind_in, record_bytes}
use Rattle.names.specs.Parts.{known, known_count, record_of, totals}
use Rattle.names.proofs.Known.{known-drop, known-end}
use Rattle.names.proofs.Places.{count_next, count_none}

-- a test that passed, as a number
counted_one : (test : Bool) → bool_byte test ≡ number_if test 1
counted_one true = refl
counted_one false = refl

one-at-most : (test : Bool) → bool_byte test ≤ 1
one-at-most true = omega arith
one-at-most false = omega arith

module _ (sheet names : List ℕ) where
  -- what is found among the records before record j
  pub record Counted (j : ℕ) (wildcard : Bool) (found : ℕ) : Type 0 where
    pub few : found ≤ j
    pub wildcards : any_of (is Kind.Wildcard) (known sheet names) ≡ (wildcard || any_of (is Kind.Wildcard) (drop j (known sheet names)))
    pub declarations : length (select (is Kind.Declaration) (known sheet names)) ≡ found + length (select (is Kind.Declaration) (drop j (known sheet names)))

  pub counted_none : Counted 0 false 0
  counted_none = record { few = omega arith; wildcards = refl; declarations = omega arith }

  module _ (j n : ℕ) (hn : n ≡ known_count sheet) (wildcard : Bool) (found : ℕ) (before : Counted j wildcard found) where
    module _ (kind : ℕ) (hk : kind ≡ kind_in (record_bytes sheet j)) (h : j < n) where
      kind-test : (k : ℕ) → eqb kind k ≡ is k (record_of sheet names j)
      unfolding record_of decode
      kind-test k = ap (λ (x : ℕ). eqb x k) hk

      pub counted_next : (one : ℕ) → one ≡ bool_byte (eqb kind 1) → Counted (j + 1) (wildcard || eqb kind 3) (found + one)
      unfolding any_of
      counted_next one e =
          record {
            few = omega (arith, before.few, one-at-most (eqb kind 1));
            wildcards = before.wildcards ∙ rw (known-drop sheet names j (rw (← hn) h), ← kind-test 3, or_assoc);
            declarations = rw (e, counted_one, kind-test 1)
                (count_next (is Kind.Declaration) (known sheet names) j found before.declarations (record_of sheet names j) (drop (j + 1) (known sheet names)) (known-drop sheet names j (rw (← hn) h)));
          }

    -- the two numbers
    pub counted_all : n ≤ j → (w : ℕ) → w ≡ bool_byte wildcard → w ∷ found ∷ [] ≡ totals sheet names
    unfolding any_of totals
    counted_all h w e =
        ap₂ (λ (x y : ℕ). x ∷ y ∷ []) (e ∙ counted_one wildcard ∙ ap (λ b. number_if b 1) all)
        (count_none (is Kind.Declaration) (known sheet names) j found before.declarations (known-end sheet names j (rw (← hn) h)))
      where
        all : wildcard ≡ any_of (is Kind.Wildcard) (known sheet names)
        all = rw (before.wildcards, known-end sheet names j (rw (← hn) h), or-false)

-- What acceptance says of a sheet, row by row: it has whole records and is not too long, and its records have no fault by rows 3 to 8.
use Prim.Native.Nat.{ℕ, suc, ◌%◌, ◌≤◌}
use native.Mathlib.Omega.{arith}
use mathlib.Core.Path.{◌≡◌, refl}
use mathlib.Core.Bool.{Bool, true, false, not}
use mathlib.Core.List.{List, [], ◌∷◌, ◌++◌}
use mathlib.Core.Option.{Option, some, none}
use lib.ListN.{length}
use lib.Dec.{eqb, ltb}
use borrow.Author.Tests.{eqb-true, ltb-false}
use Rattle.std.proofs.lemmas.Bool.{or_parts}
use Rattle.rules.specs.Words.{only_if, same_bytes}
use Rattle.rules.specs.Kind
use Rattle.rules.specs.Record.{Rec, is, record_size, records}
use Rattle.rules.specs.Context.{context_of}
use Rattle.rules.specs.Grammar.{Step, to, fault, State, start}
use Rattle.rules.specs.Refusals.{Fault, max_length, is_wrong_length, is_long_names, is_unknown, own_fault, record_step, first_fault, records_fault, refusal}
use Rattle.rules.specs.Answer.{is_accepted}
use Rattle.rules.proofs.Every.{Every, every-nil, every-cons}

-- a sheet that row 1 does not turn down is not too long
pub short-sheet : (sheet : List ℕ) → is_wrong_length sheet ≡ false → length sheet ≤ max_length
short-sheet sheet h =
    ltb-false max_length (length sheet) (or_parts (not (eqb (length sheet % record_size) 0)) (ltb max_length (length sheet)) h).1

-- a sheet that row 1 does not turn down has whole records
pub whole-sheet : (sheet : List ℕ) → is_wrong_length sheet ≡ false → length sheet % record_size ≡ 0
whole-sheet sheet h = go (eqb (length sheet % record_size) 0) refl
  where
    go : (b : Bool) → eqb (length sheet % record_size) 0 ≡ b → length sheet % record_size ≡ 0
    go true e = eqb-true (length sheet % record_size) 0 e
    go false e = cc (or_parts (not (eqb (length sheet % record_size) 0)) (ltb max_length (length sheet)) h).0

right-length : (sheet names : List ℕ) → is_accepted sheet names ≡ true → is_wrong_length sheet ≡ false
unfolding refusal
right-length sheet names h = go (is_wrong_length sheet) refl
  where
    go : (b : Bool) → is_wrong_length sheet ≡ b → is_wrong_length sheet ≡ false
    go true e = cc (rw (e, refusal, is_accepted) at h)
    go false e = e

-- an accepted sheet is not too long
pub accepted-length : (sheet names : List ℕ) → is_accepted sheet names ≡ true → length sheet ≤ max_length
accepted-length sheet names h = short-sheet sheet (right-length sheet names h)

-- an accepted sheet has whole records
pub accepted-whole : (sheet names : List ℕ) → is_accepted sheet names ≡ true → length sheet % record_size ≡ 0
accepted-whole sheet names h = whole-sheet sheet (right-length sheet names h)

-- an accepted sheet has no fault by rows 3 to 8
pub accepted-clean : (sheet names : List ℕ) → is_accepted sheet names ≡ true → first_fault same_bytes start [] 0 (records sheet names) ≡ none
unfolding refusal records_fault context_of
accepted-clean sheet names h = go (is_wrong_length sheet) (is_long_names names) (first_fault same_bytes start [] 0 (records sheet names)) refl refl refl
  where
    go : (a b : Bool) (f : Option Fault) → is_wrong_length sheet ≡ a → is_long_names names ≡ b →
        first_fault same_bytes start [] 0 (records sheet names) ≡ f → first_fault same_bytes start [] 0 (records sheet names) ≡ none
    go true b f d e g = cc (rw (d, refusal, is_accepted) at h)
    go false true f d e g = cc (rw (d, e, refusal, is_accepted) at h)
    go false false (some x) d e g = cc (rw (d, e, g, refusal, records_fault, is_accepted) at h)
    go false false none d e g = g

module _ {N P : Type 0} where
  -- a record without a fault by rows 3 to 5 has a name that ends within the names text
  pub own-fits : (r : Rec N P) → own_fault r ≡ none → r.fits ≡ true
  unfolding own_fault
  own-fits r h = go (is_unknown r) r.fits refl refl
    where
      go : (u b : Bool) → is_unknown r ≡ u → r.fits ≡ b → r.fits ≡ true
      go u true d e = e
      go true false d e = cc (rw (d, own_fault) at h)
      go false false d e = cc (rw (d, e, own_fault) at h)

  pub step_fits :
      (same : N → N → Bool) (s : State) (names : List N) (r : Rec N P) {t : State} →
      record_step same s names r ≡ to t → r.fits ≡ true
  unfolding record_step
  step_fits same s names r {t} h = go (own_fault r) refl
    where
      go : (o : Option ℕ) → own_fault r ≡ o → r.fits ≡ true
      go (some n) e = cc (rw (e, record_step) at h)
      go none e = own-fits r e

  -- records without a fault by rows 3 to 8 have names that end within the names text
  pub clean-fits :
      (same : N → N → Bool) (s : State) (names : List N) (i : ℕ) (rs : List (Rec N P)) →
      first_fault same s names i rs ≡ none → Every (λ r. r.fits ≡ true) rs
  unfolding first_fault
  clean-fits same s names i [] h = every-nil
  clean-fits same s names i (r ∷ rs) h = go (record_step same s names r) refl (λ t. clean-fits same t _ (suc i) rs)
    where
      go :
          (x : Step State) →
          record_step same s names r ≡ x →
          ((t : State) →
          first_fault same t (only_if (is Kind.Declaration r) (r.name ∷ []) ++ names) (suc i) rs ≡ none →
          Every (λ q. q.fits ≡ true) rs) →
          Every (λ q. q.fits ≡ true) (r ∷ rs)
      go (fault n) e ih = let z : ◌≡◌ {A = ℕ} 0 1 = cc (rw (e, first_fault) at h) in absurd (omega arith)
      go (to t) e ih = every-cons (step_fits same s names r e) (ih t (rw (e, first_fault) at h))

-- the name parts of an accepted sheet end within the names text
pub accepted-fits : (sheet names : List ℕ) → is_accepted sheet names ≡ true → Every (λ r. r.fits ≡ true) (records sheet names)
accepted-fits sheet names h = clean-fits same_bytes start [] 0 (records sheet names) (accepted-clean sheet names h)

-- The number and the index of a refusal. Rows 1 and 2 tell 0, rows 3 to 8 the record that is read, row 6 also the end, and row 9 the first
-- newtype whose chain never ends.
use Prim.Native.Nat.{ℕ, suc, ◌+◌, ◌/◌, ◌≤◌}
use native.Mathlib.Omega.{arith}
use mathlib.Core.Path.{◌≡◌, refl, sym, ap}
use mathlib.Core.Bool.{Bool, true, false, true≢false}
use mathlib.Core.List.{List, [], ◌∷◌, ◌++◌}
use mathlib.Core.Option.{Option, some, none}
use mathlib.Core.Logic.{◌≢◌}
use lib.ListN.{length, length-append}
use Rattle.rules.specs.declared.span.Span.{Span}
use Rattle.rules.specs.Words.{only_if}
use Rattle.rules.specs.Kind
use Rattle.rules.specs.Record.{Rec, is, record_size, records}
use Rattle.rules.specs.Context.{ValidationContext, context_of}
use Rattle.rules.specs.Grammar.{Step, to, fault, State, done, start}
use Rattle.rules.specs.Refusals.{Fault, first_fault, endless_chain, records_fault, is_wrong_length, is_long_names, refusal}
use Rattle.rules.proofs.Records.{length-records}
use Rattle.rules.proofs.Chains.{is_some, never_ends_lem}
use Rattle.rules.specs.Refused.{RefusedAt, by_length, at-record, at-end, EndlessNewtype}
use Rattle.rules.proofs.StepRows.{ByRow, on, by, record-row}
use Rattle.rules.proofs.Rings.{RowNine, all_end, ring, row-nine, NotAfter, row-nine-first}

module _ {A : Type 0} where
  some-not : (o : Option A) → is_some o ≡ true → o ≢ none
  some-not o h e = true≢false (sym (rw e at h))

  not_none : (o : Option A) → o ≢ none → is_some o ≡ true
  not_none none h = absurd (h refl)
  not_none (some x) h = refl

-- no fault in a pass over the records of a sheet of `count`, or one of rows 3 to 8
data Passed (count : ℕ) : Option Fault → Type 0 where
  sound : Passed count none
  found : (f : Fault) → f.number ≤ 8 → RefusedAt count f.number f.index → Passed count (some f)

-- rows 3 to 8, over the records from index i on
pass-row : {N P : Type 0} (count : ℕ) (same : N → N → Bool) (s : State) (names : List N) (i : ℕ) (rs : List (Rec N P))
    → i + length rs ≡ count → Passed count (first_fault same s names i rs)
unfolding first_fault
pass-row count same s names i [] h = go (done s)
  where
    go : (b : Bool) → Passed count (elim b [ true ↦ none | false ↦ some (record { number = 6; index = i }) ])
    go true = sound
    go false = let e : i ≡ count = omega arith in found (record { number = 6; index = i }) (omega arith) (rw e at-end)
pass-row count same s names i (r ∷ rs) h =
    go (record-row same s names r) (λ t. pass-row count same t _ (suc i) rs (omega arith))
  where
    later : State → Option Fault
    later t = first_fault same t (only_if (is Kind.Declaration r) (r.name ∷ []) ++ names) (suc i) rs

    go : {x : Step State} → ByRow 3 8 x → ((t : State) → Passed count (later t))
        → Passed count (elim x [ fault n ↦ some (record { number = n; index = i }) | to t ↦ later t ])
    go (by n p q) passed = found (record { number = n; index = i }) q (at-record n i p (omega arith) (omega arith))
    go (on {s = t}) passed = passed t

-- what is told of a sheet with those records: one of rows 1 to 8, or what row 9 finds
data Told {N P : Type 0} (ctx : ValidationContext N P) (rs : List (Rec N P)) : Option Fault → Type 0 where
  early : (f : Fault) → f.number ≤ 8 → RefusedAt (length rs) f.number f.index → Told ctx rs (some f)
  late : {o : Option Fault} → endless_chain ctx 0 rs ≡ o → RowNine ctx 0 rs o → Told ctx rs o

-- rows 3 to 9
records-told : {N P : Type 0} (ctx : ValidationContext N P) (rs : List (Rec N P)) → Told ctx rs (records_fault ctx rs)
unfolding records_fault
records-told ctx rs = go (pass-row (length rs) ctx.same start [] 0 rs (omega arith))
  where
    go : {o : Option Fault} → Passed (length rs) o → Told ctx rs (elim o [ some f ↦ some f | none ↦ endless_chain ctx 0 rs ])
    go sound = late refl (row-nine ctx 0 rs)
    go (found f l x) = early f l x

module _ (sheet names : List ℕ) where
  abbrev rs : List (Rec (List ℕ) Span)
  rs = records sheet names

  refusal-told : Told (context_of rs) rs (refusal sheet names)
  unfolding refusal
  refusal-told = go (is_wrong_length sheet) (is_long_names names)
    where
      go : (a b : Bool)
          → Told (context_of rs) rs (elim a [
            | true ↦ some (record { number = 1; index = 0 })
            | false ↦ elim b [ true ↦ some (record { number = 2; index = 0 }) | false ↦ records_fault (context_of rs) rs ]
          ])
      go true b = early (record { number = 1; index = 0 }) (omega arith) (by_length 1 (omega arith) (omega arith))
      go false true = early (record { number = 2; index = 0 }) (omega arith) (by_length 2 (omega arith) (omega arith))
      go false false = records-told (context_of rs) rs

  -- a refusal is by one of the nine rows, and its index is as the table has it
  pub refusal-row : {f : Fault} → refusal sheet names ≡ some f → RefusedAt (length sheet / record_size) f.number f.index
  refusal-row e = rw (← (length-records sheet names)) (go (rw e at refusal-told))
    where
      go : {f : Fault} → Told (context_of rs) rs (some f) → RefusedAt (length rs) f.number f.index
      go (early f l x) = x
      go (late e (ring index x)) =
          at-record 9 index (omega arith) (omega arith) (omega (arith, simp length-append at (ap length x.newtype.split)))

  -- row 9 finds each newtype whose chain never ends, or one before it
  ring-found : {index : ℕ} → EndlessNewtype rs index → NotAfter index (endless_chain (context_of rs) 0 rs)
  ring-found x =
      rw x.place at (row-nine-first (context_of rs) x.newtype (not_none _ (x.endless (context_of rs).declarations)))

  -- a refusal by row 9 is at a newtype whose chain never ends,
  pub refusal-ring : {f : Fault} → refusal sheet names ≡ some f → f.number ≡ 9 → EndlessNewtype rs f.index
  refusal-ring e = go (rw e at refusal-told)
    where
      go : {f : Fault} → Told (context_of rs) rs (some f) → f.number ≡ 9 → EndlessNewtype rs f.index
      go (early f l x) h = absurd (omega arith)
      go (late e (ring index x)) h =
          record {
            newtype = x.newtype;
            place = omega arith;
            endless = λ n. some-not _ (never_ends_lem rs x.newtype.inner x.endless n);
          }

  -- at the first one,
  pub refusal-first-ring : {f : Fault} {index : ℕ} → refusal sheet names ≡ some f → f.number ≡ 9 → EndlessNewtype rs index → f.index ≤ index
  refusal-first-ring e h x = go (rw e at refusal-told) h (ring-found x)
    where
      go : {f : Fault} {index : ℕ} → Told (context_of rs) rs (some f) → f.number ≡ 9 → NotAfter index (endless_chain (context_of rs) 0 rs)
          → f.index ≤ index
      go (early f l x) h y = absurd (omega arith)
      go (late e (ring index x)) h y = let same : index ≡ y.fault.index = cc in omega arith

  -- and no sheet with such a newtype is accepted
  pub ring-refusal : {index : ℕ} → EndlessNewtype rs index → refusal sheet names ≢ none
  ring-refusal x e = go (rw e at refusal-told) (ring-found x)
    where
      go : {index : ℕ} → Told (context_of rs) rs none → NotAfter index (endless_chain (context_of rs) 0 rs) → ⊥
      go (late e all_end) y = let z : ◌≡◌ {A = ℕ} 0 1 = cc in omega arith

pub row-positive : {count number index : ℕ} → RefusedAt count number index → 1 ≤ number
row-positive (by_length number p q) = p
row-positive (at-record number index p q l) = omega arith
row-positive at-end = omega arith

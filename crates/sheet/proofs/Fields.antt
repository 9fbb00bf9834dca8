-- What code reads of a record's bytes is the field that the definitions name: each law takes what was read and what the tests said at one
-- `return`.
use Prim.Native.Nat.{ℕ}
use mathlib.Core.Path.{◌≡◌, refl, ◌∙◌, sym, ap}
use mathlib.Core.Bool.{Bool, true, false}
use mathlib.Core.List.{List}
use native.Mathlib.Nat.{add-zero}
use native.Mathlib.Omega.{arith}
use lib.ListN.{get_or}
use lib.Dec.{eqb}
use borrow.Author.Tests.{lt-ltb, eqb-true}
use Rattle.rules.specs.Words.{any_of}
use Rattle.rules.specs.Kind
use Rattle.rules.specs.Record.{number_at, kind_in, sub_in, value_in}

-- a kind that passes a test which kind 31 fails is not kind 31
not-31 : (test : ℕ → Bool) → test 31 ≡ false → (k : ℕ) (same : Bool) → eqb k 31 ≡ same → test k ≡ true → same ≡ false
not-31 test f k false e h = refl
not-31 test f k true e h = sym h ∙ ap test (eqb-true k 31 e) ∙ f

-- the fields that go by the kind
module _ (l : List ℕ) (k : ℕ) (hk : k ≡ kind_in l) where
  pub sub_read : (n r : ℕ) → n ≡ Kind.sub_count k → (n ≡ 0 → ⊥) → r ≡ get_or l 1 0 → r ≡ sub_in l
  unfolding sub_in
  sub_read n r hn h hr =
      let some : n ≡ Kind.sub_count (kind_in l) = cc in
      rw (lt-ltb 0 (Kind.sub_count (kind_in l)) (omega arith)) hr

  pub ordinal-value : (has : Bool) (v : ℕ) → has ≡ Kind.has_ordinal k → has ≡ true → v ≡ number_at 24 8 l → v ≡ value_in l
  unfolding value_in any_of
  ordinal-value has v h t hv =
      let here : Kind.has_ordinal (kind_in l) ≡ true = cc in
      rw (here, not-31 Kind.has_ordinal refl (kind_in l) (eqb (kind_in l) 31) refl here, add-zero) hv

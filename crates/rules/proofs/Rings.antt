-- Row 9 goes through the records in their order, and stops at the first newtype whose chain has not ended after as many steps as there are
-- declarations.
use Prim.Native.Nat.{ℕ, suc, ◌+◌, ◌≤◌}
use native.Mathlib.Nat.{zero-add}
use native.Mathlib.Omega.{arith}
use mathlib.Core.Path.{◌≡◌, refl, sym, ap}
use mathlib.Core.Bool.{Bool, true, false, ◌&&◌, true≢false}
use mathlib.Core.List.{List, [], ◌∷◌, ◌++◌}
use mathlib.Core.Option.{Option, some, none}
use lib.ListN.{length}
use Rattle.std.proofs.lemmas.Bool.{and_parts}
use Rattle.rules.specs.Record.{Rec, is_renaming}
use Rattle.rules.specs.Context.{ValidationContext, never_ends}
use Rattle.rules.specs.Refusals.{Fault, leads_nowhere, endless_chain}
use Rattle.rules.specs.Refused.{NewtypeIn}

module _ {N P : Type 0} where
  abbrev newtype-later : (r : Rec N P) {rs : List (Rec N P)} → NewtypeIn rs → NewtypeIn (r ∷ rs)
  newtype-later r x =
      record {
        before = r ∷ x.before;
        declaration = x.declaration;
        inner = x.inner;
        after = x.after;
        split = ap (λ xs. r ∷ xs) x.split;
        kind = x.kind;
      }

module _ {N P : Type 0} (ctx : ValidationContext N P) where
  -- a newtype at that index, the records being counted from i on, whose chain has not ended after as many steps
  pub record Ring (i : ℕ) (rs : List (Rec N P)) (index : ℕ) : Type 0 where
    pub newtype : NewtypeIn rs
    pub place : i + length newtype.before ≡ index
    pub endless : never_ends ctx newtype.inner ≡ true

  -- nothing is found, or row 9 at such a newtype
  pub data RowNine (i : ℕ) (rs : List (Rec N P)) : Option Fault → Type 0 where
    all_end : RowNine i rs none
    ring : (index : ℕ) → Ring i rs index → RowNine i rs (some (record { number = 9; index = index }))

  ring-here : (i : ℕ) (r : Rec N P) (rs : List (Rec N P)) → (is_renaming r && leads_nowhere ctx rs) ≡ true
      → Ring i (r ∷ rs) i
  ring-here i r [] h = absurd (true≢false (sym (and_parts (is_renaming r) false h).1))
  ring-here i r (t ∷ rs) h =
      let declares = (and_parts (is_renaming r) (never_ends ctx t) h).0 in
      record {
        newtype = record { before = []; declaration = r; inner = t; after = rs; split = refl; kind = declares };
        place = omega arith;
        endless = (and_parts (is_renaming r) (never_ends ctx t) h).1;
      }

  ring-later : (i : ℕ) (r : Rec N P) (rs : List (Rec N P)) {o : Option Fault} → RowNine (suc i) rs o → RowNine i (r ∷ rs) o
  ring-later i r rs all_end = all_end
  ring-later i r rs (ring index x) =
      ring index (record { newtype = newtype-later r x.newtype; place = omega arith; endless = x.endless })

  pub row-nine : (i : ℕ) (rs : List (Rec N P)) → RowNine i rs (endless_chain ctx i rs)
  unfolding endless_chain
  row-nine i [] = all_end
  row-nine i (r ∷ rs) = go (is_renaming r && leads_nowhere ctx rs) refl (ring-later i r rs (row-nine (suc i) rs))
    where
      go : (b : Bool) → (is_renaming r && leads_nowhere ctx rs) ≡ b → RowNine i (r ∷ rs) (endless_chain ctx (suc i) rs)
          → RowNine i (r ∷ rs) (elim b [ true ↦ some (record { number = 9; index = i }) | false ↦ endless_chain ctx (suc i) rs ])
      go true e later = ring i (ring-here i r rs e)
      go false e later = later

-- a fault, at an index that is not greater
pub record NotAfter (index : ℕ) (o : Option Fault) : Type 0 where
  pub fault : Fault
  pub found : o ≡ some fault
  pub bound : fault.index ≤ index

module _ {N P : Type 0} (ctx : ValidationContext N P) where
  -- no such newtype is passed over
  first-ring : (i : ℕ) (before after : List (Rec N P)) (declaration inner : Rec N P)
      → is_renaming declaration ≡ true → never_ends ctx inner ≡ true
      → NotAfter (i + length before) (endless_chain ctx i (before ++ declaration ∷ inner ∷ after))
  unfolding endless_chain
  first-ring i [] after declaration inner d e =
      rw (d, e, endless_chain) (record { fault = record { number = 9; index = i }; found = refl; bound = omega arith })
  first-ring i (r ∷ before) after declaration inner d e =
      go (is_renaming r && leads_nowhere ctx (before ++ declaration ∷ inner ∷ after))
      (first-ring (suc i) before after declaration inner d e)
    where
      go : (b : Bool) {o : Option Fault} → NotAfter (suc i + length before) o
          → NotAfter (i + suc (length before)) (elim b [ true ↦ some (record { number = 9; index = i }) | false ↦ o ])
      go true h = record { fault = record { number = 9; index = i }; found = refl; bound = omega arith }
      go false h = record { fault = h.fault; found = h.found; bound = omega arith }

  pub row-nine-first : {rs : List (Rec N P)} (x : NewtypeIn rs) → never_ends ctx x.inner ≡ true
      → NotAfter (length x.before) (endless_chain ctx 0 rs)
  row-nine-first x e =
      rw (zero-add, ← x.split) at (first-ring 0 x.before x.after x.declaration x.inner x.kind e)

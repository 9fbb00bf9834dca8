-- What a refusal tells: a row and a record. What row 9 tells of: a newtype whose chain of named newtypes never ends.
use Rattle.std.specs.Prelude.{ℕ, ◌≤◌, ◌<◌, ◌≡◌, true, List, ◌∷◌, ◌++◌, ◌≢◌, length}
use Rattle.std.proofs.Math.Option.{none}
use Rattle.rules.specs.Kind
use Rattle.rules.specs.Sub
use Rattle.rules.specs.Record.{Rec, is_of}
use Rattle.rules.specs.Context.{context_of, behind, chain_end}

-- The numbers and indices of refusals, on a sheet of so many records: "0 for 1 and 2, the record count for an early end", which is
-- row 6, and else the index of a record.
pub data RefusedAt (count : ℕ) : ℕ → ℕ → Type 0 where
  by_length : (number : ℕ) → 1 ≤ number → number ≤ 2 → RefusedAt count number 0
  at-record : (number index : ℕ) → 3 ≤ number → number ≤ 9 → index < count → RefusedAt count number index
  at-end : RefusedAt count 6 count

-- a known newtype among records, with the first record of its inner type
pub record NewtypeIn {N P : Type 0} (rs : List (Rec N P)) : Type 0 where
  pub before : List (Rec N P)
  pub declaration : Rec N P
  pub inner : Rec N P
  pub after : List (Rec N P)
  pub split : rs ≡ before ++ declaration ∷ inner ∷ after
  pub kind : is_of Kind.Declaration Sub.Newtype declaration ≡ true

-- a newtype at that index whose chain never ends: after any number of steps there is a type behind
pub record EndlessNewtype {P : Type 0} (rs : List (Rec (List ℕ) P)) (index : ℕ) : Type 0 where
  pub newtype : NewtypeIn rs
  pub place : length newtype.before ≡ index
  pub endless : (n : ℕ) → behind (context_of rs) (chain_end (context_of rs) n newtype.inner) ≢ none

-- The ends of chains of named newtypes, and a table that leads to them at once.
use Rattle.std.specs.Prelude.{ℕ, suc, ◌≡◌, true, List, ◌++◌, length, take, drop}
use Rattle.std.proofs.Math.Option.{none}
use Rattle.rules.specs.Context.{behind, chain_end}
use Rattle.names.specs.View.{view_at, entry_of, target_part, targets_from, codes_from, declarations_of, context_by}
use Rattle.names.specs.SameEnds.{leads_on, SameEnds, Lasting}

-- the chain from the type at record t on ends with the type at record e
pub record EndsAt (table sheet : List ℕ) (t e : ℕ) : Type 0 where
  pub end : chain_end (context_by table sheet) (declarations_of table) (view_at sheet t) ≡ view_at sheet e
  pub over : behind (context_by table sheet) (view_at sheet e) ≡ none

-- The target of record k is its own. For a type that a chain leads on from it may be the place of the type that the chain ends with instead.
pub data TargetOf (sheet before after : List ℕ) (k : ℕ) : Type 0 where
  own : entry_of target_part after k ≡ entry_of target_part before k → TargetOf sheet before after k
  at_end :
      (e : ℕ) → leads_on (context_by before sheet) (view_at sheet k) ≡ true → EndsAt before sheet k e →
      entry_of target_part after k ≡ suc e → TargetOf sheet before after k

-- all numbers of a table but its targets
unfoldable pub beside_targets : List ℕ → List ℕ
beside_targets table = take targets_from table ++ drop codes_from table

-- The table is the one before, but that it may lead from types to the ends of their chains at once. Which of them it shortens is left free.
pub record Shortened (sheet before after : List ℕ) : Type 0 where
  pub size : length after ≡ length before
  pub others : beside_targets after ≡ beside_targets before
  pub targets : (k : ℕ) → TargetOf sheet before after k

-- the table leads to the same ends as before, and a chain that has not ended never does
pub record Kept (sheet before after : List ℕ) : Type 0 where
  pub short : Shortened sheet before after
  pub same : SameEnds (context_by before sheet) (context_by after sheet)
  pub lasts : Lasting (context_by after sheet)

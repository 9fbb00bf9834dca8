-- A name is declared where the table has a place for its declaration.
use Rattle.std.proofs.Common.{◌≡◌, ℕ, zero, suc, List, refl, is_some}
use Rattle.rules.specs.Context.{is_declared}
use Rattle.names.specs.View.{entry_of, declaration_part, index_at, context_by}
use Rattle.names.proofs.Behind.{undeclared, declared-at}

module _ (table sheet : List ℕ) (i : ℕ) where
  pub declared_asked : is_some (index_at (entry_of declaration_part table i)) ≡ is_declared (context_by table sheet) i
  unfolding context_by
  declared_asked = by (entry_of declaration_part table i) refl
    where
      by : (place : ℕ) → entry_of declaration_part table i ≡ place → is_some (index_at place) ≡ is_declared (context_by table sheet) i
      by zero h = rw (is_declared, undeclared table sheet i h)
      by (suc d) h = rw (is_declared, declared-at table sheet i d h)

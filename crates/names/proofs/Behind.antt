-- What the table says of a name's declaration is what the context says, and so is what stands behind a type.
use Rattle.std.proofs.Common.{◌≡◌, ℕ, zero, suc, List, refl, ne_eqb}
use Rattle.std.specs.Prelude.{Some, None}
use Rattle.std.proofs.Math.Option.{some, none}
use Rattle.rules.specs.Kind
use Rattle.rules.specs.Record.{record_bytes, kind_in, sub_in}
use Rattle.rules.specs.Context.{behind}
use Rattle.names.specs.View.{view_at, entry_of, declaration_part, target_part, index_at, at_place, declared_by, context_by}

module _ (table sheet : List ℕ) (i : ℕ) where
  pub undeclared : entry_of declaration_part table i ≡ 0 → declared_by table sheet i ≡ none
  unfolding declared_by
  undeclared h = rw (declared_by, h)

  pub declared-at : (d : ℕ) → entry_of declaration_part table i ≡ suc d →
      declared_by table sheet i ≡ some (record { sub = sub_in (record_bytes sheet d); inner = at_place sheet (index_at (entry_of target_part table i)) })
  unfolding declared_by
  declared-at d h = rw (declared_by, h)

  -- the type behind the record: none where it names nothing, or nothing that is declared
  pub behind_other : (kind_in (record_bytes sheet i) ≡ Kind.Named → ⊥) → behind (context_by table sheet) (view_at sheet i) ≡ none
  unfolding view_at behind
  behind_other other = rw (behind, ne_eqb _ _ other)

  pub behind_undeclared :
      kind_in (record_bytes sheet i) ≡ Kind.Named → index_at (entry_of declaration_part table i) ≡ None → behind (context_by table sheet) (view_at sheet i) ≡ none
  unfolding view_at behind context_by
  behind_undeclared named = by (entry_of declaration_part table i) refl
    where
      by : (place : ℕ) → entry_of declaration_part table i ≡ place → index_at place ≡ None → behind (context_by table sheet) (view_at sheet i) ≡ none
      by zero h absent = rw (behind, named, undeclared h)
      by (suc d) h absent = cc

  pub behind_declared :
      (d : ℕ) → kind_in (record_bytes sheet i) ≡ Kind.Named → index_at (entry_of declaration_part table i) ≡ Some d →
      behind (context_by table sheet) (view_at sheet i) ≡ at_place sheet (index_at (entry_of target_part table i))
  unfolding view_at behind context_by
  behind_declared d named = by (entry_of declaration_part table i) refl
    where
      by :
          (place : ℕ) → entry_of declaration_part table i ≡ place → index_at place ≡ Some d →
          behind (context_by table sheet) (view_at sheet i) ≡ at_place sheet (index_at (entry_of target_part table i))
      by zero h there = cc
      by (suc e) h there = rw (behind, named, declared-at e h)

pub ruleset behind_rules = (behind_other, behind_undeclared, behind_declared)

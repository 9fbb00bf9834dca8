-- What the table says of a name's declaration is what the context says.
use Rattle.std.proofs.Common.{◌≡◌, ℕ, zero, suc, Bool, false, List, eqb, refl}
use Rattle.std.specs.Prelude.{MatchOption}
use Rattle.rules.specs.Record.{record_bytes, sub_in}
use Rattle.rules.specs.Context.{declared_as}
use Rattle.names.specs.View.{entry_of, declaration_part, index_at, context_by}
use Rattle.names.proofs.Behind.{undeclared, declared-at}

module _ (table sheet : List ℕ) (i : ℕ) where
  -- what is said of the sub of the name's declaration, if it has one
  pub declared_says :
      (sub : ℕ) (b : Bool) → MatchOption (index_at (entry_of declaration_part table i)) (b ≡ false) (λ d. b ≡ eqb (sub_in (record_bytes sheet d)) sub) →
      b ≡ declared_as (context_by table sheet) sub i
  unfolding context_by
  declared_says sub b = by (entry_of declaration_part table i) refl
    where
      by :
          (place : ℕ) → entry_of declaration_part table i ≡ place → MatchOption (index_at place) (b ≡ false) (λ d. b ≡ eqb (sub_in (record_bytes sheet d)) sub) →
          b ≡ declared_as (context_by table sheet) sub i
      by zero h says = rw (declared_as, undeclared table sheet i h) says
      by (suc d) h says = rw (declared_as, declared-at table sheet i d h) says

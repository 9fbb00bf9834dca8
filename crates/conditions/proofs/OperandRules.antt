-- An operand has one sub, so of rules 23 to 27 one is left.
use Rattle.std.proofs.Common.{◌≡◌, ℕ, zero, suc, ◌<◌, Bool, false, not, ◌&&◌, List, [], ◌++◌, refl, sym, ◌∙◌, append-nil, arith, eqb, ne_eqb, Option, Some, None}
use Rattle.rules.specs.declared.span.Span.{Span}
use Rattle.rules.specs.Record.{record_bytes, kind_in, sub_in}
use Rattle.rules.specs.Context.{ValidationContext, is_known_const}
use Rattle.rules.specs.Rule.{Found, found_if}
use Rattle.rules.specs.Conditions.{Literals, operand_violations}
use Rattle.diagnostic.specs.declared.violations.Violations.{Violations}
use Rattle.diagnostic.specs.Violations.{Adds}
use Rattle.diagnostic.proofs.Added.{adds_none}
use Rattle.names.specs.View.{view_at}
use Rattle.conditions.specs.declared.operand.Operand.{Operand}
use Rattle.conditions.specs.Taken.{operand_of, operand_found}

-- what is found by the sub is what is found at the operand with that sub, if there is one
module _ (takes : Literals) (known : Bool) (place : Span) where
  found_at : Option Operand → List (Found Span)
  found_at None = []
  found_at (Some o) = operand_found takes known place o

  found_by :
      (sub : ℕ) →
      found_if 23 (eqb sub 0 && not takes.int) place
      ++ found_if 24 (eqb sub 1 && not takes.float) place
      ++ found_if 25 (eqb sub 2 && not takes.string) place
      ++ found_if 26 (eqb sub 3 && not takes.bool) place
      ++ found_if 27 (eqb sub 5 && not known) place
      ≡ found_at (operand_of sub)
  unfolding found_at operand_of operand_found
  found_by zero = simp append-nil
  found_by (suc zero) = simp append-nil
  found_by (suc (suc zero)) = simp append-nil
  found_by (suc (suc (suc zero))) = simp append-nil
  found_by (suc (suc (suc (suc zero)))) = refl
  found_by (suc (suc (suc (suc (suc zero))))) = refl
  found_by (suc (suc (suc (suc (suc (suc sub)))))) =
      let n : ℕ = suc (suc (suc (suc (suc (suc sub))))) in
      let other : (k : ℕ) → k < n → eqb n k ≡ false = λ k less. ne_eqb n k (λ same. omega arith) in
      rw (other 0 (omega arith), other 1 (omega arith), other 2 (omega arith), other 3 (omega arith), other 5 (omega arith))

module _ (ctx : ValidationContext ℕ Span) (takes : Literals) (sheet : List ℕ) (i kind : ℕ) (old : Violations) (hk : kind ≡ kind_in (record_bytes sheet i)) where
  -- no operand, no violation
  pub operand_none : (kind ≡ 60 → ⊥) → Adds old old (operand_violations ctx takes (view_at sheet i))
  unfolding operand_violations view_at
  operand_none n = rw (ne_eqb (kind_in (record_bytes sheet i)) 60 (λ e. n (hk ∙ e))) (adds_none old)

  module _ (e : kind ≡ 60) (sub : ℕ) (hs : sub ≡ sub_in (record_bytes sheet i)) where
    by-sub : operand_violations ctx takes (view_at sheet i) ≡ found_at takes (is_known_const ctx i) (view_at sheet i).place (operand_of sub)
    unfolding operand_violations view_at
    by-sub = rw (sym hk ∙ e, ← hs) (found_by takes (is_known_const ctx i) (view_at sheet i).place sub)

    module _ (found : Option Operand) (same : found ≡ operand_of sub) where
      pub operand_other : found ≡ None → Adds old old (operand_violations ctx takes (view_at sheet i))
      unfolding found_at
      operand_other none = rw (by-sub, ← same, none) (adds_none old)

      pub operand_told :
          (o : Operand) (new : Violations) → found ≡ Some o → Adds old new (operand_found takes (is_known_const ctx i) (view_at sheet i).place o) →
          Adds old new (operand_violations ctx takes (view_at sheet i))
      unfolding found_at
      operand_told o new some told = rw (by-sub, ← same, some) told

-- A chain of newtypes is followed step by step: what is at its end is what is at the end of the chain from the next type on.
use Rattle.std.proofs.Common.{◌≡◌, ℕ, zero, suc, ◌+◌, ◌-◌, ◌<◌, ◌≤◌, List, arith}
use Rattle.std.specs.Prelude.{Option, Some, None}
use Rattle.rules.specs.declared.span.Span.{Span}
use Rattle.rules.specs.Record.{Rec}
use Rattle.rules.specs.Context.{ValidationContext, behind, chain_end}
use Rattle.names.specs.View.{view_at, at_place}

module _ (ctx : ValidationContext ℕ Span) (sheet : List ℕ) (end : Rec ℕ Span) where
  -- the end is that of the chain from record `at` on, with that many steps left
  abbrev pub EndsAt : ℕ → ℕ → Type 0
  EndsAt left at = chain_end ctx left (view_at sheet at) ≡ end

  next-step : (left at next : ℕ) → EndsAt (suc left) at → behind ctx (view_at sheet at) ≡ at_place sheet (Some next) → EndsAt left next
  unfolding chain_end
  next-step left at next ends step = rw (chain_end, step) at ends

  -- one step more, no step more, and no step left
  pub chain_next :
      (n k at next : ℕ) (found : Option ℕ) → EndsAt (n - k) at → k < n → behind ctx (view_at sheet at) ≡ at_place sheet found → found ≡ Some next →
      EndsAt (n - (k + 1)) next
  chain_next n k at next found ends h step there =
      let left : n - k ≡ suc (n - (k + 1)) = omega arith in
      next-step (n - (k + 1)) at next (rw left at ends) (rw there at step)

  pub chain_over : (left at : ℕ) (found : Option ℕ) → EndsAt left at → behind ctx (view_at sheet at) ≡ at_place sheet found → found ≡ None → view_at sheet at ≡ end
  unfolding chain_end
  chain_over zero at found ends step absent = ends
  chain_over (suc left) at found ends step absent = rw (chain_end, step, absent) at ends

  pub chain_out : (n k at : ℕ) → EndsAt (n - k) at → n ≤ k → view_at sheet at ≡ end
  unfolding chain_end
  chain_out n k at ends h =
      let left : n - k ≡ 0 = omega arith in
      rw left at ends

pub ruleset chain_rules = (chain_next, chain_over, chain_out)

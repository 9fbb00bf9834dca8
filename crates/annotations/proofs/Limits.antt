-- Rules 18 and 19: the arguments of a limit are judged one after the other.
use Prim.Native.Nat.{ℕ}
use mathlib.Core.Path.{◌≡◌}
use mathlib.Core.Bool.{Bool, true, false, ◌&&◌}
use mathlib.Core.List.{List, flat_map}
use lib.Dec.{eqb, ltb}
use Rattle.rules.specs.declared.span.Span.{Span}
use Rattle.rules.specs.Record.{Rec, span_in, value_in, record_bytes}
use Rattle.rules.specs.Rule.{Found, found_if}
use Rattle.rules.specs.Types.{is_limit_capped_type}
use Rattle.rules.specs.Annotations.{max_limit, limit_value_violations}
use Rattle.names.specs.View.{view_at, view_of, context_by}
use Rattle.diagnostic.specs.declared.violations.Violations.{Violations}
use Rattle.diagnostic.specs.Violations.{Adds}
use Rattle.diagnostic.proofs.Added.{adds_none, adds_then}
use Rattle.annotations.specs.AnnotationAt.{annotation_at, is_number_at}
use Rattle.annotations.specs.LimitViolations.{limit_violations}

module _ (table sheet : List ℕ) (i a z j : ℕ) (number : Bool) (hn : number ≡ is_number_at table sheet j) where
  -- what rules 18 and 19 find at record j
  abbrev at : List (Found Span)
  at = limit_value_violations (context_by table sheet) (view_of sheet a z) (view_at sheet i).place (view_at sheet j)

  pub limit-passed : (vs : Violations) → number ≡ false → Adds vs vs at
  unfolding is_number_at view_at
  limit-passed vs f = rw (← hn, f) (adds_none vs)

  pub limit-judged :
      (value : ℕ) (capped : Bool) (old mid new : Violations) → number ≡ true →
      value ≡ value_in (record_bytes sheet j) → capped ≡ is_limit_capped_type (view_of sheet a z) →
      Adds old mid (found_if 18 (eqb value 0) (span_in (record_bytes sheet i))) →
      Adds mid new (found_if 19 (ltb max_limit value && capped) (span_in (record_bytes sheet i))) →
      Adds old new at
  unfolding is_number_at view_at
  limit-judged value capped old mid new f hv hc zero exceeds = rw (← hn, f, ← hv, ← hc) (adds_then old mid new _ _ zero exceeds)

-- what is found at the arguments of a limit is found at the limit
pub limit-found :
    (table sheet : List ℕ) (i e a z : ℕ) (ty : List (Rec ℕ Span)) (old new : Violations) → view_of sheet a z ≡ (annotation_at sheet i e).rest →
    Adds old new (flat_map (limit_value_violations (context_by table sheet) ty (view_at sheet i).place) (view_of sheet a z)) →
    Adds old new (limit_violations (context_by table sheet) ty (annotation_at sheet i e))
unfolding annotation_at
limit-found table sheet i e a z ty old new same found = rw same at found

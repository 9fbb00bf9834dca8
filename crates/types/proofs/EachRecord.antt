-- What is found at each record of a range is found at the first, and then at those after it.
use Rattle.std.proofs.Common.{ℕ, ◌+◌, ◌≤◌, ◌<◌, List, ap}
use mathlib.Core.List.{flat_map}
use Rattle.rules.specs.declared.span.Span.{Span}
use Rattle.rules.specs.Record.{Rec}
use Rattle.rules.specs.Rule.{Found}
use Rattle.diagnostic.specs.declared.violations.Violations.{Violations}
use Rattle.diagnostic.specs.Violations.{Adds}
use Rattle.names.specs.View.{view_at, view_of}
use Rattle.types.proofs.Left.{Leaves, leaves_rest, leaves_none}
use Rattle.types.proofs.Views.{view-cons, view-none}

module _ (f : Rec ℕ Span → List (Found Span)) (sheet : List ℕ) (i e : ℕ) (old now : Violations) (all : List (Found Span)) (left : Leaves old now all (flat_map f (view_of sheet i e))) where
  pub leaves_next : (new : Violations) → i < e → Adds now new (f (view_at sheet i)) → Leaves old new all (flat_map f (view_of sheet (i + 1) e))
  unfolding flat_map
  leaves_next new h here =
      leaves_rest old now new all _ (f (view_at sheet i)) (flat_map f (view_of sheet (i + 1) e)) left (ap (flat_map f) (view-cons sheet i e h)) here

  pub leaves_end : e ≤ i → Adds old now all
  unfolding flat_map
  leaves_end h = leaves_none old now all _ left (ap (flat_map f) (view-none sheet i e h))

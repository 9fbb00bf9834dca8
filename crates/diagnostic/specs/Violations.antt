-- The violations of a check so far, as the state that adding one changes.
use Rattle.std.specs.Prelude.{◌≡◌, List}
use Rattle.rules.specs.declared.span.Span.{Span}
use Rattle.rules.specs.Rule.{Found}
use Rattle.diagnostic.specs.declared.violations.Violations.{Violations}
use Rattle.diagnostic.specs.Push.{State, push_found}

-- the bytes of the list, and the counts
abbrev pub state_of : Violations → State
state_of vs = (vs.list.now, vs.counts)

-- what the rules found is added, each as it is told, and the list stays the one that was lent
pub record Adds (old new : Violations) (found : List (Found Span)) : Type 0 where
  pub reference : new.list.ghost_name ≡ old.list.ghost_name
  pub state : state_of new ≡ push_found found (state_of old)

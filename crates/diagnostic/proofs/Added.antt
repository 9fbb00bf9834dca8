-- Violations that are added part by part are added as one list.
use Rattle.std.proofs.Common.{List, [], ◌++◌, refl, sym, ◌∙◌}
use Rattle.rules.specs.declared.span.Span.{Span}
use Rattle.rules.specs.Rule.{Found}
use Rattle.diagnostic.specs.declared.violations.Violations.{Violations}
use Rattle.diagnostic.specs.Violations.{state_of, Adds}
use Rattle.diagnostic.proofs.FoundPushes.{found_none, found-then}

-- nothing is added
pub adds_none : (vs : Violations) → Adds vs vs []
adds_none vs = record { reference = refl; state = sym (found_none (state_of vs)) }

-- two parts, one after the other
pub adds_then : (old mid new : Violations) (xs ys : List (Found Span)) → Adds old mid xs → Adds mid new ys → Adds old new (xs ++ ys)
adds_then old mid new xs ys e f =
    record { reference = f.reference ∙ e.reference; state = found-then xs ys (state_of old) (state_of mid) (state_of new) e.state f.state }

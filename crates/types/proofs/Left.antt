-- Where violations are added one after another, what is left to add makes up what is added in all.
use Rattle.std.proofs.Common.{◌≡◌, List, [], ◌++◌, refl, sym, ◌∙◌}
use Rattle.rules.specs.declared.span.Span.{Span}
use Rattle.rules.specs.Rule.{Found}
use Rattle.diagnostic.specs.declared.violations.Violations.{Violations}
use Rattle.diagnostic.specs.Push.{push_found}
use Rattle.diagnostic.specs.Violations.{state_of, Adds}
use Rattle.diagnostic.proofs.FoundPushes.{found-append, found_none}

-- adding what is left makes of the violations so far what adding all makes of the first ones
pub record Leaves (old now : Violations) (all left : List (Found Span)) : Type 0 where
  pub reference : now.list.ghost_name ≡ old.list.ghost_name
  pub state : push_found left (state_of now) ≡ push_found all (state_of old)

pub leaves_all : (old : Violations) (all : List (Found Span)) → Leaves old old all all
leaves_all old all = record { reference = refl; state = refl }

pub leaves_rest :
    (old now new : Violations) (all left here rest : List (Found Span)) → Leaves old now all left → left ≡ here ++ rest → Adds now new here → Leaves old new all rest
leaves_rest old now new all left here rest leaves split adds =
    record {
      reference = adds.reference ∙ leaves.reference;
      state = rw adds.state (sym (found-append here rest (state_of now)) ∙ rw split at leaves.state);
    }

pub leaves_none : (old now : Violations) (all left : List (Found Span)) → Leaves old now all left → left ≡ [] → Adds old now all
leaves_none old now all left leaves over =
    record { reference = leaves.reference; state = sym (found_none (state_of now)) ∙ rw over at leaves.state }

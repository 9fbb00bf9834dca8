-- The rules of a type that names something.
use Rattle.std.specs.Prelude.{not, List, ◌++◌}
use Rattle.rules.specs.Sub
use Rattle.rules.specs.Record.{Rec}
use Rattle.rules.specs.Context.{ValidationContext, declared_as, is_known_type}
use Rattle.rules.specs.Rule.{Found, found_if}

-- rules 6 and 7
unfoldable pub named_found : {N P : Type 0} → ValidationContext N P → Rec N P → List (Found P)
named_found ctx t = found_if 6 (declared_as ctx Sub.Config t.name) t.place ++ found_if 7 (not (is_known_type ctx t.name)) t.place

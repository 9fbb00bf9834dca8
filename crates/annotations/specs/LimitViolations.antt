-- What the rules find at the values of a limit.
use mathlib.Core.List.{List, flat_map}
use Rattle.rules.specs.Words.{Item}
use Rattle.rules.specs.Record.{Rec}
use Rattle.rules.specs.Context.{ValidationContext}
use Rattle.rules.specs.Rule.{Found}
use Rattle.rules.specs.Annotations.{limit_value_violations}

module _ {N P : Type 0} (ctx : ValidationContext N P) where
  -- rules 18 and 19 of a limit at a field of that type (`check_limit_value`)
  abbrev pub limit_violations : List (Rec N P) → Item (Rec N P) → List (Found P)
  limit_violations ty a = flat_map (limit_value_violations ctx ty a.head.place) a.rest

-- What is found at an ordinal, whatever the rules are.
use Rattle.std.specs.Prelude.{Bool, not, ◌&&◌, List, [], ◌∷◌, ◌++◌, ltb}
use Rattle.rules.specs.Rule.{Found}
use Rattle.rules.specs.RuleNumber.{rule_number}
use Rattle.rules.specs.Record.{Rec}
use Rattle.rules.specs.Bodies.{Scheme, found_all}
use Rattle.lists.specs.declared.ordinal.OrdinalRules.{OrdinalRules}

-- the scheme of those rules; none of them is of a name
abbrev pub scheme_of : OrdinalRules → Scheme
scheme_of rules = record {
  greatest = rules.greatest;
  over = rule_number rules.too_large ∷ [];
  tombstoned = rule_number rules.reused ∷ [];
  repeated = rule_number rules.duplicate ∷ [];
  renamed = [];
}

-- what is found at a field, a variant or a bit, by whether its ordinal is tombstoned, whether it is met already, and whether its name is
unfoldable pub member_found : {N P : Type 0} → Scheme → Bool → Bool → Bool → Rec N P → List (Found P)
member_found s tombstoned met renamed r =
    found_all s.over (ltb s.greatest r.value) r.ordinal_place
    ++ found_all s.tombstoned tombstoned r.ordinal_place
    ++ found_all s.repeated (not tombstoned && met) r.ordinal_place
    ++ found_all s.renamed renamed r.place

-- The kind decides which rules are asked.
use Rattle.std.proofs.Common.{rules}
use Rattle.types.proofs.OwnKinds.{adds_named, adds_keyed, adds_geometric, adds_bits, adds_fixed}
use Rattle.types.proofs.own.check_own_type.Goals as goal

pub returns-in-33 : goal.returns-in-33
returns-in-33 c = search (rules, adds_named)

pub returns-in-48 : goal.returns-in-48
returns-in-48 c = search (rules, adds_bits)

pub returns-in-38 : goal.returns-in-38
returns-in-38 c = search (rules, adds_fixed)

pub returns-in-39-to-40 : goal.returns-in-39-to-40
returns-in-39-to-40 c = adds_keyed _ _ _ _ _ _ _ c.kind.ensures (search rules) (search rules) c.check_map_key_type.ensures

pub returns-in-42-to-47 : goal.returns-in-42-to-47
returns-in-42-to-47 c = adds_geometric _ _ _ _ _ _ _ c.kind.ensures (search rules) (search rules) c.check_element.ensures

-- No rule is against an ordinal that passes the test; of another the rules are asked one after the other.
use Rattle.lists.proofs.Ordinals.{ordinal_fine, ordinal_found}
use Rattle.lists.proofs.ordinal.OrdinalRules.check.Goals as goal

pub returns-then-fine : goal.returns-then-fine
returns-then-fine c = ordinal_fine _ _ _ _ c.args.self _ _ c.args.item.read c.if-fine.true

pub returns : goal.returns
returns c =
    ordinal_found _ _ _ _ c.args.self _ _ _ _ _ c.args.item.read c.tell_ordinal_if.ensures c.tell_ordinal_if-2.ensures c.tell_ordinal_if-3.ensures

-- The parts of the array that are asked have the ordinals of the tombstones and those of the items.
use Rattle.std.proofs.Common.{◌-◌, ◌∙◌, ap, arith}
use Rattle.rules.specs.Words.{member}
use Rattle.lists.proofs.Marks.{latest-front, latest-part}
use Rattle.lists.proofs.numbers.Numbers.tell.Goals as goal

pub returns-clause-tombstoned : goal.returns-clause-tombstoned
returns-clause-tombstoned c =
    let numbers = c.args.self.now in
    c.contains.ensures ∙ ap (member c.args.number) (latest-front numbers.ordinals numbers.tombstones (omega arith))

pub returns-clause-met : goal.returns-clause-met
returns-clause-met c =
    let numbers = c.args.self.now in
    c.contains-2.ensures ∙ ap (member c.args.number) (latest-part numbers.ordinals numbers.tombstones (numbers.len - numbers.tombstones) (omega arith))

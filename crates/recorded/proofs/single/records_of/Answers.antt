-- `recorded::single::records_of` meets its contract: `filter` asks for the kind and the sub of each record by its index.
use Rattle.std.proofs.Common.{◌∙◌, arith, rules, tests, length, ◌/◌}
use Rattle.std.proofs.lemmas.Iterator.{YieldsList-from_range}
use Rattle.std.proofs.lemmas.Iterator.Consumers.{YieldsList-from_filter, count_from_yields_List}
use Rattle.rules.specs.Record.{record_size}
use Rattle.recorded.proofs.Counts.{test, counted}
use Rattle.recorded.proofs.single.records_of.Goals as goal

pub returns : goal.returns
returns c =
    let sheet = c.args.sheet.now in
    count_from_yields_List _ _ c.count.ensures.ran
    (YieldsList-from_filter _ (test c.args.kind c.args.sub sheet)
    (YieldsList-from_range 0 (length sheet / record_size) (length sheet / record_size) (search rules) (omega arith))
    c.filter.ensures.closure
    (λ x b q k. search (rules, tests)))
    ∙ counted c.args.kind c.args.sub sheet

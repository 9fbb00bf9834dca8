-- One record more is a wildcard or not, and a declaration or not.
use Rattle.std.proofs.Common.{rules, [], ◌++◌, take, ap, ◌∙◌}
use Rattle.names.proofs.Found.{counted_next, counted_all}
use Rattle.names.proofs.parts.fill_totals.Goals as goal
use Rattle.names.specs.View.{totals_from}

pub overflow_add-found : goal.overflow_add-found
overflow_add-found c =
    let few = (c.loop-j.invariant []).few in
    search rules

pub loop-j-preserved : goal.loop-j-preserved
loop-j-preserved c = λ names. counted_next _ _ _ _ c.count-n.ensures.0 _ _ (c.loop-j.invariant names) _ c.kind-kind.ensures c.loop-j-test.true _ c.from-found.ensures

pub returns : goal.returns
returns c = λ names.
    c.set_totals.ensures ∙ ap (take totals_from c.args.table.now ++◌) (counted_all _ _ _ _ c.count-n.ensures.0 _ _ (c.loop-j.invariant names) c.loop-j-test.false _ c.from.ensures)

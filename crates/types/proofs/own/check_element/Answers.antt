-- Rule 10 is asked of the first record, and told there.
use Rattle.std.proofs.Common.{sym, ◌∙◌}
use Rattle.diagnostic.proofs.Added.{adds_none}
use Rattle.names.specs.View.{view_at}
use Rattle.types.proofs.Views.{view_first, view_empty}
use Rattle.types.proofs.own.check_element.Goals as goal

pub returns-in_default : goal.returns-in_default
returns-in_default c = rw (view_empty c.args.context.sheet.now c.args.rest (sym c.first.ensures ∙ c.in_default.is)) (adds_none _)

pub returns : goal.returns
unfolding view_at
returns c =
    let first = view_first c.args.context.sheet.now c.args.rest c.in-Some.element (sym c.first.ensures ∙ c.in-Some.is) in
    rw (first, ← (rw first at c.is_valid_geometric_element_type-valid.ensures)) c.tell_if.ensures

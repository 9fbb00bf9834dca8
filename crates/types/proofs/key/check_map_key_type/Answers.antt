-- Rule 8 is asked of the first record, and told there.
use Rattle.std.proofs.Common.{sym, ◌∙◌}
use Rattle.diagnostic.proofs.Added.{adds_none}
use Rattle.names.specs.View.{view_at}
use Rattle.types.proofs.Views.{view_first, view_empty}
use Rattle.types.proofs.key.check_map_key_type.Goals as goal

pub returns-in_default : goal.returns-in_default
returns-in_default c = rw (view_empty c.args.context.sheet.now c.args.rest (sym c.first.ensures ∙ c.in_default.is)) (adds_none _)

pub returns : goal.returns
unfolding view_at
returns c =
    rw (view_first c.args.context.sheet.now c.args.rest c.in-Some.key (sym c.first.ensures ∙ c.in-Some.is), ← c.is_invalid_map_key-bad.ensures) c.tell_if.ensures

-- The table says whether the name is declared and whether it is imported, and whether there is a wildcard.
use Rattle.names.specs.View.{context_by}
use Rattle.names.specs.Known.{numbers_of}
use Rattle.types.proofs.Known.{declared_asked}
use Rattle.types.proofs.own.is_known_type.Goals as goal

pub returns : goal.returns
unfolding context_by
returns c =
    rw (c.is_some.ensures, c.declaration.ensures.record, declared_asked (numbers_of c.args.context) c.args.context.sheet.now c.args.i, c.is_imported.ensures, c.has_wildcard.ensures)

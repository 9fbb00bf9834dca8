-- A type without parts is told by its kind alone.
use Rattle.std.proofs.Common.{rules, ◌+◌, arith, sym, ◌∙◌}
use Rattle.diagnostic.proofs.Added.{adds_none}
use Rattle.names.specs.View.{view_at, view_of}
use Rattle.names.specs.Known.{context_in}
use Rattle.types.proofs.Views.{view_first, view_empty}
use Rattle.types.proofs.Walk.{type-none, type-plain, adds_named_alone}
use Rattle.types.proofs.field_type.check_field_type.Goals as goal

pub returns-in_default : goal.returns-in_default
returns-in_default c =
    rw (view_empty c.args.context.sheet.now c.args.ty (sym c.first.ensures ∙ c.in_default.is), type-none (context_in c.args.context)) (adds_none _)

pub returns-in-33 : goal.returns-in-33
returns-in-33 c = search (rules, adds_named_alone)

pub returns-in-30-to-32 : goal.returns-in-30-to-32
unfolding view_at
returns-in-30-to-32 c =
    let sheet = c.args.context.sheet.now in
    let i = c.in-Some.first in
    let rs = view_of sheet (i + 1) c.args.ty.end in
    rw (view_first sheet c.args.ty i (sym c.first.ensures ∙ c.in-Some.is), type-plain (context_in c.args.context) (view_at sheet i) rs (omega arith) (omega arith))
    (adds_none _)

-- The item's end is found from the type's end on, and the type's from the end of its optionals on.
use Rattle.std.proofs.Common.{not, refl}
use Rattle.rules.specs.Words.{within}
use Rattle.rules.specs.Kind
use Rattle.bodies.proofs.FieldEnds.{parts_end}
use Rattle.bodies.proofs.field.field_parts.Goals as goal

pub returns : goal.returns
returns c =
    let annotations = c.run_end-type_start.ensures.run (within Kind.Annotation Kind.Argument) (λ kind r h. h) in
    let optionals = rw (c.from.ensures.within annotations.1, c.from.ensures.context) at c.optionals_end-behind.ensures in
    let types = rw (c.from-2.ensures.within optionals.1, c.from-2.ensures.context) at c.type_end-type_end.ensures in
    let run = c.run_end-end.ensures.run (λ kind. not (within Kind.Field Kind.Invariant kind)) (λ kind r h. h) in
    let parts = parts_end _ _ _ _ _ _ _ c.args.rest.ordered annotations optionals types (rw (c.from-3.ensures.within types.1, c.from-3.ensures.context) at run) in
    record { start = refl; end = parts.0; parts = parts.1 }

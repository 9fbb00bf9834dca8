-- The three parts are added in the definition's order; two of them find nothing where there is one annotation at most.
use Rattle.names.specs.Known.{context_in}
use Rattle.annotations.proofs.Single.{single-combined, single-duplicates}
use Rattle.annotations.proofs.Fields.{field_found}
use Rattle.annotations.proofs.field.check_field_annotations.Goals as goal
use Rattle.annotations.proofs.field.check_field_annotations.Goals.{then-several, else-several}

pub returns-then-several-2 : goal.returns-then-several-2
returns-then-several-2 c =
    field_found c.args.context c.args.annotations c.args.ty _ c.if-several.violations c.check_each.new.violations _
    (elim c.if-several.branch [
      | then-several w ↦ rw w.violations-is w.check_combined.ensures
      | else-several w ↦ rw w.violations-is (single-combined (context_in c.args.context) _ _ _ _ (c.has_second-several.ensures w.if-several.false))
    ])
    c.check_each.ensures c.check_duplicate_annotations.ensures

pub returns-else-several-2 : goal.returns-else-several-2
returns-else-several-2 c =
    let none = c.has_second-several.ensures c.if-several-2.false in
    field_found c.args.context c.args.annotations c.args.ty _ c.if-several.violations c.check_each.new.violations _
    (elim c.if-several.branch [
      | then-several w ↦ rw w.violations-is w.check_combined.ensures
      | else-several w ↦ rw w.violations-is (single-combined (context_in c.args.context) _ _ _ _ none)
    ])
    c.check_each.ensures (single-duplicates (context_in c.args.context) _ _ _ _ none)

-- The two stores are the record's parts, of which as many are due as there are.
use Rattle.std.proofs.Common.{rules, ◌∙◌}
use Rattle.grammar.proofs.PartSteps.{taken-some, taken-deep, taken-parts, taken-sound}
use Rattle.grammar.proofs.due.Due.take.Goals as goal

pub overflow_sub-top : goal.overflow_sub-top
overflow_sub-top c = taken-some _ _ _ _ _ c.self.view_is c.requires

pub returns-then-depth-gt-MAX_DEPTH : goal.returns-then-depth-gt-MAX_DEPTH
returns-then-depth-gt-MAX_DEPTH c = taken-deep _ _ _ _ _ c.self.view_is c.requires c.if-depth-gt-MAX_DEPTH.true

pub invariant_of-self : goal.invariant_of-self
invariant_of-self c =
    taken-sound _ _ _ _ _ c.self.view_is c.requires _ c.self.invariant (search rules) c.if-depth-gt-MAX_DEPTH.false (c.from.ensures ∙ c.part_count.ensures)

pub returns : goal.returns
returns c =
    taken-parts _ _ _ _ _ c.self.view_is c.requires _ c.self.invariant (search rules) c.if-depth-gt-MAX_DEPTH.false (c.from.ensures ∙ c.part_count.ensures)

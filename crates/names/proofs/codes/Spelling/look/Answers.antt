-- What is kept of a block is what the look at it tells.
use Rattle.std.proofs.Common.{sym, ◌∙◌}
use Rattle.names.proofs.Blocks.{looked, judged_more}
use Rattle.names.proofs.codes.Spelling.look.Goals as goal

pub invariant_of-self : goal.invariant_of-self
invariant_of-self c =
    let kept = c.self.invariant in
    (kept.0, judged_more _ _ _ _ _ (rw (← c.self.view_is) at c.requires.0) c.min-end.ensures c.continue_by-good.ensures _ kept.1)

pub returns-clause-told : goal.returns-clause-told
returns-clause-told c = λ good.
    rw (← c.self.view_is)
    (sym (looked _ _ _ _ _ (rw (← c.self.view_is) at c.requires.0) c.min-end.ensures c.continue_by-good.ensures) ∙ good)

-- A sheet that is too long is left to row 1; in another the body stands behind the head, if there is one.
use Rattle.std.proofs.Common.{not, nat_eq, arith}
use Rattle.rules.specs.Kind
use Rattle.bodies.proofs.Declarations.{no-head, at_head, too_long, not_long}
use Rattle.bodies.proofs.declaration.check_declaration.Goals as goal

pub returns-then-context-gt-MAX_LEN : goal.returns-then-context-gt-MAX_LEN
returns-then-context-gt-MAX_LEN c = too_long _ _ _ c.if-context-gt-MAX_LEN.true

pub returns-then-records-head : goal.returns-then-records-head
returns-then-records-head c =
    let run = c.run_end-head.ensures.run (λ kind. not (nat_eq kind Kind.Head)) (λ kind r e. e) in
    not_long _ _ _ _ c.if-context-gt-MAX_LEN.false (rw (← c.records.ensures) (no-head _ _ _ _ run.0 _ c.if-records-head.true))

pub returns : goal.returns
returns c =
    let run = c.run_end-head.ensures.run (λ kind. not (nat_eq kind Kind.Head)) (λ kind r e. e) in
    not_long _ _ _ _ c.if-context-gt-MAX_LEN.false
    (rw (← c.records.ensures)
    (at_head _ _ _ _ run.0 _ _ _ c.if-records-head.false c.sub-sub.ensures (rw (c.behind.ensures.within (omega arith), c.behind.ensures.context) at c.check_body.ensures)))

-- As many types of one part are passed as there is room for, and the part that is due is deeper by their number.
use Rattle.std.proofs.Common.{◌∙◌, arith, rules}
use Rattle.refusals.proofs.PlainRuns.{plain_nest, ran_nests}
use Rattle.refusals.proofs.runs.nests_end.Goals as goal

pub returns : goal.returns
returns c =
    let end = c.plain_end-end.ensures in
    let room = c.room-room.ensures in
    ran_nests _ _ _ _ _ end.inside.0 (omega (arith, c.min-limit.ensures, end.inside.1)) c.records.ensures (λ j a b. let p = end.plain j a b in search (rules, plain_nest)) _ _
    (λ e. c.if-room-eq0.false (room ∙ e)) (omega (arith, c.min-limit.ensures, end.inside.1, room)) c.deepen.ensures

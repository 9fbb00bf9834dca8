-- An ordinal that has no mark was not met, and of the others it is told.
use Rattle.std.proofs.Common.{refl, arith}
use Rattle.lists.proofs.Passing.{met-room, met-asks, known-out, kept-gone, kept-before, unmet-gone, unmet-before}
use Rattle.lists.proofs.Kept.{kept-known}
use Rattle.lists.proofs.numbers.Numbers.meet.Goals as goal

pub returns-then-ordinal-gt-MAX_ORDINAL-clause-known : goal.returns-then-ordinal-gt-MAX_ORDINAL-clause-known
returns-then-ordinal-gt-MAX_ORDINAL-clause-known c =
    known-out _ _ _ _ _ _ _ _ _ _ _ c.requires.item.0 c.requires.item.1 c.requires.read c.requires.known (omega arith)

pub tell-told-requires : goal.tell-told-requires
tell-told-requires c =
    let asks = met-asks _ _ _ _ _ _ _ _ _ _ _ c.requires.item.0 c.requires.item.1 c.requires.read c.requires.known in
    record { ordered = asks.2; room = omega (arith, asks.3) }

pub keep-requires : goal.keep-requires
keep-requires c = met-room _ _ _ _ _ _ _ _ _ _ _ c.requires.item.0 c.requires.item.1 c.requires.read c.requires.known

pub returns-then-self-mark-clause-tombstoned : goal.returns-then-self-mark-clause-tombstoned
returns-then-self-mark-clause-tombstoned c =
    let asks = met-asks _ _ _ _ _ _ _ _ _ _ _ c.requires.item.0 c.requires.item.1 c.requires.read c.requires.known in
    kept-gone _ _ _ _ _ _ _ _ _ _ _ asks (omega arith) refl _ c.tell-told.ensures.tombstoned

pub returns-then-self-mark-clause-met : goal.returns-then-self-mark-clause-met
returns-then-self-mark-clause-met c =
    let asks = met-asks _ _ _ _ _ _ _ _ _ _ _ c.requires.item.0 c.requires.item.1 c.requires.read c.requires.known in
    kept-before _ _ _ _ _ _ _ _ _ _ _ asks (omega arith) refl _ c.tell-told.ensures.met

pub returns-then-self-mark-clause-known : goal.returns-then-self-mark-clause-known
returns-then-self-mark-clause-known c =
    kept-known c.args.list.now _ _ _ _ _ c.requires.item c.requires.read c.requires.known (omega arith) refl
    c.keep.ensures.ordinals c.keep.ensures.marks c.keep.ensures.tombstones c.keep.ensures.len

pub keep-requires-2 : goal.keep-requires-2
keep-requires-2 c = met-room _ _ _ _ _ _ _ _ _ _ _ c.requires.item.0 c.requires.item.1 c.requires.read c.requires.known

pub returns-clause-tombstoned : goal.returns-clause-tombstoned
returns-clause-tombstoned c =
    unmet-gone _ _ _ _ _ _ _ _ _ _ _ c.requires.item.0 c.requires.item.1 c.requires.read c.requires.known _ (omega arith) refl _ c.mark.ensures.0
    c.if-self-mark.false

pub returns-clause-met : goal.returns-clause-met
returns-clause-met c =
    unmet-before _ _ _ _ _ _ _ _ _ _ _ c.requires.item.0 c.requires.item.1 c.requires.read c.requires.known _ (omega arith) refl _ c.mark.ensures.0
    c.if-self-mark.false

pub returns-clause-known : goal.returns-clause-known
returns-clause-known c =
    kept-known c.args.list.now _ _ _ _ _ c.requires.item c.requires.read c.requires.known (omega arith) refl
    c.keep-2.ensures.ordinals c.keep-2.ensures.marks c.keep-2.ensures.tombstones c.keep-2.ensures.len

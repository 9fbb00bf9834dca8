-- A newtype whose chain ends is passed, and behind the newtypes no record is one.
use Rattle.std.proofs.Common.{rules, arith}
use Rattle.names.proofs.ChainEnds.{kept_itself, kept_through}
use Rattle.refusals.proofs.ChainWalk.{endless_starts, endless_found, endless_again, past_end, kept_nowhere}
use Rattle.refusals.proofs.chain.endless.Goals as goal

pub loop-i-init : goal.loop-i-init
loop-i-init c = search (rules, kept_itself, endless_starts)

pub returns-then-is_endless : goal.returns-then-is_endless
returns-then-is_endless c =
    let inv = c.loop-i.invariant in
    let found = c.is_endless.ensures in
    let here = kept_nowhere _ _ _ c.loop-i.i c.records-n.result _ inv.0 found.told in
    record {
      told = rw c.refused_at.ensures (endless_found _ _ _ _ _ _ inv.1 here (omega arith) c.if-is_endless.true);
      kept = kept_through _ _ _ _ inv.0 found.kept;
    }

pub loop-i-preserved : goal.loop-i-preserved
loop-i-preserved c =
    let inv = c.loop-i.invariant in
    let found = c.is_endless.ensures in
    let here = kept_nowhere _ _ _ c.loop-i.i c.records-n.result _ inv.0 found.told in
    (kept_through _ _ _ _ inv.0 found.kept, endless_again _ _ _ _ _ _ inv.1 here (omega arith) c.if-is_endless.false)

pub returns : goal.returns
returns c =
    let inv = c.loop-i.invariant in
    record { told = past_end _ _ _ _ c.requires.1 _ _ c.records-n.ensures inv.1 c.loop-i-test.false; kept = inv.0 }

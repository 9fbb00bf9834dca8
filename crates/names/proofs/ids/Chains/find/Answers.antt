-- The record at a place of the chain has a name, and one with another name is passed.
use Rattle.names.proofs.Leads.{walk-named, walk-on}
use Rattle.names.proofs.ids.Chains.find.Goals as goal

pub name_at-requires : goal.name_at-requires
name_at-requires c = walk-named _ _ _ _ c.loop-place.invariant.2 c.loop-place-test.true

pub loop-place-preserved : goal.loop-place-preserved
loop-place-preserved c =
    let own = c.args.named.now in
    walk-on _ _ _ own.known_record c.requires.0 _ c.loop-place.invariant.2 c.loop-place-test.true _ _ _ c.same_bytes.ensures c.name_at.ensures own.name_is _ _ c.requires.3
    c.if-same_bytes.false _ c.from-place-in-loop-place.ensures

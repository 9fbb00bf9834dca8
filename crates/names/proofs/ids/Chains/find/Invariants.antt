-- Every first record before this one with its name stands before the place.
use Rattle.names.proofs.Leads.{Walk}
use Rattle.names.proofs.ids.Chains.find.Given as goal

abbrev pub invariant-loop-place : goal.invariant-loop-place
invariant-loop-place l = Walk l.named.sheet.now l.named.names.now l.named.index l.place

abbrev pub decreases-loop-place : goal.decreases-loop-place
decreases-loop-place l = l.place

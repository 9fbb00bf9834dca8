-- Each of the four was asked, by the run of the range.
use Rattle.std.proofs.Common.{rules}
use Rattle.std.proofs.iter.runs.Sources.{ranges}
use Rattle.names.specs.View.{view_at}
use Rattle.bodies.specs.Runs.{AllIn}
use Rattle.bodies.proofs.runs.are_optionals.Goals as goal

pub returns : goal.returns
unfolding AllIn view_at
returns c = search (rules, ranges)

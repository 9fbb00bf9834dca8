-- The end of the chain from `at` on, with the steps that are left, is the end of the chain from `i` on.
use Rattle.std.proofs.Common.{◌-◌, ◌<◌}
use Rattle.rules.specs.Context.{chain_end}
use Rattle.names.specs.View.{view_at, declarations_of}
use Rattle.names.specs.Known.{numbers_of, context_in}
use Rattle.names.proofs.Chain.{EndsAt}
use Rattle.names.proofs.context.ValidationContext.chain_end.Given as goal

abbrev pub invariant-loop : goal.invariant-loop
invariant-loop l =
    let ctx = context_in l.self in
    let sheet = l.self.sheet.now in
    let n = declarations_of (numbers_of l.self) in
    EndsAt ctx sheet (chain_end ctx n (view_at sheet l.i)) (n - l.counter) l.at × (l.i < 65535 → l.at < 65535)

-- A record whose name is not compared, or was met before, adds nothing to the chains, and another stands at the head of its bucket's.
use Rattle.std.proofs.Common.{arith, sym, ◌∙◌}
use Rattle.rules.specs.Asked.{is_compared}
use Rattle.names.proofs.Leads.{bucket-of, added_none, added_old, added_new}
use Rattle.names.proofs.Numbers.{kind-tested}
use Rattle.names.proofs.ids.Chains.next_id.Goals as goal

pub returns-then-not-is_compared : goal.returns-then-not-is_compared
returns-then-not-is_compared c =
    let own = c.args.named.now in
    added_none _ _ _ _ _ own.known_record c.requires (kind-tested _ _ _ own.is_named _ own.kind_is is_compared _ c.is_compared.ensures ∙ c.if-not-is_compared.true)

pub find-requires : goal.find-requires
find-requires c =
    let own = c.args.named.now in (
      kind-tested _ _ _ own.is_named _ own.kind_is is_compared _ c.is_compared.ensures ∙ c.if-not-is_compared.false,
      c.bucket-bucket.ensures.0,
      c.bucket-bucket.ensures.1,
      c.requires,
    )

pub returns-in-Some : goal.returns-in-Some
returns-in-Some c =
    let found = c.in-Some.ensures in
    (found.0, omega (arith, found.1), added_old _ _ _ _ _ c.args.named.now.known_record c.requires _ found.0 found.1)

pub returns : goal.returns
returns c =
    let own = c.args.named.now in
    let new = c.in_default.ensures in (
      sym new,
      omega arith,
      added_new _ _ _ _ _ own.known_record c.requires _
          (kind-tested _ _ _ own.is_named _ own.kind_is is_compared _ c.is_compared.ensures ∙ c.if-not-is_compared.false)
          (bucket-of _ _ _ _ _ own.name_is c.bucket-bucket.ensures.0) c.bucket-bucket.ensures.1 new,
    )

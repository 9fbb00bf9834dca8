-- A variant's ordinal is met and judged, and then its parts; another record changes nothing.
use Rattle.std.proofs.Common.{rules, of_calls, ap, ◌∙◌, arith}
use Rattle.names.specs.Known.{context_in}
use Rattle.lists.proofs.ReadKinds.{kind-not}
use Rattle.bodies.proofs.VariantList.{left_first, left_none, left_other, left_variant}
use Rattle.bodies.proofs.variants.check_variants.Goals as goal

pub loop-i-init : goal.loop-i-init
loop-i-init g c = record {
  callable = c.requires;
  known = record { list = c.collect.ensures ∙ c.variants-seen.ensures; least = omega arith; most = c.args.body.ordered };
  found = λ parts adds. left_first c.args.body _ _ _;
}

pub loop-i-preserved-then-kind-ne-VARIANT : goal.loop-i-preserved-then-kind-ne-VARIANT
loop-i-preserved-then-kind-ne-VARIANT g c = record {
  callable = c.loop-i.invariant.callable;
  known = record { list = c.loop-i.invariant.known.list; least = omega (arith, c.loop-i.invariant.known.least); most = omega arith };
  found =
      λ parts adds.
      left_other _ _ _ _ _ _ (c.loop-i.invariant.found parts adds) _ c.loop-i.invariant.known c.loop-i-test.true
      (rw c.loop-i.invariant.known.list (λ inside. kind-not _ _ _ _ c.kind.ensures c.if-kind-ne-VARIANT.true));
}

pub loop-i-preserved-in_default : goal.loop-i-preserved-in_default
loop-i-preserved-in_default g c = record {
  callable = c.loop-i.invariant.callable;
  known = record { list = c.meet.ensures.list ∙ c.loop-i.invariant.known.list; least = omega (arith, c.loop-i.invariant.known.least); most = omega arith };
  found = λ parts adds. left_other _ _ _ _ _ _ (c.loop-i.invariant.found parts adds) _ c.loop-i.invariant.known c.loop-i-test.true c.in_default.ensures.met;
}

pub loop-i-preserved : goal.loop-i-preserved
loop-i-preserved g c = record {
  callable = search (rules, of_calls);
  known = record { list = c.meet.ensures.list ∙ c.loop-i.invariant.known.list; least = omega (arith, c.loop-i.invariant.known.least); most = omega arith };
  found =
      λ parts adds.
      left_variant _ _ _ _ _ _ (c.loop-i.invariant.found parts adds) _ c.loop-i.invariant.known c.loop-i-test.true c.in-Some.variant
      c.behind.result _ _ c.in-Some.ensures.met.0 c.in-Some.ensures.met.1 (c.behind.ensures.within (omega arith)) c.behind.ensures.context c.check.ensures
      (adds _ _ _ _ _ _ (ap context_in c.behind.ensures.context) c.check_parts.ensures);
}

pub returns : goal.returns
returns g c = λ parts adds. left_none c.args.body _ _ _ _ _ (c.loop-i.invariant.found parts adds) c.loop-i-test.false

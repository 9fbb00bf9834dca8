-- What is known before record `i`, and what is still to add.
use Rattle.names.specs.Known.{context_in}
use Rattle.types.proofs.Left.{Leaves}
use Rattle.bodies.specs.VariantParts.{AddsParts}
use Rattle.bodies.proofs.VariantList.{VariantsKnown, variants_found, variants_left}
use Rattle.bodies.proofs.variants.check_variants.Given as goal

abbrev pub invariant-loop-i : goal.invariant-loop-i
invariant-loop-i g l = record {
  callable : goal.F-IsAlwaysCallable g l.check_parts;
  known : VariantsKnown l.body l.seen l.i;
  found :
      (parts : _) → AddsParts (goal.F-step g) (context_in l.body.context) parts →
      Leaves l.initial.violations l.violations (variants_found l.body l.rules parts) (variants_left l.body l.rules parts l.i);
}

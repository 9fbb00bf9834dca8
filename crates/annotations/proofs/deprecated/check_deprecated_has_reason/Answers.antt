-- One of the two rules tells, by whether there is a reason.
use Rattle.diagnostic.proofs.Added.{adds_then}
use Rattle.names.specs.View.{view_at}
use Rattle.annotations.specs.AnnotationAt.{annotation_at}
use Rattle.annotations.proofs.deprecated.check_deprecated_has_reason.Goals as goal

pub returns : goal.returns
unfolding annotation_at view_at
returns c = rw (← c.has_reason-reason.ensures) (adds_then _ _ _ _ _ c.tell_if.ensures c.tell_if-2.ensures)

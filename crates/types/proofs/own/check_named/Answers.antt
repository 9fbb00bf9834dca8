-- Rules 6 and 7 are told one after the other, each by its own test.
use Rattle.diagnostic.proofs.Added.{adds_then}
use Rattle.names.specs.View.{view_at}
use Rattle.types.specs.Own.{named_found}
use Rattle.types.proofs.own.check_named.Goals as goal

pub returns : goal.returns
unfolding view_at named_found
returns c = adds_then _ _ _ _ _ (rw c.is_declared_as-config.ensures at c.tell_if.ensures) (rw c.is_known_type-known.ensures at c.tell_if-2.ensures)

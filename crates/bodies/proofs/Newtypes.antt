-- Rules 37 and 38: what the name of a newtype's inner type is declared as.
use Rattle.std.proofs.Common.{◌≡◌, ℕ, Bool, ◌&&◌, List, eqb, Some, None}
use Rattle.rules.specs.declared.span.Span.{Span}
use Rattle.rules.specs.declared.range.RecordRange.{RecordRange}
use Rattle.rules.specs.Range.{first_of}
use Rattle.rules.specs.Kind
use Rattle.rules.specs.Sub
use Rattle.rules.specs.Record.{record_bytes, kind_in, span_in}
use Rattle.rules.specs.Context.{ValidationContext, declared_as}
use Rattle.rules.specs.Bodies.{newtype_violations}
use Rattle.rules.specs.Rule.{found_if}
use Rattle.names.specs.View.{view_at, view_of}
use Rattle.diagnostic.specs.declared.violations.Violations.{Violations}
use Rattle.diagnostic.specs.Violations.{Adds}
use Rattle.diagnostic.proofs.Added.{adds_none, adds_then}
use Rattle.types.proofs.Views.{view_first, view_empty}

module _ (ctx : ValidationContext ℕ Span) (sheet : List ℕ) (body : RecordRange) (old : Violations) where
  pub newtype_none : first_of body ≡ None → Adds old old (newtype_violations ctx (view_of sheet body.start body.end))
  unfolding newtype_violations
  newtype_none none = rw (view_empty sheet body none) (adds_none old)

  pub newtype_added :
      (a kind : ℕ) (newtype config : Bool) (mid new : Violations) → first_of body ≡ Some a → kind ≡ kind_in (record_bytes sheet a) →
      newtype ≡ declared_as ctx Sub.Newtype a → config ≡ declared_as ctx Sub.Config a →
      Adds old mid (found_if 37 (eqb kind Kind.Named && newtype) (span_in (record_bytes sheet a))) →
      Adds mid new (found_if 38 (eqb kind Kind.Named && config) (span_in (record_bytes sheet a))) →
      Adds old new (newtype_violations ctx (view_of sheet body.start body.end))
  unfolding view_at newtype_violations
  newtype_added a kind newtype config mid new some hk hn hc first second =
      rw (view_first sheet body a some) (adds_then old mid new _ _ (rw (hk, hn) at first) (rw (hk, hc) at second))

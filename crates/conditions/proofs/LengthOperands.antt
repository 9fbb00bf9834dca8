-- At len, rule 30 comes before the operands, which are those of a U64, by whatever name its literals go.
use Rattle.std.proofs.Common.{◌≡◌, ℕ, Bool, not, List}
use mathlib.Core.List.{flat_map}
use Rattle.rules.specs.declared.span.Span.{Span}
use Rattle.rules.specs.Record.{Rec, record_bytes, span_in}
use Rattle.rules.specs.Context.{ValidationContext}
use Rattle.rules.specs.Rule.{found_if}
use Rattle.rules.specs.Conditions.{Literals, length_literals, operands_of, operand_violations}
use Rattle.diagnostic.specs.declared.violations.Violations.{Violations}
use Rattle.diagnostic.specs.Violations.{Adds}
use Rattle.diagnostic.proofs.Added.{adds_then}
use Rattle.names.specs.View.{view_at}
use Rattle.conditions.specs.Parts.{length_violations}

pub length_added :
    (ctx : ValidationContext ℕ Span) (collection : Bool) (sheet : List ℕ) (i : ℕ) (rs : List (Rec ℕ Span)) (takes : Literals) (old mid new : Violations) →
    Adds old mid (found_if 30 (not collection) (span_in (record_bytes sheet i))) → takes ≡ length_literals → Adds mid new (flat_map (operand_violations ctx takes) (operands_of (view_at sheet i) rs)) →
    Adds old new (length_violations ctx collection (record { head = view_at sheet i; rest = rs }))
unfolding length_violations view_at
length_added ctx collection sheet i rs takes old mid new told same operands = adds_then old mid new _ _ told (rw same at operands)

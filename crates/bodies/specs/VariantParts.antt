-- What is found at a variant by its parts, beside the rules of its ordinal.
use Rattle.std.specs.Prelude.{ℕ, ⊤, ◌≡◌, List}
use denote.Ref.{MutBor}
use Rattle.rules.specs.declared.span.Span.{Span}
use Rattle.rules.specs.Words.{only_if, front, Item}
use Rattle.rules.specs.Kind
use Rattle.rules.specs.Record.{Rec, is}
use Rattle.rules.specs.Context.{ValidationContext}
use Rattle.rules.specs.Rule.{Found}
use Rattle.names.specs.Known.{context_in, records_in}
use Rattle.diagnostic.specs.declared.violations.Violations.{Violations}
use Rattle.diagnostic.specs.Violations.{Adds}
use Rattle.lists.specs.declared.whole.WholeRecords.{WholeRecords}
use Rattle.bodies.specs.Runs.{in_item}

-- what is found by its parts at an item, if that is a variant
abbrev pub at_variant : (List (Rec ℕ Span) → List (Found Span)) → Item (Rec ℕ Span) → List (Found Span)
at_variant parts it = only_if (is Kind.Variant it.head) (parts it.rest)

-- a call with the records behind a variant adds what is found by its parts
abbrev pub AddsParts :
    {F : Type 0} → (F → WholeRecords → MutBor Violations → ⊤ → MutBor Violations → F → Type 0) → ValidationContext ℕ Span →
    (List (Rec ℕ Span) → List (Found Span)) → Type 0
AddsParts {F} step ctx parts =
    (f : F) (rest : WholeRecords) (old : MutBor Violations) (r : ⊤) (new : MutBor Violations) (g : F) → context_in rest.context ≡ ctx →
    step f rest old r new g → Adds old.now new.now (parts (front in_item (records_in rest.context rest.range)))

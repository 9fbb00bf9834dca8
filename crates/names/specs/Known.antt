-- What code knows of a sheet: the context that its table of names gives, and its records.
use Rattle.std.specs.Prelude.{ℕ, List}
use Rattle.rules.specs.declared.span.Span.{Span}
use Rattle.rules.specs.declared.range.RecordRange.{RecordRange}
use Rattle.rules.specs.Record.{Rec}
use Rattle.rules.specs.Context as Context
use Rattle.names.specs.declared.context.ValidationContext.{ValidationContext}
use Rattle.names.specs.View.{view_of, context_by}

-- the numbers of the table
abbrev pub numbers_of : ValidationContext → List ℕ
numbers_of ctx = ctx.table.now

-- the context that the table gives
abbrev pub context_in : ValidationContext → Context.ValidationContext ℕ Span
context_in ctx = context_by (numbers_of ctx) ctx.sheet.now

-- the records of a range
abbrev pub records_in : ValidationContext → RecordRange → List (Rec ℕ Span)
records_in ctx range = view_of ctx.sheet.now range.start range.end

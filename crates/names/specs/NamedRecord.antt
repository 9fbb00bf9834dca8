-- What is said of a record that has a name, as it is read.
use Rattle.std.specs.Prelude.{ℕ, List}
use Rattle.rules.specs.declared.span.Span.{Span}
use Rattle.rules.specs.Record.{Rec}
use Rattle.names.specs.declared.own.Named.{Named}
use Rattle.names.specs.NameTable.{id_in}
use Rattle.names.specs.Parts.{known, record_of}
use Rattle.names.specs.Buckets.{Chained}

-- the record
abbrev pub named_record : Named → Rec (List ℕ) Span
named_record named = record_of named.sheet.now named.names.now named.index

-- its id
abbrev pub id_of : Named → ℕ
id_of named = id_in (known named.sheet.now named.names.now) named.index (named_record named)

-- the chains have the records before it
abbrev pub ChainedBefore : Named → List ℕ → List ℕ → Type 0
ChainedBefore named heads links = Chained named.sheet.now named.names.now heads links named.index

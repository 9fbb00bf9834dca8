-- Some records of a sheet in a row, by their indices.
use Rattle.std.specs.Prelude.{ℕ, true, false, leb, Option, Some, None}
use Rattle.rules.specs.declared.range.RecordRange.{RecordRange}

-- the first of the records, if there is one
abbrev pub first_of : RecordRange → Option ℕ
first_of range = elim (leb range.end range.start) [ true ↦ None | false ↦ Some range.start ]

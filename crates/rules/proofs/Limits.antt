-- The sizes and limits that the code names are those of the definitions, each by its value.
use mathlib.Core.Path.{◌≡◌, refl}
use Rattle.rules.specs.declared.sheet.TheConstants.Sheet
use Rattle.rules.specs.declared.violation.TheConstants.Violation
use Rattle.rules.specs.Record.{record_size}
use Rattle.rules.specs.Grammar.{max_depth}
use Rattle.rules.specs.Refusals.{max_length, max_names_length, max_ordinal, max_records}
use Rattle.rules.specs.Annotations.{max_limit}
use Rattle.rules.specs.Bodies.{max_field_ordinal, max_u8_backing, max_u16_backing, max_u32_backing, max_u64_backing, max_bit}
use Rattle.rules.specs.Answer.{most_per_record, max_total}
use Rattle.rules.specs.Buffer.{violation_size}

limits-same :
    (Sheet.RECORD ≡ record_size)
    × (Sheet.MAX_LEN ≡ max_length)
    × (Sheet.MAX_RECORDS ≡ max_records)
    × (Sheet.MAX_NAMES_LEN ≡ max_names_length)
    × (Sheet.MAX_ORDINAL ≡ max_ordinal)
    × (Sheet.MAX_DEPTH ≡ max_depth)
    × (Sheet.MAX_FIELD_ORDINAL ≡ max_field_ordinal)
    × (Sheet.MAX_U8_BACKING ≡ max_u8_backing)
    × (Sheet.MAX_U16_BACKING ≡ max_u16_backing)
    × (Sheet.MAX_U32_BACKING ≡ max_u32_backing)
    × (Sheet.MAX_U64_BACKING ≡ max_u64_backing)
    × (Sheet.MAX_BIT ≡ max_bit)
    × (Sheet.MAX_LIMIT ≡ max_limit)
    × (Violation.SIZE ≡ violation_size)
    × (Violation.PER_RECORD ≡ most_per_record)
    × (Violation.MOST ≡ max_total)
limits-same = (refl, refl, refl, refl, refl, refl, refl, refl, refl, refl, refl, refl, refl, refl, refl, refl)

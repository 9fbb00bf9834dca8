-- Rule 34, record by record.
use Rattle.std.specs.Prelude.{◌&&◌, List, ltb}
use Rattle.rules.specs.Kind
use Rattle.rules.specs.Record.{Rec, is}
use Rattle.rules.specs.Rule.{Found, found_if}
use Rattle.rules.specs.Bodies.{max_bit}

-- at one record
unfoldable pub bit_found : {N P : Type 0} → Rec N P → List (Found P)
bit_found r = found_if 34 (is Kind.Variant r && ltb max_bit r.value) r.ordinal_place

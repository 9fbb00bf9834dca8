-- How the rules read a sheet through the table of names: a record's name is its index, and what is asked of a name is looked up in the
-- table at that index. It holds for every content of the table.
use Rattle.std.specs.Prelude.{ℕ, zero, suc, ◌+◌, ◌-◌, ◌*◌, true, not, List, [], ◌∷◌, get_or, eqb, ltb}
use Rattle.std.specs.Prelude as std
use Rattle.std.proofs.Math.Option.{Option, some, none}
use Rattle.rules.specs.declared.span.Span.{Span}
use Rattle.rules.specs.Words.{within, number_if}
use Rattle.rules.specs.Record.{Rec, record_bytes, kind_in, sub_in, clean_in, span_in, ordinal_span_in, value_in}
use Rattle.rules.specs.Context.{ValidationContext, Declared}
use Rattle.rules.specs.Refusals.{max_records}
use Rattle.names.specs.Codes.{last_word, blank_code, bit_code}

-- record i of a sheet, named by its index
unfoldable pub view_at : List ℕ → ℕ → Rec ℕ Span
view_at sheet i =
    let b = record_bytes sheet i in
    record {
      kind = kind_in b;
      sub = sub_in b;
      clean = clean_in b;
      fits = true;
      name = i;
      place = span_in b;
      ordinal_place = ordinal_span_in b;
      value = value_in b;
    }

-- n records from record i on
unfoldable pub view_from : List ℕ → ℕ → ℕ → List (Rec ℕ Span)
view_from sheet i zero = []
view_from sheet i (suc n) = view_at sheet i ∷ view_from sheet (suc i) n

-- the records from record a up to record e
abbrev pub view_of : List ℕ → ℕ → ℕ → List (Rec ℕ Span)
view_of sheet a e = view_from sheet a (e - a)

-- the parts of the table
abbrev pub id_part : ℕ
id_part = 0

abbrev pub declaration_part : ℕ
declaration_part = 1

abbrev pub import_part : ℕ
import_part = 2

abbrev pub target_part : ℕ
target_part = 3

abbrev pub code_part : ℕ
code_part = 4

-- where the parts begin in the table
abbrev pub ids_from : ℕ
ids_from = id_part * max_records

abbrev pub declarations_from : ℕ
declarations_from = declaration_part * max_records

abbrev pub imports_from : ℕ
imports_from = import_part * max_records

abbrev pub targets_from : ℕ
targets_from = target_part * max_records

abbrev pub codes_from : ℕ
codes_from = code_part * max_records

-- where the two numbers behind the parts stand, and how many numbers a table has
abbrev pub totals_from : ℕ
totals_from = 5 * max_records

abbrev pub table_size : ℕ
table_size = totals_from + 2

-- the greatest number of 16 bits, which a place may be: an index, which is one less, is below it
abbrev pub max_place : ℕ
max_place = 65535

-- the number for record i in a part of the table; 0 for a record past the last that the table has
unfoldable pub entry_of : ℕ → List ℕ → ℕ → ℕ
entry_of part table i = number_if (ltb i max_records) (get_or table (part * max_records + i) 0)

-- the two numbers behind the parts
abbrev pub wildcard_of : List ℕ → ℕ
wildcard_of table = get_or table totals_from 0

abbrev pub declarations_of : List ℕ → ℕ
declarations_of table = get_or table (totals_from + 1) 0

-- the index at a place of the table, which counts from 1; none at 0
abbrev pub index_at : ℕ → std.Option ℕ
index_at zero = std.None
index_at (suc i) = std.Some i

-- the record with that index, if there is one
abbrev pub at_place : List ℕ → std.Option ℕ → Option (Rec ℕ Span)
at_place sheet std.None = none
at_place sheet (std.Some i) = some (view_at sheet i)

-- a declaration, by the places of its record and of its type
abbrev pub declared_at : List ℕ → ℕ → ℕ → Option (Declared ℕ Span)
declared_at sheet zero target = none
declared_at sheet (suc d) target = some (record { sub = sub_in (record_bytes sheet d); inner = at_place sheet (index_at target) })

-- what record i's name is declared as
unfoldable pub declared_by : List ℕ → List ℕ → ℕ → Option (Declared ℕ Span)
declared_by table sheet i = declared_at sheet (entry_of declaration_part table i) (entry_of target_part table i)

-- the context that the table gives
unfoldable pub context_by : List ℕ → List ℕ → ValidationContext ℕ Span
context_by table sheet =
    record {
      decl_map = declared_by table sheet;
      imported_names = λ i. not (eqb (entry_of import_part table i) 0);
      has_wildcard_import = not (eqb (wildcard_of table) 0);
      declarations = declarations_of table;
      same = λ i j. eqb (entry_of id_part table i) (entry_of id_part table j);
      word = λ i. number_if (within 1 last_word (entry_of code_part table i)) (entry_of code_part table i);
      blank = λ i. eqb (entry_of code_part table i) blank_code;
      is_valid_field_name = λ i. eqb (entry_of code_part table i) bit_code;
    }

-- The parts of the table of a sheet and a names text, each by its name.
use Rattle.std.specs.Prelude.{ℕ, zero, suc, ◌/◌, min, List, [], ◌∷◌, length, take, drop}
use Rattle.rules.specs.declared.span.Span.{Span}
use Rattle.rules.specs.Words.{number_if, any_of, select}
use Rattle.rules.specs.Kind
use Rattle.rules.specs.Record.{Rec, decode, is, record_bytes, records}
use Rattle.rules.specs.Refusals.{max_records}
use Rattle.names.specs.NameTable.{column, is_named, id_in, declaration_in, import_in, target_at, target_in, code_of}

-- the records that the table is about: the first 1024
unfoldable pub known : List ℕ → List ℕ → List (Rec (List ℕ) Span)
known sheet names = take max_records (records sheet names)

-- how many they are
unfoldable pub known_count : List ℕ → ℕ
known_count sheet = min max_records (length sheet / 32)

-- record i
unfoldable pub record_of : List ℕ → List ℕ → ℕ → Rec (List ℕ) Span
record_of sheet names i = decode names (record_bytes sheet i)

module _ {P : Type 0} where
  -- the place of the type of the declaration at that place
  abbrev pub target_of : List (Rec (List ℕ) P) → ℕ → ℕ
  target_of rs place = elim place [ zero ↦ 0 | suc n ↦ target_at (suc n) (drop n rs) ]

-- the five parts
unfoldable pub ids : List ℕ → List ℕ → List ℕ
ids sheet names = column (id_in (known sheet names)) (known sheet names)

unfoldable pub declarations : List ℕ → List ℕ → List ℕ
declarations sheet names = column (λ i r. declaration_in (known sheet names) r) (known sheet names)

unfoldable pub imported : List ℕ → List ℕ → List ℕ
imported sheet names = column (λ i r. import_in (known sheet names) r) (known sheet names)

unfoldable pub targets : List ℕ → List ℕ → List ℕ
targets sheet names = column (λ i r. target_in (known sheet names) r) (known sheet names)

unfoldable pub codes : List ℕ → List ℕ → List ℕ
codes sheet names = column (λ i r. number_if (is_named r) (code_of r.kind r.name)) (known sheet names)

-- the two numbers behind them
unfoldable pub totals : List ℕ → List ℕ → List ℕ
totals sheet names =
    number_if (any_of (is Kind.Wildcard) (known sheet names)) 1 ∷ length (select (is Kind.Declaration) (known sheet names)) ∷ []

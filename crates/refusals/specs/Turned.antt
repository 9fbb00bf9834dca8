-- Why a sheet and a names text are turned down, by a table of any content: rows 8 and 9 ask the table what is declared.
use Rattle.std.specs.Prelude.{ℕ, ◌/◌, true, false, List, length}
use Rattle.std.proofs.Math.Option.{Option, some, none}
use Rattle.rules.specs.Record.{record_size, records}
use Rattle.rules.specs.Grammar.{start}
use Rattle.rules.specs.Refusals.{Fault, is_wrong_length, is_long_names, endless_chain}
use Rattle.names.specs.View.{view_of, context_by}
use Rattle.refusals.specs.Pass.{is_second, first_fault_by}

-- row 9
unfoldable pub endless_by : List ℕ → List ℕ → Option Fault
endless_by table sheet = endless_chain (context_by table sheet) 0 (view_of sheet 0 (length sheet / record_size))

-- the nine rows
unfoldable pub refusal_by : List ℕ → List ℕ → List ℕ → Option Fault
refusal_by table sheet names =
    elim (is_wrong_length sheet) [
      | true ↦ some (record { number = 1; index = 0 })
      | false ↦ elim (is_long_names names) [
        | true ↦ some (record { number = 2; index = 0 })
        | false ↦ elim (first_fault_by (is_second table) start 0 (records sheet names)) [ some f ↦ some f | none ↦ endless_by table sheet ]
      ]
    ]

-- The first fault by rows 3 to 8, where it is looked up whether a declaration is the second of its name.
use Rattle.std.specs.Prelude.{ℕ, suc, ◌/◌, ◌<◌, ◌≤◌, ◌≡◌, Bool, true, false, not, ◌&&◌, List, [], ◌∷◌, length, Result, Ok, Err, eqb}
use Rattle.std.proofs.Math.Option.{Option, some, none}
use Rattle.rules.specs.Kind
use Rattle.rules.specs.Record.{Rec, is, is_renaming, record_size}
use Rattle.rules.specs.Grammar as Grammar
use Rattle.rules.specs.Refusals.{Fault, own_fault}
use Rattle.rules.specs.Answer.{number_of}
use Rattle.names.specs.View.{entry_of, declaration_part, view_at}
use Rattle.rules.specs.declared.answer.Refused.{Refused}

-- by the table, the first declaration of record i's name is another one
abbrev pub is_second : List ℕ → ℕ → Bool
is_second table i = not (eqb (entry_of declaration_part table i) (suc i))

-- row 8 after a step
abbrev pub or_second : Bool → Grammar.Step Grammar.State → Grammar.Step Grammar.State
or_second second (Grammar.fault n) = Grammar.fault n
or_second second (Grammar.to t) = elim second [ true ↦ Grammar.fault 8 | false ↦ Grammar.to t ]

module _ {N P : Type 0} where
  -- rows 3 to 8 at the next record
  unfoldable pub record_step_by : Bool → Grammar.State → Rec N P → Grammar.Step Grammar.State
  record_step_by second s r = elim (own_fault r) [ some n ↦ Grammar.fault n | none ↦ or_second (is Kind.Declaration r && second) (Grammar.step s r) ]

  -- the first fault among records from index i on
  unfoldable pub first_fault_by : (ℕ → Bool) → Grammar.State → ℕ → List (Rec N P) → Option Fault
  first_fault_by second s i [] = elim (Grammar.done s) [ true ↦ none | false ↦ some (record { number = 6; index = i }) ]
  first_fault_by second s i (r ∷ rs) =
      elim (record_step_by (second i) s r) [
        | Grammar.fault n ↦ some (record { number = n; index = i })
        | Grammar.to t ↦ first_fault_by second t (suc i) rs
      ]

-- a refusal at a record
abbrev pub fault_of : Refused → Fault
fault_of why = record { number = number_of why.refusal; index = why.index }

-- of the records before record i those from `end` on rename no type
pub record Ended (sheet : List ℕ) (end i : ℕ) : Type 0 where
  pub within : end ≤ i
  pub none : (j : ℕ) → end ≤ j → j < i → is_renaming (view_at sheet j) ≡ false

-- what the pass finds
abbrev pub passed_of : Result ℕ Refused → Option Fault
passed_of (Ok end) = none
passed_of (Err why) = some (fault_of why)

abbrev pub EndSound : Result ℕ Refused → List ℕ → Type 0
EndSound (Ok end) sheet = Ended sheet end (length sheet / record_size)
EndSound (Err why) sheet = Unit {0}

-- what is said of a sheet and a names text
abbrev pub verdict_of : Result (Unit {0}) Refused → Option Fault
verdict_of (Ok accepted) = none
verdict_of (Err why) = some (fault_of why)

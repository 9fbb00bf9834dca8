-- Runs of records that are passed without a step each.
use Rattle.std.specs.Prelude.{ℕ, ◌/◌, ◌≤◌, ◌≡◌, Bool, true, List, length, drop, eqb}
use Rattle.rules.specs.Words.{within}
use Rattle.rules.specs.Kind
use Rattle.rules.specs.Record.{record_size, kind_in, clean_in, fits_in, records}
use Rattle.grammar.specs.declared.state.Body.{Body}
use Rattle.grammar.specs.declared.state.Item.{Item}
use Rattle.grammar.specs.declared.state.State.{State}
use Rattle.rules.specs.Grammar.{Due}
use Rattle.grammar.specs.States.{state_of}
use Rattle.refusals.specs.Pass.{first_fault_by, Ended}

-- the kinds of a run: imported names; bit names; optionals, arrays, fixed arrays and sets
abbrev pub is_import : ℕ → Bool
is_import kind = eqb kind Kind.ImportedName

abbrev pub is_bit_name : ℕ → Bool
is_bit_name kind = eqb kind Kind.BitName

abbrev pub is_nest : ℕ → Bool
is_nest = within Kind.Optional Kind.Set

-- a record's kind is one of the run, its byte 3 is 0, and its name, if it has one, fits
pub record Plain (is_in : ℕ → Bool) (names bytes : List ℕ) : Type 0 where
  pub kind : is_in (kind_in bytes) ≡ true
  pub clean : clean_in bytes ≡ true
  pub fits : fits_in names bytes ≡ true

abbrev pub at : Body → Item → State
at body item = record { body = body; item = item }

-- What is to find from record r on, with the parts that are due after, is what was to find from record i on, with those that were due before. No record
-- between renames a type.
pub record Ran (sheet names : List ℕ) (s : State) (before after : List Due) (i r : ℕ) : Type 0 where
  pub least : i ≤ r
  pub most : r ≤ length sheet / record_size
  pub same :
      (second : ℕ → Bool) →
      first_fault_by second (state_of s after) r (drop r (records sheet names)) ≡ first_fault_by second (state_of s before) i (drop i (records sheet names))
  pub ended : (end : ℕ) → Ended sheet end i → Ended sheet end r

-- The rows by the filled table are the rows: they come in the same turn, and each finds the same.
use Prim.Native.Nat.{ℕ}
use mathlib.Core.Path.{◌≡◌, refl, sym, ap, ◌∙◌}
use mathlib.Core.Bool.{Bool, true, false}
use mathlib.Core.List.{List, []}
use mathlib.Core.Option.{Option, some, none}
use Rattle.rules.specs.Words.{same_bytes}
use Rattle.rules.specs.Record.{records}
use Rattle.rules.specs.Context.{context_of}
use Rattle.rules.specs.Grammar.{start}
use Rattle.rules.specs.Refusals.{Fault, is_wrong_length, is_long_names, first_fault, endless_chain, records_fault, refusal}
use Rattle.rules.proofs.AcceptedSheet.{short-sheet, whole-sheet, clean-fits}
use Rattle.names.specs.NameTable.{name_table}
use Rattle.names.specs.View.{context_by}
use Rattle.names.specs.SameEnds.{SameEnds, Lasting}
use Rattle.names.proofs.Renamed.{table-lasting, table-chains}
use Rattle.rules.specs.declared.answer.Refused.{Refused}
use Rattle.std.specs.Prelude.{Result, Ok}
use Rattle.refusals.specs.Pass.{is_second, first_fault_by, passed_of}
use Rattle.refusals.specs.Turned.{endless_by, refusal_by}
use Rattle.refusals.specs.Left.{LeftBy}
use Rattle.refusals.proofs.Filled.{pass-filled}

abbrev in_turn : Option Fault → Bool → Bool → Option Fault
in_turn x b a =
    elim a [
      | true ↦ some (record { number = 1; index = 0 })
      | false ↦ elim b [ true ↦ some (record { number = 2; index = 0 }) | false ↦ x ]
    ]

abbrev or_else : Option Fault → Option Fault → Option Fault
or_else x o = elim o [ some f ↦ some f | none ↦ x ]

module _ (sheet names : List ℕ) where
  -- row 9
  abbrev chains_by_table : Option Fault
  chains_by_table = endless_by (name_table sheet names) sheet

  abbrev chains : Option Fault
  chains = endless_chain (context_of (records sheet names)) 0 (records sheet names)

  -- rows 3 to 8
  abbrev pass_by_table : Option Fault
  pass_by_table = first_fault_by (is_second (name_table sheet names)) start 0 (records sheet names)

  abbrev pass : Option Fault
  pass = first_fault same_bytes start [] 0 (records sheet names)

  -- rows 3 to 9, on a sheet that row 1 does not turn down
  then_same : is_wrong_length sheet ≡ false → or_else chains_by_table pass_by_table ≡ or_else chains pass
  unfolding endless_by
  then_same h = ap (or_else chains_by_table) (pass-filled sheet names (short-sheet sheet h)) ∙ go pass refl
    where
      go : (o : Option Fault) → pass ≡ o → or_else chains_by_table o ≡ or_else chains o
      go (some f) e = refl
      go none e =
          table-chains sheet names (short-sheet sheet h) (whole-sheet sheet h) (clean-fits same_bytes start [] 0 (records sheet names) e)

  pub refusal-filled : refusal_by (name_table sheet names) sheet names ≡ refusal sheet names
  unfolding refusal_by refusal records_fault context_of
  refusal-filled = go (is_wrong_length sheet) refl
    where
      go : (a : Bool) → is_wrong_length sheet ≡ a
          → in_turn (or_else chains_by_table pass_by_table) (is_long_names names) (is_wrong_length sheet)
          ≡ in_turn (or_else chains pass) (is_long_names names) (is_wrong_length sheet)
      go true e = rw e
      go false e = ap (λ (x : Option Fault). in_turn x (is_long_names names) (is_wrong_length sheet)) (then_same e)

  -- what is told by a filled table
  pub told_by_filled :
      (table : List ℕ) (told : Option Fault) → table ≡ name_table sheet names → told ≡ refusal_by table sheet names → told ≡ refusal sheet names
  told_by_filled table told filled e = e ∙ ap (λ t. refusal_by t sheet names) filled ∙ refusal-filled

  -- behind rows 3 to 8, a chain that the filled table gives and that has not ended never ends
  pub passed_lasting :
      (table : List ℕ) → table ≡ name_table sheet names → is_wrong_length sheet ≡ false →
      (v : Result ℕ Refused) → passed_of v ≡ first_fault_by (is_second table) start 0 (records sheet names) → (end : ℕ) → v ≡ Ok end →
      Lasting (context_by table sheet)
  passed_lasting table filled h v hv end q =
      let clean : pass ≡ none =
      sym (pass-filled sheet names (short-sheet sheet h)) ∙ ap (λ t. first_fault_by (is_second t) start 0 (records sheet names)) (sym filled)
      ∙ sym hv ∙ ap passed_of q in
      rw filled (table-lasting sheet names (short-sheet sheet h) (whole-sheet sheet h) (clean-fits same_bytes start [] 0 (records sheet names) clean))

  -- the ends that a filled table leads to
  pub ends_by_filled :
      (table after : List ℕ) → table ≡ name_table sheet names → SameEnds (context_by table sheet) (context_by after sheet) →
      SameEnds (context_by (name_table sheet names) sheet) (context_by after sheet)
  ends_by_filled table after filled same = rw (← filled) same

  -- and what is left of it
  pub left_by_filled :
      (verdict : Option Fault) (table after : List ℕ) → table ≡ name_table sheet names → LeftBy verdict sheet table after →
      LeftBy verdict sheet (name_table sheet names) after
  left_by_filled verdict table after filled left = rw (← filled) left

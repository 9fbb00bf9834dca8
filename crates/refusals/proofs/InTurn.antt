-- The rows in turn: each answer of the code is the row that the definition comes to.
use Prim.Native.Nat.{ℕ, ◌/◌, ◌%◌}
use mathlib.Core.Path.{◌≡◌, refl, sym, ap, ◌∙◌, subst}
use mathlib.Core.Bool.{Bool, true, false, not, ◌||◌}
use mathlib.Core.List.{List}
use mathlib.Core.Option.{Option, some, none}
use lib.ListN.{length}
use lib.Dec.{eqb, ltb}
use Rattle.rules.specs.Record.{record_size, records}
use Rattle.rules.specs.Grammar.{start}
use Rattle.rules.specs.Refusals.{Fault, max_length, max_names_length, is_wrong_length, is_long_names}
use Rattle.rules.specs.declared.sheet.Sheet.{Sheet}
use Rattle.rules.specs.declared.answer.Refused.{Refused}
use Rattle.std.specs.Prelude.{Result, Ok, Err}
use Rattle.refusals.specs.Pass.{is_second, first_fault_by, Ended, passed_of, EndSound, fault_of}
use Rattle.refusals.specs.Turned.{endless_by, refusal_by}

-- rows 1 and 2, told by the two lengths
module _ (sheet names : List ℕ) (lengths : Sheet) (made : (lengths.len ≡ length sheet) × (lengths.names_len ≡ length names)) (result told : Bool) where
  pub wrong-length : result ≡ (not (eqb (lengths.len % record_size) 0) || ltb max_length lengths.len) → result ≡ told → is_wrong_length sheet ≡ told
  wrong-length e t = rw (← made.0) (sym e ∙ t)

  pub long-names : result ≡ ltb max_names_length lengths.names_len → result ≡ told → is_long_names names ≡ told
  long-names e t = rw (← made.1) (sym e ∙ t)

module _ (table sheet names : List ℕ) where
  abbrev third : Option Fault → Option Fault
  third o = elim o [ some f ↦ some f | none ↦ endless_by table sheet ]

  abbrev second : Option Fault → Bool → Option Fault
  second x b = elim b [ true ↦ some (record { number = 2; index = 0 }) | false ↦ x ]

  abbrev first : Option Fault → Bool → Option Fault
  first x b = elim b [ true ↦ some (record { number = 1; index = 0 }) | false ↦ x ]

  abbrev passed : Option Fault
  passed = first_fault_by (is_second table) start 0 (records sheet names)

  rows_as : (a b : Bool) → is_wrong_length sheet ≡ a → is_long_names names ≡ b → refusal_by table sheet names ≡ first (second (third passed) b) a
  unfolding refusal_by
  rows_as a b ea eb =
      ap (first (second (third passed) (is_long_names names))) ea ∙ ap (λ (c : Bool). first (second (third passed) c) a) eb

  pub row_1 : is_wrong_length sheet ≡ true → some (record { number = 1; index = 0 }) ≡ refusal_by table sheet names
  row_1 e = sym (rows_as true (is_long_names names) e refl)

  module _ (e : is_wrong_length sheet ≡ false) where
    pub row_2 : is_long_names names ≡ true → some (record { number = 2; index = 0 }) ≡ refusal_by table sheet names
    row_2 h = sym (rows_as false true e h)

    module _ (h : is_long_names names ≡ false) (v : Result ℕ Refused) (hv : passed_of v ≡ first_fault_by (is_second table) start 0 (records sheet names)) where
      rows_then : third (passed_of v) ≡ refusal_by table sheet names
      rows_then = ap third hv ∙ sym (rows_as false false e h)

      pub rows_3_to_8 : (why : Refused) → v ≡ Err why → some (fault_of why) ≡ refusal_by table sheet names
      rows_3_to_8 why q = sym (ap (λ (w : Result ℕ Refused). third (passed_of w)) q) ∙ rows_then

      pub row_9 : (x : Option Fault) (end : ℕ) → v ≡ Ok end → x ≡ endless_by table sheet → x ≡ refusal_by table sheet names
      row_9 x end q hx = hx ∙ sym (ap (λ (w : Result ℕ Refused). third (passed_of w)) q) ∙ rows_then

-- where the newtypes end, if there is no fault
pub ended_found : (v : Result ℕ Refused) (sheet : List ℕ) (end : ℕ) → EndSound v sheet → v ≡ Ok end → Ended sheet end (length sheet / 32)
ended_found v sheet end h e = subst (λ (w : Result ℕ Refused). EndSound w sheet) e h

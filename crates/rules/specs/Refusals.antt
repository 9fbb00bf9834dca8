-- The nine rows by which a sheet is turned down: "1, then 2; then the first record with a fault, lowest number first; 9 last".
use Rattle.std.specs.Prelude.{ℕ, suc, ◌/◌, ◌%◌, Bool, true, false, not, ◌&&◌, ◌||◌, List, [], ◌∷◌, ◌++◌, length, ltb, eqb}
use Rattle.std.proofs.Math.Option.{Option, some, none}
use Rattle.rules.specs.Words.{only_if, first, any_of}
use Rattle.rules.specs.Kind
use Rattle.rules.specs.Record.{Rec, is, is_renaming, record_size, records}
use Rattle.rules.specs.Context.{ValidationContext, context_of, never_ends}
use Rattle.rules.specs.Grammar.{Step, to, fault, State, step, done, start}

-- the row's number and the record's index
pub record Fault : Type 0 where
  pub number : ℕ
  pub index : ℕ

-- rows 1, 2 and 5: the greatest lengths and the greatest ordinal
abbrev pub max_length : ℕ
max_length = 32768

abbrev pub max_names_length : ℕ
max_names_length = 16384

abbrev pub max_ordinal : ℕ
max_ordinal = 4294967295

-- the records of the longest sheet
abbrev pub max_records : ℕ
max_records = max_length / record_size

module _ {N P : Type 0} where
  -- row 3: kind or sub unknown, or byte 3 not 0
  abbrev pub is_unknown : Rec N P → Bool
  is_unknown r = not (Kind.known r.kind && (eqb (Kind.sub_count r.kind) 0 || ltb r.sub (Kind.sub_count r.kind)) && r.clean)

  -- row 4: name part ends beyond the names text
  abbrev pub is_cut : Rec N P → Bool
  is_cut r = not r.fits

  -- row 5: ordinal over 4294967295
  abbrev pub is_too_great : Rec N P → Bool
  is_too_great r = Kind.has_ordinal r.kind && ltb max_ordinal r.value

  -- rows 3 to 5, the lowest number first
  unfoldable pub own_fault : Rec N P → Option ℕ
  own_fault r = first (only_if (is_unknown r) (3 ∷ []) ++ only_if (is_cut r) (4 ∷ []) ++ only_if (is_too_great r) (5 ∷ []))

  -- rows 3 to 8 at the next record, the lowest number first, after records that led to a state and declared names
  unfoldable pub record_step : (N → N → Bool) → State → List N → Rec N P → Step State
  record_step same s names r =
      elim (own_fault r) [
        | some n ↦ fault n
        | none ↦ elim (step s r) [
          | fault n ↦ fault n
          | to t ↦ elim (is Kind.Declaration r && any_of (same r.name) names) [ true ↦ fault 8 | false ↦ to t ]
        ]
      ]

  -- the first fault by rows 3 to 8 among records from index i on; an early end is row 6 at the index after the last
  unfoldable pub first_fault : (N → N → Bool) → State → List N → ℕ → List (Rec N P) → Option Fault
  first_fault same s names i [] = elim (done s) [ true ↦ none | false ↦ some (record { number = 6; index = i }) ]
  first_fault same s names i (r ∷ rs) =
      elim (record_step same s names r) [
        | fault n ↦ some (record { number = n; index = i })
        | to t ↦ first_fault same t (only_if (is Kind.Declaration r) (r.name ∷ []) ++ names) (suc i) rs
      ]

  -- row 9: the first newtype whose chain never ends
  abbrev pub leads_nowhere : ValidationContext N P → List (Rec N P) → Bool
  leads_nowhere ctx [] = false
  leads_nowhere ctx (t ∷ ts) = never_ends ctx t

  unfoldable pub endless_chain : ValidationContext N P → ℕ → List (Rec N P) → Option Fault
  endless_chain ctx i [] = none
  endless_chain ctx i (r ∷ rs) =
      elim (is_renaming r && leads_nowhere ctx rs) [
        | true ↦ some (record { number = 9; index = i })
        | false ↦ endless_chain ctx (suc i) rs
      ]

  -- rows 3 to 9
  unfoldable pub records_fault : ValidationContext N P → List (Rec N P) → Option Fault
  records_fault ctx rs = elim (first_fault ctx.same start [] 0 rs) [ some f ↦ some f | none ↦ endless_chain ctx 0 rs ]

-- rows 1 and 2
abbrev pub is_wrong_length : List ℕ → Bool
is_wrong_length sheet = not (eqb (length sheet % record_size) 0) || ltb max_length (length sheet)

abbrev pub is_long_names : List ℕ → Bool
is_long_names names = ltb max_names_length (length names)

-- why a sheet and a names text are turned down, if they are
unfoldable pub refusal : List ℕ → List ℕ → Option Fault
refusal sheet names =
    elim (is_wrong_length sheet) [
      | true ↦ some (record { number = 1; index = 0 })
      | false ↦ elim (is_long_names names) [
        | true ↦ some (record { number = 2; index = 0 })
        | false ↦ let rs = records sheet names in records_fault (context_of rs) rs
      ]
    ]

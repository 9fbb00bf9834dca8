-- The cases that document 01 marks, as rows of one table: M1 to M12 clause by clause, the nine refusals by their small examples, and the
-- printed example. Record t of a row, counted from 1, has the span `at t` and the ordinal's span `ordinal_at t`, so that no two are alike.
use Rattle.std.specs.Prelude.{ℕ, zero, suc, ◌+◌, ◌*◌, ◌^◌, replicate}
use mathlib.Core.List.{List, [], ◌∷◌, ◌++◌, flatten}
use Rattle.std.proofs.Math.Option.{some, none}
use Rattle.rules.specs.declared.span.Span.{Span}
use Rattle.rules.specs.declared.violation.Violation.{Violation}
use Rattle.rules.specs.declared.answer.AnswerValues.{AnswerValues}
use Rattle.rules.specs.Words.{bytes}
use Rattle.rules.specs.Refusals.{refusal}
use Rattle.rules.specs.Answer.{full_list}

-- a row: a sheet, a names text, and the answer and the list that they get
pub record Case : Type 0 where
  pub sheet : List ℕ
  pub names : List ℕ
  pub expected : AnswerValues
  pub list : List Violation

abbrev pub at : ℕ → Span
at t = record { offset = 100 * t + 1; len = t }

abbrev pub ordinal_at : ℕ → Span
ordinal_at t = record { offset = 100 * t + 51; len = 20 + t }

-- the bytes of a record: kind, sub, name length and offset, span, ordinal's span, value
abbrev bytes_of : ℕ → ℕ → ℕ → ℕ → Span → Span → ℕ → List ℕ
bytes_of kind sub len offset span ordinal_span value =
    (kind ∷ sub ∷ len ∷ 0 ∷ [])
    ++ bytes 4 offset
    ++ bytes 4 span.offset
    ++ bytes 4 span.len
    ++ bytes 4 ordinal_span.offset
    ++ bytes 4 ordinal_span.len
    ++ bytes 8 value

-- record t of a row: kind, sub, name length and offset, value
abbrev pub rec : ℕ → ℕ → ℕ → ℕ → ℕ → ℕ → List ℕ
rec t kind sub len offset value = bytes_of kind sub len offset (at t) (ordinal_at t) value

abbrev pub error : ℕ → Span → Violation
error class span = record { class = class; severity = 0; span = span }

-- an accepted sheet with that list, of which all are errors
abbrev gives : List ℕ → List (List ℕ) → ℕ → List Violation → Case
gives names sheet total list =
    record {
      sheet = flatten sheet;
      names = names;
      expected = record { number = 0; index = 0; total = total; errors = total };
      list = list;
    }

-- a refused sheet
abbrev refused : List ℕ → List ℕ → ℕ → ℕ → Case
refused names sheet number index =
    record {
      sheet = sheet;
      names = names;
      expected = record { number = number; index = index; total = 0; errors = 0 };
      list = [];
    }

-- the names text "..ab": a at 2, b at 3
abbrev ab : List ℕ
ab = 46 ∷ 46 ∷ 97 ∷ 98 ∷ []

-- the names text ".alimit", ".avarintzigzag", ".aC": a at 1, the words behind it
abbrev a_limit : List ℕ
a_limit = 46 ∷ 97 ∷ 108 ∷ 105 ∷ 109 ∷ 105 ∷ 116 ∷ []

abbrev a_varint_zigzag : List ℕ
a_varint_zigzag = 46 ∷ 97 ∷ 118 ∷ 97 ∷ 114 ∷ 105 ∷ 110 ∷ 116 ∷ 122 ∷ 105 ∷ 103 ∷ 122 ∷ 97 ∷ 103 ∷ []

abbrev a_c : List ℕ
a_c = 46 ∷ 97 ∷ 67 ∷ []

-- M1: field ordinal 65535 passes, 65536 gives 15
abbrev M1 : List Case
M1 =
    gives ab (rec 1 10 0 0 0 0 ∷ rec 2 11 0 1 2 65535 ∷ rec 3 30 1 0 0 0 ∷ []) 0 []
    ∷ gives ab (rec 1 10 0 0 0 0 ∷ rec 2 11 0 1 2 65536 ∷ rec 3 30 1 0 0 0 ∷ []) 1 (error 15 (ordinal_at 2) ∷ [])
    ∷ []

-- M2: two fields at 65536, names differing, give 15, 15, 14
abbrev M2 : List Case
M2 =
    gives ab
    (rec 1 10 0 0 0 0 ∷ rec 2 11 0 1 2 65536 ∷ rec 3 30 1 0 0 0 ∷ rec 4 11 0 1 3 65536 ∷ rec 5 30 1 0 0 0 ∷ [])
    3
    (error 15 (ordinal_at 2) ∷ error 15 (ordinal_at 4) ∷ error 14 (ordinal_at 4) ∷ [])
    ∷ []

-- M3: fields 7 and 7, names differing, then tombstone 7: 16, 16, no 14
abbrev M3 : List Case
M3 =
    gives ab
    (rec 1 10 0 0 0 0
    ∷ rec 2 11 0 1 2 7
    ∷ rec 3 30 1 0 0 0
    ∷ rec 4 11 0 1 3 7
    ∷ rec 5 30 1 0 0 0
    ∷ rec 6 12 0 0 0 7
    ∷ [])
    2
    (error 16 (ordinal_at 2) ∷ error 16 (ordinal_at 4) ∷ [])
    ∷ []

-- M4: an enum variant 2 with tombstone 2 gives 34
abbrev M4 : List Case
M4 = gives ab (rec 1 10 1 0 0 0 ∷ rec 2 14 0 1 2 2 ∷ rec 3 15 0 0 0 2 ∷ []) 1 (error 34 (ordinal_at 2) ∷ []) ∷ []

-- M5: flags bits 63 and 63 pass; 64 gives 39
abbrev M5 : List Case
M5 =
    gives ab (rec 1 10 2 0 0 0 ∷ rec 2 14 0 1 2 63 ∷ rec 3 14 0 1 3 63 ∷ []) 0 []
    ∷ gives ab (rec 1 10 2 0 0 0 ∷ rec 2 14 0 1 2 64 ∷ []) 1 (error 39 (ordinal_at 2) ∷ [])
    ∷ []

-- M6: enum backing U8 holds 255; 256 gives 36
abbrev M6 : List Case
M6 =
    gives ab (rec 1 10 1 0 0 0 ∷ rec 2 16 0 0 0 0 ∷ rec 3 14 0 1 2 255 ∷ []) 0 []
    ∷ gives ab (rec 1 10 1 0 0 0 ∷ rec 2 16 0 0 0 0 ∷ rec 3 14 0 1 2 256 ∷ []) 1 (error 36 (at 2) ∷ [])
    ∷ []

-- M7: map with an undeclared key name and value U8: nothing
abbrev M7 : List Case
M7 =
    gives ab (rec 1 10 0 0 0 0 ∷ rec 2 11 0 1 2 1 ∷ rec 3 40 0 0 0 0 ∷ rec 4 33 0 1 3 0 ∷ rec 5 30 1 0 0 0 ∷ []) 0 [] ∷ []

-- M8: set of optional of a config: 28, then 18
abbrev M8 : List Case
M8 =
    gives a_c
    (rec 1 1 5 1 2 0
    ∷ rec 2 10 0 0 0 0
    ∷ rec 3 11 0 1 1 1
    ∷ rec 4 39 0 0 0 0
    ∷ rec 5 36 0 0 0 0
    ∷ rec 6 33 0 1 2 0
    ∷ [])
    2
    (error 28 (at 5) ∷ error 18 (at 6) ∷ [])
    ∷ []

-- a field "a" with @limit of that value
abbrev limited : ℕ → List (List ℕ)
limited value = rec 1 10 0 0 0 0 ∷ rec 2 11 0 1 1 1 ∷ rec 3 20 0 5 2 0 ∷ rec 4 21 0 0 0 value ∷ []

-- M9: @limit 16777216 on string passes, 16777217 gives 50; on a fixed array it passes
abbrev M9 : List Case
M9 =
    gives a_limit (limited 16777216 ++ (rec 5 32 0 0 0 0 ∷ [])) 0 []
    ∷ gives a_limit (limited 16777217 ++ (rec 5 32 0 0 0 0 ∷ [])) 1 (error 50 (at 3) ∷ [])
    ∷ gives a_limit (limited 16777217 ++ (rec 5 38 0 0 0 4 ∷ rec 6 30 1 0 0 0 ∷ [])) 0 []
    ∷ []

-- M10: @limit 0 on U8: 49, 51
abbrev M10 : List Case
M10 = gives a_limit (limited 0 ++ (rec 5 30 1 0 0 0 ∷ [])) 2 (error 49 (at 3) ∷ error 51 (at 3) ∷ []) ∷ []

-- M11: @varint, then @zigzag, on U8: 54, 52, 53
abbrev M11 : List Case
M11 =
    gives a_varint_zigzag
    (rec 1 10 0 0 0 0 ∷ rec 2 11 0 1 1 1 ∷ rec 3 20 0 6 2 0 ∷ rec 4 20 0 6 8 0 ∷ rec 5 30 1 0 0 0 ∷ [])
    3
    (error 54 (at 4) ∷ error 52 (at 3) ∷ error 53 (at 4) ∷ [])
    ∷ []

-- a field "a" of an optional of F32, compared by Eq with an operand of that sub and value
abbrev compared : ℕ → ℕ → List (List ℕ)
compared sub value =
    rec 1 10 0 0 0 0
    ∷ rec 2 11 0 1 2 1
    ∷ rec 3 36 0 0 0 0
    ∷ rec 4 30 9 0 0 0
    ∷ rec 5 53 0 0 0 0
    ∷ rec 6 60 sub 0 0 value
    ∷ []

-- M12: optional of F32 with float operand under Eq gives 63; with an integer none. len() on a set gives 65, though @limit is right there
abbrev M12 : List Case
M12 =
    gives ab (compared 1 4611686018427387904) 1 (error 63 (at 6) ∷ [])
    ∷ gives ab (compared 0 2) 0 []
    ∷ gives ab
    (rec 1 10 0 0 0 0
    ∷ rec 2 11 0 1 2 1
    ∷ rec 3 39 0 0 0 0
    ∷ rec 4 30 1 0 0 0
    ∷ rec 5 55 0 0 0 0
    ∷ rec 6 60 0 0 0 2
    ∷ [])
    1
    (error 65 (at 5) ∷ [])
    ∷ gives a_limit (limited 2 ++ (rec 5 39 0 0 0 0 ∷ rec 6 30 1 0 0 0 ∷ [])) 0 []
    ∷ []

-- n optionals, from record t of a row on
optionals : ℕ → ℕ → List (List ℕ)
optionals zero t = []
optionals (suc n) t = rec t 36 0 0 0 0 ∷ optionals n (suc t)

-- rows 1 to 9 of the refusals
abbrev refusals : List Case
unfolding optionals
refusals =
    refused ab (replicate 31 0) 1 0
    ∷ refused (replicate 16385 97) (flatten (rec 1 10 0 0 0 0 ∷ [])) 2 0
    ∷ refused ab (flatten (rec 1 3 0 0 0 0 ∷ rec 2 9 0 0 0 0 ∷ [])) 3 1
    ∷ refused (97 ∷ []) (flatten (rec 1 3 0 0 0 0 ∷ rec 2 2 0 2 0 0 ∷ [])) 4 1
    ∷ refused ab (flatten (rec 1 10 0 0 0 0 ∷ rec 2 11 0 1 2 (2 ^ 32) ∷ rec 3 30 1 0 0 0 ∷ [])) 5 1
    ∷ refused [] [] 6 0
    ∷ refused ab (flatten (rec 1 10 0 0 0 0 ∷ rec 2 11 0 1 2 1 ∷ optionals 65 3)) 7 66
    ∷ refused (46 ∷ 65 ∷ 65 ∷ []) (flatten (rec 1 3 0 0 0 0 ∷ rec 2 1 0 1 1 0 ∷ rec 3 1 1 1 2 0 ∷ [])) 8 2
    ∷ refused (46 ∷ 65 ∷ 66 ∷ [])
    (flatten (rec 1 3 0 0 0 0 ∷ rec 2 1 4 1 1 0 ∷ rec 3 33 0 1 2 0 ∷ rec 4 1 4 1 2 0 ∷ rec 5 33 0 1 1 0 ∷ rec 6 10 2 0 0 0 ∷ []))
    9
    1
    ∷ []

-- the printed example: "tombstone 3; field "a", name span 10 1, ordinal 3 with span 12 1; type 30/1"
abbrev pub printed_example : List Case
printed_example =
    gives (97 ∷ [])
    (rec 1 10 0 0 0 0
    ∷ rec 2 12 0 0 0 3
    ∷ bytes_of 11 0 1 0 (record { offset = 10; len = 1 }) (record { offset = 12; len = 1 }) 3
    ∷ rec 4 30 1 0 0 0
    ∷ [])
    1
    (error 16 (record { offset = 12; len = 1 }) ∷ [])
    ∷ []

-- the table
unfoldable pub table : List Case
unfolding optionals
table =
    flatten (M1 ∷ M2 ∷ M3 ∷ M4 ∷ M5 ∷ M6 ∷ M7 ∷ M8 ∷ M9 ∷ M10 ∷ M11 ∷ M12 ∷ refusals ∷ printed_example ∷ [])

-- what a sheet and a names text are told: nothing where they are refused, else the full list
unfoldable pub told : List ℕ → List ℕ → List Violation
told sheet names = elim (refusal sheet names) [ some f ↦ [] | none ↦ full_list sheet names ]

-- What each answer of the code says, in the words of the definitions.
use Rattle.std.specs.Prelude as std
use Rattle.std.specs.Prelude.{ℕ, Bool, true, false, Result, Ok, Err, eqb}
use Rattle.std.proofs.Math.Option.{Option, some, none}
use Rattle.rules.specs.Kind
use Rattle.rules.specs.Answer.{number_of}
use Rattle.rules.specs.declared.answer.Refusal.{Refusal}
use Rattle.rules.specs.declared.answer.Refused.{Refused}

-- what byte 1 is to be less than, if there is such a kind: how many subs the kind has; 256 for a kind without a sub
abbrev pub limited : Bool → ℕ → std.Option ℕ
limited known subs = elim known [ true ↦ std.Some (elim (eqb subs 0) [ true ↦ 256 | false ↦ subs ]) | false ↦ std.None ]

abbrev pub sub_limit : ℕ → std.Option ℕ
sub_limit kind = limited (Kind.known kind) (Kind.sub_count kind)

-- a step's answer, told of a record
abbrev pub told_at : Result (Unit {0}) Refusal → ℕ → Result (Unit {0}) Refused
told_at (Ok passed) i = Ok passed
told_at (Err why) i = Err (record { refusal = why; index = i })

-- the number of the row, if there is one
abbrev pub own_of : Result (Unit {0}) Refusal → Option ℕ
own_of (Ok passed) = none
own_of (Err why) = some (number_of why)

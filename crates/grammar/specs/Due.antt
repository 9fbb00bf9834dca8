-- Steps among the parts that are due.
use Rattle.std.specs.Prelude.{ℕ, ◌+◌, ◌-◌, ◌≡◌, min, Bool, true, false, List, [], ◌∷◌, Result, Ok, Err}
use Rattle.rules.specs.Kind
use Rattle.rules.specs.Kind.{type, condition, operand}
use Rattle.rules.specs.Record.{Rec}
use Rattle.rules.specs.Grammar as Grammar
use Rattle.rules.specs.Grammar.{Due, due_at}
use Rattle.rules.specs.Answer.{number_of}
use Rattle.rules.specs.declared.answer.Refusal.{Refusal}
use Rattle.grammar.specs.declared.due.Part.{Part}
use Rattle.grammar.specs.Parts.{part_of}

-- a record of a kind and a sub: the grammar asks for nothing else
abbrev pub bare : ℕ → ℕ → Rec ℕ ℕ
bare kind sub = record { kind = kind; sub = sub; clean = true; fits = true; name = 0; place = 0; ordinal_place = 0; value = 0 }

-- a record of the kind may be the first part that is due
abbrev pub is_first : List Due → ℕ → Bool
is_first [] kind = false
is_first (d ∷ ds) kind = Kind.is_part d.part kind

-- it is, and its own parts are of the part
pub record Taken (ds : List Due) (kind : ℕ) (part : Part) : Type 0 where
  pub first : is_first ds kind ≡ true
  pub parts : part ≡ part_of kind

-- how many types of one part may come, each in the one before
abbrev pub room : List Due → ℕ
room [] = 0
room (d ∷ ds) = elim d.part [ type ↦ 65 - d.depth | condition ↦ 0 | operand ↦ 0 ]

-- so many of them have come, or as many as there is room for
abbrev pub deepened : ℕ → List Due → List Due
deepened n [] = []
deepened n (d ∷ ds) = due_at (d.depth + min n (room (d ∷ ds))) d.part ∷ ds

-- a step among the parts that are due
abbrev pub part_step_of : Result (Unit {0}) Refusal → List Due → Grammar.Step (List Due)
part_step_of (Ok done) ds = Grammar.to ds
part_step_of (Err why) ds = Grammar.fault (number_of why)

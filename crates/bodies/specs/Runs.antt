-- Runs of records, by the kinds that they have, and where a field's parts stand.
use Rattle.std.specs.Prelude.{ℕ, ◌≤◌, ◌<◌, ◌≡◌, Bool, true, not, List}
use Rattle.rules.specs.declared.span.Span.{Span}
use Rattle.rules.specs.Words.{front, rest}
use Rattle.rules.specs.Kind
use Rattle.rules.specs.Record.{Rec, is}
use Rattle.rules.specs.Grammar.{starts_field_item, starts_item}
use Rattle.names.specs.View.{view_at, view_of}

-- the record stands before the head
abbrev pub before_head : {N P : Type 0} → Rec N P → Bool
before_head r = not (is Kind.Head r)

-- it is a part of a field: it starts no item of a field list
abbrev pub in_field : {N P : Type 0} → Rec N P → Bool
in_field r = not (starts_field_item r)

-- it is a part of an item of another body
abbrev pub in_item : {N P : Type 0} → Rec N P → Bool
in_item r = not (starts_item r)

-- of the records from a up to e, those before r are the ones before the first that fails the test, and those from r on the others
unfoldable pub EndsAt : (Rec ℕ Span → Bool) → List ℕ → ℕ → ℕ → ℕ → Type 0
EndsAt p sheet a e r = (view_of sheet a r ≡ front p (view_of sheet a e)) × (view_of sheet r e ≡ rest p (view_of sheet a e))

-- the records from a up to r pass the test
unfoldable pub AllIn : (Rec ℕ Span → Bool) → List ℕ → ℕ → ℕ → Type 0
AllIn p sheet a r = (j : ℕ) → a ≤ j → j < r → p (view_at sheet j) ≡ true

-- of the records from a up to e, those before r pass the test, and r does not, if it is one of them
abbrev pub RunTo : (Rec ℕ Span → Bool) → List ℕ → ℕ → ℕ → ℕ → Type 0
RunTo p sheet a e r = EndsAt p sheet a e r × (r ≤ e) × (a ≤ e → a ≤ r) × AllIn p sheet a r

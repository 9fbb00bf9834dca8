-- A refused call says why and keeps the buffer; an accepted one lists what the rules find, by the table of names.
use Prim.Native.Nat.{ℕ, ◌/◌}
use native.Mathlib.Omega.{arith}
use mathlib.Core.Path.{◌≡◌, refl, sym, ap, ◌∙◌}
use mathlib.Core.Bool.{true}
use mathlib.Core.List.{List}
use mathlib.Core.Option.{some, none}
use lib.ListN.{length}
use lib.Dec.{leb}
use borrow.Author.Tests.{le-leb}
use Rattle.rules.specs.declared.span.Span.{Span}
use Rattle.rules.specs.declared.answer.Counts.{Counts}
use Rattle.rules.specs.declared.answer.AnswerValues.{AnswerValues}
use Rattle.std.specs.Prelude.{Result, Ok}
use Rattle.rules.specs.declared.answer.Refused.{Refused}
use Rattle.rules.specs.Words.{only_if}
use Rattle.rules.specs.Record.{record_size}
use Rattle.rules.specs.Refusals.{Fault, max_length, refusal}
use Rattle.rules.specs.Rule.{Found}
use Rattle.rules.specs.Bodies.{violations_of}
use Rattle.rules.specs.Answer.{is_accepted, full_list, total_of, errors_of, answer, values_of}
use Rattle.rules.specs.Buffer.{written, buffer_after}
use Rattle.rules.proofs.AcceptedSheet.{accepted-length}
use Rattle.rules.proofs.Bound.{list-fits}
use Rattle.names.specs.NameTable.{name_table}
use Rattle.names.specs.View.{view_of, context_by}
use Rattle.names.specs.SameEnds.{SameEnds}
use Rattle.names.proofs.Renamed.{table-list}
use Rattle.diagnostic.specs.Push.{State, push_found}
use Rattle.diagnostic.proofs.Written.{push-written}
use Rattle.validate.specs.Answered.{Answered}

module _ (sheet names old : List ℕ) where
  -- a refusal
  module _ (f : Fault) (told : refusal sheet names ≡ some f) where
    pub refused_told : answer sheet names ≡ record { number = f.number; index = f.index; total = 0; errors = 0 }
    unfolding answer
    refused_told = rw (told, answer) refl

    pub refused_kept : buffer_after sheet names old ≡ old
    unfolding buffer_after
    refused_kept = rw (told, buffer_after) refl

  accepted : refusal sheet names ≡ none → is_accepted sheet names ≡ true
  accepted told = rw (told, is_accepted) refl

  -- what the rules find by a table of names
  abbrev found_by : List ℕ → List (Found Span)
  found_by table = violations_of (context_by table sheet) (view_of sheet 0 (length sheet / record_size))

  -- the list
  listed :
      (table : List ℕ) (s : State) → refusal sheet names ≡ none →
      SameEnds (context_by (name_table sheet names) sheet) (context_by table sheet) →
      s
      ≡ push_found (only_if (leb (length sheet) max_length) (found_by table))
      (old, record { total = 0; errors = 0 }) →
      s
      ≡ (written (full_list sheet names) old, record { total = total_of (full_list sheet names); errors = errors_of (full_list sheet names) })
  unfolding push_found full_list
  listed table s told ends hs =
      let good : is_accepted sheet names ≡ true = accepted told in
      hs
      ∙ ap (λ b. push_found (only_if b (found_by table)) (old, record { total = 0; errors = 0 }))
      (le-leb (length sheet) max_length (accepted-length sheet names good))
      ∙ ap (λ fs. push_found fs (old, record { total = 0; errors = 0 })) (table-list sheet names good table ends)
      ∙ push-written (full_list sheet names) old (omega (arith, list-fits sheet names good))

  -- an accepted call
  module _
      (table list : List ℕ) (counts : Counts) (told : refusal sheet names ≡ none)
      (ends : SameEnds (context_by (name_table sheet names) sheet) (context_by table sheet))
      (hs :
      ◌≡◌ {A = List ℕ × Counts} (list, counts)
      (push_found (only_if (leb (length sheet) max_length) (found_by table))
      (old, record { total = 0; errors = 0 }))) where
    pub accepted_told : answer sheet names ≡ record { number = 0; index = 0; total = counts.total; errors = counts.errors }
    unfolding answer
    accepted_told = rw (told, answer) (sym (ap (λ s. values_of (Ok s.1)) (listed table (list, counts) told ends hs)))

    pub accepted_listed : buffer_after sheet names old ≡ list
    unfolding buffer_after
    accepted_listed = rw (told, buffer_after) (sym (ap (λ s. s.0) (listed table (list, counts) told ends hs)))

-- the answer as numbers
pub told_answered :
    (sheet names old list : List ℕ) (a : Result Counts Refused) (values : AnswerValues) → Answered sheet names old (values_of a) list → values ≡ values_of a →
    Answered sheet names old values list
told_answered sheet names old list a values h e = rw e h

-- What the demands say of a call, for every sheet, names text and list buffer. A call answers `answer` and leaves `buffer_after`; what the
-- rules' theorems say of those definitions, and of the full list, holds of the four numbers and of the violations that the buffer says.
use Prim.Native.Nat.{ℕ, ◌+◌, ◌*◌, ◌/◌, ◌≤◌}
use native.Mathlib.Decide.{ℕ_discrete}
use native.Mathlib.Nat.{le_trans}
use native.Mathlib.Omega.{arith}
use mathlib.Core.Path.{◌≡◌, refl, sym, ap, ◌∙◌}
use mathlib.Core.Bool.{true, true≢false}
use mathlib.Core.List.{List, ◌++◌, flat_map}
use mathlib.Core.Option.{Option, some, none}
use mathlib.Core.Logic.{◌≢◌}
use lib.ListN.{length, take, drop}
use lib.Seq.{take-length}
use Rattle.rules.specs.declared.answer.AnswerValues.{AnswerValues}
use Rattle.rules.specs.Record.{record_size, records}
use Rattle.rules.specs.Refusals.{Fault, refusal}
use Rattle.rules.specs.Rule.{OrdinalDuplicate}
use Rattle.rules.specs.Answer.{full_list, total_of, errors_of, is_accepted, answer}
use Rattle.rules.specs.Buffer.{violation_size, max_list_size, encode, decode_list, written, buffer_after}
use Rattle.rules.specs.Items.{SameButOrder, SameButAdded, fields_in, distinct_untombstoned, occurrences, is_like, is_in_class}
use Rattle.rules.proofs.Encoding.{length-written, drop-written, decode-written, full-list-encodable}
use Rattle.rules.proofs.Bound.{list-fits}
use Rattle.rules.proofs.Reordered.{reordered-accepted}
use Rattle.rules.proofs.ReorderedCounts.{reordered-counts}
use Rattle.rules.proofs.AddedCounts.{added-counts}
use Rattle.rules.proofs.Counted.{counted}
use Rattle.validate.specs.Answered.{Answered, IsBytes, written_by}
use Rattle.rules.specs.Refused.{RefusedAt, EndlessNewtype}
use Rattle.rules.proofs.Faults.{refusal-row, refusal-ring, refusal-first-ring, ring-refusal, row-positive}

-- Demand 1: two calls on the same sheet and the same names text answer the same, whatever their buffers
pub same_answer : (sheet names old old' : List ℕ) (r r' : AnswerValues) (exit exit' : List ℕ)
    → Answered sheet names old r exit → Answered sheet names old' r' exit' → r ≡ r'
same_answer sheet names old old' r r' exit exit' call call' = call.0 ∙ sym call'.0

module _ (sheet names old : List ℕ) (r : AnswerValues) (exit : List ℕ) (call : Answered sheet names old r exit) where
  accepted-number : refusal sheet names ≡ none → r.number ≡ 0
  unfolding answer
  accepted-number e = ap (λ a. a.number) (rw (e, answer) at call.0)

  none-refused : r.number ≡ 0 → refusal sheet names ≡ none
  unfolding answer
  none-refused h = go (refusal sheet names) refl
    where
      go : (o : Option Fault) → refusal sheet names ≡ o → refusal sheet names ≡ none
      go none e = e
      go (some f) e =
          absurd (omega (arith, ap (λ a. a.number) (rw (e, answer) at call.0), row-positive (refusal-row sheet names e)))

  -- number 0 is the answer to the sheets that are accepted,
  pub zero-accepted : r.number ≡ 0 → is_accepted sheet names ≡ true
  zero-accepted h = rw (none-refused h, is_accepted)

  -- and to all of them
  pub accepted-zero : is_accepted sheet names ≡ true → r.number ≡ 0
  accepted-zero h = go (refusal sheet names) refl
    where
      go : (o : Option Fault) → refusal sheet names ≡ o → r.number ≡ 0
      go none e = accepted-number e
      go (some f) e = absurd (true≢false (sym (rw (e, is_accepted) at h)))

  -- a call that answers another number is refused by that row at that index,
  pub refused-by : r.number ≢ 0 → refusal sheet names ≡ some (record { number = r.number; index = r.index })
  unfolding answer
  refused-by h = go (refusal sheet names) refl
    where
      go : (o : Option Fault) → refusal sheet names ≡ o → refusal sheet names ≡ some (record { number = r.number; index = r.index })
      go none e = absurd (h (accepted-number e))
      go (some f) e = e ∙ ap (λ a. some (record { number = a.number; index = a.index })) (sym (rw (e, answer) at call.0))

  -- which is one of the nine, at a record, at the end or at 0;
  pub refused-row : r.number ≢ 0 → RefusedAt (length sheet / record_size) r.number r.index
  refused-row h = refusal-row sheet names (refused-by h)

  -- it changes no byte of the buffer,
  pub refused-unchanged : r.number ≢ 0 → exit ≡ old
  unfolding buffer_after
  refused-unchanged h = rw (refused-by h, buffer_after) at call.1

  -- and counts nothing
  pub refused-total : r.number ≢ 0 → r.total ≡ 0
  unfolding answer
  refused-total h = ap (λ a. a.total) (rw (refused-by h, answer) at call.0)

  pub refused-errors : r.number ≢ 0 → r.errors ≡ 0
  unfolding answer
  refused-errors h = ap (λ a. a.errors) (rw (refused-by h, answer) at call.0)

  -- an accepted call has index 0,
  pub accepted-index : r.number ≡ 0 → r.index ≡ 0
  unfolding answer
  accepted-index h = ap (λ a. a.index) (rw (none-refused h, answer) at call.0)

  -- the length of the full list as its total, whatever the buffer,
  pub full-total : r.number ≡ 0 → r.total ≡ total_of (full_list sheet names)
  unfolding answer
  full-total h = ap (λ a. a.total) (rw (none-refused h, answer) at call.0)

  -- and as its errors how many of the full list have severity 0
  pub full-errors : r.number ≡ 0 → r.errors ≡ errors_of (full_list sheet names)
  unfolding answer
  full-errors h = ap (λ a. a.errors) (rw (none-refused h, answer) at call.0)

  written-exit : r.number ≡ 0 → exit ≡ written (full_list sheet names) old
  unfolding buffer_after
  written-exit h = rw (none-refused h, buffer_after) at call.1

  -- an accepted call writes the first violations that fit, in whole records,
  pub whole-records : r.number ≡ 0
      → exit ≡ flat_map encode (take (written_by r old) (full_list sheet names)) ++ drop (violation_size * written_by r old) old
  unfolding written
  whole-records h = rw (full-total h) (written-exit h)

  -- it keeps every byte behind them,
  pub behind-kept : r.number ≡ 0 → drop (violation_size * written_by r old) exit ≡ drop (violation_size * written_by r old) old
  behind-kept h = rw (full-total h, written-exit h) (drop-written (full_list sheet names) old)

  -- and every call keeps the buffer's length
  pub length-kept : length exit ≡ length old
  length-kept = go (ℕ_discrete r.number 0)
    where
      go : Dec (r.number ≡ 0) → length exit ≡ length old
      go (yes h) = rw (written-exit h) (length-written (full_list sheet names) old)
      go (no h) = ap length (refused-unchanged h)

  -- Demand 2: the records that an accepted call writes say the first violations of the rules' list, whatever the buffer
  pub written-decoded : IsBytes sheet → r.number ≡ 0 → decode_list (written_by r old) exit ≡ take (written_by r old) (full_list sheet names)
  written-decoded bytes h =
      rw (full-total h, written-exit h) (decode-written (full_list sheet names) old (full-list-encodable sheet names bytes))

  -- a sheet with a newtype whose chain never ends is refused,
  pub ring-refused : {index : ℕ} → EndlessNewtype (records sheet names) index → r.number ≢ 0
  ring-refused x h = ring-refusal sheet names x (none-refused h)

  -- and a call refused by row 9 tells of such a newtype,
  pub ring-told : r.number ≡ 9 → EndlessNewtype (records sheet names) r.index
  ring-told h = refusal-ring sheet names (refused-by (λ e. omega arith)) h

  -- the first one
  pub first-ring-told : {index : ℕ} → r.number ≡ 9 → EndlessNewtype (records sheet names) index → r.index ≤ index
  first-ring-told h x = refusal-first-ring sheet names (refused-by (λ e. omega arith)) h x

  -- Demand 3, with a buffer that holds the total: it says the full list,
  pub list-decoded : IsBytes sheet → r.number ≡ 0 → violation_size * r.total ≤ length old → decode_list r.total exit ≡ full_list sheet names
  list-decoded bytes h room =
      let total : r.total ≡ length (full_list sheet names) = full-total h in
      let all : written_by r old ≡ length (full_list sheet names) = omega arith in
      rw total (rw (all, take-length) at (written-decoded bytes h))

  -- and the sheet's fields are as many as its distinct untombstoned ordinals, counted per field list and summed, and the violations of
  -- OrdinalDuplicate and OrdinalReusedAfterRemoved that the buffer says.
  pub counted-decoded : IsBytes sheet → r.number ≡ 0 → violation_size * r.total ≤ length old
      → fields_in (records sheet names)
      ≡ distinct_untombstoned (records sheet names) + occurrences (is_in_class OrdinalDuplicate) (decode_list r.total exit)
  counted-decoded bytes h room = rw (list-decoded bytes h room) (counted sheet names (zero-accepted h))

  -- A buffer with room for the longest list always holds the total
  pub total-held : r.number ≡ 0 → max_list_size ≤ length old → violation_size * r.total ≤ length old
  total-held h room = rw (full-total h) (le_trans (list-fits sheet names (zero-accepted h)) room)

-- Demand 3, items reordered: the sheet is accepted again, if the names text is unchanged
pub reordered-again : (sheet sheet' names old old' : List ℕ) (r r' : AnswerValues) (exit exit' : List ℕ)
    → Answered sheet names old r exit → Answered sheet' names old' r' exit'
    → length sheet' ≡ length sheet → SameButOrder (records sheet names) (records sheet' names)
    → r.number ≡ 0 → r'.number ≡ 0
reordered-again sheet sheet' names old old' r r' exit exit' call call' lengths same h =
    accepted-zero sheet' names old' r' exit' call'
    (reordered-accepted sheet sheet' names (zero-accepted sheet names old r exit call h) lengths same)

module _ (sheet names old sheet' names' old' : List ℕ) (r r' : AnswerValues) (exit exit' : List ℕ)
    (call : Answered sheet names old r exit) (call' : Answered sheet' names' old' r' exit')
    (bytes : IsBytes sheet) (bytes' : IsBytes sheet') (h : r.number ≡ 0) (h' : r'.number ≡ 0)
    (room : violation_size * r.total ≤ length old) (room' : violation_size * r'.total ≤ length old') where
  -- and whenever it is accepted, each class and severity occurs exactly as often
  pub reordered-decoded : SameButOrder (records sheet names) (records sheet' names') → (class severity : ℕ)
      → occurrences (is_like class severity) (decode_list r.total exit) ≡ occurrences (is_like class severity) (decode_list r'.total exit')
  reordered-decoded same class severity =
      rw (list-decoded sheet names old r exit call bytes h room, list-decoded sheet' names' old' r' exit' call' bytes' h' room')
      (reordered-counts sheet names sheet' names' (zero-accepted sheet names old r exit call h)
      (zero-accepted sheet' names' old' r' exit' call' h') same class severity)

  -- Items added: no class occurs less often, OrdinalDuplicate and OrdinalReusedAfterRemoved counted together
  pub added-decoded : SameButAdded (records sheet names) (records sheet' names') → (class : ℕ)
      → occurrences (is_in_class class) (decode_list r.total exit) ≤ occurrences (is_in_class class) (decode_list r'.total exit')
  added-decoded same class =
      rw (list-decoded sheet names old r exit call bytes h room, list-decoded sheet' names' old' r' exit' call' bytes' h' room')
      (added-counts sheet names sheet' names' (zero-accepted sheet names old r exit call h)
      (zero-accepted sheet' names' old' r' exit' call' h') same class)

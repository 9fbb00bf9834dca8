-- A run of pushes from a fresh start leaves what the whole list is defined to leave: each push takes the buffer and the counts of the
-- violations before it to those of the violations up to it.
use Rattle.std.proofs.Common.{◌≡◌, ℕ, ◌+◌, ◌/◌, ◌%◌, ◌^◌, ◌<◌, ◌≤◌, min, Bool, true, false, eqb, leb, List, [], ◌∷◌, ◌++◌, length, take, drop, sym, refl, ap, ◌∙◌, append_assoc, append-nil, mod-eq_of_lt, arith, length-append, length-drop, length-take, drop-drop, take_at, drop_at, leb-false, leb-true}
use mathlib.Core.List.{flat_map}
use lib.Seq.{take-length, take-append-le}
use Rattle.rules.specs.declared.answer.Counts.{Counts}
use Rattle.rules.specs.declared.violation.Violation.{Violation}
use Rattle.rules.specs.Words.{only_if, select}
use Rattle.rules.specs.Rule.{error}
use Rattle.rules.specs.Answer.{total_of, errors_of}
use Rattle.rules.specs.Buffer.{encode, violation_size, written}
use Rattle.diagnostic.specs.Push.{State, stored, counted, push_one, push_all}
use Rattle.rules.proofs.Encoding.{length-encoded}
use Rattle.rules.proofs.Joined.{flat_map-append, select-append, length-select}
use Rattle.diagnostic.proofs.Stores.{start, stored-room, stored-kept}

-- the counts of a list
counts_of : List Violation → Counts
counts_of vs = record { total = total_of vs; errors = errors_of vs }

abbrev is_error : Violation → Bool
is_error v = eqb v.severity error

-- the total of one more
total-next : (vs : List Violation) (v : Violation) → length vs + 1 < 2 ^ 32 → (length vs + 1) % 2 ^ 32 ≡ length (vs ++ v ∷ [])
total-next vs v few = mod-eq_of_lt few ∙ sym (length-append vs (v ∷ []))

-- the number of errors of one more, which is an error or is not
errors-next :
    (b : Bool) (es : List Violation) (v : Violation) → length es + 1 < 2 ^ 32 →
    elim b [ true ↦ (length es + 1) % 2 ^ 32 | false ↦ length es ] ≡ length (es ++ (only_if b (v ∷ []) ++ []))
errors-next true es v few = total-next es v few
errors-next false es v few = rw (append-nil es)

-- the counts of one more
counted_next :
    (vs : List Violation) (v : Violation) → length vs + 1 < 2 ^ 32 → counted v.severity (counts_of vs) ≡ counts_of (vs ++ v ∷ [])
unfolding counted counts_of select
counted_next vs v few =
    let es : List Violation = select is_error vs in
    let fewer : length es + 1 < 2 ^ 32 = omega (arith, length-select is_error vs) in
    let errors = errors-next (is_error v) es v fewer ∙ ap length (sym (select-append is_error vs (v ∷ []))) in
    λ i. record { total = total-next vs v few i; errors = errors i }

-- a written buffer is as long as it was
written-length : (vs : List Violation) (old : List ℕ) → length (written vs old) ≡ length old
unfolding written
written-length vs old = simp (length-append, length-encoded, length-take, length-drop) (omega arith)

-- where all have room, all are written
written_all :
    (vs : List Violation) (old : List ℕ) → start (length vs) ≤ length old →
    written vs old ≡ flat_map encode vs ++ drop (start (length vs)) old
unfolding written
written_all vs old h =
    let k : min (length vs) (length old / violation_size) ≡ length vs = omega arith in
    rw (k, take-length)

-- where no more have room, as many are written as the buffer has whole records
written-full :
    (vs : List Violation) (old : List ℕ) → length old / violation_size ≤ length vs →
    written vs old ≡ flat_map encode (take (length old / violation_size) vs) ++ drop (start (length old / violation_size)) old
unfolding written
written-full vs old h =
    let k : min (length vs) (length old / violation_size) ≡ length old / violation_size = omega arith in
    rw k

module _ (vs : List Violation) (v : Violation) (old : List ℕ) where
  -- with room for one more, its bytes follow those before it, and what stands behind them is kept
  next-with-room :
      start (length vs) + violation_size ≤ length old → stored v (length vs) (written vs old) ≡ written (vs ++ v ∷ []) old
  unfolding flat_map
  next-with-room h =
      let at : ℕ = start (length vs) in
      let front : List ℕ = flat_map encode vs in
      let back : List ℕ = drop at old in
      let more : start (length (vs ++ v ∷ [])) ≡ at + violation_size = omega (arith, length-append vs (v ∷ [])) in
      stored-room v (length vs) (written vs old) (omega (arith, written-length vs old))
      ∙ rw (written_all vs old (omega arith), take_at front back at (length-encoded vs))
      (rw (← (drop-drop violation_size at (front ++ back)), drop_at front back at (length-encoded vs), drop-drop)
      (sym (written_all (vs ++ v ∷ []) old (omega arith) ∙ rw (more, flat_map-append encode vs (v ∷ []), append-nil))))

  -- with no room for it, as many are written as before
  next-without-room :
      length old < start (length vs) + violation_size → stored v (length vs) (written vs old) ≡ written (vs ++ v ∷ []) old
  next-without-room h =
      sym (stored-kept v (length vs) (written vs old) (omega (arith, written-length vs old)))
      ∙ written-full vs old (omega arith)
      ∙ rw (← (take-append-le (length old / violation_size) vs (v ∷ []) (omega arith)))
      (sym (written-full (vs ++ v ∷ []) old (omega (arith, length-append vs (v ∷ [])))))

  -- the buffer of one more
  stored_next : stored v (length vs) (written vs old) ≡ written (vs ++ v ∷ []) old
  stored_next = by-room (leb (start (length vs) + violation_size) (length old)) refl
    where
      by-room :
          (b : Bool) → leb (start (length vs) + violation_size) (length old) ≡ b →
          stored v (length vs) (written vs old) ≡ written (vs ++ v ∷ []) old
      by-room true e = next-with-room (leb-true _ _ e)
      by-room false e = next-without-room (leb-false _ _ e)

-- what a list leaves of a buffer, and its counts
state_of : List Violation → List ℕ → State
state_of vs old = (written vs old, counts_of vs)

push-next :
    (us : List Violation) (v : Violation) (old : List ℕ) → length us + 1 < 2 ^ 32 →
    push_one v (state_of us old) ≡ state_of (us ++ v ∷ []) old
unfolding push_one state_of counts_of
push-next us v old few = λ i. (stored_next us v old i, counted_next us v few i)

push-more :
    (us vs : List Violation) (old : List ℕ) → length us + length vs < 2 ^ 32 →
    push_all vs (state_of us old) ≡ state_of (us ++ vs) old
unfolding push_all
push-more us [] old few = rw append-nil
push-more us (v ∷ vs) old few =
    ap (push_all vs) (push-next us v old (omega arith))
    ∙ push-more (us ++ v ∷ []) vs old (omega (arith, length-append us (v ∷ [])))
    ∙ ap (λ ws. state_of ws old) (append_assoc us (v ∷ []) vs)

-- a list that is pushed from the start writes and counts what the definitions say of it, whatever the buffer
pub push-written :
    (vs : List Violation) (old : List ℕ) → length vs < 2 ^ 32 →
    push_all vs (old, record { total = 0; errors = 0 }) ≡ (written vs old, record { total = total_of vs; errors = errors_of vs })
unfolding state_of counts_of select flat_map
push-written vs old few =
    ap (λ l. push_all vs (l, record { total = 0; errors = 0 })) (sym (written_all [] old (omega arith)))
    ∙ push-more [] vs old (omega arith)

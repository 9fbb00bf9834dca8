-- Text is put part by part, since its bytes are put one after another. A text that has room stands whole at its place, and every other
-- byte is kept.
use Prim.Native.Nat.{ℕ, ◌+◌, ◌-◌, ◌≤◌}
use mathlib.Core.Path.{◌≡◌, refl, sym, ◌∙◌, ap}
use mathlib.Core.List.{List, [], ◌∷◌, ◌++◌, append_assoc}
use native.Mathlib.Nat.{add-zero, zero-add}
use native.Mathlib.Numerals.{add-one}
use native.Mathlib.Omega.{arith}
use lib.ListN.{length, take, drop, set, length-append}
use lib.Seq.{drop-drop, sets, sets-eq, length-sets}
use Rattle.report.specs.declared.text.Text.{Text}
use Rattle.report.specs.Put.{State, put, state_of, Adds}

-- what two texts in a row leave is what the second leaves after the first
pub put-append : (xs ys : List ℕ) (s : State) → put (xs ++ ys) s ≡ put ys (put xs s)
unfolding put
put-append [] ys s = refl
put-append (x ∷ xs) ys s = put-append xs ys (set s.0 s.1 x, s.1 + 1)

-- two states in a row, each what a text leaves of the one before it
pub put_then : (xs ys : List ℕ) (s t u : State) → t ≡ put xs s → u ≡ put ys t → u ≡ put (xs ++ ys) s
put_then xs ys s t u e f = rw (put-append, ← e) f

-- a text behind a text
pub adds_then : {old mid new : Text} {xs ys : List ℕ} → Adds old mid xs → Adds mid new ys → Adds old new (xs ++ ys)
adds_then {old} {mid} {new} {xs} {ys} e f =
    record {
      reference = f.reference ∙ e.reference;
      state = put_then xs ys (state_of old) (state_of mid) (state_of new) e.state f.state;
      place = omega (arith, e.place, f.place, length-append xs ys);
      room = f.room ∙ e.room;
    }

-- the buffer and the place after a text
put-sets : (text out : List ℕ) (at : ℕ) → put text (out, at) ≡ (sets out at text, at + length text)
unfolding put
put-sets [] out at = λ j. (out, sym (add-zero at) j)
put-sets (b ∷ bs) out at =
    let end : at + 1 + length bs ≡ at + length (b ∷ bs) = omega arith in
    put-sets bs (set out at b) (at + 1) ∙ (λ j. (sets (set out at b) (add-one at j) bs, end j))

-- the bytes stand between those before their place and those behind it
pub put_between :
    (text part out : List ℕ) (at : ℕ) → part ≡ text → at + length text ≤ length out →
    ◌≡◌ {A = State} (take at out ++ (part ++ drop (at + length text - at) (drop at out)), at + length text) (put text (out, at))
    × (length (take at out ++ (part ++ drop (at + length text - at) (drop at out))) ≡ length out)
put_between text part out at e room =
    let size : at + length text - at ≡ length text = omega arith in
    let whole : sets out at text ≡ take at out ++ (text ++ drop (at + length text) out) = sets-eq text out at room ∙ simp append_assoc in
    rw (e, size, drop-drop (length text) at out) (
      sym (put-sets text out at ∙ ap (λ bytes. (bytes, at + length text)) whole),
      ap length (sym whole) ∙ length-sets out at text,
    )

module _ (text out out₁ : List ℕ) (r : ℕ) (e : ◌≡◌ {A = State} (out₁, r) (put text (out, 0))) where
  both : ◌≡◌ {A = State} (out₁, r) (sets out 0 text, 0 + length text)
  both = e ∙ put-sets text out 0

  -- behind a text that is put at the start
  pub put-place : r ≡ length text
  put-place = omega (arith, ap (λ (s : State). s.1) both)

  -- with room for it the text stands there, and what lies behind it is kept
  pub put_whole : r ≤ length out → out₁ ≡ text ++ drop r out
  put_whole room = ap (λ s. s.0) both ∙ sets-eq text out 0 (omega (arith, put-place)) ∙ rw (zero-add, ← put-place)

  -- so the text is within the buffer
  pub put-within : r ≤ length out → r ≤ length out₁
  put-within room = rw (put_whole room) (simp length-append (omega (arith, put-place)))

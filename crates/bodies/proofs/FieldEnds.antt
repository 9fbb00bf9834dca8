-- A field's type ends where neither a type nor a bit name follows, and no record of the annotations or of the type starts an item: so the item ends
-- where it does from the type's end on.
use Prim.Native.Nat.{ℕ, ◌+◌, ◌<◌, ◌≤◌}
use mathlib.Core.Path.{◌≡◌, refl, sym, ◌∙◌}
use mathlib.Core.Bool.{Bool, true, false, ◌&&◌, ◌||◌, or-true}
use mathlib.Core.List.{List}
use native.Mathlib.Omega.{arith}
use lib.Dec.{leb, ltb}
use borrow.Author.Tests.{eqb-true, ne_eqb, le-leb, ltb-true, ltb-false, not-false}
use Rattle.rules.specs.declared.span.Span.{Span}
use Rattle.rules.specs.Words.{within}
use Rattle.rules.specs.Kind
use Rattle.rules.specs.Record.{Rec, is, record_bytes, kind_in}
use Rattle.rules.specs.Grammar.{starts_field_item}
use Rattle.rules.specs.Bodies.{in_annotations, in_type}
use Rattle.names.specs.View.{view_at}
use Rattle.rules.proofs.Taken.{within-true}
use Rattle.types.proofs.OwnKinds.{below, above}
use Rattle.bodies.specs.declared.field.FieldParts.{FieldParts}
use Rattle.bodies.specs.Runs.{in_field, AllIn, RunTo}
use Rattle.bodies.specs.Parts.{OptionalsTo, PartsAt, Bare}
use Rattle.bodies.proofs.RunEnds.{outside, ends-out, Passed, none_passed, passed-next, passed_to, passed-out, run_on}

-- records that pass one test pass another that asks no more, and two runs on end are one
module _ (p : Rec ℕ Span → Bool) (sheet : List ℕ) (a : ℕ) where
  all_in : (q : Rec ℕ Span → Bool) (e : ℕ) → ((t : Rec ℕ Span) → q t ≡ true → p t ≡ true) → AllIn q sheet a e → AllIn p sheet a e
  unfolding AllIn
  all_in q e implies all = λ j l lt. implies (view_at sheet j) (all j l lt)

  all-on : (m e : ℕ) → AllIn p sheet a m → AllIn p sheet m e → AllIn p sheet a e
  unfolding AllIn
  all-on m e front back = λ j l lt. by j l lt (ltb j m) refl
    where
      by : (j : ℕ) → a ≤ j → j < e → (before : Bool) → ltb j m ≡ before → p (view_at sheet j) ≡ true
      by j l lt true h = front j l (ltb-true j m h)
      by j l lt false h = back j (ltb-false j m h) lt

type-in : (t : Rec ℕ Span) → Kind.is_type t.kind ≡ true → in_type t ≡ true
type-in t h = rw (h, or-true)

optional-in : (t : Rec ℕ Span) → is Kind.Optional t ≡ true → in_type t ≡ true
optional-in t h = rw (eqb-true t.kind Kind.Optional h)

-- optionals are of the type, and so the type ends where it does from their end on
module _ (sheet : List ℕ) (a e behind end : ℕ) (h : a ≤ e) (optionals : RunTo (is Kind.Optional) sheet a e behind) (type : RunTo in_type sheet behind e end) where
  type-behind : RunTo in_type sheet a e end
  type-behind =
      run_on in_type sheet a e behind end (optionals.2 h) optionals.1 (all_in in_type sheet a (is Kind.Optional) behind optional-in optionals.3) type

  optionals-to : OptionalsTo sheet a end behind
  unfolding OptionalsTo
  optionals-to = (optionals.2 h, type.2 optionals.1, optionals.3)

-- no record of the annotations, and none of the type, starts an item
behind-items : (t : Rec ℕ Span) → Kind.Annotation ≤ t.kind → in_field t ≡ true
behind-items t h = rw (above Kind.Field Kind.Invariant t.kind (omega arith))

annotation-item : (t : Rec ℕ Span) → in_annotations t ≡ true → in_field t ≡ true
annotation-item t h = behind-items t (within-true Kind.Annotation Kind.Argument t.kind h).0

type-item : (t : Rec ℕ Span) → in_type t ≡ true → in_field t ≡ true
type-item t h = by (is Kind.BitName t) refl h
  where
    by : (bit : Bool) → is Kind.BitName t ≡ bit → (bit || Kind.is_type t.kind) ≡ true → in_field t ≡ true
    by true name h' = let kind : t.kind ≡ Kind.BitName = eqb-true t.kind Kind.BitName name in behind-items t (omega arith)
    by false name h' =
        let range : (Kind.Primitive ≤ t.kind) × (t.kind ≤ Kind.BitsInline) = within-true Kind.Primitive Kind.BitsInline t.kind h' in
        behind-items t (omega arith)

-- a run that ends before an earlier end ends there too
cut : (p : Rec ℕ Span → Bool) (sheet : List ℕ) (a e r end : ℕ) → a ≤ e → RunTo p sheet a e r → r ≤ end → end ≤ e → RunTo p sheet a end r
cut p sheet a e r end h run least most =
    let start : a ≤ r = run.2 h in
    passed-out p sheet a end r (passed_to p sheet a end a r (none_passed p sheet a end) start least run.3) least
    (λ lt. ends-out p sheet a e r run.0 (omega arith))

pub parts_end :
    (sheet : List ℕ) (a ta behind te end e : ℕ) → a ≤ e → RunTo in_annotations sheet a e ta → RunTo (is Kind.Optional) sheet ta e behind →
    RunTo in_type sheet behind e te → RunTo in_field sheet te e end →
    RunTo in_field sheet a e end
    × PartsAt sheet
    (record { annotations = record { start = a; end = ta }; ty = record { start = ta; end = te }; behind = behind; condition = record { start = te; end = end } })
unfolding PartsAt
parts_end sheet a ta behind te end e h annotations optionals type₀ item =
    let p : Rec ℕ Span → Bool = in_field in
    let type = type-behind sheet ta e behind te annotations.1 optionals type₀ in
    let h₁ : a ≤ ta = annotations.2 h in
    let h₂ : ta ≤ te = type.2 annotations.1 in
    let h₃ : te ≤ end = item.2 type.1 in
    let all : AllIn p sheet a end =
    all-on p sheet a ta end (all_in p sheet a in_annotations ta annotation-item annotations.3)
    (all-on p sheet ta te end (all_in p sheet ta in_type te type-item type.3) item.3) in (
      passed-out p sheet a e end (passed_to p sheet a e a end (none_passed p sheet a e) (omega arith) item.1 all) item.1 (ends-out p sheet te e end item.0),
      (
        refl,
        refl,
        (cut in_annotations sheet a e ta end h annotations (omega arith) item.1).0,
        (cut in_type sheet ta e te end annotations.1 type h₃ item.1).0,
        optionals-to sheet ta e behind te annotations.1 optionals type₀,
      ),
    )

-- the parts of a field whose only part is a type of one record
abbrev pub bare_parts : ℕ → FieldParts
bare_parts a =
    record { annotations = record { start = a; end = a }; ty = record { start = a; end = a + 1 }; behind = a; condition = record { start = a + 1; end = a + 1 } }

-- what the code reads of a field that has one record
module _ (sheet : List ℕ) (a e k : ℕ) (h : a < e) (read : k ≡ kind_in (record_bytes sheet a)) (out : (ltb k Kind.Primitive || ltb Kind.Named k) ≡ false) where
  leaf-read : within Kind.Primitive Kind.Named (view_at sheet a).kind ≡ true
  unfolding view_at
  leaf-read = rw (← read) (not-false (within Kind.Primitive Kind.Named k) (sym (outside Kind.Primitive Kind.Named k) ∙ out))

  pub bare-last : a + 1 ≡ e → Bare sheet a e
  unfolding Bare
  bare-last last = (h, leaf-read, λ lt. absurd (omega arith))

  pub bare-next : (n : ℕ) → n ≡ kind_in (record_bytes sheet (a + 1)) → (leb Kind.Field n && leb n Kind.Invariant) ≡ true → Bare sheet a e
  unfolding Bare view_at
  bare-next n next starts = (h, leaf-read, λ lt. rw (← next) starts)

-- such a field starts and ends where all fields do
module _ (sheet : List ℕ) (a e : ℕ) (bare : Bare sheet a e) where
  pub bare_end : RunTo in_field sheet a e (a + 1) × PartsAt sheet (bare_parts a)
  unfolding Bare
  bare_end =
      let t = view_at sheet a in
      let range : (Kind.Primitive ≤ t.kind) × (t.kind ≤ Kind.Named) = within-true Kind.Primitive Kind.Named t.kind bare.1 in
      let lt : a < e = bare.0 in
      let type : Kind.is_type t.kind ≡ true = rw (le-leb Kind.Primitive t.kind range.0, le-leb t.kind Kind.BitsInline (omega (arith, range.1))) in
      let here : Passed in_type sheet a e (a + 1) = passed-next in_type sheet a e a (none_passed in_type sheet a e) true lt (sym (type-in t type)) refl in
      parts_end sheet a a a (a + 1) (a + 1) e (omega arith)
      (passed-out in_annotations sheet a e a (none_passed in_annotations sheet a e) (omega arith) (λ h. above Kind.Annotation Kind.Argument t.kind (omega (arith, range.0))))
      (passed-out (is Kind.Optional) sheet a e a (none_passed (is Kind.Optional) sheet a e) (omega arith) (λ h. ne_eqb t.kind Kind.Optional (λ q. omega (arith, range.1))))
      (passed-out in_type sheet a e (a + 1) here (omega arith) (λ h. out (bare.2 h)))
      (passed-out in_field sheet (a + 1) e (a + 1) (none_passed in_field sheet (a + 1) e) (omega arith) (λ h. rw (bare.2 h)))
    where
      out : starts_field_item (view_at sheet (a + 1)) ≡ true → in_type (view_at sheet (a + 1)) ≡ false
      out starts =
          let u = view_at sheet (a + 1) in
          let kinds : (Kind.Field ≤ u.kind) × (u.kind ≤ Kind.Invariant) = within-true Kind.Field Kind.Invariant u.kind starts in
          rw (ne_eqb u.kind Kind.BitName (λ q. omega (arith, kinds.1)), below Kind.Primitive Kind.BitsInline u.kind (omega (arith, kinds.1)))

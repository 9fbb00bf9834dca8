-- Records by their index: a range of records is its first record and the range after it, and the annotations and the arguments in it go
-- by what that record is.
use Rattle.std.proofs.Common.{ℕ, zero, suc, ◌+◌, ◌-◌, ◌≤◌, ◌<◌, min, ◌≡◌, ◌∙◌, refl, sym, Bool, true, false, ◌||◌, List, [], ◌∷◌, add-one, arith, leb, leb-true, leb-false, Option, Some, None, MatchOption}
use mathlib.Core.Bool.{or-true}
use Rattle.std.specs.Option.{unwrap_or}
use Rattle.rules.specs.declared.span.Span.{Span}
use Rattle.rules.specs.Words.{front, items, any_of}
use Rattle.rules.specs.Kind
use Rattle.rules.specs.Record.{Rec, is}
use Rattle.rules.specs.Annotations.{annotations_of}
use Rattle.names.specs.View.{view_at, view_of}
use Rattle.types.proofs.Views.{view-cons, view-none}
use Rattle.lists.proofs.Asked.{SomeFrom}
use Rattle.annotations.specs.AnnotationAt.{arguments_from, annotation_at}

-- the records after the first: where no index is left, there are none
pub after_first :
    (sheet : List ℕ) (i j e : ℕ) → j ≡ min (i + 1) 18446744073709551615 → e < 18446744073709551616 → view_of sheet j e ≡ view_of sheet (suc i) e
after_first sheet i j e h f = by (leb e i) refl
  where
    by : (b : Bool) → leb e i ≡ b → view_of sheet j e ≡ view_of sheet (suc i) e
    by true t = let past : e ≤ i = leb-true e i t in view-none sheet j e (omega arith) ∙ sym (view-none sheet (suc i) e (omega arith))
    by false t = let before : i < e = leb-false e i t in let next : j ≡ i + 1 = omega arith in rw (next, add-one)

module _ (sheet : List ℕ) (i e : ℕ) where
  -- the annotations of a range
  pub annotations-next :
      i < e → is Kind.Annotation (view_at sheet i) ≡ true →
      annotations_of (view_of sheet i e) ≡ annotation_at sheet i e ∷ annotations_of (view_of sheet (i + 1) e)
  unfolding items annotation_at arguments_from
  annotations-next h t = rw (view-cons sheet i e h, t, items, add-one)

  pub annotations-other :
      i < e → is Kind.Annotation (view_at sheet i) ≡ false →
      annotations_of (view_of sheet i e) ≡ annotations_of (view_of sheet (i + 1) e)
  unfolding items
  annotations-other h t = rw (view-cons sheet i e h, t, items)

  pub annotations-none : e ≤ i → annotations_of (view_of sheet i e) ≡ []
  unfolding items
  annotations-none h = rw (view-none sheet i e h)

  -- the arguments from a record on
  arguments-next :
      i < e → is Kind.Annotation (view_at sheet i) ≡ false →
      arguments_from sheet i e ≡ view_at sheet i ∷ arguments_from sheet (i + 1) e
  unfolding front arguments_from
  arguments-next h t = rw (view-cons sheet i e h, t, front)

  arguments-stop : i < e → is Kind.Annotation (view_at sheet i) ≡ true → arguments_from sheet i e ≡ []
  unfolding front arguments_from
  arguments-stop h t = rw (view-cons sheet i e h, t, front)

  arguments-none : e ≤ i → arguments_from sheet i e ≡ []
  unfolding front arguments_from
  arguments-none h = rw (view-none sheet i e h)

-- the arguments of an annotation stand up to the next one that was found, or to the end
module _ (sheet : List ℕ) (e j : ℕ) (here : j < e → is Kind.Annotation (view_at sheet j) ≡ true) where
  front-to :
      (n i : ℕ) → i + n ≡ j → j ≤ e → ((k : ℕ) → i ≤ k → k < j → is Kind.Annotation (view_at sheet k) ≡ false) →
      view_of sheet i j ≡ arguments_from sheet i e
  front-to zero i h t none = by (leb e i) refl
    where
      by : (b : Bool) → leb e i ≡ b → view_of sheet i j ≡ arguments_from sheet i e
      by true l = let past : e ≤ i = leb-true e i l in view-none sheet i j (omega arith) ∙ sym (arguments-none sheet i e past)
      by false l =
          let before : i < e = leb-false e i l in
          let same : i ≡ j = omega arith in
          view-none sheet i j (omega arith) ∙ sym (arguments-stop sheet i e before (rw same (here (omega arith))))
  front-to (suc n) i h t none =
      view-cons sheet i j (omega arith)
      ∙ rw (front-to n (i + 1) (omega arith) t (λ k l r. none k (omega arith) r))
      (sym (arguments-next sheet i e (omega arith) (none i (omega arith) (omega arith))))

module _ (sheet : List ℕ) (a e : ℕ) where
  pub arguments_to :
      (i f j : ℕ) (next : Option ℕ) → ((s : List ℕ) → view_of s i f ≡ view_of s (suc a) e) → f ≡ e → j ≡ unwrap_or next f →
      MatchOption next ((k : ℕ) → i ≤ k → k < f → is Kind.Annotation (view_at sheet k) ≡ false)
      (λ m. (i ≤ m) × (m < f) × (is Kind.Annotation (view_at sheet m) ≡ true) × ((k : ℕ) → i ≤ k → k < m → is Kind.Annotation (view_at sheet k) ≡ false)) →
      view_of sheet i j ≡ (annotation_at sheet a e).rest
  unfolding annotation_at arguments_from
  arguments_to i f j None start end stop none = rw (← start sheet, stop) (by (leb f i) refl)
    where
      by : (b : Bool) → leb f i ≡ b → view_of sheet i f ≡ arguments_from sheet i f
      by true t = let past : f ≤ i = leb-true f i t in view-none sheet i f past ∙ sym (arguments-none sheet i f past)
      by false t = let before : i < f = leb-false f i t in front-to sheet f f (λ h. absurd (omega arith)) (f - i) i (omega arith) (omega arith) none
  arguments_to i f j (Some m) start end stop h = rw (← start sheet, stop) (front-to sheet f m (λ l. h.2) (m - i) i (omega (arith, h.0)) (omega (arith, h.1)) h.3)

-- some record of a range passes a test where each was asked
module _ (sheet : List ℕ) (p : Rec ℕ Span → Bool) where
  some-passes : (n i e j : ℕ) → i + n ≡ e → i ≤ j → j < e → p (view_at sheet j) ≡ true → any_of p (view_of sheet i e) ≡ true
  unfolding any_of
  some-passes zero i e j h l u t = absurd (omega arith)
  some-passes (suc n) i e j h l u t =
      rw (view-cons sheet i e (omega arith)) (by (λ lt. some-passes n (i + 1) e j (omega arith) (omega arith) u t) (leb j i) refl)
    where
      by :
          (i < j → any_of p (view_of sheet (i + 1) e) ≡ true) → (b : Bool) → leb j i ≡ b →
          p (view_at sheet i) || any_of p (view_of sheet (i + 1) e) ≡ true
      by more true k = let le : j ≤ i = leb-true j i k in let here : i ≡ j = omega arith in rw (here, t)
      by more false k = rw (more (leb-false j i k)) (or-true (p (view_at sheet i)))

  none-passes : (n i e : ℕ) → i + n ≡ e → ((j : ℕ) → i ≤ j → j < e → p (view_at sheet j) ≡ false) → any_of p (view_of sheet i e) ≡ false
  unfolding any_of
  none-passes zero i e h none = rw (view-none sheet i e (omega arith))
  none-passes (suc n) i e h none =
      rw (view-cons sheet i e (omega arith), none i (omega arith) (omega arith)) (none-passes n (i + 1) e (omega arith) (λ j l. none j (omega arith)))

  pub any_in : (a e : ℕ) (r : Bool) → SomeFrom (λ j. p (view_at sheet j)) a e r → r ≡ any_of p (view_of sheet a e)
  unfolding any_of
  any_in a e true h = sym (some-passes (e - a) a e h.0 (omega (arith, h.1, h.2)) h.1 h.2 h.3)
  any_in a e false h = by (leb e a) refl
    where
      by : (b : Bool) → leb e a ≡ b → false ≡ any_of p (view_of sheet a e)
      by true t = rw (view-none sheet a e (leb-true e a t))
      by false t = let lt : a < e = leb-false e a t in sym (none-passes (e - a) a e (omega arith) h)

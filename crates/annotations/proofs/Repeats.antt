-- Rule 22 record by record: the annotations before a record are those that the definition has met, the last first, so a scan back from
-- the record asks them all.
use Rattle.std.proofs.Common.{ℕ, zero, suc, ◌+◌, ◌-◌, ◌≤◌, ◌<◌, ◌≡◌, refl, ◌∙◌, Bool, true, false, not, ◌&&◌, List, [], ◌∷◌, ◌++◌, arith, eqb}
use Rattle.rules.specs.declared.span.Span.{Span}
use Rattle.rules.specs.Words.{any_of, only_if}
use Rattle.rules.specs.Kind
use Rattle.rules.specs.Record.{is, span_in, record_bytes}
use Rattle.rules.specs.Rule.{Found, found_if}
use Rattle.rules.specs.Annotations.{annotations_of, duplicate_annotations}
use Rattle.names.specs.View.{view_at, view_of, context_by, entry_of, id_part, code_part}
use Rattle.diagnostic.specs.declared.violations.Violations.{Violations}
use Rattle.diagnostic.specs.Violations.{Adds}
use Rattle.annotations.specs.AnnotationAt.{annotation_at}
use Rattle.lists.specs.Slots.{has_key}
use Rattle.lists.specs.Met.{Row, is_met}
use Rattle.annotations.specs.Earlier.{is_annotation, earlier_of, earlier, is_compared_at, repeats_at, annotations_row}
use Rattle.annotations.proofs.Views.{annotations-next, annotations-other, annotations-none}
use Rattle.annotations.proofs.WordCodes.{word-is}
use Rattle.types.proofs.Left.{Leaves, leaves_rest, leaves_none}

module _ (sheet : List ℕ) (a : ℕ) where
  -- the annotations up to the record after record i: record i, if it is one, and those up to it
  earlier-next :
      (i : ℕ) → a ≤ i →
      earlier sheet a (i + 1) ≡ only_if (is Kind.Annotation (view_at sheet i)) (i ∷ []) ++ earlier sheet a i
  unfolding earlier_of
  earlier-next i h =
      let more : i + 1 - a ≡ suc (i - a) = omega arith in
      let last : a + (i - a) ≡ i = omega arith in
      rw (more, last)

  earlier-none : (i : ℕ) → i ≤ a → earlier sheet a i ≡ []
  unfolding earlier_of
  earlier-none i h =
      let none : i - a ≡ 0 = omega arith in
      rw none

-- the annotations before a record, by their indices and one by one
module _ (table sheet : List ℕ) (a : ℕ) where
  slotted_same :
      (i n : ℕ) → has_key (is_annotation sheet) (entry_of id_part table) a (entry_of id_part table i) n ≡ any_of ((context_by table sheet).same i) (earlier_of sheet a n)
  unfolding has_key any_of earlier_of context_by
  slotted_same i zero = refl
  slotted_same i (suc n) = go (slotted_same i n) (is_annotation sheet (a + n)) refl
    where
      go :
          has_key (is_annotation sheet) (entry_of id_part table) a (entry_of id_part table i) n ≡ any_of ((context_by table sheet).same i) (earlier_of sheet a n) →
          (b : Bool) → is_annotation sheet (a + n) ≡ b →
          has_key (is_annotation sheet) (entry_of id_part table) a (entry_of id_part table i) (suc n) ≡ any_of ((context_by table sheet).same i) (earlier_of sheet a (suc n))
      go ih true t = rw (t, ih)
      go ih false t = rw (t, ih)

-- what is told of record i, if it is compared, is whether it repeats an annotation
pub met-repeats :
    (table sheet : List ℕ) (a i : ℕ) (row : Row) (compared r : Bool) → row ≡ annotations_row table sheet a → compared ≡ is_compared_at table sheet i →
    compared ≡ true → r ≡ is_met row i → r ≡ repeats_at table sheet a i
met-repeats table sheet a i row compared r hr hc here h = rw (← hc, here) (rw hr at h ∙ slotted_same table sheet a i (i - a))

pub other-repeats :
    (table sheet : List ℕ) (a i : ℕ) (compared : Bool) → compared ≡ is_compared_at table sheet i → compared ≡ false → false ≡ repeats_at table sheet a i
other-repeats table sheet a i compared hc other = rw (← hc, other)

-- whether record i may repeat an annotation, by its code
pub compared_by :
    (table sheet : List ℕ) (i : ℕ) → is Kind.Annotation (view_at sheet i) && not (eqb (entry_of code_part table i) 6) ≡ is_compared_at table sheet i
unfolding is_compared_at
compared_by table sheet i = rw (word-is table sheet i 6 (omega arith) (omega arith) _ refl)

-- what rule 22 finds from record i on, after the annotations before it
module _ (table sheet : List ℕ) (a e : ℕ) where
  unfoldable pub duplicates_from : ℕ → List (Found Span)
  duplicates_from i = duplicate_annotations (context_by table sheet) (earlier sheet a i) (annotations_of (view_of sheet i e))

  duplicates-next :
      (i : ℕ) → i < e → a ≤ i →
      duplicates_from i ≡ found_if 22 (repeats_at table sheet a i) (span_in (record_bytes sheet i)) ++ duplicates_from (i + 1)
  unfolding duplicates_from duplicate_annotations is_compared_at annotation_at view_at
  duplicates-next i h l = by_kind (is Kind.Annotation (view_at sheet i)) refl
    where
      by_kind :
          (b : Bool) → is Kind.Annotation (view_at sheet i) ≡ b →
          duplicates_from i ≡ found_if 22 (repeats_at table sheet a i) (span_in (record_bytes sheet i)) ++ duplicates_from (i + 1)
      by_kind true t = rw (annotations-next sheet i e h t, earlier-next sheet a i l, t)
      by_kind false t = rw (annotations-other sheet i e h t, earlier-next sheet a i l, t)

  pub duplicates_all : duplicates_from a ≡ duplicate_annotations (context_by table sheet) [] (annotations_of (view_of sheet a e))
  unfolding duplicates_from
  duplicates_all = rw (earlier-none sheet a a (omega arith))

  -- a turn of the loop: rule 22 at record i
  pub duplicates-turn :
      (old mid new : Violations) (all : List (Found Span)) (i : ℕ) (bad : Bool) → a ≤ i → i < e → bad ≡ repeats_at table sheet a i →
      Leaves old mid all (duplicates_from i) → Adds mid new (found_if 22 bad (span_in (record_bytes sheet i))) → Leaves old new all (duplicates_from (i + 1))
  duplicates-turn old mid new all i bad l h hb left told = leaves_rest old mid new all _ _ _ (rw (duplicates-next i h l, ← hb) at left) refl told

  pub duplicates_end : (old now : Violations) (all : List (Found Span)) (i : ℕ) → e ≤ i → Leaves old now all (duplicates_from i) → Adds old now all
  unfolding duplicates_from duplicate_annotations
  duplicates_end old now all i h left = leaves_none old now all _ (rw (annotations-none sheet i e h) at left) refl

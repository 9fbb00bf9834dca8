-- A whole field list: what is known before each record, and what is still to add.
use Rattle.std.proofs.Common.{◌≡◌, ℕ, zero, suc, ◌+◌, ◌-◌, ◌≤◌, ◌<◌, Bool, true, false, not, ◌&&◌, List, [], refl, sym, ap, ◌∙◌, arith}
use mathlib.Core.Path.{ap₂}
use borrow.Author.Tests.{not-true}
use Rattle.rules.specs.declared.span.Span.{Span}
use Rattle.rules.specs.Words.{any_of, member, items}
use Rattle.rules.specs.Kind
use Rattle.rules.specs.Record.{is, kind_in, value_in, record_bytes}
use Rattle.rules.specs.Grammar.{starts_field_item}
use Rattle.rules.specs.Rule.{Found, found_if}
use Rattle.rules.specs.Bodies.{field_scheme, items_violations, field_item_violations, field_violations, field_list_violations}
use Rattle.names.specs.Known.{numbers_of, context_in}
use Rattle.names.specs.View.{view_at, view_of, entry_of, id_part, context_by}
use Rattle.diagnostic.specs.declared.violations.Violations.{Violations}
use Rattle.diagnostic.specs.Violations.{Adds}
use Rattle.lists.specs.Slots.{has_key}
use Rattle.lists.specs.Met.{Row, of_kind, is_met}
use Rattle.types.proofs.Left.{Leaves, leaves_all, leaves_rest, leaves_none}
use Rattle.lists.specs.declared.whole.WholeRecords.{WholeRecords}
use Rattle.lists.specs.declared.items.MetItem.{MetItem}
use Rattle.lists.specs.Items.{Items, listed, IsItem, IsOther}
use Rattle.lists.specs.MetAt.{MetAt}
use Rattle.lists.specs.Earlier.{earlier, values_before}
use Rattle.bodies.specs.Runs.{in_field, AllIn, RunTo}
use Rattle.lists.specs.Ordinal.{member_found}
use Rattle.bodies.specs.Items.{field_found}
use Rattle.lists.proofs.Passing.{gone}
use Rattle.bodies.proofs.Turns.{names_of, turn-none}
use Rattle.bodies.proofs.Retired.{retired-fields}
use Rattle.bodies.proofs.FieldTurns.{fields_left, field-not, field-inner, field-other, field-turn, item-found}

module _ (table sheet : List ℕ) (a : ℕ) where
  -- the names met are those of the fields before
  has-names :
      (i n : ℕ) →
      has_key (of_kind 11 sheet) (entry_of id_part table) a (entry_of id_part table i) n ≡ any_of ((context_by table sheet).same i) (names_of (earlier 11 sheet a n))
  unfolding has_key any_of earlier context_by view_at
  has-names i zero = refl
  has-names i (suc n) = go (has-names i n) (of_kind 11 sheet (a + n)) refl
    where
      go :
          has_key (of_kind 11 sheet) (entry_of id_part table) a (entry_of id_part table i) n ≡ any_of ((context_by table sheet).same i) (names_of (earlier 11 sheet a n)) →
          (b : Bool) → of_kind 11 sheet (a + n) ≡ b →
          has_key (of_kind 11 sheet) (entry_of id_part table) a (entry_of id_part table i) (suc n)
          ≡ any_of ((context_by table sheet).same i) (names_of (earlier 11 sheet a (suc n)))
      go ih true t = rw (t, ih)
      go ih false t = rw (t, ih)

  pub fields-start :
      (e : ℕ) → fields_left table sheet a e (gone 11 12 sheet a e) a ≡ field_list_violations (context_by table sheet) (view_of sheet a e)
  unfolding fields_left field_list_violations earlier
  fields-start e =
      let none : a - a ≡ 0 = omega arith in
      rw none
      (ap (λ xs. items_violations (context_by table sheet) field_scheme (field_item_violations (context_by table sheet)) xs [] [] (items starts_field_item (view_of sheet a e)))
      (sym (retired-fields (view_of sheet a e))))

module _ (fields : WholeRecords) where
  abbrev table : List ℕ
  table = numbers_of fields.context

  abbrev sheet : List ℕ
  sheet = fields.context.sheet.now

  abbrev a : ℕ
  a = fields.range.start

  abbrev e : ℕ
  e = fields.range.end

  abbrev tombs : List ℕ
  tombs = gone 11 12 sheet a e

  abbrev still : ℕ → List (Found Span)
  still i = fields_left table sheet a e tombs i

  -- the list of the fields, and their names
  abbrev pub fields_of : Items
  fields_of = listed sheet fields.range Kind.Field Kind.FieldTombstone

  abbrev pub names_in : Row
  names_in = record { sheet = sheet; table = table; kind = Kind.Field; start = a }

  -- before record i of the list
  pub record FieldsKnown (seen : Items) (names : Row) (old now : Violations) (i : ℕ) : Type 0 where
    pub list : seen ≡ fields_of
    pub named : names ≡ names_in
    pub least : a ≤ i
    pub most : i ≤ e
    pub found : Leaves old now (field_list_violations (context_in fields.context) (view_of sheet a e)) (still i)

  -- the start of the list
  pub fields_none :
      (seen : Items) (names : Row) (vs : Violations) → names ≡ names_in → seen ≡ fields_of → FieldsKnown seen names vs vs a
  fields_none seen names vs named list = record {
    list = list;
    named = named;
    least = omega arith;
    most = fields.ordered;
    found = rw (← (fields-start table sheet a e)) (leaves_all vs (still a));
  }

  module _ (seen : Items) (names : Row) (old now : Violations) where
    -- a record that is no field
    pub fields_other :
        (now' : Violations) (i : ℕ) → FieldsKnown seen names old now i → i < e → IsOther seen i →
        Adds now now' (found_if 1 (is Kind.Invariant (view_at sheet i)) (view_at sheet i).place) → FieldsKnown seen names old now' (i + 1)
    fields_other now' i k h other adds =
        let test : is Kind.Field (view_at sheet i) ≡ false = (rw k.list at other) h in
        record {
          list = k.list;
          named = k.named;
          least = omega (arith, k.least);
          most = omega arith;
          found = leaves_rest old now now' _ _ _ _ k.found (field-other table sheet a e tombs i k.least h test) adds;
        }

    -- a record of a field's parts
    fields-inner : (i : ℕ) → FieldsKnown seen names old now i → i < e → starts_field_item (view_at sheet i) ≡ false → FieldsKnown seen names old now (i + 1)
    fields-inner i k h st = record {
      list = k.list;
      named = k.named;
      least = omega (arith, k.least);
      most = omega arith;
      found = rw (field-inner table sheet a e tombs i k.least h st) at k.found;
    }

    -- all of a field's parts
    fields-parts : (i n : ℕ) → FieldsKnown seen names old now i → i + n ≤ e → AllIn in_field sheet i (i + n) → FieldsKnown seen names old now (i + n)
    unfolding AllIn
    fields-parts i zero k h all = let none : i + 0 ≡ i = omega arith in rw none k
    fields-parts i (suc n) k h all =
        let more : i + suc n ≡ i + n + 1 = omega arith in
        rw more
        (fields-inner (i + n) (fields-parts i n k (omega arith) (λ j l lt. all j l (omega arith))) (omega arith)
        (not-true (starts_field_item (view_at sheet (i + n))) (all (i + n) (omega arith) (omega arith))))

    fields_to : (i end : ℕ) → FieldsKnown seen names old now i → i ≤ end → end ≤ e → AllIn in_field sheet i end → FieldsKnown seen names old now end
    fields_to i end k le h all =
        let last : i + (end - i) ≡ end = omega arith in
        rw last at (fields-parts i (end - i) k (omega arith) (rw (sym last) at all))

    -- the end of the list
    pub fields_end : (i : ℕ) → FieldsKnown seen names old now i → e ≤ i → Adds old now (field_list_violations (context_in fields.context) (view_of sheet a e))
    unfolding fields_left
    fields_end i k h =
        leaves_none old now _ _ k.found
        (turn-none (context_in fields.context) field_scheme (field_item_violations (context_in fields.context)) starts_field_item 11 sheet a e tombs i h)

  -- a field
  module _ (seen : Items) (names : Row) (old now : Violations) (i : ℕ) (k : FieldsKnown seen names old now i) (field : IsItem seen i) where
    h : i < e
    h = (rw k.list at field).0

    test : is Kind.Field (view_at sheet i) ≡ true
    test = (rw k.list at field).1

    pub fields_field :
        (seen' : Items) (names' : Row) (mid now' : Violations) (item : MetItem) (renamed : Bool) (end : ℕ) → seen' ≡ seen → MetAt seen i item →
        (names' ≡ names) × (renamed ≡ is_met names i) → RunTo in_field sheet (i + 1) e end →
        Adds now mid (member_found field_scheme item.meeting.tombstoned item.meeting.met renamed (view_at item.sheet.now item.index)) →
        Adds mid now' (field_violations (context_in fields.context) (view_of sheet (i + 1) end)) → FieldsKnown seen' names' old now' end
    unfolding view_at
    fields_field seen' names' mid now' item renamed end same told again ends ordinal parts =
        let inside : i < e = h in
        let m = item.meeting in
        let adds : Adds now now' (field_found table sheet i end m.tombstoned m.met renamed) =
        item-found table sheet i end m.tombstoned m.met renamed now mid now' (rw (told.sheet, k.list, told.index) at ordinal) parts in
        let dead : m.tombstoned ≡ member (value_in (record_bytes sheet i)) tombs = rw k.list at told.tombstoned in
        let met : m.met ≡ member (value_in (record_bytes sheet i)) (values_before 11 sheet a i) = rw k.list at told.met in
        let named : renamed ≡ is_met names_in i = rw k.named at again.1 in
        let next : FieldsKnown seen' names' old now' (i + 1) = record {
          list = same ∙ k.list;
          named = again.0 ∙ k.named;
          least = omega (arith, k.least);
          most = omega arith;
          found =
              leaves_rest old now now' _ _ _ _ k.found
              (field-turn table sheet a e tombs i end m.tombstoned m.met renamed k.least h test ends.0 dead (ap₂ (λ g m. not g && m) dead met) (named ∙ has-names table sheet a i (i - a)))
              adds;
        } in
        fields_to seen' names' old now' (i + 1) end next (ends.2 (omega arith)) ends.1 ends.3

-- A list of items, record by record: what is still to find from record i on.
use Prim.Native.Nat.{ℕ, ◌+◌, ◌-◌, ◌≤◌, ◌<◌}
use mathlib.Core.Path.{◌≡◌, sym, ap, ◌∙◌}
use mathlib.Core.Bool.{Bool, true, false, not}
use mathlib.Core.List.{List, [], ◌∷◌, ◌++◌, map}
use Rattle.rules.specs.declared.span.Span.{Span}
use Rattle.rules.specs.Words.{only_if, front, Item, items}
use Rattle.rules.specs.Record.{Rec, is}
use Rattle.rules.specs.Context.{ValidationContext}
use Rattle.rules.specs.Rule.{Found}
use Rattle.rules.specs.Bodies.{Scheme, is_member, member_violations, items_violations}
use Rattle.names.specs.View.{view_at, view_of}
use Rattle.types.proofs.Views.{view-cons, view-none}
use Rattle.lists.specs.Earlier.{earlier}
use Rattle.lists.proofs.Passing.{earlier-next, values}

-- the names of records
abbrev pub names_of : List (Rec ℕ Span) → List ℕ
names_of = map (λ r. r.name)

module _
    (ctx : ValidationContext ℕ Span)
    (s : Scheme)
    (own : Item (Rec ℕ Span) → List (Found Span))
    (start : Rec ℕ Span → Bool)
    (kind : ℕ)
    (sheet : List ℕ)
    (a e : ℕ)
    (gone : List ℕ)
  where
    abbrev before : ℕ → List (Rec ℕ Span)
    before i = earlier kind sheet a (i - a)

    -- what is found from record i on
    abbrev pub left : ℕ → List (Found Span)
    left i = items_violations ctx s own gone (values (before i)) (names_of (before i)) (items start (view_of sheet i e))

    -- the item that begins at record i
    abbrev pub item_at : ℕ → Item (Rec ℕ Span)
    item_at i = record { head = view_at sheet i; rest = front (λ r. not (start r)) (view_of sheet (i + 1) e) }

    items-next : (i : ℕ) → i < e → start (view_at sheet i) ≡ true → items start (view_of sheet i e) ≡ item_at i ∷ items start (view_of sheet (i + 1) e)
    unfolding items
    items-next i h st = rw (view-cons sheet i e h, st, items)

    items-skip : (i : ℕ) → i < e → start (view_at sheet i) ≡ false → items start (view_of sheet i e) ≡ items start (view_of sheet (i + 1) e)
    unfolding items
    items-skip i h st = rw (view-cons sheet i e h, st, items)

    -- the items passed, after one more and after none
    before-next : (i : ℕ) (b : Bool) → a ≤ i → is kind (view_at sheet i) ≡ b → before (i + 1) ≡ only_if b (view_at sheet i ∷ []) ++ before i
    before-next i b le t = earlier-next kind sheet a i le ∙ ap (λ c. only_if c (view_at sheet i ∷ []) ++ before i) t

    -- the violations at items after those records
    abbrev after : List (Rec ℕ Span) → List (Item (Rec ℕ Span)) → List (Found Span)
    after rs its = items_violations ctx s own gone (values rs) (names_of rs) its

    after-member :
        (rs : List (Rec ℕ Span)) (it : Item (Rec ℕ Span)) (its : List (Item (Rec ℕ Span))) → is_member it.head ≡ true →
        after rs (it ∷ its) ≡ member_violations ctx s gone (values rs) (names_of rs) it.head ++ own it ++ after (it.head ∷ rs) its
    unfolding items_violations
    after-member rs it its mem = rw (mem, items_violations)

    after-other :
        (rs : List (Rec ℕ Span)) (it : Item (Rec ℕ Span)) (its : List (Item (Rec ℕ Span))) → is_member it.head ≡ false →
        after rs (it ∷ its) ≡ own it ++ after rs its
    unfolding items_violations
    after-other rs it its mem = rw (mem, items_violations)

    pub turn-member :
        (i : ℕ) → a ≤ i → i < e → start (view_at sheet i) ≡ true → is_member (view_at sheet i) ≡ true → is kind (view_at sheet i) ≡ true →
        left i
        ≡ member_violations ctx s gone (values (before i)) (names_of (before i)) (view_at sheet i)
        ++ own (item_at i)
        ++ left (i + 1)
    turn-member i le h st mem t =
        ap (after (before i)) (items-next i h st)
        ∙ after-member (before i) (item_at i) (items start (view_of sheet (i + 1) e)) mem
        ∙ ap (λ rs. member_violations ctx s gone (values (before i)) (names_of (before i)) (view_at sheet i)
        ++ own (item_at i) ++ after rs (items start (view_of sheet (i + 1) e)))
        (sym (before-next i true le t))

    pub turn-other :
        (i : ℕ) → a ≤ i → i < e → start (view_at sheet i) ≡ true → is_member (view_at sheet i) ≡ false → is kind (view_at sheet i) ≡ false →
        left i ≡ own (item_at i) ++ left (i + 1)
    turn-other i le h st mem t =
        ap (after (before i)) (items-next i h st)
        ∙ after-other (before i) (item_at i) (items start (view_of sheet (i + 1) e)) mem
        ∙ ap (λ rs. own (item_at i) ++ after rs (items start (view_of sheet (i + 1) e))) (sym (before-next i false le t))

    pub turn-inner :
        (i : ℕ) → a ≤ i → i < e → start (view_at sheet i) ≡ false → is kind (view_at sheet i) ≡ false → left i ≡ left (i + 1)
    turn-inner i le h st t =
        ap (after (before i)) (items-skip i h st)
        ∙ ap (λ rs. after rs (items start (view_of sheet (i + 1) e))) (sym (before-next i false le t))

    pub turn-none : (i : ℕ) → e ≤ i → left i ≡ []
    unfolding items items_violations
    turn-none i h = rw (view-none sheet i e h)

-- What is known after the records before i: the ordinals of all tombstones, and those of the items so far.
use Prim.Native.Nat.{ℕ, zero, suc, ◌+◌, ◌-◌, ◌%◌, ◌≤◌, ◌<◌}
use native.Mathlib.Omega.{arith}
use mathlib.Core.Path.{◌≡◌, refl, sym, ap, ◌∙◌}
use mathlib.Core.Bool.{Bool, true, false}
use mathlib.Core.List.{List, [], ◌∷◌, ◌++◌, map}
use lib.ListN.{length, get_or, set, length-set}
use lib.Dec.{leb, eqb}
use borrow.Author.Tests.{eqb-true}
use Rattle.rules.specs.declared.span.Span.{Span}
use Rattle.rules.specs.Words.{only_if, member, select}
use Rattle.rules.specs.Record.{Rec, is, value_in, record_bytes}
use Rattle.rules.specs.Refusals.{max_ordinal}
use Rattle.rules.proofs.Joined.{length-select}
use Rattle.names.specs.View.{view_at, view_from, view_of}
use Rattle.names.proofs.Views.{view-cons}
use Rattle.lists.specs.Seen.{latest, narrow, Marked, Kept, Known}
use Rattle.lists.specs.Earlier.{values_of, earlier, values_before}
use Rattle.lists.proofs.Marks.{latest-above, latest-store, length-latest, marked-fewer, marked-store, unmarked}
use Rattle.lists.proofs.Narrow.{narrow-kept, narrow-out, narrow-member}

-- the records of a kind before the next record
pub earlier-next :
    (kind : ℕ) (sheet : List ℕ) (a i : ℕ) → a ≤ i →
    earlier kind sheet a (i + 1 - a) ≡ only_if (is kind (view_at sheet i)) (view_at sheet i ∷ []) ++ earlier kind sheet a (i - a)
unfolding earlier
earlier-next kind sheet a i le =
    let more : i + 1 - a ≡ suc (i - a) = omega arith in
    let back : a + (i - a) ≡ i = omega arith in
    rw (more, back)

-- no record has two kinds
two-kinds :
    (k j : ℕ) → (k ≡ j → ⊥) → (rs : List (Rec ℕ Span)) → length (values_of k rs) + length (select (is j) rs) ≤ length rs
unfolding values_of select
two-kinds k j ne [] = omega arith
two-kinds k j ne (r ∷ rs) = go (two-kinds k j ne rs) (eqb r.kind k) (eqb r.kind j) refl refl
  where
    go :
        length (values_of k rs) + length (select (is j) rs) ≤ length rs → (b c : Bool) → eqb r.kind k ≡ b → eqb r.kind j ≡ c →
        length (values_of k (r ∷ rs)) + length (select (is j) (r ∷ rs)) ≤ length (r ∷ rs)
    go ih true true hb hc = absurd (ne (sym (eqb-true r.kind k hb) ∙ eqb-true r.kind j hc))
    go ih true false hb hc = rw (hb, hc) (omega arith)
    go ih false true hb hc = rw (hb, hc) (omega arith)
    go ih false false hb hc = rw (hb, hc) (omega arith)

length-view : (sheet : List ℕ) (a n : ℕ) → length (view_from sheet a n) ≡ n
unfolding view_from
length-view sheet a zero = refl
length-view sheet a (suc n) = ap suc (length-view sheet (suc a) n)

-- how many records of a kind are still to come
left-member :
    (kind : ℕ) (sheet : List ℕ) (i e : ℕ) → i < e → is kind (view_at sheet i) ≡ true →
    length (select (is kind) (view_of sheet i e)) ≡ suc (length (select (is kind) (view_of sheet (i + 1) e)))
unfolding select
left-member kind sheet i e h t = rw (view-cons sheet i e h, t)

left_other :
    (kind : ℕ) (sheet : List ℕ) (i e : ℕ) → i < e → is kind (view_at sheet i) ≡ false →
    length (select (is kind) (view_of sheet i e)) ≡ length (select (is kind) (view_of sheet (i + 1) e))
unfolding select
left_other kind sheet i e h t = rw (view-cons sheet i e h, t)

-- the values of records
abbrev pub values : List (Rec ℕ Span) → List ℕ
values = map (λ r. r.value)

module _ (kind tomb : ℕ) (sheet : List ℕ) (a e : ℕ) where
  abbrev pub gone : List ℕ
  gone = values_of tomb (view_of sheet a e)

  abbrev pub before : ℕ → List (Rec ℕ Span)
  before i = earlier kind sheet a (i - a)

  -- the start of the list
  pub known_start :
      (numbers : List ℕ) (marks : List Bool) (n : ℕ) → (tomb ≡ kind → ⊥) → e ≤ 1024 → length numbers ≡ 1024 → length marks ≡ 1021 → latest numbers 0 n ≡ narrow gone →
      Marked numbers marks n → Known kind tomb sheet a e n numbers marks n a
  unfolding earlier latest select
  known_start numbers marks n ne small size₁ size₂ h m =
      let none : a - a ≡ 0 = omega arith in
      let fresh : n - n ≡ 0 = omega arith in
      let count : n ≡ length (narrow gone) = sym (length-latest numbers 0 n) ∙ ap length h in (
        size₁,
        size₂,
        omega arith,
        omega arith,
        omega (arith, two-kinds tomb kind ne (view_of sheet a e), length-view sheet a (e - a), count, length-select (λ n. leb n max_ordinal) gone),
        h,
        rw (none, fresh),
        m,
      )

  module _ (tombstones : ℕ) (numbers : List ℕ) (marks : List Bool) (len i : ℕ) (k : Known kind tomb sheet a e tombstones numbers marks len i) where
    values-next : (b : Bool) → is kind (view_at sheet i) ≡ b → values (only_if b (view_at sheet i ∷ []) ++ before i) ≡ values_before kind sheet a (i + 1)
    values-next b t = ap values (sym (earlier-next kind sheet a i k.2 ∙ ap (λ b. only_if b (view_at sheet i ∷ []) ++ before i) t))

    pub known-other : i < e → is kind (view_at sheet i) ≡ false → Known kind tomb sheet a e tombstones numbers marks len (i + 1)
    known-other h t = (
      k.0,
      k.1,
      omega (arith, k.2),
      k.3,
      omega (arith, k.4, left_other kind sheet i e h t),
      k.5,
      k.6 ∙ ap narrow (values-next false t),
      k.7,
    )

  -- a number that row 5 lets through is one of those kept if a record has it
  module _ (tombstones : ℕ) (numbers : List ℕ) (len i v n : ℕ) (k : Kept kind tomb sheet a e tombstones numbers len i) (small : v ≤ 4294967295) (hn : n ≡ v) where
    pub kept-gone : (found : Bool) → found ≡ member n (latest numbers 0 tombstones) → found ≡ member v gone
    kept-gone found h =
        h
        ∙ ap (λ x. member x (latest numbers 0 tombstones)) hn
        ∙ ap (member v) k.4
        ∙ narrow-member v gone small

    pub kept-before : (found : Bool) → found ≡ member n (latest numbers tombstones (len - tombstones)) → found ≡ member v (values (before i))
    kept-before found h =
        h
        ∙ ap (λ x. member x (latest numbers tombstones (len - tombstones))) hn
        ∙ ap (member v) k.5
        ∙ narrow-member v (values (before i)) small

  -- record i is an item, and its ordinal is to be met
  module _
      (tombstones : ℕ)
      (numbers : List ℕ)
      (marks : List Bool)
      (len i v : ℕ)
      (inside : i < e)
      (item : is kind (view_at sheet i) ≡ true)
      (read : v ≡ value_in (record_bytes sheet i))
      (k : Known kind tomb sheet a e tombstones numbers marks len i)
    where
      -- there is room for one number more
      pub met-room : len < 1024
      met-room = omega (arith, k.4, left-member kind sheet i e inside item)

      pub met-asks : Kept kind tomb sheet a e tombstones numbers len i
      met-asks = (k.2, inside, k.3, met-room, k.5, k.6)

      next : v ∷ values (before i) ≡ values_before kind sheet a (i + 1)
      unfolding view_at
      next = ap (λ x. x ∷ values (before i)) read ∙ values-next tombstones numbers marks len i k true item

      -- a number that row 5 does not let through
      pub known-out : 4294967295 < v → Known kind tomb sheet a e tombstones numbers marks len (i + 1)
      known-out wide = (
        k.0,
        k.1,
        omega (arith, k.2),
        k.3,
        omega (arith, k.4, left-member kind sheet i e inside item),
        k.5,
        k.6 ∙ sym (narrow-out v (values (before i)) wide) ∙ ap narrow next,
        k.7,
      )

      module _ (n : ℕ) (small : v ≤ 4294967295) (hn : n ≡ v) where
        -- one that it does is kept
        pub known-kept : Known kind tomb sheet a e tombstones (set numbers len n) (set marks (n % 1021) true) (len + 1) (i + 1)
        known-kept =
            let more : len + 1 - tombstones ≡ len - tombstones + 1 = omega (arith, k.3) in (
              length-set numbers len n ∙ k.0,
              length-set marks (n % 1021) true ∙ k.1,
              omega (arith, k.2),
              omega (arith, k.3),
              omega (arith, k.4, left-member kind sheet i e inside item),
              latest-above numbers len n 0 tombstones (omega (arith, k.3)) ∙ k.5,
              ap (latest (set numbers len n) tombstones) more
                  ∙ latest-store numbers tombstones (len - tombstones) len n (omega (arith, k.3)) (omega (arith, k.0, met-room))
                  ∙ ap (λ xs. n ∷ xs) k.6
                  ∙ ap (λ x. x ∷ narrow (values (before i))) hn
                  ∙ sym (narrow-kept v (values (before i)) small)
                  ∙ ap narrow next,
              marked-store numbers marks len n (omega (arith, k.0, met-room)) k.1 k.7,
            )

        -- and where it has no mark, no record before has it
        module _ (p : ℕ) (hp : p ≡ n % 1021) (z : get_or marks p false ≡ false) where
          pub unmet-gone : false ≡ member v gone
          unmet-gone =
              kept-gone tombstones numbers len i v n met-asks small hn false
              (rw whole at (unmarked numbers marks n 0 tombstones p hp z (marked-fewer numbers marks tombstones len k.3 k.7) (omega arith)))
            where
              whole : tombstones - 0 ≡ tombstones
              whole = omega arith

          pub unmet-before : false ≡ member v (values (before i))
          unmet-before = kept-before tombstones numbers len i v n met-asks small hn false (unmarked numbers marks n tombstones len p hp z k.7 k.3)

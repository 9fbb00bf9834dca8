-- The items before one bear on it only through three tests, whether an ordinal is tombstoned, whether it was met and whether a name was;
-- so the violations along items are counted with tests in the place of lists.
use Prim.Native.Nat.{ℕ, ◌+◌}
use native.Mathlib.Omega.{arith}
use mathlib.Core.Path.{◌≡◌, refl, ap₂, ◌∙◌, sym}
use mathlib.Core.Bool.{Bool, true, false, not, ◌&&◌, ◌||◌}
use mathlib.Core.List.{List, [], ◌∷◌, ◌++◌, flat_map}
use lib.Dec.{ltb, eqb}
use Rattle.rules.specs.Words.{number_if, any_of, member, select, Item}
use Rattle.rules.specs.Record.{Rec}
use Rattle.rules.specs.Context.{ValidationContext}
use Rattle.rules.specs.Rule.{Found, found_if}
use Rattle.rules.specs.Bodies.{Scheme, Slot, found_all, is_member, slot_of, slots, retired_ordinals, member_violations, items_violations, list_violations}
use Rattle.rules.specs.Items.{occurrences}
use Rattle.rules.proofs.Occurrences.{occurrences-cons, occurrences-append, any-flat_map}

-- what bears on an item: the tombstoned ordinals, and the ordinals and names of the items before it
pub record Known (N : Type 0) : Type 0 where
  pub gone : ℕ → Bool
  pub met : ℕ → Bool
  pub seen : N → Bool

module _ {A : Type 0} where
  -- the test, which the element passes too where it counts
  abbrev pub or_also : (A → A → Bool) → Bool → A → (A → Bool) → A → Bool
  or_also eq counts x seen y = (counts && eq y x) || seen y

module _ {N P : Type 0} (ctx : ValidationContext N P) where
  -- what bears on the items after a record, if it is one that counts
  abbrev pub after : Bool → Rec N P → Known N → Known N
  after counts r k =
      record {
        gone = k.gone;
        met = or_also eqb counts r.value k.met;
        seen = or_also ctx.same counts r.name k.seen;
      }

  abbrev pub known : List ℕ → List ℕ → List N → Known N
  known gone met names =
      record { gone = λ n. member n gone; met = λ n. member n met; seen = λ x. any_of (ctx.same x) names }

module _ {P : Type 0} (p : ℕ → Bool) where
  -- the violation is of a rule that passes the test
  abbrev pub by_rule : Found P → Bool
  by_rule f = p f.rule

  -- how many violations are
  abbrev pub rule_tally : List (Found P) → ℕ
  rule_tally = occurrences by_rule

  pub found-tally : (rule : ℕ) (bad : Bool) (place : P) → rule_tally (found_if rule bad place) ≡ number_if bad (number_if (p rule) 1)
  unfolding occurrences select
  found-tally rule false place = refl
  found-tally rule true place = occurrences-cons by_rule (record { rule = rule; place = place }) [] ∙ omega arith

  found_all-tally : (rules : List ℕ) (bad : Bool) (place : P) → rule_tally (found_all rules bad place) ≡ number_if bad (occurrences p rules)
  unfolding occurrences select flat_map
  found_all-tally [] true place = refl
  found_all-tally [] false place = refl
  found_all-tally (rule ∷ rules) true place =
      occurrences-append by_rule (found_if rule true place) (found_all rules true place)
      ∙ ap₂ ◌+◌ (found-tally rule true place) (found_all-tally rules true place)
      ∙ sym (occurrences-cons p rule rules)
  found_all-tally (rule ∷ rules) false place = found_all-tally rules false place

module _ {N P : Type 0} (ctx : ValidationContext N P) (p : ℕ → Bool) (s : Scheme) where
  -- how many violations of the scheme there are at a record
  unfoldable pub member_tally : Known N → Rec N P → ℕ
  member_tally k r =
      number_if (ltb s.greatest r.value) (occurrences p s.over)
      + number_if (k.gone r.value) (occurrences p s.tombstoned)
      + number_if (not (k.gone r.value) && k.met r.value) (occurrences p s.repeated)
      + number_if (k.seen r.name) (occurrences p s.renamed)

  -- how many there are along items, each with a number of its own
  unfoldable pub items_tally : (Item (Rec N P) → ℕ) → Known N → List (Item (Rec N P)) → ℕ
  items_tally own k [] = 0
  items_tally own k (it ∷ its) =
      number_if (is_member it.head) (member_tally k it.head)
      + own it
      + items_tally own (after ctx (is_member it.head) it.head k) its

  member-tally :
      (gone met : List ℕ) (names : List N) (r : Rec N P) →
      rule_tally p (member_violations ctx s gone met names r) ≡ member_tally (known ctx gone met names) r
  unfolding member_violations member_tally
  member-tally gone met names r = simp (occurrences-append, found_all-tally)

  items-tally :
      (own : Item (Rec N P) → List (Found P)) (gone met : List ℕ) (names : List N) (its : List (Item (Rec N P))) →
      rule_tally p (items_violations ctx s own gone met names its)
      ≡ items_tally (λ it. rule_tally p (own it)) (known ctx gone met names) its
  unfolding items_violations items_tally any_of occurrences select
  items-tally own gone met names [] = refl
  items-tally own gone met names (it ∷ its) =
      by-test
      (is_member it.head)
      (items-tally own gone (it.head.value ∷ met) (it.head.name ∷ names) its)
      (items-tally own gone met names its)
    where
      later : Bool → ℕ
      later counts = items_tally (λ it. rule_tally p (own it)) (after ctx counts it.head (known ctx gone met names)) its

      by-test :
          (counts : Bool) →
          rule_tally p (items_violations ctx s own gone (it.head.value ∷ met) (it.head.name ∷ names) its) ≡ later true →
          rule_tally p (items_violations ctx s own gone met names its) ≡ later false →
          rule_tally
          {P = P}
          p
          (elim counts [
            | true ↦ member_violations ctx s gone met names it.head
                ++ own it
                ++ items_violations ctx s own gone (it.head.value ∷ met) (it.head.name ∷ names) its
            | false ↦ own it ++ items_violations ctx s own gone met names its
          ])
          ≡ number_if counts (member_tally (known ctx gone met names) it.head) + rule_tally p (own it) + later counts
      by-test true e d = simp (occurrences-append, member-tally gone met names it.head, e)
      by-test false e d = simp (occurrences-append, d) (omega arith)

  -- along a whole list nothing was met before
  pub list-tally :
      (own : Item (Rec N P) → List (Found P)) (its : List (Item (Rec N P))) →
      rule_tally p (list_violations ctx s own its)
      ≡ items_tally (λ it. rule_tally p (own it)) (known ctx (retired_ordinals (slots its)) [] []) its
  list-tally own its = items-tally own (retired_ordinals (slots its)) [] [] its

module _ {N P : Type 0} where
  -- some number that the items' slots hold passes the test, item by item
  pub any-slots :
      (f : Slot → List ℕ) (p : ℕ → Bool) (its : List (Item (Rec N P))) →
      any_of p (flat_map f (slots its)) ≡ any_of (λ it. any_of (λ slot. any_of p (f slot)) (slot_of it)) its
  any-slots f p its = any-flat_map f p (slots its) ∙ any-flat_map slot_of (λ slot. any_of p (f slot)) its

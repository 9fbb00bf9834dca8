-- What an item that is kept breaks by its ordinal and its name it still breaks after items are added, since it then follows all that it
-- followed before, and no tombstone is gone; the added items' own violations come on top.
use Prim.Native.Nat.{ℕ, ◌+◌, ◌≤◌}
use native.Mathlib.Omega.{arith}
use mathlib.Core.Path.{◌≡◌, refl, ◌∙◌, sym}
use mathlib.Core.Bool.{Bool, true, false, not, ◌&&◌, ◌||◌, or-true, or-false}
use mathlib.Core.List.{List, [], map, flat_map}
use lib.Dec.{eqb}
use Rattle.rules.specs.Words.{number_if, any_of, Item}
use Rattle.rules.specs.Record.{Rec}
use Rattle.rules.specs.Context.{ValidationContext}
use Rattle.rules.specs.Rule.{Found}
use Rattle.rules.specs.Bodies.{Scheme, Slot, is_member, slots, slot_of, retired_ordinal, retired_ordinals, list_violations}
use Rattle.rules.specs.Items.{Added, added-nil, keep, new, occurrences}
use Rattle.rules.proofs.ItemCounts.{Known, after, known, rule_tally, member_tally, items_tally, list-tally, any-slots}

pub number-le : (b b' : Bool) (w : ℕ) → (b ≡ true → b' ≡ true) → number_if b w ≤ number_if b' w
number-le true true w h = omega arith
number-le true false w h = let e = h refl in let z : ◌≡◌ {A = ℕ} 0 1 = cc in omega arith
number-le false b' w h = omega arith

-- by one test or else by another, it counts once
either_number : (b c : Bool) (w : ℕ) → number_if b w + number_if (not b && c) w ≡ number_if (b || c) w
either_number true c w = omega arith
either_number false c w = omega arith

or-within : (d b c b' c' : Bool) → ((b || c) ≡ true → (b' || c') ≡ true) → (b || (d || c)) ≡ true → (b' || (d || c')) ≡ true
or-within true b c b' c' h e = or-true b'
or-within false b c b' c' h e = h e

or-more : (d b c : Bool) → (b || c) ≡ true → (b || (d || c)) ≡ true
or-more true b c e = or-true b
or-more false b c e = e

or-both : (a b c d : Bool) → (a ≡ true → b ≡ true) → (c ≡ true → d ≡ true) → (a || c) ≡ true → (b || d) ≡ true
or-both true b c d h k e = rw (h refl) refl
or-both false b c d h k e = rw (k e) (or-true b)

module _ {A : Type 0} where
  -- a test that is still passed by what is related is still passed where elements were added
  pub added-any :
      {R : A → A → Type 0} {xs ys : List A} (p : A → Bool) →
      ((a b : A) → R a b → p a ≡ true → p b ≡ true) → Added R xs ys → any_of p xs ≡ true → any_of p ys ≡ true
  unfolding any_of
  added-any p still added-nil e = e
  added-any p still (keep {a} {b} {xs} {ys} r m) e = or-both (p a) (p b) (any_of p xs) (any_of p ys) (still a b r) (added-any p still m) e
  added-any p still (new {b} {xs} {ys} m) e = or-more (p b) false (any_of p ys) (added-any p still m e)

module _ {A B : Type 0} {R : A → A → Type 0} {S : B → B → Type 0} (f : A → B) (keeps : (a b : A) → R a b → S (f a) (f b)) where
  pub added-map : {xs ys : List A} → Added R xs ys → Added S (map f xs) (map f ys)
  added-map added-nil = added-nil
  added-map (keep r m) = keep (keeps _ _ r) (added-map m)
  added-map (new m) = new (added-map m)

-- an ordinal that was tombstoned or met is so still, and a name that was met
record Grown {N : Type 0} (k k' : Known N) : Type 0 where
  ordinals : (n : ℕ) → (k.gone n || k.met n) ≡ true → (k'.gone n || k'.met n) ≡ true
  names : (x : N) → k.seen x ≡ true → k'.seen x ≡ true

-- items of which related ones have the same head
module _ {N P : Type 0} {R : Item (Rec N P) → Item (Rec N P) → Type 0} (heads : (a b : Item (Rec N P)) → R a b → a.head ≡ b.head) where
  -- a number in a slot is still in one
  pub added-slots :
      (f : Slot → List ℕ) (p : ℕ → Bool) {its its' : List (Item (Rec N P))} →
      Added R its its' → any_of p (flat_map f (slots its)) ≡ true → any_of p (flat_map f (slots its')) ≡ true
  added-slots f p {its} {its'} m e =
      any-slots f p its'
      ∙ added-any (λ it. any_of (λ slot. any_of p (f slot)) (slot_of it)) (λ a b r t. rw (heads a b r) at t) m (sym (any-slots f p its) ∙ e)

  module _ (ctx : ValidationContext N P) where
    grown-both :
        {k k' : Known N} {r r' : Rec N P} →
        Grown k k' → r ≡ r' → Grown (after ctx (is_member r) r k) (after ctx (is_member r') r' k')
    grown-both {k} {k'} {r} {r'} g e =
        rw e
        record {
          ordinals = λ n. or-within (is_member r' && eqb n r'.value) (k.gone n) (k.met n) (k'.gone n) (k'.met n) (g.ordinals n);
          names = λ x. or-within (is_member r' && ctx.same x r'.name) false (k.seen x) false (k'.seen x) (g.names x);
        }

    grown-more : {k k' : Known N} (r : Rec N P) → Grown k k' → Grown k (after ctx (is_member r) r k')
    grown-more {k} {k'} r g =
        record {
          ordinals = λ n h. or-more (is_member r && eqb n r.value) (k'.gone n) (k'.met n) (g.ordinals n h);
          names = λ x h. or-more (is_member r && ctx.same x r.name) false (k'.seen x) (g.names x h);
        }

    -- a scheme whose rules for tombstoned and for repeated ordinals count alike
    module _ (p : ℕ → Bool) (s : Scheme) (alike : occurrences p s.tombstoned ≡ occurrences p s.repeated) where
      member-le :
          {k k' : Known N} {r r' : Rec N P} →
          Grown k k' → r ≡ r' → number_if (is_member r) (member_tally ctx p s k r) ≤ number_if (is_member r') (member_tally ctx p s k' r')
      unfolding member_tally
      member-le {k} {k'} {r} {r'} g e = rw e (by-test (is_member r'))
        where
          by-test : (c : Bool) → number_if c (member_tally ctx p s k r') ≤ number_if c (member_tally ctx p s k' r')
          by-test false = omega arith
          by-test true =
              let v = r'.value in
              let w = occurrences p s.repeated in
              let before = either_number (k.gone v) (k.met v) w in
              let now = either_number (k'.gone v) (k'.met v) w in
              let ordinal = number-le (k.gone v || k.met v) (k'.gone v || k'.met v) w (g.ordinals v) in
              let name = number-le (k.seen r'.name) (k'.seen r'.name) (occurrences p s.renamed) (g.names r'.name) in
              rw alike (omega arith)

      added-items :
          (own : Item (Rec N P) → ℕ) →
          ((a b : Item (Rec N P)) → R a b → own a ≤ own b) →
          {its its' : List (Item (Rec N P))} {k k' : Known N} →
          Grown k k' →
          Added R its its' →
          items_tally ctx p s own k its ≤ items_tally ctx p s own k' its'
      unfolding items_tally
      added-items own owns g added-nil = omega arith
      added-items own owns g (keep {a} {b} r m) =
          let member = member-le g (heads a b r) in
          let mine = owns a b r in
          let others = added-items own owns (grown-both g (heads a b r)) m in omega arith
      added-items own owns g (new {b} m) = let others = added-items own owns (grown-more b.head g) m in omega arith

      -- the violations of lists of which one has more items
      pub added-list :
          (own : Item (Rec N P) → List (Found P)) →
          ((a b : Item (Rec N P)) → R a b → rule_tally p (own a) ≤ rule_tally p (own b)) →
          {its its' : List (Item (Rec N P))} →
          Added R its its' →
          rule_tally p (list_violations ctx s own its) ≤ rule_tally p (list_violations ctx s own its')
      unfolding any_of
      added-list own owns {its} {its'} m =
          rw (list-tally ctx p s own its, list-tally ctx p s own its') (added-items (λ it. rule_tally p (own it)) owns grown m)
        where
          grown : Grown (known ctx (retired_ordinals (slots its)) [] []) (known ctx (retired_ordinals (slots its')) [] [])
          grown = record { ordinals = λ n. simp or-false (added-slots retired_ordinal (eqb n) m); names = λ x h. h }

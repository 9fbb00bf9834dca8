-- Of two neighbours with one ordinal, or with one name, one is a repeat whichever comes first, and what comes after sees the same
-- ordinals and names; so counts along items do not hang on their order.
use Prim.Native.Nat.{ℕ, ◌+◌}
use native.Mathlib.Omega.{arith}
use mathlib.Core.Path.{◌≡◌, refl, ap, ap₂, ◌∙◌, sym, fun_ext}
use mathlib.Core.Bool.{Bool, true, false, not, ◌&&◌, ◌||◌}
use mathlib.Core.List.{List, [], ◌∷◌, map, flat_map}
use lib.Dec.{eqb}
use borrow.Author.Tests.{eqb-true}
use Rattle.std.proofs.lemmas.Bool.{and_parts}
use Rattle.rules.proofs.Lists.{or_swap}
use Rattle.rules.specs.Words.{number_if, any_of, member, same_bytes, Item}
use Rattle.rules.specs.Record.{Rec}
use Rattle.rules.specs.Context.{ValidationContext}
use Rattle.rules.specs.Rule.{Found}
use Rattle.rules.specs.Bodies.{Scheme, Slot, is_member, slots, slot_of, retired_ordinal, retired_ordinals, list_violations}
use Rattle.rules.specs.Items.{Moved, moved-nil, stay, swap, and_then, occurrences}
use Rattle.rules.proofs.ItemCounts.{Known, or_also, after, known, rule_tally, member_tally, items_tally, list-tally, any-slots}

-- elements that pass the test are equal
abbrev pub Tells : {A : Type 0} → (A → A → Bool) → Type 0
Tells {A} eq = (x y : A) → eq x y ≡ true → x ≡ y

pub same_bytes-tells : Tells same_bytes
unfolding same_bytes
same_bytes-tells [] [] h = refl
same_bytes-tells [] (y ∷ ys) h = cc
same_bytes-tells (x ∷ xs) [] h = cc
same_bytes-tells (x ∷ xs) (y ∷ ys) h =
    ap₂ ◌∷◌ (eqb-true x y (and_parts (eqb x y) _ h).0) (same_bytes-tells xs ys (and_parts (eqb x y) _ h).1)

module _ {A : Type 0} where
  -- two elements may be added to a test in any order
  also-swap :
      (eq : A → A → Bool) (c d : Bool) (x y : A) (seen : A → Bool) →
      or_also eq d y (or_also eq c x seen) ≡ or_also eq c x (or_also eq d y seen)
  also-swap eq c d x y seen = fun_ext (λ z. or_swap (d && eq z y) (c && eq z x) (seen z))

  -- of two elements the second is a repeat of the first as the first would be of the second
  repeats-swap :
      {eq : A → A → Bool} → Tells eq → (among seen : A → Bool) (x y : A) (w : ℕ) →
      number_if (among x && seen x) w + number_if (among y && (eq y x || seen y)) w
      ≡ number_if (among y && seen y) w + number_if (among x && (eq x y || seen x)) w
  repeats-swap {eq} tells among seen x y w = by-test (eq y x) (eq x y) refl refl
    where
      by-test :
          (b c : Bool) →
          eq y x ≡ b →
          eq x y ≡ c →
          number_if (among x && seen x) w + number_if (among y && (eq y x || seen y)) w
          ≡ number_if (among y && seen y) w + number_if (among x && (eq x y || seen x)) w
      by-test true c e d = rw (tells y x e) refl
      by-test false true e d = let same = tells x y d in cc
      by-test false false e d = rw (e, d) (omega arith)

  -- a test that related elements pass alike is passed alike in lists that differ in order
  moved-any :
      {R : A → A → Type 0} {xs ys : List A} (p : A → Bool) →
      ((a b : A) → R a b → p a ≡ p b) → Moved R xs ys → any_of p xs ≡ any_of p ys
  unfolding any_of
  moved-any p alike moved-nil = refl
  moved-any p alike (stay r m) = ap₂ ◌||◌ (alike _ _ r) (moved-any p alike m)
  moved-any p alike (swap {a} {b} {xs}) = or_swap (p a) (p b) (any_of p xs)
  moved-any p alike (and_then m m') = moved-any p alike m ∙ moved-any p alike m'

module _ {A B : Type 0} {R : A → A → Type 0} {S : B → B → Type 0} (f : A → B) (keeps : (a b : A) → R a b → S (f a) (f b)) where
  pub moved-map : {xs ys : List A} → Moved R xs ys → Moved S (map f xs) (map f ys)
  moved-map moved-nil = moved-nil
  moved-map (stay r m) = stay (keeps _ _ r) (moved-map m)
  moved-map swap = swap
  moved-map (and_then m m') = and_then (moved-map m) (moved-map m')

-- items of which related ones have the same head
module _ {N P : Type 0} {R : Item (Rec N P) → Item (Rec N P) → Type 0} (heads : (a b : Item (Rec N P)) → R a b → a.head ≡ b.head) where
  -- the numbers in slots are the same but for their order, so a test finds them alike
  pub moved-slots :
      (f : Slot → List ℕ) (p : ℕ → Bool) {its its' : List (Item (Rec N P))} →
      Moved R its its' → any_of p (flat_map f (slots its)) ≡ any_of p (flat_map f (slots its'))
  moved-slots f p {its} {its'} m =
      any-slots f p its
      ∙ moved-any (λ it. any_of (λ slot. any_of p (f slot)) (slot_of it)) (λ a b r. rw (heads a b r)) m
      ∙ sym (any-slots f p its')

  module _ (ctx : ValidationContext N P) (tells : Tells ctx.same) (p : ℕ → Bool) (s : Scheme) where
    after-swap : (k : Known N) (r r' : Rec N P) (c c' : Bool) → after ctx c' r' (after ctx c r k) ≡ after ctx c r (after ctx c' r' k)
    after-swap k r r' c c' =
        λ i. record {
          gone = k.gone;
          met = also-swap eqb c c' r.value r'.value k.met i;
          seen = also-swap ctx.same c c' r.name r'.name k.seen i;
        }

    members-swap :
        (k : Known N) (r r' : Rec N P) (c c' : Bool) →
        number_if c (member_tally ctx p s k r) + number_if c' (member_tally ctx p s (after ctx c r k) r')
        ≡ number_if c' (member_tally ctx p s k r') + number_if c (member_tally ctx p s (after ctx c' r' k) r)
    unfolding member_tally
    members-swap k r r' true true =
        let ordinals = repeats-swap eqb-true (λ n. not (k.gone n)) k.met r.value r'.value (occurrences p s.repeated) in
        let names = repeats-swap tells (λ x. true) k.seen r.name r'.name (occurrences p s.renamed) in omega arith
    members-swap k r r' true false = omega arith
    members-swap k r r' false true = omega arith
    members-swap k r r' false false = refl

    moved-items :
        (own : Item (Rec N P) → ℕ) →
        ((a b : Item (Rec N P)) → R a b → own a ≡ own b) →
        {its its' : List (Item (Rec N P))} (k : Known N) →
        Moved R its its' → items_tally ctx p s own k its ≡ items_tally ctx p s own k its'
    unfolding items_tally
    moved-items own owns k moved-nil = refl
    moved-items own owns k (stay r m) = rw (owns _ _ r, heads _ _ r, moved-items own owns _ m)
    moved-items own owns k (swap {a} {b} {xs}) =
        let members = members-swap k a.head b.head (is_member a.head) (is_member b.head) in
        rw (after-swap k a.head b.head (is_member a.head) (is_member b.head)) (omega arith)
    moved-items own owns k (and_then m m') = moved-items own owns k m ∙ moved-items own owns k m'

    -- the violations of lists that differ in order
    pub moved-list :
        (own : Item (Rec N P) → List (Found P)) →
        ((a b : Item (Rec N P)) → R a b → rule_tally p (own a) ≡ rule_tally p (own b)) →
        {its its' : List (Item (Rec N P))} →
        Moved R its its' →
        rule_tally p (list_violations ctx s own its) ≡ rule_tally p (list_violations ctx s own its')
    moved-list own owns {its} {its'} m =
        list-tally ctx p s own its
        ∙ ap (λ k. items_tally ctx p s (λ it. rule_tally p (own it)) k its) same_known
        ∙ moved-items (λ it. rule_tally p (own it)) owns _ m
        ∙ sym (list-tally ctx p s own its')
      where
        same_known : known ctx (retired_ordinals (slots its)) [] [] ≡ known ctx (retired_ordinals (slots its')) [] []
        same_known =
            λ i. record {
              gone = λ n. moved-slots retired_ordinal (eqb n) m i;
              met = λ n. member n [];
              seen = λ x. any_of (ctx.same x) [];
            }

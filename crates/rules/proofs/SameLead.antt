-- Accepted records with the same lead have the same head and backings, which stand before the first item; and a body without items is
-- in the lead whole.
use native.Mathlib.Omega.{arith}
use mathlib.Core.Path.{◌≡◌, refl, ap, ◌∙◌, sym}
use mathlib.Core.Bool.{Bool, true, false, not, ◌||◌}
use mathlib.Core.Logic.{inl, inr}
use mathlib.Core.List.{List, [], ◌∷◌, ◌++◌, tail-eq_of_cons-eq}
use borrow.Author.Tests.{eqb-true, ne_eqb}
use Rattle.std.proofs.lemmas.Bool.{or_cases, not-false}
use Rattle.rules.specs.Words.{only_if, select, front, rest, items}
use Rattle.rules.specs.Kind
use Rattle.rules.specs.Record.{Rec, is}
use Rattle.rules.specs.Head.{Body, message_body, enum_body, flags_body, union_body, newtype_body, body_of}
use Rattle.rules.specs.Grammar.{start, starts_item}
use Rattle.rules.specs.Items.{starts_in, lead_of, items_of}
use Rattle.rules.proofs.Every.{Every, every-cons}
use Rattle.rules.proofs.Lists.{none_of-weaker}
use Rattle.rules.proofs.Taken.{within-true, within-false}
use Rattle.rules.proofs.Accepted.{Parts}
use Rattle.rules.proofs.Lead.{from-head, accepted-rest, accepted-lead, accepted-items}
use Rattle.rules.proofs.BodyKinds.{EnumBody, NewtypeBody, BodyHas, accepted-body}
use Rattle.rules.proofs.Cut.{front-whole}

module _ {A : Type 0} (starts p : A → Bool) (apart : (x : A) → starts x ≡ true → p x ≡ false) where
  -- where each piece is its head alone, what no head is stands before the pieces
  select-lead :
      (xs : List A) → Every (λ it. it.rest ≡ []) (items starts xs) → select p xs ≡ select p (front (λ x. not (starts x)) xs)
  unfolding items front select
  select-lead [] alone = refl
  select-lead (x ∷ xs) alone = by-test (starts x) refl (select-lead xs)
    where
      Later : Type 0
      Later = Every (λ it. it.rest ≡ []) (items starts xs) → select p xs ≡ select p (front (λ y. not (starts y)) xs)

      past : Later → Every (λ it. it.rest ≡ []) (record { head = x; rest = front (λ y. not (starts y)) xs } ∷ items starts xs) → select p xs ≡ []
      past later (every-cons e es) = later es ∙ ap (select p) e

      by-test : (b : Bool) → starts x ≡ b → Later → select p (x ∷ xs) ≡ select p (front (λ y. not (starts y)) (x ∷ xs))
      by-test true e later = rw (e, front, apart x e) (past later (rw (e, items) at alone))
      by-test false e later = rw (e, front) (ap (λ ys. only_if (p x) (x ∷ []) ++ ys) (later (rw (e, items) at alone)))

module _ {N P : Type 0} where
  item-no-backing : (r : Rec N P) → starts_item r ≡ true → is Kind.Backing r ≡ false
  item-no-backing r e = let k = within-true 14 15 r.kind e in ne_eqb r.kind 16 (λ q. omega arith)

  type-no-item : (r : Rec N P) → not (is Kind.BitName r || Kind.is_type r.kind) ≡ false → starts_item r ≡ false
  type-no-item r e =
      elim (or_cases (is Kind.BitName r) (Kind.is_type r.kind) (not-false _ e)) [
        | inl d ↦ rw (eqb-true r.kind Kind.BitName d)
        | inr d ↦ let k = within-true 30 48 r.kind d in within-false 14 15 r.kind (λ low high. omega arith)
      ]

  -- a body up to its first item
  abbrev body_lead : Body → List (Rec N P) → List (Rec N P)
  body_lead b = front (λ r. not (starts_in b r))

  -- bodies share what no item has: an enum its backings, a newtype all its records
  abbrev pub SameBesideItems : Body → List (Rec N P) → List (Rec N P) → Type 0
  SameBesideItems enum_body xs ys = select (is Kind.Backing) xs ≡ select (is Kind.Backing) ys
  SameBesideItems newtype_body xs ys = xs ≡ ys
  SameBesideItems b xs ys = Unit {0}

  backings-lead : (rs : List (Rec N P)) → EnumBody rs → select (is Kind.Backing) rs ≡ select (is Kind.Backing) (body_lead enum_body rs)
  backings-lead rs has = select-lead starts_item (is Kind.Backing) item-no-backing rs has.items

  newtype-lead : (rs : List (Rec N P)) → NewtypeBody rs → body_lead newtype_body rs ≡ rs
  newtype-lead rs has = front-whole starts_item rs (none_of-weaker _ starts_item type-no-item rs has.kinds)

  same-beside :
      (b : Body) (xs ys : List (Rec N P)) → BodyHas b xs → BodyHas b ys → body_lead b xs ≡ body_lead b ys → SameBesideItems b xs ys
  same-beside message_body xs ys x y e = tt
  same-beside enum_body xs ys x y e = backings-lead xs x ∙ ap (select (is Kind.Backing)) e ∙ sym (backings-lead ys y)
  same-beside flags_body xs ys x y e = tt
  same-beside union_body xs ys x y e = tt
  same-beside newtype_body xs ys x y e = sym (newtype-lead xs x) ∙ e ∙ newtype-lead ys y

  head-of-lead :
      {same : N → N → Bool} {rs : List (Rec N P)} (p : Parts same start [] 0 rs) →
      rest (λ r. not (is Kind.Head r)) (lead_of rs) ≡ p.head ∷ body_lead (body_of p.head.sub) p.body
  head-of-lead p =
      ap (rest (λ r. not (is Kind.Head r))) (accepted-lead p)
      ∙ from-head p.before p.head (body_lead (body_of p.head.sub) p.body) p.head_kind p.before_kinds

-- what accepted records with the same lead share, and the bodies in which they differ
pub record SameFrame {N P : Type 0} (rs rs' : List (Rec N P)) : Type 0 where
  pub head : Rec N P
  pub body : List (Rec N P)
  pub body' : List (Rec N P)
  pub begins : rest (λ r. not (is Kind.Head r)) rs ≡ head ∷ body
  pub begins' : rest (λ r. not (is Kind.Head r)) rs' ≡ head ∷ body'
  pub items_are : items_of rs ≡ items (starts_in (body_of head.sub)) body
  pub items_are' : items_of rs' ≡ items (starts_in (body_of head.sub)) body'
  pub beside : SameBesideItems (body_of head.sub) body body'

module _ {N P : Type 0} {same : N → N → Bool} {rs rs' : List (Rec N P)} where
  pub same-frame : Parts same start [] 0 rs → Parts same start [] 0 rs' → lead_of rs ≡ lead_of rs' → SameFrame rs rs'
  same-frame p p' e =
      let d = sym (head-of-lead p) ∙ ap (rest (λ r. not (is Kind.Head r))) e ∙ head-of-lead p' in
      let heads : p.head ≡ p'.head = cc in
      let leads : body_lead (body_of p.head.sub) p.body ≡ body_lead (body_of p.head.sub) p'.body =
      tail-eq_of_cons-eq d ∙ ap (λ (h : Rec N P). body_lead (body_of h.sub) p'.body) (sym heads) in
      record {
        head = p.head;
        body = p.body;
        body' = p'.body;
        begins = accepted-rest p;
        begins' = rw heads (accepted-rest p');
        items_are = accepted-items p;
        items_are' = rw heads (accepted-items p');
        beside = same-beside (body_of p.head.sub) p.body p'.body (accepted-body p) (rw heads (accepted-body p')) leads;
      }

-- The context, and whether a chain of its newtypes never ends, are read off the records before the head, since the body has none of the
-- kinds that they ask for; so the context of accepted records is that of their lead.
use Prim.Native.Nat.{ℕ, suc}
use mathlib.Core.Path.{◌≡◌, refl, sym, ap, ◌∙◌}
use mathlib.Core.Bool.{Bool, true, false, not, ◌&&◌, ◌||◌}
use mathlib.Core.List.{List, [], ◌∷◌, ◌++◌}
use mathlib.Core.Option.{Option, some, none}
use lib.ListN.{length}
use lib.Dec.{lit≤}
use borrow.Author.Tests.{eqb-true}
use Rattle.std.proofs.lemmas.Bool.{or_parts}
use Rattle.rules.specs.Words.{within, any_of, front, rest, same_bytes, items}
use Rattle.rules.specs.Kind
use Rattle.rules.specs.Record.{Rec, is, is_renaming}
use Rattle.rules.specs.Head.{Body, message_body, body_of}
use Rattle.rules.specs.Context.{ValidationContext, context_of, declared, inner_of, word_from, words, is_blank, valid_field_name}
use Rattle.rules.specs.Grammar.{start}
use Rattle.rules.specs.Items.{starts_in, first_body, sheet_body, lead_of, items_of}
use Rattle.rules.specs.Refusals.{Fault, endless_chain, leads_nowhere}
use Rattle.rules.proofs.Lists.{none_of-weaker, none_of-and, none_of-front, front-past, rest-past, items-past, any_of-before, select-before}
use Rattle.rules.proofs.Taken.{narrower, outside-is}
use Rattle.rules.proofs.Accepted.{Parts}

module _ {N P : Type 0} where
  starts-kind : (b : Body) (r : Rec N P) → within 11 15 r.kind ≡ false → starts_in b r ≡ false
  starts-kind message_body r k = narrower 11 15 11 13 r.kind (lit≤ tt) (lit≤ tt) k
  starts-kind b r k = narrower 11 15 14 15 r.kind (lit≤ tt) (lit≤ tt) k

  -- records with a head, behind records of no kind from 10 to 16
  module _ (xs : List (Rec N P)) (h : Rec N P) (ys : List (Rec N P)) (head_kind : is Kind.Head h ≡ true)
      (before_kinds : any_of (λ r. within Kind.Head Kind.Backing r.kind) xs ≡ false) where
    pub from-head : rest (λ r. not (is Kind.Head r)) (xs ++ (h ∷ ys)) ≡ h ∷ ys
    unfolding rest
    from-head =
        rest-past (is Kind.Head) xs (h ∷ ys)
        (none_of-weaker _ (is Kind.Head) (λ r. outside-is 10 16 10 r.kind refl) xs before_kinds)
        ∙ rw (head_kind, rest)

    -- the body is the head's
    pub body-from-head : sheet_body (xs ++ (h ∷ ys)) ≡ body_of h.sub
    body-from-head = ap first_body from-head

    before-starts : any_of (starts_in (body_of h.sub)) xs ≡ false
    before-starts =
        none_of-weaker _ (starts_in (body_of h.sub))
        (λ r k. starts-kind (body_of h.sub) r (narrower 10 16 11 15 r.kind (lit≤ tt) (lit≤ tt) k))
        xs
        before_kinds

    head-starts : starts_in (body_of h.sub) h ≡ false
    head-starts = starts-kind (body_of h.sub) h (rw (eqb-true h.kind 10 head_kind))

    pub lead-from-head : lead_of (xs ++ (h ∷ ys)) ≡ xs ++ (h ∷ front (λ r. not (starts_in (body_of h.sub) r)) ys)
    unfolding lead_of front
    lead-from-head =
        ap (λ b. front (λ r. not (starts_in b r)) (xs ++ (h ∷ ys))) body-from-head
        ∙ front-past (starts_in (body_of h.sub)) xs (h ∷ ys) before-starts
        ∙ ap (λ zs. xs ++ zs) (rw (head-starts, front))

    pub items-from-head : items_of (xs ++ (h ∷ ys)) ≡ items (starts_in (body_of h.sub)) ys
    unfolding items_of items
    items-from-head =
        ap (λ b. items (starts_in b) (xs ++ (h ∷ ys))) body-from-head
        ∙ items-past (starts_in (body_of h.sub)) xs (h ∷ ys) before-starts
        ∙ rw (head-starts, items)

module _ {N P : Type 0} {same : N → N → Bool} {rs : List (Rec N P)} (p : Parts same start [] 0 rs) where
  -- what begins at the head, the lead and the items of accepted records
  pub accepted-rest : rest (λ r. not (is Kind.Head r)) rs ≡ p.head ∷ p.body
  accepted-rest =
      ap (rest (λ r. not (is Kind.Head r))) p.split ∙ from-head p.before p.head p.body p.head_kind p.before_kinds

  pub accepted-lead : lead_of rs ≡ p.before ++ (p.head ∷ front (λ r. not (starts_in (body_of p.head.sub) r)) p.body)
  accepted-lead = ap lead_of p.split ∙ lead-from-head p.before p.head p.body p.head_kind p.before_kinds

  pub accepted-items : items_of rs ≡ items (starts_in (body_of p.head.sub)) p.body
  accepted-items = ap items_of p.split ∙ items-from-head p.before p.head p.body p.head_kind p.before_kinds

module _ {N P : Type 0} where
  -- row 9 looks for no newtype behind a head
  nowhere-before : (ctx : ValidationContext N P) (xs ys : List (Rec N P)) (h : Rec N P)
      → leads_nowhere ctx (xs ++ (h ∷ ys)) ≡ leads_nowhere ctx (xs ++ (h ∷ []))
  nowhere-before ctx [] ys h = refl
  nowhere-before ctx (x ∷ xs) ys h = refl

  endless-none : (ctx : ValidationContext N P) (i : ℕ) (ys : List (Rec N P)) → any_of (is Kind.Declaration) ys ≡ false
      → endless_chain ctx i ys ≡ none
  unfolding endless_chain any_of
  endless-none ctx i [] k = refl
  endless-none ctx i (y ∷ ys) k =
      rw ((or_parts (is Kind.Declaration y) _ k).0, endless_chain) (endless-none ctx (suc i) ys (or_parts (is Kind.Declaration y) _ k).1)

  endless-before : (ctx : ValidationContext N P) (i : ℕ) (xs ys : List (Rec N P)) (h : Rec N P) → is Kind.Declaration h ≡ false
      → any_of (is Kind.Declaration) ys ≡ false → endless_chain ctx i (xs ++ (h ∷ ys)) ≡ endless_chain ctx i (xs ++ (h ∷ []))
  unfolding endless_chain
  endless-before ctx i [] ys h e k = rw (e, endless_chain) (endless-none ctx (suc i) ys k)
  endless-before ctx i (x ∷ xs) ys h e k =
      λ j. elim (is_renaming x && nowhere-before ctx xs ys h j) [
        | true ↦ some (record { number = 9; index = i })
        | false ↦ endless-before ctx (suc i) xs ys h e k j
      ]

module _ {P : Type 0} where
  inner-before : (sub : ℕ) (xs ys : List (Rec (List ℕ) P)) (h : Rec (List ℕ) P)
      → inner_of sub (xs ++ (h ∷ ys)) ≡ inner_of sub (xs ++ (h ∷ []))
  inner-before sub [] ys h = refl
  inner-before sub (x ∷ xs) ys h = refl

  declared-none : (ys : List (Rec (List ℕ) P)) (name : List ℕ) → any_of (is Kind.Declaration) ys ≡ false → declared ys name ≡ none
  unfolding declared any_of
  declared-none [] name k = refl
  declared-none (y ∷ ys) name k =
      rw ((or_parts (is Kind.Declaration y) _ k).0, declared) (declared-none ys name (or_parts (is Kind.Declaration y) _ k).1)

  declared-before : (xs ys : List (Rec (List ℕ) P)) (h : Rec (List ℕ) P) (name : List ℕ)
      → is Kind.Declaration h ≡ false → any_of (is Kind.Declaration) ys ≡ false
      → declared (xs ++ (h ∷ ys)) name ≡ declared (xs ++ (h ∷ [])) name
  unfolding declared
  declared-before [] ys h name e k = rw (e, declared) (declared-none ys name k)
  declared-before (x ∷ xs) ys h name e k =
      λ i. elim (is Kind.Declaration x && same_bytes x.name name) [
        | true ↦ some (record { sub = x.sub; inner = inner-before x.sub xs ys h i })
        | false ↦ declared-before xs ys h name e k i
      ]

  imported-before : (xs ys : List (Rec (List ℕ) P)) (h : Rec (List ℕ) P) (name : List ℕ) → any_of (is Kind.ImportedName) ys ≡ false
      → any_of (λ r. is Kind.ImportedName r && same_bytes r.name name) (xs ++ (h ∷ ys))
      ≡ any_of (λ r. is Kind.ImportedName r && same_bytes r.name name) (xs ++ (h ∷ []))
  imported-before xs ys h name k =
      any_of-before (λ r. is Kind.ImportedName r && same_bytes r.name name) xs ys h
      (none_of-and (is Kind.ImportedName) (λ r. same_bytes r.name name) ys k)

  -- records after a head that are of no kind of the context say nothing of it
  context-before : (xs ys : List (Rec (List ℕ) P)) (h : Rec (List ℕ) P) → is Kind.Declaration h ≡ false
      → any_of (λ r. within Kind.Declaration Kind.Wildcard r.kind) ys ≡ false
      → context_of (xs ++ (h ∷ ys)) ≡ context_of (xs ++ (h ∷ []))
  unfolding context_of
  context-before xs ys h e k =
      let none_is : (j : ℕ) → within 1 3 j ≡ true → any_of (is j) ys ≡ false =
      λ j w. none_of-weaker _ (is j) (λ r. outside-is 1 3 j r.kind w) ys k in
      λ i. record {
        decl_map = λ name. declared-before xs ys h name e (none_is 1 refl) i;
        imported_names = λ name. imported-before xs ys h name (none_is 2 refl) i;
        has_wildcard_import = any_of-before (is Kind.Wildcard) xs ys h (none_is 3 refl) i;
        declarations = length (select-before (is Kind.Declaration) xs ys h (none_is 1 refl) i);
        same = same_bytes;
        word = word_from 1 words;
        blank = is_blank;
        is_valid_field_name = valid_field_name;
      }

  -- row 9 of the records and their context
  unfoldable pub last_row : List (Rec (List ℕ) P) → Option Fault
  last_row rs = endless_chain (context_of rs) 0 rs

  pub last_row-before : (xs ys : List (Rec (List ℕ) P)) (h : Rec (List ℕ) P) → is Kind.Head h ≡ true
      → any_of (λ r. within Kind.Declaration Kind.Wildcard r.kind || is Kind.Head r) ys ≡ false
      → last_row (xs ++ (h ∷ ys)) ≡ last_row (xs ++ (h ∷ []))
  unfolding last_row
  last_row-before xs ys h e k =
      let kinds = none_of-weaker _ (λ r. within Kind.Declaration Kind.Wildcard r.kind) (λ r e. (or_parts _ _ e).0) ys k in
      let none_is = none_of-weaker _ (is Kind.Declaration) (λ (r : Rec (List ℕ) P). outside-is 1 3 1 r.kind refl) ys kinds in
      let head-is : is Kind.Declaration h ≡ false = rw (eqb-true h.kind 10 e) in
      rw (context-before xs ys h head-is kinds) (endless-before (context_of (xs ++ (h ∷ []))) 0 xs ys h head-is none_is)

  -- the context of accepted records is that of their lead
  pub context-of-lead : (same : List ℕ → List ℕ → Bool) (rs : List (Rec (List ℕ) P)) → Parts same start [] 0 rs
      → context_of rs ≡ context_of (lead_of rs)
  context-of-lead same rs p =
      let h = p.head in
      let kinds = none_of-weaker _ (λ r. within Kind.Declaration Kind.Wildcard r.kind) (λ r e. (or_parts _ _ e).0) p.body p.body_kinds in
      let head-is : is Kind.Declaration h ≡ false = rw (eqb-true h.kind 10 p.head_kind) in
      ap context_of p.split
      ∙ context-before p.before p.body h head-is kinds
      ∙ sym (context-before p.before (front (λ r. not (starts_in (body_of h.sub) r)) p.body) h head-is (none_of-front _ _ p.body kinds))
      ∙ ap context_of (sym (accepted-lead p))

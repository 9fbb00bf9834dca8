-- A reordered sheet is accepted again: the machine begins an item only where it is done, and reads each item by itself, so that a body is
-- read exactly if each of its items is, in whatever order; and the context, with the chains of its newtypes, stands before the items.
use Prim.Native.Nat.{ℕ}
use mathlib.Core.Path.{◌≡◌, refl, sym, ap, ap₂, subst₂, ◌∙◌}
use mathlib.Core.Bool.{Bool, true, false, not, ◌&&◌, true≢false}
use mathlib.Core.List.{List, [], ◌∷◌, ◌++◌, append_assoc, append_cancel_left, tail-eq_of_cons-eq}
use mathlib.Core.Option.{Option, some, none}
use lib.ListN.{length}
use Rattle.rules.specs.Words.{front, rest, Item, items, same_bytes}
use Rattle.rules.specs.Kind
use Rattle.rules.specs.Record.{Rec, is, records}
use Rattle.rules.specs.Head.{Body, message_body, enum_body, flags_body, union_body, newtype_body, body_of}
use Rattle.rules.specs.Context.{context_of}
use Rattle.rules.specs.Grammar.{FieldListState, between, field_list_done, field_item, done, opened, step, field_list_step, start, starts_field_item}
use Rattle.rules.specs.Refusals.{Fault, first_fault, records_fault, refusal, is_wrong_length, is_long_names}
use Rattle.rules.specs.Answer.{is_accepted}
use Rattle.rules.specs.Items.{Moved, moved-nil, stay, swap, and_then, FieldsMoved, SameButOrder, starts_in, sheet_body, lead_of, items_of}
use Rattle.rules.proofs.Lists.{is_nil, all_of, front_rest}
use Rattle.rules.proofs.Machine.{reads}
use Rattle.rules.proofs.Accepted.{is_clean, clean-none, checked, Parts, accepted-parts, body-kinds, opened-body}
use Rattle.rules.proofs.Lead.{lead-from-head, items-from-head, accepted-lead, accepted-items, last_row, last_row-before}
use Rattle.rules.proofs.BodyReads.{sound, bare_reads, field_item_reads, union_item_reads, body_reads, body_item_reads, field_list-items, body-items}

module _ {A : Type 0} where
  -- what holds of every element holds in whatever order
  pub moved-all_of : {R : A → A → Type 0} (p : A → Bool) → ((a b : A) → R a b → p a ≡ p b)
      → {xs ys : List A} → Moved R xs ys → all_of p xs ≡ all_of p ys
  unfolding all_of
  moved-all_of p h moved-nil = refl
  moved-all_of p h (stay {a} {b} r m) = ap₂ ◌&&◌ (h a b r) (moved-all_of p h m)
  moved-all_of p h (swap {a} {b} {xs}) = go (p a) (p b)
    where
      go : (x y : Bool) → (x && (y && all_of p xs)) ≡ (y && (x && all_of p xs))
      go true y = refl
      go false true = refl
      go false false = refl
  moved-all_of p h (and_then m n) = moved-all_of p h m ∙ moved-all_of p h n

module _ {A : Type 0} where
  -- a list is empty if nothing stands before its pieces and there are none
  nil-items : (starts : A → Bool) (xs : List A)
      → is_nil xs ≡ (is_nil (front (λ x. not (starts x)) xs) && all_of (λ it. false) (items starts xs))
  unfolding front items all_of
  nil-items starts [] = refl
  nil-items starts (x ∷ xs) = go (starts x) refl
    where
      go : (b : Bool) → starts x ≡ b → false ≡ (is_nil (front (λ y. not (starts y)) (x ∷ xs)) && all_of (λ it. false) (items starts (x ∷ xs)))
      go true e = rw (e, front, items)
      go false e = rw (e, front, items)

module _ {N P : Type 0} where
  -- lists whose items are the same but for their order are read alike, where reading goes item by item
  same_reads : {R : Item (Rec N P) → Item (Rec N P) → Type 0} (starts : Rec N P → Bool) (p : Item (Rec N P) → Bool)
      (reading : List (Rec N P) → Bool)
      → ((xs : List (Rec N P)) → reading xs ≡ (reading (front (λ r. not (starts r)) xs) && all_of p (items starts xs)))
      → ((a b : Item (Rec N P)) → R a b → p a ≡ p b)
      → (xs ys : List (Rec N P)) → front (λ r. not (starts r)) xs ≡ front (λ r. not (starts r)) ys
      → Moved R (items starts xs) (items starts ys) → reading xs ≡ reading ys
  same_reads starts p reading split h xs ys e m = split xs ∙ ap₂ ◌&&◌ (ap reading e) (moved-all_of p h m) ∙ sym (split ys)

  fields-moved : (s : FieldListState) (a b : Item (Rec N P)) → FieldsMoved a b
      → reads (checked field_list_step) field_list_done s a.rest ≡ reads (checked field_list_step) field_list_done s b.rest
  fields-moved s a b m =
      same_reads starts_field_item field_item_reads (reads (checked field_list_step) field_list_done s) (field_list-items s)
      (λ c d e. ap field_item_reads e)
      a.rest
      b.rest
      m.lead
      m.fields

  nothing-moved : (a b : Item (Rec N P)) → FieldsMoved a b → is_nil a.rest ≡ is_nil b.rest
  nothing-moved a b m =
      same_reads starts_field_item (λ it. false) is_nil (nil-items starts_field_item) (λ c d e. refl) a.rest b.rest m.lead m.fields

  -- an item of any body whose own fields are moved is read alike
  bare-moved : (a b : Item (Rec N P)) → FieldsMoved a b → bare_reads a ≡ bare_reads b
  bare-moved a b m = ap₂ ◌&&◌ (ap sound m.head) (nothing-moved a b m)

  field-moved : (a b : Item (Rec N P)) → FieldsMoved a b → field_item_reads a ≡ field_item_reads b
  field-moved a b m =
      ap₂ ◌&&◌ (ap sound m.head)
      (fields-moved (field_item a.head) a b m ∙ ap (λ h. reads (checked field_list_step) field_list_done (field_item h) b.rest) m.head)

  variant-moved : (a b : Item (Rec N P)) → FieldsMoved a b → union_item_reads a ≡ union_item_reads b
  variant-moved a b m =
      λ i. sound (m.head i)
      && (elim (is Kind.Variant (m.head i)) [ true ↦ fields-moved between a b m i | false ↦ nothing-moved a b m i ])

  item-moved : (b : Body) (x y : Item (Rec N P)) → FieldsMoved x y → body_item_reads b x ≡ body_item_reads b y
  item-moved message_body = field-moved
  item-moved enum_body = bare-moved
  item-moved flags_body = bare-moved
  item-moved union_body = variant-moved
  item-moved newtype_body = λ x y m. refl

  -- bodies that are the same but for the order of their items are read alike
  body-moved : (b : Body) (xs ys : List (Rec N P)) → front (λ r. not (starts_in b r)) xs ≡ front (λ r. not (starts_in b r)) ys
      → Moved FieldsMoved (items (starts_in b) xs) (items (starts_in b) ys) → body_reads b xs ≡ body_reads b ys
  body-moved b = same_reads (starts_in b) (body_item_reads b) (body_reads b) (body-items b) (item-moved b)

  -- the reordered records have the same context and head, and a body that is read
  reordered-body : (same : N → N → Bool) (rs rs' : List (Rec N P)) (p : Parts same start [] 0 rs) → SameButOrder rs rs'
      → (body : List (Rec N P)) × (rs' ≡ p.before ++ (p.head ∷ body)) × (reads (checked step) done (opened p.head.sub) body ≡ true)
  unfolding lead_of opened
  reordered-body same rs rs' p m = (body, split, sym (body-moved (body_of p.head.sub) p.body body fronts pieces) ∙ p.body_reads)
    where
      starts : Rec N P → Bool
      starts = starts_in (body_of p.head.sub)

      later : List (Rec N P)
      later = rest (λ r. not (starts_in (sheet_body rs') r)) rs'

      body : List (Rec N P)
      body = front (λ r. not (starts r)) p.body ++ later

      split : rs' ≡ p.before ++ (p.head ∷ body)
      split =
          sym (front_rest (λ r. not (starts_in (sheet_body rs') r)) rs')
          ∙ ap (λ zs. zs ++ later) (sym m.lead ∙ accepted-lead p)
          ∙ append_assoc p.before (p.head ∷ front (λ r. not (starts r)) p.body) later

      fronts : front (λ r. not (starts r)) p.body ≡ front (λ r. not (starts r)) body
      fronts =
          tail-eq_of_cons-eq
          (append_cancel_left p.before _ _
          (sym (accepted-lead p) ∙ m.lead ∙ ap lead_of split ∙ lead-from-head p.before p.head body p.head_kind p.before_kinds))

      pieces : Moved FieldsMoved (items starts p.body) (items starts body)
      pieces =
          subst₂ (Moved FieldsMoved)
          (accepted-items p)
          (ap items_of split ∙ items-from-head p.before p.head body p.head_kind p.before_kinds)
          m.moved

module _ {P : Type 0} where
  -- rows 3 to 9
  reordered-records : (rs rs' : List (Rec (List ℕ) P)) → records_fault (context_of rs) rs ≡ none → SameButOrder rs rs'
      → records_fault (context_of rs') rs' ≡ none
  unfolding records_fault context_of last_row
  reordered-records rs rs' h m = go (first_fault same_bytes start [] 0 rs) refl
    where
      on : first_fault same_bytes start [] 0 rs ≡ none → last_row rs ≡ none → records_fault (context_of rs') rs' ≡ none
      on e l = rw (clean, records_fault) last
        where
          p : Parts same_bytes start [] 0 rs
          p = accepted-parts same_bytes rs e

          q : (body : List (Rec (List ℕ) P))
              × (rs' ≡ p.before ++ (p.head ∷ body))
              × (reads (checked step) done (opened p.head.sub) body ≡ true)
          q = reordered-body same_bytes rs rs' p m

          clean : first_fault same_bytes start [] 0 rs' ≡ none
          clean = clean-none _ (ap (λ zs. is_clean (first_fault same_bytes start [] 0 zs)) q.1 ∙ p.whole q.0 ∙ q.2)

          last : last_row rs' ≡ none
          last =
              ap last_row q.1
              ∙ last_row-before p.before q.0 p.head p.head_kind
              (body-kinds (opened p.head.sub) q.0 (opened-body p.head.sub) q.2)
              ∙ sym (last_row-before p.before p.body p.head p.head_kind p.body_kinds)
              ∙ sym (ap last_row p.split)
              ∙ l

      go : (f : Option Fault) → first_fault same_bytes start [] 0 rs ≡ f → records_fault (context_of rs') rs' ≡ none
      go none e = on e (rw (e, records_fault) at h)
      go (some f) e = cc (rw (e, records_fault) at h)

-- an accepted sheet is not refused
accepted-none : (sheet names : List ℕ) → is_accepted sheet names ≡ true → refusal sheet names ≡ none
accepted-none sheet names h = go (refusal sheet names) h
  where
    go : (f : Option Fault) → (elim f as (λ x. Bool) [ none ↦ true | some g ↦ false ]) ≡ true → f ≡ none
    go none e = refl
    go (some g) e = absurd (true≢false (sym e))

reordered-refusal : (sheet sheet' names : List ℕ) → refusal sheet names ≡ none → length sheet' ≡ length sheet
    → SameButOrder (records sheet names) (records sheet' names) → refusal sheet' names ≡ none
unfolding refusal
reordered-refusal sheet sheet' names h l m =
    go (is_wrong_length sheet) (is_long_names names) refl refl
  where
    go : (a b : Bool) → is_wrong_length sheet ≡ a → is_long_names names ≡ b → refusal sheet' names ≡ none
    go true b e d = cc (rw (e, refusal) at h)
    go false true e d = cc (rw (e, d, refusal) at h)
    go false false e d =
        let w : is_wrong_length sheet' ≡ false = rw l e in
        rw (w, d, refusal) (reordered-records (records sheet names) (records sheet' names) (rw (e, d, refusal) at h) m)

-- A sheet whose items are put in any other order, of the same length and with the same names text, is accepted again.
pub reordered-accepted : (sheet sheet' names : List ℕ) → is_accepted sheet names ≡ true → length sheet' ≡ length sheet
    → SameButOrder (records sheet names) (records sheet' names) → is_accepted sheet' names ≡ true
reordered-accepted sheet sheet' names h l m = rw (reordered-refusal sheet sheet' names (accepted-none sheet names h) l m, is_accepted)

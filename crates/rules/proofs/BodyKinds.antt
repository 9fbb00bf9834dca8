-- What each body has: a body is read by the machine of its head, and an item's rest is what its head lets follow.
use mathlib.Core.Path.{◌≡◌, refl, sym, ap, ◌∙◌}
use mathlib.Core.Bool.{Bool, true, false, not, ◌&&◌, ◌||◌, true≢false}
use mathlib.Core.Logic.{inl, inr}
use mathlib.Core.List.{List, [], ◌∷◌}
use native.Mathlib.Omega.{arith}
use lib.Dec.{leb}
use borrow.Author.Tests.{ne_eqb}
use Rattle.std.proofs.lemmas.Bool.{and_parts, or_cases}
use Rattle.rules.specs.Words.{within, any_of, first_is, front, Item, items}
use Rattle.rules.specs.Kind
use Rattle.rules.specs.Record.{Rec, is}
use Rattle.rules.specs.Head.{Body, message_body, enum_body, flags_body, union_body, newtype_body, body_of}
use Rattle.rules.specs.Grammar.{Step, to, fault, FieldListState, between, UnionState, outside, EnumState, unbacked, TypeState, type_due, field_list_done, union_done, opened, step, type_step, field_list_step, enum_step, union_step, starts_field_item, starts_item, start}
use Rattle.rules.proofs.Every.{Every}
use Rattle.rules.proofs.Lists.{all_of, nil-of, every-passed, items-begin}
use Rattle.rules.proofs.Machine.{guarded-to, reads, reads_first, reads-kinds}
use Rattle.rules.proofs.Taken.{within-true, outside-is, field_list-range, is_type_due, type-type, field_list-kind, enum_kind, union-kind}
use Rattle.rules.proofs.Accepted.{checked, checked-to, Parts}
use Rattle.rules.proofs.BodyReads.{always, type_done, sound, bare_reads, union_item_reads, enum-items, flags-items, union-items, flags_step, body_reads, message-reads, enum-reads, flags-reads, union-reads, newtype-reads}

module _ {N P : Type 0} where
  -- where a list is read item by item, each item is read
  items-read : (reading : List (Rec N P) → Bool) (p : Item (Rec N P) → Bool) (rs : List (Rec N P))
      → reading rs ≡ (reading (front (λ r. not (starts_item r)) rs) && all_of p (items starts_item rs)) → reading rs ≡ true
      → all_of p (items starts_item rs) ≡ true
  items-read reading p rs e h = (and_parts (reading (front (λ r. not (starts_item r)) rs)) _ (sym e ∙ h)).1

  -- a state that takes none but beginnings of items begins with one
  reads-begins : {S : Type 0} (step : S → Rec N P → Step S) (finished : S → Bool) (starts : Rec N P → Bool) (s : S)
      → ((r : Rec N P) → starts r ≡ false → step s r ≡ fault 6)
      → (rs : List (Rec N P)) → reads (checked step) finished s rs ≡ true → front (λ r. not (starts r)) rs ≡ []
  unfolding front
  reads-begins {S} step finished starts s h [] k = refl
  reads-begins {S} step finished starts s h (r ∷ rs) k = go (starts r) refl (reads_first (checked step) finished s r rs k)
    where
      go : (b : Bool) → starts r ≡ b → (t : S) × (checked step s r ≡ to t) → front (λ x. not (starts x)) (r ∷ rs) ≡ []
      go true e f = rw (e, front)
      go false e f = let d = checked-to step s r f.1 in let z : true ≡ false = cc (h r e) in absurd (true≢false z)

  -- a field list begins with an item, and has no record of another body
  pub record FieldList (rs : List (Rec N P)) : Type 0 where
    pub begins : front (λ r. not (starts_field_item r)) rs ≡ []
    pub kinds : any_of (λ r. within Kind.Variant Kind.Backing r.kind) rs ≡ false

  field-list : (rs : List (Rec N P)) → reads (checked field_list_step) field_list_done between rs ≡ true → FieldList rs
  unfolding field_list_step
  field-list rs h =
      record {
        begins = reads-begins field_list_step field_list_done starts_field_item between (λ r e. rw (e, field_list_step)) rs h;
        kinds = reads-kinds (checked field_list_step) field_list_done (λ s. Unit {0}) _ kind between rs tt h;
      }
    where
      kind : (s : FieldListState) (r : Rec N P) (t : FieldListState) → Unit {0} → checked field_list_step s r ≡ to t
          → (within Kind.Variant Kind.Backing r.kind ≡ false) × Unit {0}
      kind s r t u e = ((field_list-range r.kind (field_list-kind s r (checked-to field_list_step s r e))).1, tt)

  -- an item of a union: a variant with its fields, or a tombstone alone
  pub record UnionItem (it : Item (Rec N P)) : Type 0 where
    pub fields : FieldList it.rest
    pub alone : is Kind.Variant it.head ≡ false → it.rest ≡ []

  -- a union begins with an item, and has no backing
  pub record UnionBody (rs : List (Rec N P)) : Type 0 where
    pub begins : front (λ r. not (starts_item r)) rs ≡ []
    pub kinds : any_of (is Kind.Backing) rs ≡ false
    pub items : Every UnionItem (items starts_item rs)

  no-records : FieldList []
  unfolding any_of front
  no-records = record { begins = refl; kinds = refl }

  union-item-of : (it : Item (Rec N P)) → union_item_reads it ≡ true → UnionItem it
  union-item-of it h = go (is Kind.Variant it.head) refl
    where
      go : (b : Bool) → is Kind.Variant it.head ≡ b → UnionItem it
      go true e =
          record {
            fields = field-list it.rest (and_parts (sound it.head) _ (rw e at h)).1;
            alone = λ d. absurd (true≢false (sym e ∙ d));
          }
      go false e =
          let n = nil-of it.rest (and_parts (sound it.head) _ (rw e at h)).1 in
          record { fields = rw n no-records; alone = λ d. n }

  union-body : (rs : List (Rec N P)) → reads (checked union_step) union_done outside rs ≡ true → UnionBody rs
  unfolding union_step
  union-body rs h =
      record {
        begins = reads-begins union_step union_done starts_item outside (λ r e. rw (e, union_step)) rs h;
        kinds = reads-kinds (checked union_step) union_done (λ s. Unit {0}) (is Kind.Backing) kind outside rs tt h;
        items = every-passed union_item_reads (λ it r k. union-item-of it r)
            (items-read (reads (checked union_step) union_done outside) union_item_reads rs (union-items outside rs) h)
            (items-begin starts_item rs);
      }
    where
      kind : (s : UnionState) (r : Rec N P) (t : UnionState) → Unit {0} → checked union_step s r ≡ to t
          → (is Kind.Backing r ≡ false) × Unit {0}
      kind s r t u e = (
        elim (or_cases (starts_item r) (starts_field_item r || leb Kind.Annotation r.kind) (union-kind s r (checked-to union_step s r e))) [
          | inl d ↦ let w = within-true 14 15 r.kind d in ne_eqb r.kind 16 (λ q. omega arith)
          | inr d ↦ outside-is 14 16 16 r.kind refl (field_list-range r.kind d).1
        ],
        tt,
      )

  -- an enum has variants, tombstones and a backing, and its items are heads alone
  pub record EnumBody (rs : List (Rec N P)) : Type 0 where
    pub kinds : any_of (λ r. not (within Kind.Variant Kind.Backing r.kind)) rs ≡ false
    pub items : Every (λ it. it.rest ≡ []) (items starts_item rs)

  -- flags have bits and tombstones, each alone
  pub record FlagsBody (rs : List (Rec N P)) : Type 0 where
    pub kinds : any_of (λ r. not (starts_item r)) rs ≡ false
    pub items : Every (λ it. it.rest ≡ []) (items starts_item rs)

  bare-each : (rs : List (Rec N P)) → all_of bare_reads (items starts_item rs) ≡ true → Every (λ it. it.rest ≡ []) (items starts_item rs)
  bare-each rs h = every-passed bare_reads (λ it b k. nil-of it.rest (and_parts (sound it.head) _ b).1) h (items-begin starts_item rs)

  enum-body : (rs : List (Rec N P)) → reads (checked enum_step) always unbacked rs ≡ true → EnumBody rs
  enum-body rs h =
      record {
        kinds = reads-kinds (checked enum_step) always (λ s. Unit {0}) _ kind unbacked rs tt h;
        items = bare-each rs (items-read (reads (checked enum_step) always unbacked) bare_reads rs (enum-items unbacked rs) h);
      }
    where
      kind : (s : EnumState) (r : Rec N P) (t : EnumState) → Unit {0} → checked enum_step s r ≡ to t
          → (not (within Kind.Variant Kind.Backing r.kind) ≡ false) × Unit {0}
      kind s r t u e = (ap not (enum_kind s r (checked-to enum_step s r e)), tt)

  flags-body : (rs : List (Rec N P)) → reads (checked flags_step) always tt rs ≡ true → FlagsBody rs
  flags-body rs h =
      record {
        kinds = reads-kinds (checked flags_step) always (λ s. Unit {0}) _ kind tt rs tt h;
        items = bare-each rs (items-read (reads (checked flags_step) always tt) bare_reads rs (flags-items tt rs) h);
      }
    where
      kind : (s : Unit {0}) (r : Rec N P) (t : Unit {0}) → Unit {0} → checked flags_step s r ≡ to t → (not (starts_item r) ≡ false) × Unit {0}
      kind s r t u e = (ap not (guarded-to (starts_item r) (to tt) (checked-to flags_step s r e)).0, tt)

  -- a newtype begins with a type, and has types and bit names
  pub record NewtypeBody (rs : List (Rec N P)) : Type 0 where
    pub begins : first_is (λ r. Kind.is_type r.kind) rs ≡ true
    pub kinds : any_of (λ r. not (is Kind.BitName r || Kind.is_type r.kind)) rs ≡ false

  newtype-body : (rs : List (Rec N P)) → reads (checked type_step) type_done type_due rs ≡ true → NewtypeBody rs
  unfolding reads all_of type_step
  newtype-body rs h =
      record {
        begins = begins rs h;
        kinds = reads-kinds (checked type_step) type_done (λ s. all_of is_type_due s.due ≡ true) _ kind type_due rs refl h;
      }
    where
      kind : (s : TypeState) (r : Rec N P) (t : TypeState) → all_of is_type_due s.due ≡ true → checked type_step s r ≡ to t
          → (not (is Kind.BitName r || Kind.is_type r.kind) ≡ false) × (all_of is_type_due t.due ≡ true)
      kind s r t a e = let k = type-type s r a (checked-to type_step s r e) in (ap not k.0, k.1)

      begins : (ss : List (Rec N P)) → reads (checked type_step) type_done type_due ss ≡ true → first_is (λ r. Kind.is_type r.kind) ss ≡ true
      begins [] k = k
      begins (r ∷ ss) k = go (is Kind.BitName r) refl
        where
          f : (t : TypeState) × (checked type_step type_due r ≡ to t)
          f = reads_first (checked type_step) type_done type_due r ss k

          d : type_step type_due r ≡ to f.0
          d = checked-to type_step type_due r f.1

          go : (b : Bool) → is Kind.BitName r ≡ b → Kind.is_type r.kind ≡ true
          go true e = cc (rw (e, type_step) at d)
          go false e = rw e at (type-type type_due r refl d).0

  -- what the records of a body have
  abbrev pub BodyHas : Body → List (Rec N P) → Type 0
  BodyHas message_body rs = FieldList rs
  BodyHas enum_body rs = EnumBody rs
  BodyHas flags_body rs = FlagsBody rs
  BodyHas union_body rs = UnionBody rs
  BodyHas newtype_body rs = NewtypeBody rs

  body-has : (b : Body) (rs : List (Rec N P)) → body_reads b rs ≡ true → BodyHas b rs
  body-has message_body rs h = field-list rs (sym (message-reads rs) ∙ h)
  body-has enum_body rs h = enum-body rs (sym (enum-reads rs) ∙ h)
  body-has flags_body rs h = flags-body rs (sym (flags-reads rs) ∙ h)
  body-has union_body rs h = union-body rs (sym (union-reads rs) ∙ h)
  body-has newtype_body rs h = newtype-body rs (sym (newtype-reads rs) ∙ h)

  pub accepted-body : {same : N → N → Bool} {rs : List (Rec N P)} (p : Parts same start [] 0 rs) → BodyHas (body_of p.head.sub) p.body
  unfolding opened
  accepted-body p = body-has (body_of p.head.sub) p.body p.body_reads

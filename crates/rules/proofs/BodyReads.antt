-- A body is read by the machine of its head, item by item: each machine begins an item only where it is done, and by its head alone.
use Prim.Native.Nat.{ℕ}
use mathlib.Core.Path.{◌≡◌, refl, sym, ap, ◌∙◌}
use mathlib.Core.Bool.{Bool, true, false, not, ◌&&◌, and-false}
use mathlib.Core.List.{List, [], ◌∷◌}
use mathlib.Core.Option.{Option, some, none}
use native.Mathlib.Omega.{arith}
use Rattle.std.proofs.lemmas.Bool.{or_parts}
use Rattle.rules.specs.Words.{any_of, front, Item, items}
use Rattle.rules.specs.Kind
use Rattle.rules.specs.Record.{Rec, is}
use Rattle.rules.specs.Head.{Body, message_body, enum_body, flags_body, union_body, newtype_body}
use Rattle.rules.specs.Grammar.{Step, to, fault, lifted, guarded, State, message, enum, flags, union, newtype, FieldListState, between, field_item, UnionState, outside, variant, union_item, EnumState, unbacked, items as past, TypeState, type_due, none_due, done, field_list_done, union_done, body_start, step, type_step, field_list_step, enum_step, union_step, starts_field_item, starts_item}
use Rattle.rules.specs.Refusals.{own_fault}
use Rattle.rules.specs.Items.{starts_in}
use Rattle.rules.proofs.Every.{every-as}
use Rattle.rules.proofs.Lists.{all_of, all_of-same, is_nil, none_of-false, items-begin}
use Rattle.rules.proofs.Machine.{reads, reads_on, reads-items, reads-lifted}
use Rattle.rules.proofs.Taken.{within-true, type-kind}
use Rattle.rules.proofs.Accepted.{checked, checked-to}

-- the states of an enum and of flags are all done
abbrev pub always : {S : Type 0} → S → Bool
always s = true

abbrev pub type_done : TypeState → Bool
type_done s = none_due s.due

module _ {N P : Type 0} where
  -- the record is at no fault of its own
  unfoldable pub sound : Rec N P → Bool
  sound r = elim (own_fault r) [ none ↦ true | some n ↦ false ]

  -- what a machine does at a record is what its step does, if the record is sound
  checked-on : {S : Type 0} (step : S → Rec N P → Step S) (finished : S → Bool) (s : S) (r : Rec N P) (rs : List (Rec N P))
      → reads_on (checked step) finished (checked step s r) rs ≡ (sound r && reads_on (checked step) finished (step s r) rs)
  unfolding checked sound
  checked-on {S} step finished s r rs = go (own_fault r) refl
    where
      go : (o : Option ℕ) → own_fault r ≡ o
          → reads_on (checked step) finished (checked step s r) rs ≡ (sound r && reads_on (checked step) finished (step s r) rs)
      go none e = rw (e, checked, sound)
      go (some n) e = rw (e, checked, sound)

  -- a machine that begins an item only where it is done
  module _ {S : Type 0} (step : S → Rec N P → Step S) (finished : S → Bool) (starts : Rec N P → Bool) (enter : Rec N P → S)
      (begins : (s : S) (r : Rec N P) → starts r ≡ true → step s r ≡ guarded (finished s) (to (enter r))) where
    checked-begins : (s : S) (r : Rec N P) (rs : List (Rec N P)) → starts r ≡ true
        → reads_on (checked step) finished (checked step s r) rs ≡ (finished s && (sound r && reads (checked step) finished (enter r) rs))
    checked-begins s r rs e = checked-on step finished s r rs ∙ rw (begins s r e) (go (finished s) (sound r))
      where
        go : (b c : Bool) → (c && reads_on (checked step) finished (guarded b (to (enter r))) rs)
            ≡ (b && (c && reads (checked step) finished (enter r) rs))
        go true c = refl
        go false c = and-false c

    -- an item is read by itself
    abbrev item_reads : Item (Rec N P) → Bool
    item_reads it = sound it.head && reads (checked step) finished (enter it.head) it.rest

    checked-items : (s : S) (rs : List (Rec N P))
        → reads (checked step) finished s rs
        ≡ (reads (checked step) finished s (front (λ r. not (starts r)) rs) && all_of item_reads (items starts rs))
    checked-items = reads-items (checked step) finished starts sound enter checked-begins

  checked-lifted : {S U : Type 0} (inner : S → Rec N P → Step S) (outer : U → Rec N P → Step U) (f : S → U) (bad : Rec N P → Bool)
      → ((s : S) (r : Rec N P) → bad r ≡ false → outer (f s) r ≡ lifted f (inner s r))
      → (s : S) (r : Rec N P) → bad r ≡ false → checked outer (f s) r ≡ lifted f (checked inner s r)
  unfolding checked
  checked-lifted {S} {U} inner outer f bad h s r k = go (own_fault r) refl
    where
      go : (o : Option ℕ) → own_fault r ≡ o → checked outer (f s) r ≡ lifted f (checked inner s r)
      go none e = rw (e, checked) (h s r k)
      go (some n) e = rw (e, checked)

  -- a state that takes none but beginnings of items reads nothing else
  reads_nothing : {S : Type 0} (step : S → Rec N P → Step S) (finished : S → Bool) (starts : Rec N P → Bool) (s : S) → finished s ≡ true
      → ((r : Rec N P) → starts r ≡ false → step s r ≡ fault 6)
      → (rs : List (Rec N P)) → any_of starts rs ≡ false → reads (checked step) finished s rs ≡ is_nil rs
  unfolding reads any_of
  reads_nothing step finished starts s e h [] k = e
  reads_nothing step finished starts s e h (r ∷ rs) k =
      checked-on step finished s r rs ∙ rw (h r (or_parts (starts r) _ k).0) (and-false (sound r))

  -- an item that is its head alone
  abbrev pub bare_reads : Item (Rec N P) → Bool
  bare_reads it = sound it.head && is_nil it.rest

  -- an item of a field list
  abbrev pub field_item_reads : Item (Rec N P) → Bool
  field_item_reads it = sound it.head && reads (checked field_list_step) field_list_done (field_item it.head) it.rest

  -- an item of a union
  abbrev pub union_item_reads : Item (Rec N P) → Bool
  union_item_reads it =
      sound it.head
      && (elim (is Kind.Variant it.head) [
        | true ↦ reads (checked field_list_step) field_list_done between it.rest
        | false ↦ is_nil it.rest
      ])

  -- a field list is read item by item
  pub field_list-items : (s : FieldListState) (rs : List (Rec N P))
      → reads (checked field_list_step) field_list_done s rs
      ≡ (reads (checked field_list_step) field_list_done s (front (λ r. not (starts_field_item r)) rs)
      && all_of field_item_reads (items starts_field_item rs))
  unfolding field_list_step
  field_list-items = checked-items field_list_step field_list_done starts_field_item field_item (λ s r e. rw (e, field_list_step))

  -- so is a body whose items are heads alone
  bare-items : {S : Type 0} (step : S → Rec N P → Step S) (after : S)
      → ((s : S) (r : Rec N P) → starts_item r ≡ true → step s r ≡ to after)
      → ((r : Rec N P) → starts_item r ≡ false → step after r ≡ fault 6)
      → (s : S) (rs : List (Rec N P))
      → reads (checked step) always s rs
      ≡ (reads (checked step) always s (front (λ r. not (starts_item r)) rs) && all_of bare_reads (items starts_item rs))
  bare-items step after begins ends s rs =
      checked-items step always starts_item (λ r. after) begins s rs
      ∙ ap (λ b. reads (checked step) always s (front (λ r. not (starts_item r)) rs) && b)
      (all_of-same
      (every-as (λ it k. ap (λ b. sound it.head && b) (reads_nothing step always starts_item after refl ends it.rest k.1))
      (items-begin starts_item rs)))

  pub enum-items : (s : EnumState) (rs : List (Rec N P))
      → reads (checked enum_step) always s rs
      ≡ (reads (checked enum_step) always s (front (λ r. not (starts_item r)) rs) && all_of bare_reads (items starts_item rs))
  unfolding enum_step
  enum-items = bare-items enum_step past (λ s r e. rw (e, enum_step)) (λ r e. rw (e, enum_step))

  -- flags have one state
  abbrev pub flags_step : Unit {0} → Rec N P → Step (Unit {0})
  flags_step u r = guarded (starts_item r) (to tt)

  pub flags-items : (u : Unit {0}) (rs : List (Rec N P))
      → reads (checked flags_step) always u rs
      ≡ (reads (checked flags_step) always u (front (λ r. not (starts_item r)) rs) && all_of bare_reads (items starts_item rs))
  flags-items = bare-items flags_step tt (λ u r e. rw (e, guarded)) (λ r e. rw (e, guarded))

  -- a variant's fields are read as a field list
  variant-reads : (s : FieldListState) (rs : List (Rec N P)) → any_of starts_item rs ≡ false
      → reads (checked union_step) union_done (variant s) rs ≡ reads (checked field_list_step) field_list_done s rs
  unfolding union_step
  variant-reads =
      reads-lifted (checked field_list_step) field_list_done (checked union_step) union_done variant starts_item
      (checked-lifted field_list_step union_step variant starts_item (λ s r k. rw (k, union_step)))
      (λ s. refl)

  union-item : (it : Item (Rec N P)) → any_of starts_item it.rest ≡ false
      → reads (checked union_step) union_done (union_item it.head) it.rest
      ≡ (elim (is Kind.Variant it.head) as (λ b. Bool) [
        | true ↦ reads (checked field_list_step) field_list_done between it.rest
        | false ↦ is_nil it.rest
      ])
  unfolding union_step
  union-item it k = go (is Kind.Variant it.head)
    where
      go : (b : Bool)
          → reads (checked union_step) union_done (elim b as (λ c. UnionState) [ true ↦ variant between | false ↦ outside ]) it.rest
          ≡ (elim b as (λ c. Bool) [ true ↦ reads (checked field_list_step) field_list_done between it.rest | false ↦ is_nil it.rest ])
      go true = variant-reads between it.rest k
      go false = reads_nothing union_step union_done starts_item outside refl (λ r e. rw (e, union_step)) it.rest k

  pub union-items : (s : UnionState) (rs : List (Rec N P))
      → reads (checked union_step) union_done s rs
      ≡ (reads (checked union_step) union_done s (front (λ r. not (starts_item r)) rs) && all_of union_item_reads (items starts_item rs))
  unfolding union_step
  union-items s rs =
      checked-items union_step union_done starts_item union_item (λ u r e. rw (e, union_step)) s rs
      ∙ ap (λ b. reads (checked union_step) union_done s (front (λ r. not (starts_item r)) rs) && b)
      (all_of-same (every-as (λ it k. ap (λ b. sound it.head && b) (union-item it k.1)) (items-begin starts_item rs)))

  -- the body of a head is read by its own machine
  lifted-reads : {S : Type 0} (inner : S → Rec N P → Step S) (inner_done : S → Bool) (f : S → State)
      → ((s : S) (r : Rec N P) → step (f s) r ≡ lifted f (inner s r)) → ((s : S) → done (f s) ≡ inner_done s)
      → (s : S) (rs : List (Rec N P)) → reads (checked step) done (f s) rs ≡ reads (checked inner) inner_done s rs
  lifted-reads inner inner_done f same_step same_end s rs =
      reads-lifted (checked inner) inner_done (checked step) done f (λ r. false)
      (checked-lifted inner step f (λ r. false) (λ t r k. same_step t r))
      same_end
      s
      rs
      (none_of-false rs)

  -- the records of a body are read
  abbrev pub body_reads : Body → List (Rec N P) → Bool
  body_reads b = reads (checked step) done (body_start b)

  pub message-reads : (rs : List (Rec N P)) → body_reads message_body rs ≡ reads (checked field_list_step) field_list_done between rs
  unfolding step done
  message-reads = lifted-reads field_list_step field_list_done message (λ s r. refl) (λ s. refl) between

  pub enum-reads : (rs : List (Rec N P)) → body_reads enum_body rs ≡ reads (checked enum_step) always unbacked rs
  unfolding step done
  enum-reads = lifted-reads enum_step always enum (λ s r. refl) (λ s. refl) unbacked

  pub flags-reads : (rs : List (Rec N P)) → body_reads flags_body rs ≡ reads (checked flags_step) always tt rs
  unfolding step done
  flags-reads = lifted-reads flags_step always (λ u. flags) (λ s r. go (starts_item r)) (λ s. refl) tt
    where
      go : (b : Bool) → guarded b (to flags) ≡ lifted (λ (u : Unit {0}). flags) (guarded b (to tt))
      go true = refl
      go false = refl

  pub union-reads : (rs : List (Rec N P)) → body_reads union_body rs ≡ reads (checked union_step) union_done outside rs
  unfolding step done
  union-reads = lifted-reads union_step union_done union (λ s r. refl) (λ s. refl) outside

  pub newtype-reads : (rs : List (Rec N P)) → body_reads newtype_body rs ≡ reads (checked type_step) type_done type_due rs
  unfolding step done
  newtype-reads = lifted-reads type_step type_done newtype (λ s r. refl) (λ s. refl) type_due

  -- a newtype has no items
  pub type-items : (s : TypeState) (rs : List (Rec N P))
      → reads (checked type_step) type_done s rs
      ≡ (reads (checked type_step) type_done s (front (λ r. not (starts_item r)) rs) && all_of (λ it. false) (items starts_item rs))
  type-items = reads-items (checked type_step) type_done starts_item (λ r. false) (λ r. type_due) none-begins
    where
      none-begins : (s : TypeState) (r : Rec N P) (rs : List (Rec N P)) → starts_item r ≡ true
          → reads_on (checked type_step) type_done (checked type_step s r) rs ≡ (type_done s && false)
      none-begins s r rs e = go (checked type_step s r) refl ∙ sym (and-false (type_done s))
        where
          go : (n : Step TypeState) → checked type_step s r ≡ n → reads_on (checked type_step) type_done n rs ≡ false
          go (fault n) d = refl
          go (to t) d =
              let k = type-kind s r (checked-to type_step s r d) in
              let w = within-true 14 15 r.kind e in
              let z : ⊥ = omega arith in
              absurd z

  -- an item of a body is read
  abbrev pub body_item_reads : Body → Item (Rec N P) → Bool
  body_item_reads message_body it = field_item_reads it
  body_item_reads enum_body it = bare_reads it
  body_item_reads flags_body it = bare_reads it
  body_item_reads union_body it = union_item_reads it
  body_item_reads newtype_body it = false

  -- a list is read item by item
  abbrev ByItems : (Rec N P → Bool) → (Item (Rec N P) → Bool) → (List (Rec N P) → Bool) → Type 0
  ByItems starts p reading =
      (rs : List (Rec N P)) → reading rs ≡ (reading (front (λ r. not (starts r)) rs) && all_of p (items starts rs))

  also_by_items : (starts : Rec N P → Bool) (p : Item (Rec N P) → Bool) {f g : List (Rec N P) → Bool} → ((rs : List (Rec N P)) → f rs ≡ g rs)
      → ByItems starts p g → ByItems starts p f
  also_by_items starts p same by rs = same rs ∙ by rs ∙ ap (λ b. b && all_of p (items starts rs)) (sym (same (front (λ r. not (starts r)) rs)))

  -- every body is
  pub body-items : (b : Body) → ByItems (starts_in b) (body_item_reads b) (body_reads b)
  body-items message_body = also_by_items starts_field_item field_item_reads message-reads (field_list-items between)
  body-items enum_body = also_by_items starts_item bare_reads enum-reads (enum-items unbacked)
  body-items flags_body = also_by_items starts_item bare_reads flags-reads (flags-items tt)
  body-items union_body = also_by_items starts_item union_item_reads union-reads (union-items outside)
  body-items newtype_body = also_by_items starts_item (λ it. false) newtype-reads (type-items type_due)

-- What acceptance by rows 3 to 8 says of the kinds: each state takes only the kinds that its step tests for, so the context ends at the
-- one head, and what follows is a body, which has none of the context's kinds and is read by the grammar alone.
use Prim.Native.Nat.{ℕ, suc, ◌≤◌}
use mathlib.Core.Path.{◌≡◌, refl, sym, ap, ◌∙◌}
use mathlib.Core.Bool.{Bool, true, false, ◌&&◌, ◌||◌, true≢false}
use mathlib.Core.Logic.{inl, inr}
use mathlib.Core.List.{List, [], ◌∷◌, ◌++◌}
use mathlib.Core.Option.{Option, some, none}
use native.Mathlib.Omega.{arith}
use lib.Dec.{leb}
use borrow.Author.Tests.{ne_eqb}
use Rattle.std.proofs.lemmas.Bool.{or_cases}
use Rattle.rules.specs.Words.{within, any_of, only_if}
use Rattle.rules.specs.Kind
use Rattle.rules.specs.Record.{Rec, is, is_renaming}
use Rattle.rules.specs.Head.{Body, message_body, enum_body, flags_body, union_body, newtype_body, body_of}
use Rattle.rules.specs.Grammar.{Step, to, fault, State, context, message, enum, flags, union, newtype, TypeState, type_step, no_type, start, done, opened, step, context_step, context_item, starts_context_item, none_due, type_due, body_start, field_list_step, enum_step, union_step, starts_item, starts_field_item}
use Rattle.rules.specs.Refusals.{Fault, own_fault, record_step, first_fault}
use Rattle.rules.proofs.Machine.{to-inj, guarded-to, lifted-to, reads, reads_on, reads-kinds}
use Rattle.rules.proofs.Taken.{within-true, within-false, field_list-range, type-kind, field_list-kind, enum_kind, union-kind}

-- no fault was found
abbrev pub is_clean : Option Fault → Bool
is_clean none = true
is_clean (some f) = false

pub clean-none : (f : Option Fault) → is_clean f ≡ true → f ≡ none
clean-none none h = refl
clean-none (some f) h = cc

-- past the head
abbrev in_body : State → Bool
in_body (context s) = false
in_body (message s) = true
in_body (enum s) = true
in_body flags = true
in_body (union s) = true
in_body (newtype s) = true

start-in_body : (b : Body) → in_body (body_start b) ≡ true
start-in_body message_body = refl
start-in_body enum_body = refl
start-in_body flags_body = refl
start-in_body union_body = refl
start-in_body newtype_body = refl

pub opened-body : (sub : ℕ) → in_body (opened sub) ≡ true
unfolding opened
opened-body sub = start-in_body (body_of sub)

module _ {N P : Type 0} where
  -- a machine's step at a record that is at no fault of its own: rows 3 to 7
  unfoldable pub checked : {S : Type 0} → (S → Rec N P → Step S) → S → Rec N P → Step S
  checked step s r = elim (own_fault r) [ some n ↦ fault n | none ↦ step s r ]

  pub checked-to : {S : Type 0} (step : S → Rec N P → Step S) (s : S) (r : Rec N P) {t : S} → checked step s r ≡ to t → step s r ≡ to t
  unfolding checked
  checked-to {S} step s r {t} h = go (own_fault r) refl
    where
      go : (o : Option ℕ) → own_fault r ≡ o → step s r ≡ to t
      go none e = rw (e, checked) at h
      go (some n) e = cc (rw (e, checked) at h)

  -- a body goes on with kinds past the head's
  body-kind : (s : State) (r : Rec N P) (t : State) → in_body s ≡ true → step s r ≡ to t → (11 ≤ r.kind) × (in_body t ≡ true)
  unfolding step
  body-kind (context s) r t b h = absurd (true≢false (sym b))
  body-kind (message s) r t b h =
      let l = lifted-to message (field_list_step s r) h in
      ((field_list-range r.kind (field_list-kind s r l.1)).0, rw (← l.2))
  body-kind (enum s) r t b h =
      let l = lifted-to enum (enum_step s r) h in
      let k = within-true 14 16 r.kind (enum_kind s r l.1) in
      (omega arith, rw (← l.2))
  body-kind flags r t b h =
      let g = guarded-to (starts_item r) (to flags) h in
      let k = within-true 14 15 r.kind g.0 in
      (omega arith, cc)
  body-kind (union s) r t b h =
      let l = lifted-to union (union_step s r) h in (
        elim (or_cases (starts_item r) (starts_field_item r || leb Kind.Annotation r.kind) (union-kind s r l.1)) [
          | inl e ↦ let k = within-true 14 15 r.kind e in omega arith
          | inr e ↦ (field_list-range r.kind e).0
        ],
        rw (← l.2),
      )
  body-kind (newtype s) r t b h =
      let l = lifted-to newtype (type_step s r) h in
      let k = type-kind s r l.1 in
      (omega arith, rw (← l.2))

  -- the names declared after a record
  abbrev names_after : Rec N P → List N → List N
  names_after r names = only_if (is Kind.Declaration r) (r.name ∷ []) ++ names

  -- in a body, where no name is declared, the names before say nothing
  body-record : (same : N → N → Bool) (s : State) (names : List N) (r : Rec N P) → in_body s ≡ true
      → record_step same s names r ≡ checked step s r
  unfolding record_step checked
  body-record same s names r b = go (own_fault r) (step s r) refl refl
    where
      go : (o : Option ℕ) (n : Step State) → own_fault r ≡ o → step s r ≡ n → record_step same s names r ≡ checked step s r
      go (some n) x e d = rw (e, record_step, checked)
      go none (fault n) e d = rw (e, d, record_step, checked)
      go none (to t) e d =
          let k = body-kind s r t b d in
          let f : is Kind.Declaration r ≡ false = ne_eqb r.kind 1 (λ q. omega arith) in
          rw (e, d, f, record_step, checked)

  -- nor does the index
  body_clean : (same : N → N → Bool) (s : State) (names : List N) (i : ℕ) (rs : List (Rec N P)) → in_body s ≡ true
      → is_clean (first_fault same s names i rs) ≡ reads (checked step) done s rs
  unfolding first_fault reads
  body_clean same s names i [] b = go (done s) refl
    where
      go : (d : Bool) → done s ≡ d → is_clean (first_fault {P = P} same s names i []) ≡ done s
      go true e = rw (e, first_fault)
      go false e = rw (e, first_fault)
  body_clean same s names i (r ∷ rs) b =
      rw (body-record same s names r b, first_fault)
      (go (checked step s r) refl (λ t. body_clean same t (names_after r names) (suc i) rs))
    where
      later : State → Option Fault
      later t = first_fault same t (names_after r names) (suc i) rs

      go : (n : Step State) → checked step s r ≡ n
          → ((t : State) → in_body t ≡ true → is_clean (later t) ≡ reads (checked step) done t rs)
          → is_clean (elim n as (λ x. Option Fault) [ to t ↦ later t | fault k ↦ some (record { number = k; index = i }) ])
          ≡ reads_on (checked step) done n rs
      go (to t) e ih = ih t (body-kind s r t b (checked-to step s r e)).1
      go (fault n) e ih = refl

  -- a record that is taken is taken by the grammar
  taken : (same : N → N → Bool) (s : State) (names : List N) (r : Rec N P) {t : State} → record_step same s names r ≡ to t → step s r ≡ to t
  unfolding record_step
  taken same s names r {t} h = go (own_fault r) (step s r) (is Kind.Declaration r && any_of (same r.name) names) refl refl refl
    where
      go : (o : Option ℕ) (n : Step State) (b : Bool) → own_fault r ≡ o → step s r ≡ n
          → (is Kind.Declaration r && any_of (same r.name) names) ≡ b → step s r ≡ to t
      go (some n) x b e d f = cc (rw (e, record_step) at h)
      go none (fault n) b e d f = cc (rw (e, d, record_step) at h)
      go none (to u) true e d f = cc (rw (e, d, f, record_step) at h)
      go none (to u) false e d f = d ∙ (rw (e, d, f, record_step) at h)

  -- a record that the context takes goes on with it, or is the head
  data ContextStep (r : Rec N P) (t : State) : Type 0 where
    goes_on : (u : TypeState) → within Kind.Head Kind.Backing r.kind ≡ false → t ≡ context u → ContextStep r t
    opens : is Kind.Head r ≡ true → t ≡ opened r.sub → ContextStep r t

  context-step : (s : TypeState) (r : Rec N P) {t : State} → context_step s r ≡ to t → ContextStep r t
  unfolding context_step
  context-step s r {t} h = go (starts_context_item r) (is Kind.Head r) refl refl
    where
      go : (a b : Bool) → starts_context_item r ≡ a → is Kind.Head r ≡ b → ContextStep r t
      go true b e d =
          let k = within-true 1 3 r.kind e in
          let g = guarded-to (none_due s.due) (to (context_item r)) (rw (e, context_step) at h) in
          goes_on (elim (is_renaming r) [ true ↦ type_due | false ↦ no_type ])
          (within-false 10 16 r.kind (λ p q. omega arith))
          (sym (to-inj g.1))
      go false true e d =
          let g = guarded-to (none_due s.due) (to (opened r.sub)) (rw (e, d, context_step) at h) in
          opens d (sym (to-inj g.1))
      go false false e d =
          let l = lifted-to context (type_step s r) (rw (e, d, context_step) at h) in
          let k = type-kind s r l.1 in
          goes_on l.0 (within-false 10 16 r.kind (λ p q. omega arith)) (sym l.2)

  -- The parts of records that are accepted from a state on: a context, a head, a body. With that context and that head, other records
  -- are accepted exactly if the rest of them is read as such a body.
  pub record Parts (same : N → N → Bool) (s : State) (names : List N) (i : ℕ) (rs : List (Rec N P)) : Type 0 where
    pub before : List (Rec N P)
    pub head : Rec N P
    pub body : List (Rec N P)
    pub split : rs ≡ before ++ (head ∷ body)
    pub head_kind : is Kind.Head head ≡ true
    pub before_kinds : any_of (λ r. within Kind.Head Kind.Backing r.kind) before ≡ false
    pub body_kinds : any_of (λ r. within Kind.Declaration Kind.Wildcard r.kind || is Kind.Head r) body ≡ false
    pub body_reads : reads (checked step) done (opened head.sub) body ≡ true
    pub whole : (ys : List (Rec N P))
        → is_clean (first_fault same s names i (before ++ (head ∷ ys))) ≡ reads (checked step) done (opened head.sub) ys

  -- a body that is read has no record of the context, and no head
  pub body-kinds : (s : State) (rs : List (Rec N P)) → in_body s ≡ true → reads (checked step) done s rs ≡ true
      → any_of (λ r. within Kind.Declaration Kind.Wildcard r.kind || is Kind.Head r) rs ≡ false
  body-kinds s rs b h = reads-kinds (checked step) done (λ u. in_body u ≡ true) _ kind s rs b h
    where
      kind : (u : State) (r : Rec N P) (t : State) → in_body u ≡ true → checked step u r ≡ to t
          → ((within Kind.Declaration Kind.Wildcard r.kind || is Kind.Head r) ≡ false) × (in_body t ≡ true)
      kind u r t b h =
          let k = body-kind u r t b (checked-to step u r h) in
          (rw (within-false 1 3 r.kind (λ p q. omega arith)) (ne_eqb r.kind 10 (λ q. omega arith)), k.1)

  -- a record of the context before accepted records
  further : (same : N → N → Bool) (s t : State) (names : List N) (i : ℕ) (r : Rec N P) (rs : List (Rec N P))
      → record_step same s names r ≡ to t → within Kind.Head Kind.Backing r.kind ≡ false
      → Parts same t (names_after r names) (suc i) rs → Parts same s names i (r ∷ rs)
  unfolding first_fault any_of
  further same s t names i r rs e k p =
      record {
        before = r ∷ p.before;
        head = p.head;
        body = p.body;
        split = ap (λ zs. r ∷ zs) p.split;
        head_kind = p.head_kind;
        before_kinds = rw k p.before_kinds;
        body_kinds = p.body_kinds;
        body_reads = p.body_reads;
        whole = λ ys. rw (e, first_fault) (p.whole ys);
      }

  -- the head before a body that is read
  headed : (same : N → N → Bool) (s : State) (names : List N) (i : ℕ) (r : Rec N P) (rs : List (Rec N P))
      → record_step same s names r ≡ to (opened r.sub) → is Kind.Head r ≡ true
      → is_clean (first_fault same (opened r.sub) (names_after r names) (suc i) rs) ≡ true → Parts same s names i (r ∷ rs)
  unfolding first_fault any_of
  headed same s names i r rs e k h =
      let f = body_clean same (opened r.sub) (names_after r names) (suc i) rs (opened-body r.sub) in
      record {
        before = [];
        head = r;
        body = rs;
        split = refl;
        head_kind = k;
        before_kinds = refl;
        body_kinds = body-kinds (opened r.sub) rs (opened-body r.sub) (sym f ∙ h);
        body_reads = sym f ∙ h;
        whole = λ ys. rw (e, first_fault) (body_clean same (opened r.sub) (names_after r names) (suc i) ys (opened-body r.sub));
      }

  parts : (same : N → N → Bool) (s : TypeState) (names : List N) (i : ℕ) (rs : List (Rec N P))
      → is_clean (first_fault same (context s) names i rs) ≡ true → Parts same (context s) names i rs
  unfolding first_fault done step context_step
  parts same s names i [] h = absurd (true≢false (sym h))
  parts same s names i (r ∷ rs) h =
      go (record_step same (context s) names r) refl (λ u. parts same u (names_after r names) (suc i) rs)
    where
      Later : Type 0
      Later =
          (u : TypeState) → is_clean (first_fault same (context u) (names_after r names) (suc i) rs) ≡ true
          → Parts same (context u) (names_after r names) (suc i) rs

      on : {t : State} → record_step same (context s) names r ≡ to t → ContextStep r t → Later → Parts same (context s) names i (r ∷ rs)
      on e (goes_on u k q) ih =
          let d : record_step same (context s) names r ≡ to (context u) = cc in
          further same (context s) (context u) names i r rs d k (ih u (rw (d, first_fault) at h))
      on e (opens k q) ih =
          let d : record_step same (context s) names r ≡ to (opened r.sub) = cc in
          headed same (context s) names i r rs d k (rw (d, first_fault) at h)

      go : (n : Step State) → record_step same (context s) names r ≡ n → Later → Parts same (context s) names i (r ∷ rs)
      go (fault n) e ih = absurd (true≢false (sym (rw (e, first_fault) at h)))
      go (to t) e ih = on e (context-step s r (taken same (context s) names r e)) ih

  -- the parts of accepted records
  pub accepted-parts : (same : N → N → Bool) (rs : List (Rec N P)) → first_fault same start [] 0 rs ≡ none → Parts same start [] 0 rs
  accepted-parts same rs h = parts same no_type [] 0 rs (rw h)

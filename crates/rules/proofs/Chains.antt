-- Each step of a chain goes through a declared name, so a chain of more steps than there are declarations goes through one of them
-- twice, and from there on it repeats for ever; a chain that has ended stays where it is.
use Prim.Native.Nat.{ℕ, zero, suc, ◌+◌, ◌-◌, ◌≤◌, ◌<◌}
use native.Mathlib.Nat.{zero-add, suc-add}
use native.Mathlib.Numerals.{add-one}
use native.Mathlib.Decide.{ℕ_discrete, dec_le}
use native.Mathlib.Omega.{arith}
use mathlib.Core.Path.{◌≡◌, refl, sym, ap, ◌∙◌}
use mathlib.Core.Bool.{Bool, true, false, ◌&&◌}
use mathlib.Core.List.{List, [], ◌∷◌, ◌++◌}
use mathlib.Core.Option.{Option, some, none}
use lib.ListN.{length}
use lib.Dec.{ltb}
use borrow.Author.Tests.{ltb-true, ltb-false, eqb-true}
use Rattle.rules.specs.Words.{only_if, select, same_bytes}
use Rattle.rules.specs.Kind
use Rattle.rules.specs.Sub
use Rattle.rules.specs.Record.{Rec, is}
use Rattle.rules.specs.Context.{Declared, ValidationContext, declared, context_of, inner_of, declared_as, inner_type, behind, chain_end, never_ends}
use Rattle.rules.specs.Types.{is_invalid_end, is_invalid_map_key}

module _ {A : Type 0} where
  -- there is one
  abbrev pub is_some : Option A → Bool
  is_some none = false
  is_some (some x) = true

  pub none-there : (o : Option A) → is_some o ≡ false → o ≡ none
  none-there none e = refl
  none-there (some x) e = cc

-- two numbers below n at which the function has the same value
record Twice (f : ℕ → ℕ) (n : ℕ) : Type 0 where
  low : ℕ
  high : ℕ
  order : low < high
  bound : high < n
  same : f low ≡ f high

-- a number below n at which the function has the value
record Hit (f : ℕ → ℕ) (v n : ℕ) : Type 0 where
  at : ℕ
  bound : at < n
  same : f at ≡ v

-- whether the function has the value below n
find : (f : ℕ → ℕ) (v n : ℕ) → Dec (Hit f v n)
find f v zero = no λ h. omega arith
find f v (suc n) = go (find f v n) (ℕ_discrete (f n) v)
  where
    last : (h : Hit f v (suc n)) → Dec (h.at ≡ n) → ¬ (Hit f v n) → ¬ (f n ≡ v) → ⊥
    last h (yes e) p q = q (rw e at h.same)
    last h (no e) p q = p (record { at = h.at; bound = omega arith; same = h.same })

    go : Dec (Hit f v n) → Dec (f n ≡ v) → Dec (Hit f v (suc n))
    go (yes h) d = yes (record { at = h.at; bound = omega arith; same = h.same })
    go (no p) (yes e) = yes (record { at = n; bound = omega arith; same = e })
    go (no p) (no q) = no λ h. last h (ℕ_discrete h.at n) p q

-- the numbers but v, closed up
without : ℕ → ℕ → ℕ
without v x = elim (ltb x v) [ true ↦ x | false ↦ x - 1 ]

without-below : (v x n : ℕ) → ¬ (x ≡ v) → v < suc n → x < suc n → without v x < n
unfolding without
without-below v x n ne hv hx = go (ltb x v) refl
  where
    go : (b : Bool) → ltb x v ≡ b → elim b [ true ↦ x | false ↦ x - 1 ] < n
    go true e = omega (arith, ltb-true x v e)
    go false e = omega (arith, ltb-false x v e)

without-same : (v x y : ℕ) → ¬ (x ≡ v) → ¬ (y ≡ v) → without v x ≡ without v y → x ≡ y
unfolding without
without-same v x y nx ny = go (ltb x v) refl (ltb y v) refl
  where
    go : (b : Bool) → ltb x v ≡ b → (c : Bool) → ltb y v ≡ c
        → ◌≡◌ {A = ℕ} (elim b [ true ↦ x | false ↦ x - 1 ]) (elim c [ true ↦ y | false ↦ y - 1 ]) → x ≡ y
    go true e true e' h = h
    go true e false e' h = omega (arith, ltb-true x v e, ltb-false y v e')
    go false e true e' h = omega (arith, ltb-false x v e, ltb-true y v e')
    go false e false e' h = omega (arith, ltb-false x v e, ltb-false y v e')

-- n + 1 values below n are not all different
pigeonhole : (n : ℕ) (f : ℕ → ℕ) → ((i : ℕ) → i < suc n → f i < n) → Twice f (suc n)
pigeonhole zero f h = absurd (omega (arith, h 0 (omega arith)))
pigeonhole (suc n) f h = go (find f (f (suc n)) (suc n)) (pigeonhole n (λ i. without (f (suc n)) (f i)))
  where
    v : ℕ
    v = f (suc n)

    g : ℕ → ℕ
    g i = without v (f i)

    go : Dec (Hit f v (suc n)) → (((i : ℕ) → i < suc n → g i < n) → Twice g (suc n)) → Twice f (suc (suc n))
    go (yes a) rec = record { low = a.at; high = suc n; order = a.bound; bound = omega arith; same = a.same }
    go (no p) rec =
        let other : (i : ℕ) → i < suc n → ¬ (f i ≡ v) = λ i hi e. p (record { at = i; bound = hi; same = e }) in
        let t = rec (λ i hi. without-below v (f i) n (other i hi) (h (suc n) (omega arith)) (h i (omega arith))) in
        record {
          low = t.low;
          high = t.high;
          order = t.order;
          bound = omega arith;
          same = without-same v (f t.low) (f t.high) (other t.low (omega arith)) (other t.high t.bound) t.same;
        }

module _ {P : Type 0} where
  -- how many declarations stand before the first of a name
  index_of : List (Rec (List ℕ) P) → List ℕ → ℕ
  index_of [] name = 0
  index_of (r ∷ rs) name =
      elim (is Kind.Declaration r) [
        | true ↦ elim (same_bytes r.name name) [ true ↦ 0 | false ↦ suc (index_of rs name) ]
        | false ↦ index_of rs name
      ]

  -- a declared name stands at one of the declarations
  index_below : (rs : List (Rec (List ℕ) P)) (name : List ℕ) → is_some (declared rs name) ≡ true
      → index_of rs name < length (select (is Kind.Declaration) rs)
  unfolding declared index_of select
  index_below [] name h = let z : ◌≡◌ {A = ℕ} 0 1 = cc in omega arith
  index_below (r ∷ rs) name h = go (is Kind.Declaration r) (same_bytes r.name name) (index_below rs name) h
    where
      go : (b c : Bool) → (is_some (declared rs name) ≡ true → index_of rs name < length (select (is Kind.Declaration) rs))
          → is_some {A = Declared (List ℕ) P}
          (elim (b && c) [ true ↦ some (record { sub = r.sub; inner = inner_of r.sub rs }) | false ↦ declared rs name ])
          ≡ true
          → elim b [ true ↦ elim c [ true ↦ 0 | false ↦ suc (index_of rs name) ] | false ↦ index_of rs name ]
          < length (only_if b (r ∷ []) ++ select (is Kind.Declaration) rs)
      go true true ih e = omega arith
      go true false ih e = omega (arith, ih e)
      go false c ih e = ih e

  -- names that stand at the same declaration have the same
  index_same : (rs : List (Rec (List ℕ) P)) (a b : List ℕ) → is_some (declared rs a) ≡ true → is_some (declared rs b) ≡ true
      → index_of rs a ≡ index_of rs b → declared rs a ≡ declared rs b
  unfolding declared index_of
  index_same [] a b ha hb e = refl
  index_same (r ∷ rs) a b ha hb e =
      go (is Kind.Declaration r) (same_bytes r.name a) (same_bytes r.name b) (index_same rs a b) ha hb e
    where
      here : Option (Declared (List ℕ) P)
      here = some (record { sub = r.sub; inner = inner_of r.sub rs })

      at : Bool → Bool → List ℕ → Option (Declared (List ℕ) P)
      at d s name = elim (d && s) [ true ↦ here | false ↦ declared rs name ]

      index : Bool → Bool → List ℕ → ℕ
      index d s name = elim d [ true ↦ elim s [ true ↦ 0 | false ↦ suc (index_of rs name) ] | false ↦ index_of rs name ]

      go : (d s t : Bool)
          → (is_some (declared rs a) ≡ true → is_some (declared rs b) ≡ true → index_of rs a ≡ index_of rs b → declared rs a ≡ declared rs b)
          → is_some (at d s a) ≡ true → is_some (at d t b) ≡ true → index d s a ≡ index d t b → at d s a ≡ at d t b
      go true true true ih p q h = refl
      go true true false ih p q h = absurd (omega arith)
      go true false true ih p q h = absurd (omega arith)
      go true false false ih p q h = ih p q (omega arith)
      go false s t ih p q h = ih p q h

-- only a declaration that renames a type has an inner type
module _ {P : Type 0} where
  abbrev OnlyRenaming : Option (Declared (List ℕ) P) → Type 0
  OnlyRenaming none = Unit {0}
  OnlyRenaming (some d) = is_some d.inner ≡ true → Sub.is_renaming d.sub ≡ true

  inner-renaming : (sub : ℕ) (rs : List (Rec (List ℕ) P)) → is_some (inner_of sub rs) ≡ true → Sub.is_renaming sub ≡ true
  inner-renaming sub [] h = cc
  inner-renaming sub (t ∷ rs) h = go (Sub.is_renaming sub) (Kind.is_type t.kind) refl h
    where
      go : (b c : Bool) → Sub.is_renaming sub ≡ b → is_some {A = Rec (List ℕ) P} (elim (b && c) [ true ↦ some t | false ↦ none ]) ≡ true
          → Sub.is_renaming sub ≡ true
      go true c e p = e
      go false c e p = cc

  only-renaming : (rs : List (Rec (List ℕ) P)) (name : List ℕ) → OnlyRenaming (declared rs name)
  unfolding declared
  only-renaming [] name = tt
  only-renaming (r ∷ rs) name = go (is Kind.Declaration r && same_bytes r.name name) (only-renaming rs name)
    where
      go : (b : Bool) → OnlyRenaming (declared rs name)
          → OnlyRenaming (elim b [ true ↦ some (record { sub = r.sub; inner = inner_of r.sub rs }) | false ↦ declared rs name ])
      go true ih = inner-renaming r.sub rs
      go false ih = ih

module _ {N P : Type 0} (ctx : ValidationContext N P) where
  -- the chain goes on after n steps
  abbrev pub goes_on : ℕ → Rec N P → Bool
  goes_on n r = is_some (behind ctx (chain_end ctx n r))

  -- nothing is behind a type: the chain stays there
  pub chain-stays : (m : ℕ) (r : Rec N P) → behind ctx r ≡ none → chain_end ctx m r ≡ r
  unfolding chain_end
  chain-stays zero r e = refl
  chain-stays (suc m) r e = rw (e, chain_end)

  -- a chain that has ended stays where it is
  pub chain-fixed : (n : ℕ) (r : Rec N P) → behind ctx (chain_end ctx n r) ≡ none → (m : ℕ) → n ≤ m
      → chain_end ctx m r ≡ chain_end ctx n r
  unfolding chain_end
  chain-fixed zero r e m h = chain-stays m r e
  chain-fixed (suc n) r e zero h = absurd (omega arith)
  chain-fixed (suc n) r e (suc m) h = go (behind ctx r) (λ t e'. chain-fixed n t e' m (omega arith)) e
    where
      go : (o : Option (Rec N P)) → ((t : Rec N P) → behind ctx (chain_end ctx n t) ≡ none → chain_end ctx m t ≡ chain_end ctx n t)
          → behind ctx (elim o [ none ↦ r | some t ↦ chain_end ctx n t ]) ≡ none
          → ◌≡◌ {A = Rec N P} (elim o [ none ↦ r | some t ↦ chain_end ctx m t ]) (elim o [ none ↦ r | some t ↦ chain_end ctx n t ])
      go none ih e' = refl
      go (some t) ih e' = ih t e'

  -- n steps, then m
  chain-add : (n m : ℕ) (r : Rec N P) → chain_end ctx (n + m) r ≡ chain_end ctx m (chain_end ctx n r)
  unfolding chain_end
  chain-add zero m r = rw zero-add
  chain-add (suc n) m r = rw suc-add (go (behind ctx r) refl (chain-add n m))
    where
      go : (o : Option (Rec N P)) → behind ctx r ≡ o
          → ((t : Rec N P) → chain_end ctx (n + m) t ≡ chain_end ctx m (chain_end ctx n t))
          → (elim o [ none ↦ r | some t ↦ chain_end ctx (n + m) t ]) ≡ chain_end ctx m (elim o [ none ↦ r | some t ↦ chain_end ctx n t ])
      go none e ih = sym (chain-stays m r e)
      go (some t) e ih = ih t

  -- one more step at the end
  chain_next : (n : ℕ) (r t : Rec N P) → behind ctx (chain_end ctx n r) ≡ some t → chain_end ctx (suc n) r ≡ t
  unfolding chain_end
  chain_next n r t e = rw (← add-one) (chain-add n 1 r ∙ rw (e, chain_end))

  -- a chain that goes on has gone on before
  went_on : (n m : ℕ) (r : Rec N P) → goes_on m r ≡ true → n ≤ m → goes_on n r ≡ true
  went_on n m r h le = go (behind ctx (chain_end ctx n r)) refl
    where
      go : (o : Option (Rec N P)) → behind ctx (chain_end ctx n r) ≡ o → is_some o ≡ true
      go none e = rw (chain-fixed n r e m le, e) at h
      go (some t) e = refl

  -- with the same type behind them, two places of a chain have the same next
  same_next : (i j : ℕ) (r : Rec N P) → goes_on i r ≡ true → behind ctx (chain_end ctx i r) ≡ behind ctx (chain_end ctx j r)
      → chain_end ctx (suc i) r ≡ chain_end ctx (suc j) r
  same_next i j r = go (behind ctx (chain_end ctx i r)) refl
    where
      go : (o : Option (Rec N P)) → behind ctx (chain_end ctx i r) ≡ o → is_some o ≡ true → o ≡ behind ctx (chain_end ctx j r)
          → chain_end ctx (suc i) r ≡ chain_end ctx (suc j) r
      go none e h e' = cc
      go (some t) e h e' = chain_next i r t e ∙ sym (chain_next j r t (sym e'))

  -- a chain that comes back to where it was goes on for ever
  forever : (i j : ℕ) (r : Rec N P) → i < j → chain_end ctx (suc i) r ≡ chain_end ctx (suc j) r → goes_on j r ≡ true
      → (b n : ℕ) → n < b → goes_on n r ≡ true
  forever i j r lt e h zero n hn = absurd (omega arith)
  forever i j r lt e h (suc b) n hn = go (dec_le n j) (forever i j r lt e h b)
    where
      go : Dec (n ≤ j) → ((k : ℕ) → k < b → goes_on k r ≡ true) → goes_on n r ≡ true
      go (yes le) ih = went_on n j r h le
      go (no gt) ih =
          let k : ℕ = n - suc j in
          let split : n ≡ suc j + k = omega arith in
          rw (split, chain-add (suc j) k r, ← e, ← chain-add (suc i) k r) (ih (suc i + k) (omega arith))

module _ {N P : Type 0} where
  -- the context with another bound for chains
  abbrev pub bounded : ℕ → ValidationContext N P → ValidationContext N P
  bounded bound ctx =
      record {
        decl_map = ctx.decl_map;
        imported_names = ctx.imported_names;
        has_wildcard_import = ctx.has_wildcard_import;
        declarations = bound;
        same = ctx.same;
        word = ctx.word;
        blank = ctx.blank;
        is_valid_field_name = ctx.is_valid_field_name;
      }

  -- what a bad key is under a bound
  invalid-bounded : (m : ℕ) (ctx : ValidationContext N P) (r : Rec N P) → is_invalid_map_key (bounded m ctx) r ≡ is_invalid_end ctx (chain_end ctx m r)
  unfolding is_invalid_map_key is_invalid_end chain_end behind
  invalid-bounded m ctx r = refl

  -- where a chain ends, its end is the same under any greater bound
  chain-bound : (ctx : ValidationContext N P) (r : Rec N P) → never_ends ctx r ≡ false → (m : ℕ) → ctx.declarations ≤ m
      → chain_end ctx m r ≡ chain_end ctx ctx.declarations r
  chain-bound ctx r h = chain-fixed ctx ctx.declarations r (none-there (behind ctx (chain_end ctx ctx.declarations r)) h)

module _ {P : Type 0} (rs : List (Rec (List ℕ) P)) where
  abbrev ctx : ValidationContext (List ℕ) P
  ctx = context_of rs

  -- a step goes through a declared name
  step-declared : (r : Rec (List ℕ) P) → is_some (behind ctx r) ≡ true
      → (is_some (declared rs r.name) ≡ true) × (behind ctx r ≡ inner_type (declared rs r.name))
  unfolding behind context_of
  step-declared r = go (is Kind.Named r) (declared rs r.name)
    where
      go : (b : Bool) (o : Option (Declared (List ℕ) P))
          → is_some {A = Rec (List ℕ) P} (elim b [ true ↦ inner_type o | false ↦ none ]) ≡ true
          → (is_some o ≡ true)
          × (◌≡◌ {A = Option (Rec (List ℕ) P)} (elim b [ true ↦ inner_type o | false ↦ none ]) (inner_type o))
      go true none h = (h, refl)
      go true (some d) h = (refl, refl)
      go false o h = (cc, cc)

  -- so it stands at one of the declarations
  below : (r : Rec (List ℕ) P) → is_some (behind ctx r) ≡ true → index_of rs r.name < ctx.declarations
  unfolding context_of
  below r h = index_below rs r.name (step-declared r h).0

  -- steps through the same declaration lead to the same type
  same_step : (a b : Rec (List ℕ) P) → is_some (behind ctx a) ≡ true → is_some (behind ctx b) ≡ true
      → index_of rs a.name ≡ index_of rs b.name → behind ctx a ≡ behind ctx b
  same_step a b ha hb e =
      let pa = step-declared a ha in
      let pb = step-declared b hb in
      pa.1 ∙ ap inner_type (index_same rs a.name b.name pa.0 pb.0 e) ∙ sym pb.1

  -- a chain that has not ended after as many steps as there are declarations never ends
  pub never_ends_lem : (r : Rec (List ℕ) P) → never_ends (context_of rs) r ≡ true → (n : ℕ) → goes_on (context_of rs) n r ≡ true
  never_ends_lem r h n =
      let d : ℕ = ctx.declarations in
      let on : (i : ℕ) → i < suc d → goes_on ctx i r ≡ true = λ i hi. went_on ctx i d r h (omega arith) in
      let t = pigeonhole d (λ i. index_of rs (chain_end ctx i r).name) (λ i hi. below (chain_end ctx i r) (on i hi)) in
      let low = on t.low (omega arith) in
      let high = on t.high t.bound in
      forever ctx t.low t.high r t.order (same_next ctx t.low t.high r low (same_step _ _ low high t.same)) high (suc n) n
      (omega arith)

  -- a type from which a chain goes on is no bad key
  on-good : (t : Rec (List ℕ) P) → is_some (behind ctx t) ≡ true → is_invalid_end ctx t ≡ false
  unfolding behind context_of is_invalid_end
  on-good t = go (is Kind.Named t) refl (declared rs t.name) refl (only-renaming rs t.name)
    where
      go : (b : Bool) → is Kind.Named t ≡ b → (o : Option (Declared (List ℕ) P)) → declared rs t.name ≡ o → OnlyRenaming o
          → is_some {A = Rec (List ℕ) P} (elim b [ true ↦ inner_type o | false ↦ none ]) ≡ true
          → is_invalid_end ctx t ≡ false
      go true e none e' n h = cc
      go true e (some d) e' n h = rw (eqb-true t.kind Kind.Named e, e', declared_as, eqb-true d.sub Sub.Newtype (n h))
      go false e o e' n h = cc

  -- whether a key is bad does not depend on the bound
  pub key-bound : (r : Rec (List ℕ) P) (m : ℕ) → (context_of rs).declarations ≤ m
      → is_invalid_map_key (bounded m (context_of rs)) r ≡ is_invalid_map_key (context_of rs) r
  key-bound r m le = invalid-bounded m ctx r ∙ go (never_ends ctx r) refl ∙ sym (invalid-bounded d ctx r)
    where
      d : ℕ
      d = ctx.declarations

      good : never_ends ctx r ≡ true → (n : ℕ) → is_invalid_end ctx (chain_end ctx n r) ≡ false
      good e n = on-good (chain_end ctx n r) (never_ends_lem r e n)

      go : (b : Bool) → never_ends ctx r ≡ b → is_invalid_end ctx (chain_end ctx m r) ≡ is_invalid_end ctx (chain_end ctx d r)
      go true e = good e m ∙ sym (good e d)
      go false e = ap (is_invalid_end ctx) (chain-bound ctx r e m le)

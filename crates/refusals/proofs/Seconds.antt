-- Row 8 by the table: where the declarations before a record fit, its name was declared among them just if the first declaration of its name
-- is not itself.
use Prim.Native.Nat.{ℕ, zero, suc}
use native.Mathlib.Omega.{arith}
use native.Mathlib.Numerals.{add-one}
use mathlib.Core.Path.{◌≡◌, refl, sym, ap, ◌∙◌}
use mathlib.Core.Bool.{Bool, true, false, not, ◌&&◌, ◌||◌, or-false, or_comm}
use mathlib.Core.List.{List, [], ◌∷◌, ◌++◌, append_assoc}
use mathlib.Core.Option.{Option, some, none}
use lib.ListN.{length, length-append}
use lib.Dec.{eqb}
use borrow.Author.Tests.{ne_eqb, eq-eqb, eqb-true, eqb-false}
use Rattle.std.proofs.lemmas.Bool.{or_parts}
use Rattle.rules.specs.Words.{any_of, only_if, same_bytes}
use Rattle.rules.specs.Kind
use Rattle.rules.specs.Record.{Rec, is}
use Rattle.rules.specs.Grammar as Grammar
use Rattle.rules.specs.Refusals.{Fault, own_fault, record_step, first_fault}
use Rattle.rules.proofs.Lists.{any_of-append}
use Rattle.rules.proofs.AcceptedSheet.{own-fits, step_fits}
use Rattle.names.specs.NameTable.{place_of, is_keyed, same_name, declaration_in}
use Rattle.names.proofs.FirstPlaces.{one_on}
use Rattle.names.proofs.Lookups.{same-itself}
use Rattle.refusals.specs.Pass.{or_second, record_step_by, first_fault_by}

eqb-suc : (a b : ℕ) → eqb (suc a) (suc b) ≡ eqb a b
eqb-suc a b = go (eqb a b) refl
  where
    go : (c : Bool) → eqb a b ≡ c → eqb (suc a) (suc b) ≡ c
    go true e = eq-eqb (suc a) (suc b) (ap suc (eqb-true a b e))
    go false e = ne_eqb (suc a) (suc b) (λ q. eqb-false a b e (omega arith))

-- the place of an element that passes is its own just if none before it passes
module _ {A : Type 0} (p : A → Bool) where
  later-test : (n m : ℕ) → eqb (one_on n) (suc (suc m)) ≡ eqb n (suc m)
  later-test zero m = ne_eqb 0 (suc (suc m)) (omega arith) ∙ sym (ne_eqb 0 (suc m) (omega arith))
  later-test (suc n) m = eqb-suc (suc n) (suc m)

  place-own : (pre post : List A) (r : A) → p r ≡ true → eqb (place_of p (pre ++ r ∷ post)) (suc (length pre)) ≡ not (any_of p pre)
  unfolding place_of any_of
  place-own [] post r h = rw h
  place-own (x ∷ pre) post r h = go (p x) refl (place-own pre post r h)
    where
      go : (b : Bool) → p x ≡ b → eqb (place_of p (pre ++ r ∷ post)) (suc (length pre)) ≡ not (any_of p pre)
          → eqb (place_of p (x ∷ pre ++ r ∷ post)) (suc (suc (length pre))) ≡ not (p x || any_of p pre)
      go true e ih = rw (e, place_of) (ne_eqb 1 (suc (suc (length pre))) (omega arith))
      go false e ih = rw (e, place_of) (later-test (place_of p (pre ++ r ∷ post)) (length pre) ∙ ih)

eqb-sym : (a b : ℕ) → eqb a b ≡ eqb b a
eqb-sym a b = go (eqb b a) refl
  where
    go : (c : Bool) → eqb b a ≡ c → eqb a b ≡ c
    go true e = eq-eqb a b (sym (eqb-true b a e))
    go false e = ne_eqb a b (λ q. eqb-false b a e (sym q))

same-sym : (a b : List ℕ) → same_bytes a b ≡ same_bytes b a
unfolding same_bytes
same-sym [] [] = refl
same-sym [] (y ∷ b) = refl
same-sym (x ∷ a) [] = refl
same-sym (x ∷ a) (y ∷ b) = rw (eqb-sym x y, same-sym a b)

-- a step behind rows 3 to 5
abbrev by_own : Bool → Grammar.Step Grammar.State → Option ℕ → Grammar.Step Grammar.State
by_own b x o = elim o [ some n ↦ Grammar.fault n | none ↦ or_second b x ]

abbrev by_names : Bool → Grammar.Step Grammar.State → Option ℕ → Grammar.Step Grammar.State
by_names b x o =
    elim o [
      | some n ↦ Grammar.fault n
      | none ↦ elim x [ Grammar.fault n ↦ Grammar.fault n | Grammar.to t ↦ elim b [ true ↦ Grammar.fault 8 | false ↦ Grammar.to t ] ]
    ]

by-same : (b : Bool) (x : Grammar.Step Grammar.State) (o : Option ℕ) → by_names b x o ≡ by_own b x o
by-same b x (some n) = refl
by-same b (Grammar.fault n) none = refl
by-same b (Grammar.to t) none = refl

module _ {P : Type 0} where
  abbrev declares : Rec (List ℕ) P → Bool
  declares r = is Kind.Declaration r

  -- the names that were declared, among the records before
  abbrev Names : List (List ℕ) → List (Rec (List ℕ) P) → Type 0
  Names ns pre = (q : List ℕ → Bool) → any_of q ns ≡ any_of (λ x. declares x && q x.name) pre

  -- the declarations before fit
  abbrev Fitting : List (Rec (List ℕ) P) → Type 0
  Fitting pre = any_of (λ x. declares x && not x.fits) pre ≡ false

  declares-named : (r : Rec (List ℕ) P) → declares r ≡ true → r.fits ≡ true → is_keyed r ≡ true
  unfolding any_of
  declares-named r d f = rw (eqb-true r.kind 1 d, f)

  same-named : (r x : Rec (List ℕ) P) → is_keyed r ≡ true → is_keyed x ≡ true → same_name r x ≡ same_bytes r.name x.name
  unfolding same_name
  same-named r x n m =
      ap (λ (b : Bool). b && is_keyed x && same_bytes x.name r.name) n ∙ ap (λ (b : Bool). true && b && same_bytes x.name r.name) m
      ∙ same-sym x.name r.name

  -- among fitting declarations the names decide
  among : (r : Rec (List ℕ) P) → is_keyed r ≡ true → (pre : List (Rec (List ℕ) P)) → Fitting pre
      → any_of (λ q. declares q && same_name r q) pre ≡ any_of (λ q. declares q && same_bytes r.name q.name) pre
  unfolding any_of
  among r n [] f = refl
  among r n (x ∷ pre) f =
      go (declares x) refl x.fits refl (or_parts (declares x && not x.fits) _ f).0
      (among r n pre (or_parts (declares x && not x.fits) _ f).1)
    where
      go : (d : Bool) → declares x ≡ d → (e : Bool) → x.fits ≡ e → (declares x && not x.fits) ≡ false
          → any_of (λ q. declares q && same_name r q) pre ≡ any_of (λ q. declares q && same_bytes r.name q.name) pre
          → (declares x && same_name r x || any_of (λ q. declares q && same_name r q) pre)
          ≡ (declares x && same_bytes r.name x.name || any_of (λ q. declares q && same_bytes r.name q.name) pre)
      go false hd e he h ih = rw hd ih
      go true hd false he h ih = let z : ◌≡◌ {A = Bool} true false = sym (rw (hd, he)) ∙ h in cc
      go true hd true he h ih = rw (hd, same-named r x n (declares-named x hd he), ih)

  -- a declaration that fits is the first of its name just if none before it is
  second-own : (ns : List (List ℕ)) (pre post : List (Rec (List ℕ) P)) (r : Rec (List ℕ) P) → declares r ≡ true → r.fits ≡ true → Fitting pre → Names ns pre
      → not (eqb (declaration_in (pre ++ r ∷ post) r) (suc (length pre))) ≡ any_of (same_bytes r.name) ns
  unfolding declaration_in
  second-own ns pre post r d f fit known =
      let n = declares-named r d f in
      let own : (declares r && same_name r r) ≡ true = rw (d, same-named r r n n, same-itself r.name) in
      ap not (place-own (λ q. declares q && same_name r q) pre post r own)
      ∙ double (any_of (λ q. declares q && same_name r q) pre)
      ∙ among r n pre fit
      ∙ sym (known (same_bytes r.name))
    where
      double : (b : Bool) → not (not b) ≡ b
      double true = refl
      double false = refl

  -- the steps are the same
  by-table : (s : Grammar.State) (r : Rec (List ℕ) P) (sec : Bool) → record_step_by sec s r ≡ by_own (declares r && sec) (Grammar.step s r) (own_fault r)
  unfolding record_step_by
  by-table s r sec = refl

  by_names_lem : (s : Grammar.State) (r : Rec (List ℕ) P) (ns : List (List ℕ))
      → record_step same_bytes s ns r ≡ by_own (declares r && any_of (same_bytes r.name) ns) (Grammar.step s r) (own_fault r)
  unfolding record_step
  by_names_lem s r ns = by-same (declares r && any_of (same_bytes r.name) ns) (Grammar.step s r) (own_fault r)

  same_step : (ns : List (List ℕ)) (s : Grammar.State) (r : Rec (List ℕ) P) (sec : Bool)
      → (own_fault r ≡ none → declares r ≡ true → sec ≡ any_of (same_bytes r.name) ns)
      → record_step_by sec s r ≡ record_step same_bytes s ns r
  same_step ns s r sec h = by-table s r sec ∙ own (own_fault r) refl ∙ sym (by_names_lem s r ns)
    where
      any : Bool
      any = any_of (same_bytes r.name) ns

      both : (d : Bool) → declares r ≡ d → own_fault r ≡ none → (d && sec) ≡ (d && any)
      both true e o = h o e
      both false e o = refl

      own : (o : Option ℕ) → own_fault r ≡ o → by_own (declares r && sec) (Grammar.step s r) (own_fault r) ≡ by_own (declares r && any) (Grammar.step s r) (own_fault r)
      own (some n) e = ap (by_own (declares r && sec) (Grammar.step s r)) e ∙ sym (ap (by_own (declares r && any) (Grammar.step s r)) e)
      own none e = ap (λ (b : Bool). by_own b (Grammar.step s r) (own_fault r)) (both (declares r) refl e)

  -- what holds of the records before holds with one more of them
  names_more : (ns : List (List ℕ)) (pre : List (Rec (List ℕ) P)) (r : Rec (List ℕ) P) → Names ns pre
      → Names (only_if (declares r) (r.name ∷ []) ++ ns) (pre ++ r ∷ [])
  unfolding any_of
  names_more ns pre r known q =
      one (declares r) ∙ or_comm (declares r && q r.name) (any_of q ns) ∙ rw (known q)
      (ap (λ (b : Bool). any_of (λ x. declares x && q x.name) pre || b) (sym (or-false (declares r && q r.name)))
      ∙ sym (any_of-append (λ x. declares x && q x.name) pre (r ∷ [])))
    where
      one : (d : Bool) → any_of q (only_if d (r.name ∷ []) ++ ns) ≡ (d && q r.name || any_of q ns)
      one true = refl
      one false = refl

  fitting-more : (pre : List (Rec (List ℕ) P)) (r : Rec (List ℕ) P) → Fitting pre → r.fits ≡ true → Fitting (pre ++ r ∷ [])
  unfolding any_of
  fitting-more pre r f h =
      any_of-append (λ x. declares x && not x.fits) pre (r ∷ []) ∙ rw (f, h) (last (declares r))
    where
      last : (d : Bool) → (false || (d && false || false)) ≡ false
      last true = refl
      last false = refl

  -- the first fault by lookups is the first fault by names
  module _ (all : List (Rec (List ℕ) P)) (second : ℕ → Bool)
      (asked : (pre post : List (Rec (List ℕ) P)) (r : Rec (List ℕ) P) → all ≡ pre ++ r ∷ post → second (length pre) ≡ not (eqb (declaration_in all r) (suc (length pre)))) where
    abbrev turn_by : ℕ → List (Rec (List ℕ) P) → Grammar.Step Grammar.State → Option Fault
    turn_by i rs x = elim x [ Grammar.fault n ↦ some (record { number = n; index = i }) | Grammar.to t ↦ first_fault_by second t (suc i) rs ]

    pub faults-same : (rs pre : List (Rec (List ℕ) P)) (ns : List (List ℕ)) (s : Grammar.State) → all ≡ pre ++ rs → Names ns pre → Fitting pre
        → first_fault_by second s (length pre) rs ≡ first_fault same_bytes s ns (length pre) rs
    unfolding first_fault_by first_fault
    faults-same [] pre ns s e known fit = refl
    faults-same (r ∷ rs) pre ns s e known fit = go (record_step same_bytes s ns r) refl (λ t. faults-same rs (pre ++ r ∷ []) (only_if (declares r) (r.name ∷ []) ++ ns) t)
      where
        same : record_step_by (second (length pre)) s r ≡ record_step same_bytes s ns r
        same = same_step ns s r (second (length pre)) (λ o d. asked pre rs r e ∙ rw e (second-own ns pre rs r d (own-fits r o) fit known))

        i : ℕ
        i = length pre

        later-names : List (List ℕ)
        later-names = only_if (declares r) (r.name ∷ []) ++ ns

        turn_names : Grammar.Step Grammar.State → Option Fault
        turn_names x = elim x [ Grammar.fault n ↦ some (record { number = n; index = i }) | Grammar.to t ↦ first_fault same_bytes t later-names (suc i) rs ]

        one_more : length (pre ++ r ∷ []) ≡ suc i
        one_more = length-append pre (r ∷ []) ∙ add-one (length pre)

        go : (x : Grammar.Step Grammar.State) → record_step same_bytes s ns r ≡ x
            → ((t : Grammar.State) → all ≡ (pre ++ r ∷ []) ++ rs → Names later-names (pre ++ r ∷ []) → Fitting (pre ++ r ∷ [])
            → first_fault_by second t (length (pre ++ r ∷ [])) rs ≡ first_fault same_bytes t later-names (length (pre ++ r ∷ [])) rs)
            → first_fault_by second s (length pre) (r ∷ rs) ≡ first_fault same_bytes s ns (length pre) (r ∷ rs)
        go (Grammar.fault n) ex ih = ap (turn_by i rs) (same ∙ ex) ∙ sym (ap turn_names ex)
        go (Grammar.to t) ex ih =
            let fits = step_fits same_bytes s ns r ex in
            let rest = ih t (e ∙ sym (append_assoc pre (r ∷ []) rs)) (names_more ns pre r known) (fitting-more pre r fit fits) in
            ap (turn_by i rs) (same ∙ ex) ∙ rw one_more at rest ∙ sym (ap turn_names ex)

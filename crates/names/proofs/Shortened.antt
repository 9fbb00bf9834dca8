-- A type may lead at once to the end of its chain: chains end where they ended, and those that never ended go on for ever.
use Prim.Native.Nat.{ℕ, zero, suc, ◌≤◌}
use native.Mathlib.Decide.{dec_le}
use native.Mathlib.Omega.{arith}
use mathlib.Core.Path.{◌≡◌, refl, sym, ap, ◌∙◌}
use mathlib.Core.Bool.{Bool, true, false, true≢false}
use mathlib.Core.Option.{Option, some, none}
use Rattle.rules.specs.Record.{Rec}
use Rattle.rules.specs.Context.{ValidationContext, behind, chain_end, never_ends}
use Rattle.rules.proofs.Chains.{is_some, none-there, chain-stays, chain-fixed}
use Rattle.names.specs.SameEnds.{leads_on, SameEnds, Lasting}

module _ {N P : Type 0} (ctx : ValidationContext N P) where
  -- a step of a chain
  pub chain-step : (n : ℕ) (r q : Rec N P) → behind ctx r ≡ some q → chain_end ctx (suc n) r ≡ chain_end ctx n q
  unfolding chain_end
  chain-step n r q e = rw (e, chain_end)

  -- a chain has one end
  one_end : (k d : ℕ) (r : Rec N P) → behind ctx (chain_end ctx k r) ≡ none → behind ctx (chain_end ctx d r) ≡ none
      → chain_end ctx d r ≡ chain_end ctx k r
  one_end k d r e f = go (dec_le k d)
    where
      go : Dec (k ≤ d) → chain_end ctx d r ≡ chain_end ctx k r
      go (yes l) = chain-fixed ctx k r e d l
      go (no l) = sym (chain-fixed ctx d r f k (omega arith))

  -- what a type may lead to: the next type of its chain, or the last
  pub data Next (r : Rec N P) (o : Option (Rec N P)) : Type 0 where
    kept : o ≡ behind ctx r → Next r o
    last :
        leads_on ctx r ≡ true → behind ctx (chain_end ctx ctx.declarations r) ≡ none
        → o ≡ some (chain_end ctx ctx.declarations r) → Next r o

module _ {N P : Type 0} (ctx ctx' : ValidationContext N P) (lasts : Lasting ctx) (count : ctx.declarations ≡ ctx'.declarations)
    (next : (r : Rec N P) → Next ctx r (behind ctx' r)) where
  -- a chain that ends
  ended-ends : (n k : ℕ) (r : Rec N P) → behind ctx (chain_end ctx k r) ≡ none → k ≤ n → chain_end ctx' n r ≡ chain_end ctx k r
  unfolding chain_end
  ended-ends zero zero r e l = refl
  ended-ends zero (suc k) r e l = absurd (omega arith)
  ended-ends (suc n) k r e l = go (ended-ends n) (behind ctx r) refl (next r) k e l
    where
      go : ((k : ℕ) (q : Rec N P) → behind ctx (chain_end ctx k q) ≡ none → k ≤ n → chain_end ctx' n q ≡ chain_end ctx k q)
          → (o : Option (Rec N P)) → behind ctx r ≡ o → Next ctx r (behind ctx' r)
          → (k : ℕ) → behind ctx (chain_end ctx k r) ≡ none → k ≤ suc n → chain_end ctx' (suc n) r ≡ chain_end ctx k r
      go ih none a (kept b) k e l = chain-stays ctx' (suc n) r (b ∙ a) ∙ sym (chain-stays ctx k r a)
      go ih none a (last b c d) k e l = absurd (true≢false (sym b ∙ ap is_some a))
      go ih (some q) a x zero e l = absurd (true≢false (sym (ap is_some a) ∙ ap is_some e))
      go ih (some q) a (kept b) (suc k) e l =
          let same = chain-step ctx k r q a in
          chain-step ctx' n r q (b ∙ a) ∙ ih k q (rw same at e) (omega arith) ∙ sym same
      go ih (some q) a (last b c d) (suc k) e l =
          chain-step ctx' n r _ d ∙ ih 0 _ c (omega arith) ∙ one_end ctx (suc k) ctx.declarations r e c

  -- a chain that never ends
  endless-same : (n : ℕ) (r : Rec N P) → ((m : ℕ) → leads_on ctx (chain_end ctx m r) ≡ true) → chain_end ctx' n r ≡ chain_end ctx n r
  unfolding chain_end
  endless-same zero r all = refl
  endless-same (suc n) r all = go (endless-same n) (behind ctx r) refl (next r)
    where
      go : ((q : Rec N P) → ((m : ℕ) → leads_on ctx (chain_end ctx m q) ≡ true) → chain_end ctx' n q ≡ chain_end ctx n q)
          → (o : Option (Rec N P)) → behind ctx r ≡ o → Next ctx r (behind ctx' r) → chain_end ctx' (suc n) r ≡ chain_end ctx (suc n) r
      go ih none a x = absurd (true≢false (sym (all 0) ∙ ap is_some a))
      go ih (some q) a (kept b) =
          chain-step ctx' n r q (b ∙ a) ∙ ih q (λ m. rw (chain-step ctx m r q a) at (all (suc m))) ∙ sym (chain-step ctx n r q a)
      go ih (some q) a (last b c d) = absurd (true≢false (sym (all ctx.declarations) ∙ ap is_some c))

  pub short-ends : (r : Rec N P) → chain_end ctx ctx.declarations r ≡ chain_end ctx' ctx'.declarations r
  short-ends r = sym (ap (λ n. chain_end ctx' n r) (sym count) ∙ go (never_ends ctx r) refl)
    where
      go : (b : Bool) → never_ends ctx r ≡ b → chain_end ctx' ctx.declarations r ≡ chain_end ctx ctx.declarations r
      go true e = endless-same ctx.declarations r (lasts r e)
      go false e = ended-ends ctx.declarations ctx.declarations r (none-there _ e) (omega arith)

  pub short-leads : (r : Rec N P) → leads_on ctx r ≡ leads_on ctx' r
  short-leads r = go (next r)
    where
      go : Next ctx r (behind ctx' r) → leads_on ctx r ≡ leads_on ctx' r
      go (kept b) = sym (ap is_some b)
      go (last b c d) = b ∙ sym (ap is_some d)

  pub short-lasting : Lasting ctx'
  short-lasting r e n =
      let all = lasts r (ap (leads_on ctx) (short-ends r) ∙ short-leads _ ∙ e) in
      sym (short-leads (chain_end ctx' n r)) ∙ ap (leads_on ctx) (endless-same n r all) ∙ all n

module _ {N P : Type 0} where
  -- a context has the ends of its own chains,
  pub same-itself : (ctx : ValidationContext N P) → SameEnds ctx ctx
  same-itself ctx =
      record {
        declared = λ n. refl;
        leads = λ r. refl;
        ends = λ r. refl;
        imported_names = refl;
        has_wildcard_import = refl;
        declarations = refl;
        same = refl;
        word = refl;
        blank = refl;
        is_valid_field_name = refl;
      }

  -- and what has the ends of another's has those of a third's
  pub same-through : (a b c : ValidationContext N P) → SameEnds a b → SameEnds b c → SameEnds a c
  same-through a b c x y =
      record {
        declared = λ n. x.declared n ∙ y.declared n;
        leads = λ r. x.leads r ∙ y.leads r;
        ends = λ r. x.ends r ∙ y.ends r;
        imported_names = x.imported_names ∙ y.imported_names;
        has_wildcard_import = x.has_wildcard_import ∙ y.has_wildcard_import;
        declarations = x.declarations ∙ y.declarations;
        same = x.same ∙ y.same;
        word = x.word ∙ y.word;
        blank = x.blank ∙ y.blank;
        is_valid_field_name = x.is_valid_field_name ∙ y.is_valid_field_name;
      }

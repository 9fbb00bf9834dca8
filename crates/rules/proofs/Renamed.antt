-- Records under other names, and contexts that say the same of them. Each step of a chain leads to the same type but for its name, so the
-- chain ends in the same type, or never ends. For the rules it is enough that chains end in the same types, in however many steps.
use Prim.Native.Nat.{ℕ, zero, suc}
use mathlib.Core.Path.{◌≡◌, refl, ap, ◌∙◌}
use mathlib.Core.Bool.{Bool, true, false, ◌&&◌}
use mathlib.Core.List.{List, map}
use mathlib.Core.Option.{Option, some, none}
use lib.Dec.{eqb}
use borrow.Author.Tests.{eqb-true}
use Rattle.rules.specs.Words.{any_of, member}
use Rattle.rules.specs.Kind
use Rattle.rules.specs.Record.{Rec, is, is_renaming}
use Rattle.rules.specs.Asked.{is_compared, is_worded, is_spelled}
use Rattle.rules.specs.Context.{ValidationContext, Declared, declared_as, behind, chain_end, never_ends}
use Rattle.rules.specs.Refusals.{Fault, leads_nowhere, endless_chain}
use Rattle.rules.proofs.Chains.{is_some, goes_on}
use Rattle.rules.proofs.Every.{Every, every-nil, every-cons, every-as}
use Rattle.rules.proofs.Mapped.{any_same}
use Rattle.rules.proofs.Unused.{if-same}

-- the record under another name
abbrev pub renamed : {M N P : Type 0} → (M → N) → Rec M P → Rec N P
renamed g r =
    record {
      kind = r.kind;
      sub = r.sub;
      clean = r.clean;
      fits = r.fits;
      name = g r.name;
      place = r.place;
      ordinal_place = r.ordinal_place;
      value = r.value;
    }

module _ {A : Type 0} where
  abbrev pub map_option : {B : Type 0} → (A → B) → Option A → Option B
  map_option f none = none
  map_option f (some x) = some (f x)

  -- the property holds of what is there
  abbrev pub Holds : (A → Type 0) → Option A → Type 0
  Holds Q none = Unit {0}
  Holds Q (some x) = Q x

-- the declaration with its inner record renamed
abbrev pub renamed_declared : {M N P : Type 0} → (M → N) → Declared M P → Declared N P
renamed_declared g d = record { sub = d.sub; inner = map_option (renamed g) d.inner }

-- the record has a name, and its kind passes the test
abbrev pub has_name_of : {M P : Type 0} → (ℕ → Bool) → Rec M P → Bool
has_name_of test r = Kind.has_name r.kind r.sub && test r.kind

-- a name that is asked for in some way is one of those that may be asked so
pub record WellNamed {M P : Type 0} (Good Worded Spelled : M → Type 0) (r : Rec M P) : Type 0 where
  pub good : has_name_of is_compared r ≡ true → Good r.name
  pub worded : has_name_of is_worded r ≡ true → Worded r.name
  pub spelled : has_name_of is_spelled r ≡ true → Spelled r.name

-- the contexts say the same of the names that may be asked for, and good names are declared with well named records
pub record Agree {M N P : Type 0} (g : M → N) (Good Worded Spelled : M → Type 0) (ctx : ValidationContext N P) (ctx' : ValidationContext M P)
    : Type 0 where
  pub decl_map : (m : M) → Good m → ctx.decl_map (g m) ≡ map_option (renamed_declared g) (ctx'.decl_map m)
  pub inner : (m : M) → Good m → Holds (λ d. Holds (WellNamed Good Worded Spelled) d.inner) (ctx'.decl_map m)
  pub imported_names : (m : M) → Good m → ctx.imported_names (g m) ≡ ctx'.imported_names m
  pub has_wildcard_import : ctx.has_wildcard_import ≡ ctx'.has_wildcard_import
  pub declarations : ctx.declarations ≡ ctx'.declarations
  pub same : (m k : M) → Good m → Good k → ctx.same (g m) (g k) ≡ ctx'.same m k
  pub word : (m : M) → Worded m → ctx.word (g m) ≡ ctx'.word m
  pub blank : (m : M) → Worded m → ctx.blank (g m) ≡ ctx'.blank m
  pub is_valid_field_name : (m : M) → Spelled m → ctx.is_valid_field_name (g m) ≡ ctx'.is_valid_field_name m

-- the contexts say the same of the names that may be asked for, and chains end in the same types
pub record Alike {M N P : Type 0} (g : M → N) (Good Worded Spelled : M → Type 0) (ctx : ValidationContext N P) (ctx' : ValidationContext M P)
    : Type 0 where
  pub declared :
      (ask : ℕ → Bool) (m : M) → Good m →
      ◌≡◌ {A = Bool} (elim (ctx.decl_map (g m)) [ none ↦ false | some d ↦ ask d.sub ])
      (elim (ctx'.decl_map m) [ none ↦ false | some d ↦ ask d.sub ])
  pub end :
      (r : Rec M P) → WellNamed Good Worded Spelled r →
      (chain_end ctx ctx.declarations (renamed g r) ≡ renamed g (chain_end ctx' ctx'.declarations r))
      × WellNamed Good Worded Spelled (chain_end ctx' ctx'.declarations r)
  pub imported_names : (m : M) → Good m → ctx.imported_names (g m) ≡ ctx'.imported_names m
  pub has_wildcard_import : ctx.has_wildcard_import ≡ ctx'.has_wildcard_import
  pub same : (m k : M) → Good m → Good k → ctx.same (g m) (g k) ≡ ctx'.same m k
  pub word : (m : M) → Worded m → ctx.word (g m) ≡ ctx'.word m
  pub blank : (m : M) → Worded m → ctx.blank (g m) ≡ ctx'.blank m
  pub is_valid_field_name : (m : M) → Spelled m → ctx.is_valid_field_name (g m) ≡ ctx'.is_valid_field_name m

-- a record of a kind with a name has one, and passes the test that its kind passes
pub named :
    {N P : Type 0} (test : ℕ → Bool) (k : ℕ) → member k Kind.with_name ≡ true → test k ≡ true →
    (r : Rec N P) → is k r ≡ true → has_name_of test r ≡ true
named test k h t r e = rw (eqb-true r.kind k e, h, t)

module _ {M N P : Type 0} {g : M → N} {Good Worded Spelled : M → Type 0} {ctx : ValidationContext N P} {ctx' : ValidationContext M P}
    (alike : Alike g Good Worded Spelled ctx ctx') where
  -- the name is declared with that sub
  pub as-renamed : (sub : ℕ) (m : M) → Good m → declared_as ctx sub (g m) ≡ declared_as ctx' sub m
  as-renamed sub = alike.declared (λ s. eqb s sub)

  -- what a rule asks of a type of that name
  pub named-renamed :
      (r : Rec M P) → WellNamed Good Worded Spelled r → (ask : N → Bool) (ask' : M → Bool) → ((m : M) → Good m → ask (g m) ≡ ask' m) →
      (is Kind.Named r && ask (g r.name)) ≡ (is Kind.Named r && ask' r.name)
  unfolding any_of
  named-renamed r w ask ask' e =
      if-same ◌&&◌ (is Kind.Named r) (ask (g r.name)) (ask' r.name) refl (λ h. e r.name (w.good (named is_compared Kind.Named refl refl r h)))

  -- the names met so far
  pub met-renamed :
      (m : M) → Good m → {names : List M} → Every Good names → any_of (ctx.same (g m)) (map g names) ≡ any_of (ctx'.same m) names
  met-renamed m h hs = any_same g (ctx.same (g m)) (ctx'.same m) (every-as (λ k h'. alike.same m k h h') hs)

module _ {M N P : Type 0} {g : M → N} {Good Worded Spelled : M → Type 0} {ctx : ValidationContext N P} {ctx' : ValidationContext M P}
    (agree : Agree g Good Worded Spelled ctx ctx') where
  abbrev Well : Rec M P → Type 0
  Well = WellNamed Good Worded Spelled

  -- chains
  behind-renamed :
      (r : Rec M P) → Well r → (behind ctx (renamed g r) ≡ map_option (renamed g) (behind ctx' r)) × Holds Well (behind ctx' r)
  unfolding behind any_of
  behind-renamed r w = go (is Kind.Named r) refl
    where
      inner :
          (o : Option (Declared M P)) →
          Holds (λ d. Holds Well d.inner) o →
          (◌≡◌ {A = Option (Rec N P)} (elim (map_option (renamed_declared g) o) [ none ↦ none | some d ↦ d.inner ])
          (map_option (renamed g) (elim o [ none ↦ none | some d ↦ d.inner ])))
          × Holds Well (elim o [ none ↦ none | some d ↦ d.inner ])
      inner none h = (refl, tt)
      inner (some d) h = (refl, h)

      go :
          (b : Bool) → is Kind.Named r ≡ b → (behind ctx (renamed g r) ≡ map_option (renamed g) (behind ctx' r)) × Holds Well (behind ctx' r)
      go true e =
          let good = w.good (named is_compared Kind.Named refl refl r e) in
          rw (e, behind, agree.decl_map r.name good) (inner (ctx'.decl_map r.name) (agree.inner r.name good))
      go false e = rw (e, behind) (refl, tt)

  chain-renamed :
      (n : ℕ) (r : Rec M P) → WellNamed Good Worded Spelled r →
      (chain_end ctx n (renamed g r) ≡ renamed g (chain_end ctx' n r)) × WellNamed Good Worded Spelled (chain_end ctx' n r)
  unfolding chain_end
  chain-renamed zero r w = (refl, w)
  chain-renamed (suc n) r w = rw ((behind-renamed r w).0, chain_end) (go (behind ctx' r) (behind-renamed r w).1 (chain-renamed n))
    where
      go :
          (o : Option (Rec M P)) →
          Holds Well o →
          ((t : Rec M P) → Well t → (chain_end ctx n (renamed g t) ≡ renamed g (chain_end ctx' n t)) × Well (chain_end ctx' n t)) →
          (◌≡◌ {A = Rec N P} (elim (map_option (renamed g) o) [ none ↦ renamed g r | some t ↦ chain_end ctx n t ])
          (renamed g (elim o [ none ↦ r | some t ↦ chain_end ctx' n t ])))
          × Well (elim o [ none ↦ r | some t ↦ chain_end ctx' n t ])
      go none h ih = (refl, w)
      go (some t) h ih = ih t h

  -- the type at the end of the chain
  end-renamed :
      (r : Rec M P) → WellNamed Good Worded Spelled r →
      (chain_end ctx ctx.declarations (renamed g r) ≡ renamed g (chain_end ctx' ctx'.declarations r))
      × WellNamed Good Worded Spelled (chain_end ctx' ctx'.declarations r)
  end-renamed r w =
      let chain = chain-renamed ctx'.declarations r w in
      (ap (λ n. chain_end ctx n (renamed g r)) agree.declarations ∙ chain.0, chain.1)

  -- whether a chain goes on after n steps
  pub goes-renamed : (n : ℕ) (r : Rec M P) → WellNamed Good Worded Spelled r → goes_on ctx n (renamed g r) ≡ goes_on ctx' n r
  goes-renamed n r w =
      let end = chain-renamed n r w in
      let t : Rec M P = chain_end ctx' n r in
      ap (λ (q : Rec N P). is_some (behind ctx q)) end.0 ∙ ap is_some (behind-renamed t end.1).0 ∙ there (behind ctx' t)
    where
      there : (o : Option (Rec M P)) → is_some (map_option (renamed g) o) ≡ is_some o
      there none = refl
      there (some t) = refl

  pub never-renamed : (r : Rec M P) → WellNamed Good Worded Spelled r → never_ends ctx (renamed g r) ≡ never_ends ctx' r
  never-renamed r w = ap (λ n. goes_on ctx n (renamed g r)) agree.declarations ∙ goes-renamed ctx'.declarations r w

  leads-renamed : {rs : List (Rec M P)} → Every Well rs → leads_nowhere ctx (map (renamed g) rs) ≡ leads_nowhere ctx' rs
  leads-renamed every-nil = refl
  leads-renamed (every-cons {x} w h) = never-renamed x w

  -- row 9
  pub endless-renamed :
      (i : ℕ) {rs : List (Rec M P)} → Every (WellNamed Good Worded Spelled) rs → endless_chain ctx i (map (renamed g) rs) ≡ endless_chain ctx' i rs
  unfolding endless_chain
  endless-renamed i every-nil = refl
  endless-renamed i (every-cons {x} w h) =
      λ t. elim (is_renaming x && leads-renamed h t) as (λ b. Option Fault) [
        | true ↦ some (record { number = 9; index = i })
        | false ↦ endless-renamed (suc i) h t
      ]

  -- contexts that say the same are alike
  pub agree-alike : Alike g Good Worded Spelled ctx ctx'
  agree-alike =
      record {
        declared = asked;
        end = end-renamed;
        imported_names = agree.imported_names;
        has_wildcard_import = agree.has_wildcard_import;
        same = agree.same;
        word = agree.word;
        blank = agree.blank;
        is_valid_field_name = agree.is_valid_field_name;
      }
    where
      asked :
          (ask : ℕ → Bool) (m : M) → Good m →
          ◌≡◌ {A = Bool} (elim (ctx.decl_map (g m)) [ none ↦ false | some d ↦ ask d.sub ])
          (elim (ctx'.decl_map m) [ none ↦ false | some d ↦ ask d.sub ])
      asked ask m h =
          ap (λ (o : Option (Declared N P)). elim o as (λ x. Bool) [ none ↦ false | some d ↦ ask d.sub ]) (agree.decl_map m h)
          ∙ go (ctx'.decl_map m)
        where
          go :
              (o : Option (Declared M P)) →
              ◌≡◌ {A = Bool} (elim (map_option (renamed_declared g) o) [ none ↦ false | some d ↦ ask d.sub ])
              (elim o [ none ↦ false | some d ↦ ask d.sub ])
          go none = refl
          go (some d) = refl

-- Contexts that say the same of names, and whose chains of named newtypes end in the same types, in however many steps.
use Rattle.std.specs.Prelude.{ℕ, ◌+◌, ◌≡◌, Bool, true, false, List, set, ltb}
use Rattle.std.proofs.Math.Option.{Option, some, none}
use Rattle.rules.specs.Record.{Rec}
use Rattle.rules.specs.Context.{ValidationContext, Declared, behind, chain_end, never_ends}
use Rattle.rules.specs.Refusals.{max_records}
use Rattle.names.specs.View.{targets_from}

module _ {N P : Type 0} where
  -- the sub of what a name is declared as
  abbrev pub sub_of : Option (Declared N P) → Option ℕ
  sub_of none = none
  sub_of (some d) = some d.sub

  -- a chain goes on from the type
  abbrev pub leads_on : ValidationContext N P → Rec N P → Bool
  leads_on ctx r = elim (behind ctx r) [ none ↦ false | some t ↦ true ]

  pub record SameEnds (ctx ctx' : ValidationContext N P) : Type 0 where
    pub declared : (n : N) → sub_of (ctx.decl_map n) ≡ sub_of (ctx'.decl_map n)
    pub leads : (r : Rec N P) → leads_on ctx r ≡ leads_on ctx' r
    pub ends : (r : Rec N P) → chain_end ctx ctx.declarations r ≡ chain_end ctx' ctx'.declarations r
    pub imported_names : ctx.imported_names ≡ ctx'.imported_names
    pub has_wildcard_import : ctx.has_wildcard_import ≡ ctx'.has_wildcard_import
    pub declarations : ctx.declarations ≡ ctx'.declarations
    pub same : ctx.same ≡ ctx'.same
    pub word : ctx.word ≡ ctx'.word
    pub blank : ctx.blank ≡ ctx'.blank
    pub is_valid_field_name : ctx.is_valid_field_name ≡ ctx'.is_valid_field_name

  -- a chain that has not ended after as many steps as there are declarations goes on after any number of steps
  abbrev pub Lasting : ValidationContext N P → Type 0
  Lasting ctx = (r : Rec N P) → never_ends ctx r ≡ true → (n : ℕ) → leads_on ctx (chain_end ctx n r) ≡ true

-- the table with that place as the target of record i
unfoldable pub with_target : List ℕ → ℕ → ℕ → List ℕ
with_target table i place = elim (ltb i max_records) [ true ↦ set table (targets_from + i) place | false ↦ table ]

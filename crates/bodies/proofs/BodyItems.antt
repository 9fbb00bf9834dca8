-- The items of an enum, flags or union body: of the records, the variants are those whose ordinals are in use.
use mathlib.Core.Path.{◌≡◌, refl}
use mathlib.Core.Bool.{true, false}
use native.Mathlib.Omega.{arith}
use borrow.Author.Tests.{ne_eqb}
use Rattle.rules.specs.Kind
use Rattle.rules.specs.Record.{Rec, is}
use Rattle.rules.specs.Grammar.{starts_item}
use Rattle.rules.specs.Bodies.{is_member}
use Rattle.rules.proofs.Taken.{within-true, outside-is}

module _ {N P : Type 0} (r : Rec N P) where
  pub item-member : starts_item r ≡ true → is_member r ≡ is Kind.Variant r
  item-member h =
      let k = within-true Kind.Variant Kind.Tombstone r.kind h in
      rw (ne_eqb r.kind Kind.Field (λ q. omega arith))

  pub no_item : starts_item r ≡ false → is Kind.Variant r ≡ false
  no_item h = outside-is Kind.Variant Kind.Tombstone Kind.Variant r.kind refl h

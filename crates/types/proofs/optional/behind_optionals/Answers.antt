-- `find` gives the first record that is no optional.
use Rattle.std.proofs.Common.{rules}
use Rattle.std.proofs.lemmas.Iterator.{first_from_Range}
use Rattle.types.proofs.Optionals.{IsOptional, behind-found}
use Rattle.types.proofs.optional.behind_optionals.Goals as goal

pub returns : goal.returns
returns c =
    let sheet = c.args.sheet.now in
    rw (c.starting_at.ensures, c.unwrap_or-start.ensures)
    (behind-found sheet c.args.ty.end c.args.ty.start c.find.result
    (first_from_Range _ _ _ _ (λ k. IsOptional sheet k → ⊥) (IsOptional sheet) c.find.ensures.ran (λ k q h. search rules) (λ k q h. search rules)))

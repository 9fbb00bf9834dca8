-- The type at hand leads to the end, and so does the one behind it.
use Rattle.std.proofs.Common.{refl, ap, ◌∙◌}
use Rattle.names.specs.Ends.{beside_targets}
use Rattle.names.proofs.ChainEnds.{kept_itself, shortened, shortened_again}
use Rattle.names.proofs.ShortTables.{beside_stored}
use Rattle.names.proofs.ends.shorten.Goals as goal

pub loop-init : goal.loop-init
loop-init c = (λ lasts ends. (kept_itself _ _ lasts, ends), refl)

pub loop-preserved : goal.loop-preserved
loop-preserved c =
    let inv = c.loop.invariant in (
      λ lasts ends.
          let so = inv.0 lasts ends in (
            shortened _ _ _ _ _ _ so.0 so.1 _ c.behind.ensures.record c.in-Some.is _ c.set_target.ensures,
            shortened_again _ _ _ _ _ _ so.0 so.1 _ c.behind.ensures.record c.in-Some.is _ c.set_target.ensures,
          ),
      ap beside_targets c.set_target.ensures ∙ beside_stored _ _ _ ∙ inv.1,
    )

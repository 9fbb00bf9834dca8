-- A block that is good, or a piece that goes on, leaves what is behind to decide.
use Rattle.std.proofs.Common.{arith, refl, sym, ◌∙◌}
use Rattle.names.proofs.Blocks.{walk_on, walk_on_block}
use Rattle.names.proofs.codes.Spelling.part_continues.Goals as goal

pub loop-k-preserved-then-is_good : goal.loop-k-preserved-then-is_good
loop-k-preserved-then-is_good c =
    let inv = c.loop-k.invariant in (
      c.is_good.ensures.same ∙ inv.0,
      walk_on_block _ _ _ _ _ c.loop-k.auto.k (omega arith) c.requires.0 inv.1 (rw inv.0 at (c.is_good.ensures.told c.if-is_good.true)),
    )

pub loop-k-preserved : goal.loop-k-preserved
loop-k-preserved c =
    let inv = c.loop-k.invariant in (
      c.is_good.ensures.same ∙ inv.0,
      walk_on _ _ _ _ _ _ _ c.loop-k.auto.k (omega arith) c.requires.0 refl refl inv.1
          (rw (c.is_good.ensures.same, inv.0) at (sym c.if-not-piece_continues.false ∙ c.piece_continues.ensures)),
    )

-- What is read at the id is stored at the record's own index.
use Rattle.std.proofs.Common.{refl, sym, ◌∙◌}
use Rattle.names.proofs.Spreading.{spread-undeclared, spread-declared}
use Rattle.names.proofs.notes.spread.Goals as goal

pub returns-then-place-eq0 : goal.returns-then-place-eq0
returns-then-place-eq0 c =
    let noted = c.copy_notes-place.ensures in
    rw noted.stored (spread-undeclared _ _ _ _ c.requires.0 c.requires.1 _ c.stored_id-id.ensures _ refl _ refl (sym noted.place ∙ c.if-place-eq0.true))

pub returns : goal.returns
returns c =
    let noted = c.copy_notes-place.ensures in
    rw (c.set_target.ensures, noted.stored)
    (spread-declared _ _ _ _ c.requires.0 c.requires.1 _ c.stored_id-id.ensures _ refl _ refl _ _ noted.place c.target.ensures)

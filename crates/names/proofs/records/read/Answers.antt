-- A record without a name adds its own index, another its id, its code and what it says.
use Rattle.std.proofs.Common.{arith, refl}
use Rattle.names.specs.Parts.{record_of}
use Rattle.names.proofs.Known.{known_bounds}
use Rattle.names.proofs.Leads.{added-unnamed}
use Rattle.names.proofs.Numbers.{unnamed-keyed}
use Rattle.names.proofs.Reading.{read-unnamed, read_named}
use Rattle.names.proofs.records.read.Goals as goal

pub returns-in_default : goal.returns-in_default
returns-in_default c =
    let unnamed = c.in_default.ensures in
    let r = record_of c.args.sheet.now c.args.names.now c.args.i in (
      refl,
      added-unnamed _ _ _ _ _ c.requires.0 c.requires.2 (unnamed-keyed r unnamed),
      rw c.set_id.ensures (read-unnamed _ _ _ c.requires.0 _ c.requires.3 unnamed _ refl),
    )

pub note-requires : goal.note-requires
note-requires c =
    let own = c.in-Some.named in
    let e = c.in-Some.ensures in
    let id = rw (e.0, e.1, e.2) at c.next_id-id.ensures in
    let named = rw (e.0, e.1, e.2) at own.is_named in
    let kind = rw (e.0, e.2) at own.kind_is in
    let name = rw (e.0, e.1, e.2) at own.name_is in
    rw (c.set_code.ensures, c.set_id-2.ensures, e.0, e.1, e.2) (
      omega (arith, id.1, c.requires.0, known_bounds c.args.sheet.now),
      id.0,
      read_named _ _ _ c.requires.0 _ c.requires.3 named _ _ _ refl id.0 _ kind _ name c.next_code.ensures.0,
    )

-- A declaration and an import are noted at the id, as the record's kind says.
use Rattle.names.proofs.Noting.{says_declaration, says_import}
use Rattle.names.proofs.notes.note.Goals as goal

pub returns-in-1 : goal.returns-in-1
returns-in-1 c =
    let own = c.args.named.now in
    let kind = own.kind_is in
    says_declaration _ _ _ own.known_record own.is_named _ c.requires.2 _ c.requires.0 c.requires.1 (cc) _ c.note_declaration.ensures

pub returns-in-2 : goal.returns-in-2
returns-in-2 c =
    let own = c.args.named.now in
    let kind = own.kind_is in
    rw c.note_import.ensures (says_import _ _ _ own.known_record own.is_named _ c.requires.2 _ c.requires.0 c.requires.1 (cc))

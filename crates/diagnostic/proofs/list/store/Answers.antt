-- Its test is the definition's, and with room for the record the twelve bytes stand at its place.
use Rattle.std.proofs.Common.{arith, ◌+◌, ◌-◌, ◌*◌, ◌≡◌, append_assoc, drop-drop}
use Rattle.diagnostic.proofs.Stores.{stored-kept, stored-room}
use Rattle.diagnostic.proofs.list.store.Goals as goal

pub returns-then-list-at : goal.returns-then-list-at
returns-then-list-at c = stored-kept _ _ _ (omega arith)

pub returns : goal.returns
returns c =
    let n : 12 * c.args.index + 12 - 12 * c.args.index ≡ 12 = omega arith in
    rw (n, c.copy_from_slice.ensures.after, c.encode.ensures, stored-room c.args.violation c.args.index c.args.list.now (omega arith), append_assoc, drop-drop)

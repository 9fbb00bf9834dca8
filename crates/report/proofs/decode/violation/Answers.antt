-- `report::decode::violation` meets its contract: each number is read at its place in the twelve bytes.
use Rattle.rules.specs.Buffer.{decode_violation}
use Rattle.report.proofs.Decoded.{half, word}
use Rattle.report.proofs.decode.violation.Goals as goal

pub returns : goal.returns
unfolding decode_violation
returns c =
    let bytes = c.args.bytes.now in
    cc (half 0 bytes, word 4 bytes, word 8 bytes)

-- What is left to tell are the bit names from `bit` on.
use Rattle.rules.specs.Words.{front}
use Rattle.rules.specs.Kind
use Rattle.rules.specs.Record.{is}
use Rattle.rules.specs.Types.{bit_name_violations}
use Rattle.names.specs.View.{view_at}
use Rattle.names.specs.Known.{context_in, records_in}
use Rattle.types.proofs.Left.{Leaves}
use Rattle.types.proofs.BitNames.{bits_from}
use Rattle.types.proofs.bits.check_bits.Given as goal

abbrev pub invariant-loop-bit : goal.invariant-loop-bit
invariant-loop-bit l =
    let ctx = context_in l.fn.context in
    let place = (view_at l.fn.context.sheet.now l.fn.i).place in
    Leaves l.fn.violations l.violations (bit_name_violations ctx place (front (is Kind.BitName) (records_in l.fn.context l.fn.rest)))
    (bits_from ctx place l.fn.context.sheet.now l.bit l.fn.rest.end)

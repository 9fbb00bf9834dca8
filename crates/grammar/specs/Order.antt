-- Row 6, as the code answers it.
use Rattle.std.specs.Prelude.{Bool, true, false, Result, Ok, Err}
use Rattle.rules.specs.declared.answer.Refusal.{Refusal}
use Rattle.rules.specs.declared.answer.Refusal.TheVariants.{OutOfOrder}

-- a record that may stand where it does, or that is out of order
abbrev pub in_order : Bool → Result (Unit {0}) Refusal
in_order true = Ok tt
in_order false = Err OutOfOrder

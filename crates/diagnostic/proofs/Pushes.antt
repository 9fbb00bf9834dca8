-- Pushes compose: a list is pushed one violation after another.
use Rattle.std.proofs.Common.{◌≡◌, List, [], ◌∷◌, ◌++◌, refl}
use Rattle.rules.specs.declared.violation.Violation.{Violation}
use Rattle.diagnostic.specs.Push.{State, push_one, push_all}

-- what two lists in a row add is what the second adds after the first
pub push-append : (xs ys : List Violation) (s : State) → push_all (xs ++ ys) s ≡ push_all ys (push_all xs s)
unfolding push_all
push-append [] ys s = refl
push-append (x ∷ xs) ys s = push-append xs ys (push_one x s)

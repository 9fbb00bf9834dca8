-- What the rules found is added part by part, since violations are added one after another.
use Rattle.std.proofs.Common.{◌≡◌, List, [], ◌∷◌, ◌++◌, map, refl, ap, ◌∙◌}
use Rattle.rules.specs.declared.span.Span.{Span}
use Rattle.rules.specs.Rule.{Found, violation}
use Rattle.diagnostic.specs.Push.{State, push_all, push_found}
use Rattle.diagnostic.proofs.Pushes.{push-append}

map-append : {A B : Type 0} (f : A → B) (xs ys : List A) → map f (xs ++ ys) ≡ map f xs ++ map f ys
map-append f [] ys = refl
map-append f (x ∷ xs) ys = ap (λ zs. f x ∷ zs) (map-append f xs ys)

pub found-append : (xs ys : List (Found Span)) (s : State) → push_found (xs ++ ys) s ≡ push_found ys (push_found xs s)
unfolding push_found
found-append xs ys s = ap (λ vs. push_all vs s) (map-append violation xs ys) ∙ push-append (map violation xs) (map violation ys) s

pub found_none : (s : State) → push_found [] s ≡ s
unfolding push_found push_all
found_none s = refl

-- two parts, one after the other
pub found-then : (xs ys : List (Found Span)) (s t u : State) → t ≡ push_found xs s → u ≡ push_found ys t → u ≡ push_found (xs ++ ys) s
found-then xs ys s t u e f = rw (found-append, ← e) f

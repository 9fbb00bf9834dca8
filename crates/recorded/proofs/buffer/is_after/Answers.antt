-- `recorded::buffer::is_after` meets its contract: `all` compares the bytes at each index.
use Rattle.std.proofs.Common.{◌∙◌, refl, arith, rules, length, get_or, nat_eq}
use Rattle.std.proofs.lemmas.Iterator.{YieldsList-from_range}
use Rattle.std.proofs.lemmas.Iterator.Search.{all_from_yields_List}
use Rattle.recorded.specs.Buffer.{marks, recorded_after}
use Rattle.recorded.proofs.Buffers.{length-after}
use Rattle.recorded.proofs.Replayed.{same_all}
use Rattle.recorded.proofs.buffer.is_after.Goals as goal

pub returns : goal.returns
returns c =
    let list = c.args.list.now in
    let after = recorded_after c.args.violations.now (marks (length list)) in
    all_from_yields_List (λ i. nat_eq (get_or after i 0) (get_or list i 0)) _ _ _ c.all.ensures.ran
    (YieldsList-from_range 0 (length list) (length list) refl (omega arith)) (λ x b q k. search rules)
    ∙ same_all after list (length-after c.args.violations.now (length list))

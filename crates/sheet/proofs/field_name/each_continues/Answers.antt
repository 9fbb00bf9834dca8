-- `sheet::field_name::each_continues` meets its contract: `all` asks each byte.
use Rattle.std.proofs.Common.{◌∙◌, rules}
use Rattle.std.proofs.lemmas.Iterator.{YieldsList-from_slice}
use Rattle.std.proofs.lemmas.Iterator.Search.{all_from_yields_List}
use Rattle.sheet.specs.Mark.{continues_by}
use Rattle.sheet.proofs.Marks.{all_continue}
use Rattle.sheet.proofs.field_name.each_continues.Goals as goal

pub returns : goal.returns
returns c =
    let marks = c.args.marks.now in
    let text = c.args.text.now in
    all_from_yields_List (continues_by marks) _ _ _ c.all.ensures.ran (YieldsList-from_slice text c.iter.ensures.rest) (λ x b q k. search rules)
    ∙ all_continue marks text

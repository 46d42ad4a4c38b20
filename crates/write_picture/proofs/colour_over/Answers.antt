-- Some number of the frame is too high.
use Rattle.std.proofs.Common.{◌∙◌, leb, rules, tests}
use Rattle.std.proofs.lemmas.Iterator.{YieldsList-from_slice}
use Rattle.std.proofs.lemmas.Iterator.Search.{any_from_yields_List}
use Rattle.write_picture.proofs.Refusals.{over_any}
use Rattle.write_picture.proofs.colour_over.Goals as goal

pub returns : goal.returns
returns c =
    let most = c.args.most in
    let frame = c.args.frame.now in
    any_from_yields_List (leb most) _ _ _ c.any.ensures.ran (YieldsList-from_slice frame cc) (λ x b q k. search (rules, tests))
    ∙ over_any most frame

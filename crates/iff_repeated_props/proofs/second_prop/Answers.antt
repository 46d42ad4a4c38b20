-- Of a PROP before `fresh` it is false, and of a later one it is what the search back finds; of any other kind it is false.
use borrow.Author.Rules.{rules}
use Rattle.iff_repeated_props.proofs.RepeatLaws.{second_first}
use Rattle.iff_repeated_props.proofs.second_prop.Goals as goal

pub returns-then-p-fresh : goal.returns-then-p-fresh
returns-then-p-fresh c = search (second_first, rules)

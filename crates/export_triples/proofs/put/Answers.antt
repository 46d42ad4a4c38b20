-- `put` meets its contract: 64 triples are 192 bytes.
use Prim.Native.Nat.{◌*◌}
use mathlib.Core.Path.{◌≡◌}
use lib.ListN.{length, length-take}
use native.Mathlib.Omega.{arith}
use borrow.Author.Rules.{rules}
use Rattle.export_triples.proofs.put.Goals as goal

pub copy_from_slice-requires : goal.copy_from_slice-requires
copy_from_slice-requires c =
    let all : length c.args.all ≡ 64 = search rules in
    let flat : length c.as_flattened.result.now ≡ length c.args.all * 3 = c.as_flattened.ensures.len in
    omega (arith, length-take 192 c.args.lent.now)

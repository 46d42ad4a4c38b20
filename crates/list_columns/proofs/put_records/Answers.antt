-- `put_records` meets its contract: a turn puts the next record's fields at its place.
use Rattle.std.proofs.Common.{ap, ◌∙◌, arith}
use Rattle.list_spec.specs.Records.{record_of}
use Rattle.list_columns.specs.Columns.{record_number, level_of, kind_number_of, name_of, record_place, size_of}
use Rattle.list_columns.proofs.ColumnLaws.{starts, goes_on}
use Rattle.list_columns.proofs.put_records.Goals as goal

pub loop-i-init : goal.loop-i-init
loop-i-init c = grind (arith, starts)

pub loop-i-preserved : goal.loop-i-preserved
loop-i-preserved c =
    let s = c.args.s.now in
    let next = c.record_at-r.ensures ∙ ap (record_of s) c.loop-i.invariant.numbered in
    record {
      at = λ _. c.advance-cur.ensures.0;
      numbered = omega arith;
      put = record {
        numbers_filled = cc (goes_on record_number s _ _ c.args.numbers.now next);
        levels_filled = cc (goes_on level_of s _ _ c.args.levels.now next);
        kinds_filled = cc (goes_on kind_number_of s _ _ c.args.kinds.now next);
        names_filled = cc (goes_on name_of s _ _ c.args.names.now next);
        places_filled = cc (goes_on record_place s _ _ c.args.places.now next);
        sizes_filled = cc (goes_on size_of s _ _ c.args.sizes.now next);
      };
    }

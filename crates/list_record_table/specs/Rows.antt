-- 01 "Listing": "a lent table of records, one per chunk, is filled in order, places beyond left as found", as a list of records.
use Rattle.std.specs.Prelude.{List, [], ◌∷◌}
use Rattle.list_spec.specs.declared.Record.{Record}

-- A table after records are put into it in order, and what was there behind them.
unfoldable pub placed : List Record → List Record → List Record
placed [] old = old
placed (r ∷ rs) [] = []
placed (r ∷ rs) (x ∷ old) = r ∷ placed rs old

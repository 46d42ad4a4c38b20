-- `ilbm_palette_triples` meets its contract: what is put are triples of a palette.
use Rattle.export_triples.proofs.Joined.{three_of_palette}
use Rattle.export_triples.proofs.ilbm_palette_triples.Goals as goal

pub put-requires : goal.put-requires
put-requires c = record { three_each = three_of_palette _ _ _ _ c.palette_triples-all.ensures }

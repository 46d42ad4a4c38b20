-- `ilbm_triples` meets its contract: what is put are triples of a picture.
use Rattle.export_triples.proofs.Joined.{three_of_picture}
use Rattle.export_triples.proofs.ilbm_triples.Goals as goal

pub put-requires : goal.put-requires
put-requires c = record { three_each = three_of_picture _ _ _ _ c.triples-all.ensures }

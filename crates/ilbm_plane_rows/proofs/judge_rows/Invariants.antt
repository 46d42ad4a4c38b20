-- `judge_rows` meets its contract. The loop's invariant: the rows after the first so many are told of as all the rows are.
use Rattle.ilbm_plane_rows.proofs.Judging.{Judged}
use Rattle.ilbm_plane_rows.proofs.judge_rows.Given as goal

abbrev pub invariant-loop : goal.invariant-loop
invariant-loop l = Judged l.compression l.body l.n l.rows l.at l.counter l.q

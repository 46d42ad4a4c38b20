-- A group is entered behind its type, and any other chunk is passed with its pad: the size made even is the size and its pad.
use borrow.Author.Rules.{rules}
use Rattle.ilbm_count.proofs.Laws.{header_room, size_room}
use Rattle.ilbm_count.proofs.next_chunk.Goals as goal

pub name_at-requires : goal.name_at-requires
name_at-requires c = search (header_room, rules)

pub size_at-z-requires : goal.size_at-z-requires
size_at-z-requires c = search (size_room, rules)

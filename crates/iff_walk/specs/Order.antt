-- The chunks of a file in file order: after a group's header come its members, and then what follows the group.
use Rattle.std.specs.Prelude.{ℕ, ◌+◌, List}
use Rattle.iff_name.specs.Name.{pick, kind_of}
use Rattle.iff_chunk.specs.Chunks.{Chunks, none, leaf, group, word, next_at}
use Rattle.iff_rules.specs.Rules.{is_group}

-- chunks in a row, and then others
unfoldable pub join : Chunks → Chunks → Chunks
join none K = K
join (leaf n d p F) K = leaf n d p (join F K)
join (group n t G F) K = group n t G (join F K)

-- the chunks in file order after the first of a row
unfoldable pub later : Chunks → Chunks
later none = none
later (leaf n d p F) = F
later (group n t G F) = join G F

-- where the chunk stands that in file order comes after the one at p: behind a group's type, or behind a leaf
abbrev pub following : List ℕ → ℕ → ℕ
following s p = pick (is_group (kind_of (word s p))) (p + 12) (next_at s p)

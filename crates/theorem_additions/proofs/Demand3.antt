-- Demand 3: the theorem.
use Rattle.std.specs.Prelude.{ℕ, ◌+◌, ◌≡◌, true, List, ◌∷◌, length}
use Rattle.std.proofs.Common.{ap, ◌∙◌, arith, length-append}
use Rattle.iff_chunk.specs.Chunks.{none, group, Chunk, a_leaf, a_group, bytes}
use Rattle.iff_grammar.specs.Grammar.{member, ChunkFile}
use Rattle.iff_grammar.proofs.laws.Read.{length_group}
use Rattle.iff_grammar.proofs.Accept.{complete, sound}
use Rattle.theorem_additions.specs.Additions.{tree_after, file_after, moved_by, added_headers, Renaming, renamed, lowest}
use Rattle.theorem_additions.specs.Statement.{AllRefused, OverAdded, Demand3}
use Rattle.theorem_additions.proofs.laws.Files.{outermost_group}
use Rattle.theorem_additions.proofs.laws.Calls.{same_answers}
use Rattle.theorem_additions.proofs.laws.After.{file_after_lem, contents_after}
use Rattle.theorem_additions.proofs.laws.Places.{InnerAt, header_high, added_inner}
use Rattle.theorem_additions.proofs.laws.Renamed.{mark_all}
use Rattle.theorem_additions.proofs.laws.Refused.{file_refused, all_refused}

-- version names over headers inside the outermost chunk of a file of the grammar
refused_at : (s : List ℕ) (c : Chunk) (R hs : List ℕ) → ChunkFile s c R → ((m : ℕ) → member m hs ≡ true → InnerAt m c)
    → (r : Renaming) (rs : List Renaming) → OverAdded (r ∷ rs) hs → AllRefused (renamed (r ∷ rs) s) (lowest r.place rs)
refused_at s (a_leaf n d p) R hs f inner r rs o = outermost_group s n d p R f
refused_at s (a_group n t G) R hs f inner r rs o =
    let g : List ℕ = renamed (r ∷ rs) s in
    let m : ℕ = lowest r.place rs in
    let len = length_group n t G none in
    let whole : length s ≡ length (bytes (group n t G none)) + length R = ap length f.whole ∙
    length-append (bytes (group n t G none)) R in
    let k = mark_all G s (λ q h. omega (arith, header_high G q 12 h)) hs inner r rs o in
    let short = f.short in
    all_refused g m (file_refused s g m k.front k.version short (omega (arith, k.long)) n t G R f k.header k.long)

pub demand3 : Demand3
demand3 f b c e adds may =
    let was = sound f b c e in
    let now = file_after_lem adds c f was.0 was.1 may in
    let s : List ℕ = file_after adds c f in
    let accepted = complete s (tree_after adds c) now.0 now.1 in
    record {
      accepted = accepted;
      answers = same_answers (moved_by adds c) f s c (tree_after adds c) e accepted (contents_after adds c f was.0 was.1 may);
      renaming = refused_at s (tree_after adds c) now.0 (added_headers adds c) now.1 (λ m h. added_inner adds c f was.0 m was.1 may h);
    }

-- What the check accepts is the chunk tree of EA IFF 85.
use Rattle.std.specs.Prelude.{ℕ, ◌≡◌, List, ◌↔◌, length}
use Rattle.iff_chunk.specs.Chunks.{none, Chunk, before, bytes, count, next_at}
use Rattle.iff_tree.specs.Judge.{found, read_file, check_of}
use Rattle.iff_grammar.specs.Grammar.{ChunkFile}
use Rattle.iff_grammar.specs.Words.{Bytes}
use Rattle.iff_grammar.proofs.laws.Files.{file_complete, found_file, file_unique, file_next, file_verdict, verdict_file, file_answered}
use Rattle.iff_tree.specs.Judge.{accepting}

-- Every file of the grammar is accepted, and reading finds its tree.
pub complete : (s : List ℕ) (c : Chunk) (R : List ℕ) → ChunkFile s c R → read_file s ≡ found c
complete s c R f = file_complete s c R f

-- What reading finds in a file is a tree of the grammar, whose bytes the file begins with.
pub sound : (s : List ℕ) → Bytes s → (c : Chunk) → read_file s ≡ found c → (R : List ℕ) × ChunkFile s c R
sound s b c e = found_file s b c e

-- One file has one tree, and one row of trailing bytes.
pub unique : (s : List ℕ) (c c' : Chunk) (R R' : List ℕ) → ChunkFile s c R → ChunkFile s c' R' → (c ≡ c') × (R ≡ R')
unique s c c' R R' f g = file_unique s c c' R R' f g

-- The outermost chunk ends where the bytes of the tree do; so the verdict tells how many chunks the tree has, how many bytes, and
-- how many are trailing.
pub ends : (s : List ℕ) (c : Chunk) (R : List ℕ) → ChunkFile s c R
    → (next_at s 0 ≡ length (bytes (before c none))) × (check_of s ≡ accepting (count (before c none)) (length (bytes (before c none))) (length R))
ends s c R f = (file_next s c R f, file_verdict s c R f)

-- The check accepts a file with these three numbers exactly if the file has a tree of which they are true.
pub accepted_iff : (s : List ℕ) → Bytes s → (n e t : ℕ)
    → (check_of s ≡ accepting n e t)
    ↔ ((c : Chunk) × (R : List ℕ) × ChunkFile s c R × (n ≡ count (before c none)) × (e ≡ length (bytes (before c none))) × (t ≡ length R))
accepted_iff s b n e t = (verdict_file s b n e t, file_answered s n e t)
